mod KnownLaws
mod ProgressLaws

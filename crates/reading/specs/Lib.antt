pub mod Head
pub mod Meaning
pub mod Reading
pub mod Step
pub mod Tables

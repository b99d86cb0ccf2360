pub mod StepLaws
pub mod TableLaws

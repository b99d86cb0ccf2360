pub mod Examples
pub mod FormLaws
pub mod NumberLaws
pub mod OutputExamples
pub mod OutputLaws
pub mod PutLaws
pub mod WalkLaws

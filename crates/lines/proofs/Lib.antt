pub mod ByteLaws
pub mod CaseLaws
pub mod ColumnLaws
pub mod Examples
pub mod OrderLaws
pub mod SaidLaws
pub mod StageLaws
pub mod TraceLaws

pub mod ByteOutcomes
pub mod CallOutcomes
pub mod Claims

pub mod Calls
pub mod Feeding
pub mod Lines
pub mod Machine
pub mod Parts

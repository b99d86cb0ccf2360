pub mod Opening
pub mod Parts
pub mod Places
pub mod Plain
pub mod Questions
pub mod Ratios
pub mod Taking
pub mod World

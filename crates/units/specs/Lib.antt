pub mod Exponents
pub mod Refusals

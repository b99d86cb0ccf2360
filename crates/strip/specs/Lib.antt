pub mod Filter
pub mod Joined
pub mod Strip

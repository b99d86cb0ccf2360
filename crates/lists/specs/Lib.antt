pub mod Every
pub mod Members
pub mod Runs
pub mod Sums
pub mod Tables
pub mod Tests

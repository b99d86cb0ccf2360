pub mod Cache
pub mod Stack

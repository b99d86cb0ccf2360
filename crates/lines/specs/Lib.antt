pub mod Bytes
pub mod Column
pub mod OrderLine
pub mod Parts
pub mod Results
pub mod Said
pub mod TraceLine

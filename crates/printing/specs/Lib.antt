pub mod Forms
pub mod Grid
pub mod Output
pub mod Printed

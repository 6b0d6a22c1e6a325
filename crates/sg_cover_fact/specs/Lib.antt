pub mod TableRows
pub mod LineSums
pub mod Holding

pub mod Days
pub mod Rows
pub mod Writing

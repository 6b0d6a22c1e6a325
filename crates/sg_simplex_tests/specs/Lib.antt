pub mod Tables
pub mod Tested

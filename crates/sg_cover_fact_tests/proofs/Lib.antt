pub mod Smalls
pub mod Known

pub mod Rowed
pub mod Putting

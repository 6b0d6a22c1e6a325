pub mod Parts
pub mod Duality

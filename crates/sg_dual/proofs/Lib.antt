pub mod Duality
pub mod Shared

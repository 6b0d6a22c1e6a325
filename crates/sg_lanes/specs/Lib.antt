pub mod Machines
pub mod Bounds
pub mod Frontiers
pub mod Choices
pub mod Rises
pub mod Ripenings
pub mod ProvedCaps
pub mod Ends

pub mod Runs
pub mod Desks
pub mod Bounding
pub mod Ending

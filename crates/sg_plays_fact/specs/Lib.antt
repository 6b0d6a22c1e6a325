pub mod Bounding
pub mod Measuring
pub mod Searching
pub mod Sizing
pub mod Testing
pub mod Weighing

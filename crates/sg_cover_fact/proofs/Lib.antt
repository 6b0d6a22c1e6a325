pub mod Acts
pub mod TableNumbers
pub mod Rest
pub mod Rooms
pub mod Costs
pub mod Choices
pub mod Columns
pub mod Testable

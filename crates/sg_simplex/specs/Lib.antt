pub mod Nodes
pub mod Turns
pub mod Choices
pub mod Trying
pub mod Least
pub mod Laws

pub mod Exact
pub mod Operations
pub mod Multiples

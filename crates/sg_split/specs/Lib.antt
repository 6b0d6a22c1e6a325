pub mod ByTarget
pub mod Laying
pub mod Laws
pub mod Lines
pub mod Matched
pub mod Wraps

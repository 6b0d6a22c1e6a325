pub mod Sums
pub mod Tables
pub mod Matchings
pub mod Decompositions
pub mod Mirrors
pub mod Laws
pub mod Padding

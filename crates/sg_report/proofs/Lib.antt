pub mod Lines
pub mod Fitting
pub mod Tabled
pub mod Facts

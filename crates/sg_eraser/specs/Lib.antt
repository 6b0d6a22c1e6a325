pub mod TableValues
pub mod Nonzero
pub mod Covers
pub mod Amounts

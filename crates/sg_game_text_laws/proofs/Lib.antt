pub mod Values
pub mod Lines
pub mod Filled
pub mod GameLines
pub mod Keys
pub mod Whole

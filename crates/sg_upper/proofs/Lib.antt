pub mod Greatests
pub mod Quotients
pub mod Totals
pub mod Walked
pub mod Worked

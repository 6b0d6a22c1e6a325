pub mod Laws
pub mod Solutions
pub mod Sums
pub mod Unique
pub mod Searching
pub mod Answers
pub mod UnderWay
pub mod Ending

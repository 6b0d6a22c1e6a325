pub mod Ends
pub mod GapLaws
pub mod EnoughLaws
pub mod Examples

pub mod Measured
pub mod Formed
pub mod Marked
pub mod Opened
pub mod Answered
pub mod Roomy
pub mod Laned
pub mod Stepped

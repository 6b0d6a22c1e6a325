pub mod Answering
pub mod Parts
pub mod Placing
pub mod SmallHeights
pub mod Valuing
pub mod Verdicts
pub mod Watering

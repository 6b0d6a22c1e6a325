pub mod Examples
pub mod Rests
pub mod Tops
pub mod TreeSteps

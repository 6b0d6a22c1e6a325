pub mod Draws
pub mod Shapes
pub mod Generated
pub mod Making
pub mod GeneratedLaws

pub mod Expansion
pub mod ExpansionLaws

pub mod Heights
pub mod Fillings
pub mod Rates

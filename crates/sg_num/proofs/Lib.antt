pub mod Divisors
pub mod Firsts
pub mod Laws
pub mod Ring
pub mod Signs
pub mod Steps

pub mod Covering
pub mod Paying
pub mod Tables
pub mod Tests
pub mod Listings

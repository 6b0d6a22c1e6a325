pub mod Tables
pub mod Documents
pub mod Orders
pub mod Acceptance
pub mod Keys
pub mod WorkedDocuments

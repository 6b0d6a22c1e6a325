pub mod Stops
pub mod Faults
pub mod LineTests
pub mod WorkedLines
pub mod PartFaults

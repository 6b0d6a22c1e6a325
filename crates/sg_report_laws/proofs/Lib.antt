pub mod Rows
pub mod Nodes
pub mod Stops
pub mod LineFaults
pub mod Cuts
pub mod Steady
pub mod Readers
pub mod Faults
pub mod LineOrder
mod LineExamples
mod RowLines
mod CapRows
mod PartFaults

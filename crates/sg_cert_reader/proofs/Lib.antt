mod FieldSteps
mod Lining
mod NumberLists
mod Repeats
mod CapLists
mod Heads
mod NodeSteps
mod Fractions

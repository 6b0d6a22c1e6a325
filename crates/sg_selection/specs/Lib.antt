pub mod Selections
pub mod SelectedRuns
pub mod Handing
pub mod Readiness
pub mod Ranking
pub mod SelectionLaws

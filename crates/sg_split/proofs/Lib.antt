mod CutExamples
pub mod Commits
pub mod Counted
pub mod Covered
pub mod CutPlaces
pub mod Ends
pub mod Few
pub mod Firsts
pub mod Kept
pub mod Legal
pub mod Matches
pub mod Mixes
pub mod Moments
pub mod Served
pub mod Shares
pub mod Singles
pub mod TargetRows
pub mod Tickets

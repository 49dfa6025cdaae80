pub mod NoteLists
pub mod KeepLaws
pub mod InHand
pub mod KeepTurns
pub mod NotedHistories
pub mod NotedRuns

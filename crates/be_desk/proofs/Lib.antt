pub mod StretchLemmas
pub mod RuleLemmas
pub mod RenewLemmas
pub mod ShiftLemmas
pub mod ReadyLemmas
pub mod SizeLemmas
pub mod SameLemmas
pub mod OthersLemmas
pub mod MeetLemmas
pub mod AffectedLemmas
pub mod ChangedLemmas
pub mod DeskLemmas
pub mod PairedLemmas
pub mod PlanLemmas
pub mod SpansLemmas
pub mod StandLemmas
mod ShownLemmas
pub mod CarryLemmas
mod LentLemmas
pub mod TakenLemmas

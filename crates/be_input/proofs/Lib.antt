mod PostLemmas
mod VisitLemmas

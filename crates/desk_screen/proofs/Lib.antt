mod ScreenLemmas
mod CarriedLemmas
mod MadeLemmas

pub mod FieldLemmas
pub mod FillingLemmas
pub mod ConditionLemmas
pub mod TurnLemmas

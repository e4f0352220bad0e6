pub mod PickLemmas
pub mod TreeFields
pub mod TreeLabels
pub mod ScopeFields
pub mod SomePattern
pub mod MetConditions
pub mod LinearOf
pub mod PlanLemmas

pub mod ActionLemmas
pub mod Named

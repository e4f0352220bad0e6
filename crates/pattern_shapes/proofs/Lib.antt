pub mod CompareLemmas
pub mod Joined
pub mod Steps
pub mod FormLemmas

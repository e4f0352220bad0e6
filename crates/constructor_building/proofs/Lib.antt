pub mod MadeLemmas
pub mod MetLemmas
pub mod KnownLemmas
pub mod ScopeLemmas
pub mod AddedLemmas
pub mod BuiltLemmas

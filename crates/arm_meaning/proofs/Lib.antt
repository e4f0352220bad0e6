pub mod ApplicationLaws
pub mod NameLemmas
pub mod BindingsLemmas
pub mod PatternLaws
pub mod Soundness
pub mod AllLaws

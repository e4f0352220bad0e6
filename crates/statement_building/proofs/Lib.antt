pub mod ArmLemmas
pub mod StatementLemmas
pub mod MadeLemmas

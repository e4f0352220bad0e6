pub mod TypedLemmas
pub mod NewLemmas
pub mod LocalLemmas
pub mod MemberLemmas
pub mod BodySound
pub mod BodyLeaves

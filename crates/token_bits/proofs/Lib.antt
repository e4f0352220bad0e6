pub mod NumberLemmas
pub mod BitsLemmas
pub mod Sound
pub mod TokensWithin
pub mod TokenFront
pub mod PutLemmas
pub mod OtherFields

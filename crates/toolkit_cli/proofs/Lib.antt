pub mod Addresses
pub mod RangeLemmas
pub mod TextLemmas
pub mod StandsLemmas
pub mod OneListing
pub mod Accepted
pub mod ReplyLaws

pub mod Listing
pub mod Listed
pub mod Places
pub mod Small

pub mod Lists
pub mod TypeLaws
pub mod Added
pub mod Measured
pub mod Growth

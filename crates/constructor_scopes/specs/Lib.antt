pub mod Makings
pub mod Bodies
pub mod Names
pub mod Views

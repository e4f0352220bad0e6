pub mod Constructing
pub mod Sound
pub mod Results
pub mod Conditions
pub mod Unmet
pub mod Read
pub mod Measured
pub mod Draft

pub mod Description
pub mod InstanceRows
pub mod EncodingRows
pub mod EventRows
pub mod VerdictRows
pub mod SolvingRows

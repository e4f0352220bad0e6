pub mod ReadLemmas
pub mod MeasuredLemmas
pub mod UnmetLemmas

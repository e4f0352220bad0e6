pub mod PrefixLemmas
pub mod TextLaws
pub mod WritableLaws
pub mod Worked

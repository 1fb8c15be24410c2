-- Lemmas of this crate.
pub mod KeyLemmas
pub mod KeyTableLemmas
pub mod Lists
pub mod Probes
pub mod TableLemmas

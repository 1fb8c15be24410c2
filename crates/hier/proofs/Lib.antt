-- Lemmas of this crate.
pub mod Above
pub mod Built
pub mod ChainMembers
pub mod Chains
pub mod Descendants
pub mod Finds
pub mod Lists
pub mod Nexts
pub mod Rows
pub mod Walks

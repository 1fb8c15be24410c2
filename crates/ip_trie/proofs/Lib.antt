-- Lemmas of this crate.
pub mod Bits
pub mod Grown
pub mod Joined
pub mod Lists
pub mod Marks
pub mod Nodes
pub mod Pruned
pub mod RowPrefixes
pub mod Scans
pub mod Tells

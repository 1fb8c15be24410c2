-- The definitions that contracts cite.
pub mod Hierarchy
pub mod Kept
pub mod Members
pub mod steps

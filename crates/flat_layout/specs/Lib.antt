-- The definitions that contracts cite.
pub mod Cells
pub mod steps

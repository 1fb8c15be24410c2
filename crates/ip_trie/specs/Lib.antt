-- The definitions that contracts cite.
pub mod FindByAddress
pub mod Cells
pub mod Below
pub mod Kept
pub mod steps

-- The definitions that contracts cite.
pub mod FindByRange
pub mod Halves
pub mod Kept
pub mod Points
pub mod Stretches
pub mod steps

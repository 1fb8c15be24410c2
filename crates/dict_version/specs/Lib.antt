-- The definitions that contracts cite.
pub mod Contents
pub mod Keys
pub mod Kept
pub mod Lookups
pub mod Printed
pub mod Rows

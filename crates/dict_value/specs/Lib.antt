-- The definitions that contracts cite.
pub mod Addresses
pub mod Dates
pub mod Decimals
pub mod Digits
pub mod Escapes
pub mod FindByKey
pub mod Identifiers
pub mod Letters
pub mod Memory
pub mod Numbers
pub mod Split
pub mod Values

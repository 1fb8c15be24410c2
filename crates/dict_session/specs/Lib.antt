-- The definitions that contracts cite.
pub mod Items
pub mod Acts
pub mod Facts
pub mod Asks
pub mod Floors
pub mod Answers
pub mod Serving
pub mod Session
pub mod Found
pub mod Turns

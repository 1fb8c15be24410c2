mod Skipped
mod InQuotes
mod Numerals
mod Found
pub mod Going
pub mod Laws
pub mod Repeats
pub mod Lists
pub mod Once
pub mod Loops
pub mod Verdicts
pub mod Choices

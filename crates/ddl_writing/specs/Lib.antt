pub mod Quoted
pub mod Words
pub mod Canonical

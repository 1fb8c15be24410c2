pub mod Changes
pub mod Over
pub mod Plain
pub mod Readings
pub mod Texts

pub mod CommandWords
pub mod Demos
pub mod Telling
pub mod Serving

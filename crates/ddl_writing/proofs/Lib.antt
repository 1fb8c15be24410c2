pub mod Defaults
mod Listed

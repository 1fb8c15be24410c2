pub mod Callers
pub mod Dictionaries
pub mod DictionarySteps
pub mod FlatTables
pub mod LawLemmas
pub mod Lists
pub mod OneVerdict
pub mod Places
pub mod Rows
pub mod Runs
pub mod Worlds
mod WorldFits

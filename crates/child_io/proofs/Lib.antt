pub mod Feeds
pub mod Hears
pub mod Histories
pub mod OneOutcome
pub mod Paths
pub mod Runs

mod Ahead
mod Wholes
mod Chosen
mod SettingLaws
pub mod ClauseLaws
mod Answers

-- The definitions that contracts cite.
pub mod Settings
pub mod Choices
pub mod Layouts
pub mod SettingLists
pub mod Clauses
pub mod Parts
pub mod Reading
pub mod Grammar

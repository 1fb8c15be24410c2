-- The definitions that contracts cite.
pub mod Asking
pub mod Keys
pub mod Refusals
pub mod Values
pub mod Replies
pub mod Answers
pub mod Sending
pub mod Keyed
pub mod Calls
pub mod steps

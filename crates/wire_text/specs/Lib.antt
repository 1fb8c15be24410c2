pub mod Causes
pub mod Numbers
pub mod Replies
pub mod RequestTexts
pub mod Requests
pub mod steps

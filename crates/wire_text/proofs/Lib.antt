pub mod Answering
pub mod Asking
pub mod BlockLines
pub mod Hearing
pub mod RepliesApart
pub mod RowReadings
mod BlockHeads
pub mod Quits

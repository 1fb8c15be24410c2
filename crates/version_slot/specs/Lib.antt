pub mod Views
pub mod SharedSlots
pub mod Copies

-- The definitions that contracts cite.
pub mod Accepts
pub mod Boards
pub mod Events
pub mod Loaders
pub mod Origins
pub mod Timing
pub mod Worlds
pub mod steps

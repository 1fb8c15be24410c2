-- Lemmas of this crate.
pub mod Both
pub mod Built
pub mod Counting
pub mod Covering
pub mod EndPoints
pub mod Filling
pub mod Halving
pub mod Nths
pub mod Numbering
pub mod Painting
pub mod RankLess
pub mod Rising
pub mod Taken

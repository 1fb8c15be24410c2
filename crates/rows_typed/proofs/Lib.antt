pub mod Blanks
pub mod RowsFit
mod CellsRead

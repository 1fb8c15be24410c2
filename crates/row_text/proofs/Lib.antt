mod CutSteps
mod Readings
mod Decoded
mod Pieces
pub mod Growing
pub mod OneCutting
mod MarkLists
mod Escapes
mod Reached
pub mod OneReading
mod Written
pub mod CsvReads
mod CsvPlain
mod CsvWritten
pub mod Tabled
pub mod OneDecoding
pub mod CutGrowth
pub mod EachText
mod Fitted
mod DirectRows
mod DirectTab
mod DirectCsv

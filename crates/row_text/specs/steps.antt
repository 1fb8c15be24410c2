-- What the steps of private calls find; callers read none of it.
pub mod TabSteps
pub mod CsvSteps
pub mod CutSteps
pub mod DecodeSteps
pub mod DirectSteps

-- What single calls within the machine do: no contract that callers read cites it.
pub mod WorldTurns
pub mod FlatSteps

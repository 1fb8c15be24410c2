-- What single calls within an overlay do: no contract that callers read cites it.
pub mod Standing

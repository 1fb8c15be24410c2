-- What private calls and proofs go by.
pub mod Lexer

-- Laws about planning and writing a proof.
pub mod Descents
pub mod Seeking
pub mod Planning
pub mod Writing
pub mod Spans
pub mod Outcome

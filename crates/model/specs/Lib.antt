-- Document 01 as definitions, in the order of its sections; `Result` and `Rows` come first, `WellFormed` and `Exact` (demand 3) last. Behind them
-- `FormerRows`: what a request took out, kept for a theorem.
pub mod Result
pub mod Rows
pub mod Numbers
pub mod Log
pub mod Graph
pub mod Digest
pub mod Accumulator
pub mod Question
pub mod Trace
pub mod Answer
pub mod LogRows
pub mod CheckRows
pub mod Calls
pub mod Listing
pub mod Recorder
pub mod RecorderMemory
pub mod WellFormed
pub mod Exact
pub mod FormerRows

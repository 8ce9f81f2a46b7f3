-- Laws that the proofs of the functions and other crates cite.
pub mod Strings
mod Descents
mod Walking
mod Spans
mod Naming
pub mod Listing
pub mod Ends

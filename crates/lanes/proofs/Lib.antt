-- Laws that the proofs of the functions and other crates cite.
mod Places
mod Columns
pub mod Messages

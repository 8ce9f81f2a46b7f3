-- Laws of incoming digests, and what the proofs of the functions cite.
mod Strings
pub mod Incoming
mod Groups

-- What the proofs of the functions cite.
pub mod Keys
pub mod Ways
pub mod Directions

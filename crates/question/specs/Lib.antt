-- What the contracts of this crate cite.
pub mod Ways
pub mod Directions

-- What the contracts of this crate cite.
pub mod Leaves
pub mod Kept
pub mod Entities

-- What the contracts of this crate cite.
pub mod Links
pub mod Groups

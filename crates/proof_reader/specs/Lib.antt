-- What the contracts of this crate cite.
pub mod Walks
pub mod Spans

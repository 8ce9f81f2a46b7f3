-- Laws about the leaves of a node table.
pub mod Keeping

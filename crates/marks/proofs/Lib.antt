-- Laws about marks.
pub mod Marking
pub mod Edges

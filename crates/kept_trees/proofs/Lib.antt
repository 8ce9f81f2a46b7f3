-- Laws about kept trees.
pub mod Stretches
pub mod Building
pub mod Ways
pub mod Rows
mod Entities
pub mod Graphs

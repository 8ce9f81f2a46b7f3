-- What the proofs of the functions cite.
mod Marking
mod Edges
mod Searching
mod Positions
mod Records
mod Writing

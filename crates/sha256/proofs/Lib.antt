-- Laws that the proofs of the functions and other crates cite, and the worked examples.
pub mod Size
mod Bits
mod Rotations
mod Sums
mod Schedule
pub mod Messages
pub mod Padding
mod Arrays
mod Examples

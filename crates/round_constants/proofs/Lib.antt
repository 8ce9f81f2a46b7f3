-- Laws that the proofs of the functions cite.
mod Primes
mod Cubes
mod Sieve
mod Filling
pub mod Roots

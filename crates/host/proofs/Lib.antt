-- Laws that the proofs of the functions cite.
mod Calling
mod Tails
mod Responding

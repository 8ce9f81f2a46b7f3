-- What the proofs of the functions cite.
mod Adding
mod Renewing

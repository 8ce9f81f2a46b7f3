-- What the proofs of the functions cite.
mod Letters
mod Passing
mod Slotting
mod Sequence
mod Heading

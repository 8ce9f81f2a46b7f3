-- What the proofs of the functions cite.
mod Referring
mod RowLaws
mod Running
mod Listing
mod Calls

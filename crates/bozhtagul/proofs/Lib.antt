-- Laws that the proofs of the exported calls cite.
mod Plain
mod LogRead
mod CheckedAnswer
mod Anchors
mod Recorders

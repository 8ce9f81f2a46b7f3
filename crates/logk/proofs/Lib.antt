-- Log K's commitment, computed.
pub mod Commitment

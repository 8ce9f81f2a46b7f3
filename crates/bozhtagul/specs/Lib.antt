-- What the contracts of the exported calls cite.
pub mod Results
pub mod Demand3
pub mod Recorders

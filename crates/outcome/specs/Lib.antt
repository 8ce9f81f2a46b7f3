-- What contracts of calls that write cite.
pub mod Outcomes

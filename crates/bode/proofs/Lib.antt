pub mod Crossovers
pub mod Readings
pub mod Laws
pub mod Joins
pub mod Runs
pub mod Plain

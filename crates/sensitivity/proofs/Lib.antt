pub mod Responses
pub mod Laws
pub mod Joins
pub mod Runs
pub mod Plain

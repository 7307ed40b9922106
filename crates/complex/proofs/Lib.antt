pub mod Laws
pub mod Quotients
pub mod Squares

pub mod Complex
pub mod Coefficients

pub mod Squares
pub mod WholeRoot
pub mod Patterns
pub mod Nearest
pub mod Cases
pub mod Monotone
pub mod Neighbours
pub mod Exact

pub mod Loops
pub mod Order
pub mod Choice
pub mod Outcome
pub mod Least
pub mod Tables
pub mod Signs
pub mod Made

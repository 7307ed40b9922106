pub mod Loops
pub mod Choice
pub mod Outcome
pub mod Tables

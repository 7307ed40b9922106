pub mod Ended
pub mod Made
pub mod Tally

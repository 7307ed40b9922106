pub mod Refusal
pub mod Answer
pub mod Plain
pub mod Scan
pub mod Runs
pub mod Ends

pub mod Panel
pub mod Scanning

mod Above
pub mod Sides
pub mod Decoded
pub mod Chunks
pub mod Scanning
pub mod Place
pub mod Replies
pub mod Laws
pub mod Worked

pub mod Requests
pub mod Spellings

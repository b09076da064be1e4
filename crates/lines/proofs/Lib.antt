pub mod Cuts
mod Feeds
pub mod Lanes
pub mod Starts

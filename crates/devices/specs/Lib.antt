pub mod Device
pub mod Reading
pub mod Writing

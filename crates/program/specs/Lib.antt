pub mod Program
pub mod Shelf

pub mod Lines
pub mod Starts
pub use Rattle.bstr.specs.Text

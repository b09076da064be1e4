pub mod Outcome
pub mod Numbers
pub mod Lines
pub mod Judged
pub mod Spans
pub mod Records

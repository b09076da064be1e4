pub mod Bodies
pub mod Entries
pub mod Judging
pub mod Places
pub mod Spelled
pub mod RecordPlaces
pub mod Written

-- How an output buffers text and writes it to its sink.
pub mod Written
pub mod Taken
pub mod Sent

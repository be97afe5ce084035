pub mod Lines
pub mod Texts
pub mod Runs
pub mod Serving
pub mod Words
pub mod ForLaws
pub mod Statuses

-- The past of a newly opened agent, and of an agent after an event.
pub mod Carrying
pub mod Opened
pub mod Step

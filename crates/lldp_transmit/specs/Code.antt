-- Definitions that follow the code: the fields of a machine, and one step of it.
pub mod Machine

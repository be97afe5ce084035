-- Faults: their numbers, lines and statuses, and how they are reported.
pub mod FaultNumber
pub mod ProgramFault
pub mod Told

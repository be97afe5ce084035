-- A trace: its lines, what each asks for, and what a run over all of them does.
pub mod Lines
pub mod Sent
pub mod Work
pub mod Forms
pub mod Items
pub mod Runs

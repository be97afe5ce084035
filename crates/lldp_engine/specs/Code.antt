-- Definitions shaped like the code: how an event changes the current data, port by port (Step,
-- PortStep, Counting) and what it tells (Telling); the line that a one-line sink keeps; where a page
-- of a show goes on (Cursor) and the lines that it skips there (Skipping); what functions require.
-- Only Step and Telling appear in clauses of public functions: `after`, `marks` and `told` of
-- `Agent::step_told`, and the law `steps_carry_standing`.
pub mod Counting
pub mod PortStep
pub mod Whose
pub mod Step
pub mod Telling
pub mod OneLineState
pub mod ShortText
pub mod Taking
pub mod SaidSetting
pub mod ShownValue
pub mod Cursor
pub mod Skipping

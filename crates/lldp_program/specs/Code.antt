-- The state of the code during a run: the buffer, and the items done so far. Contracts of public
-- calls use other definitions.
pub mod Output
pub mod Parts
pub mod Pieces
pub mod Plain

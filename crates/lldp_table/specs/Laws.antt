-- Definitions that only the laws use: what changes from one call to the next.
pub mod Changes

-- Definitions that only the laws use: other definitions restated with positions, octets or counts.
pub mod CauseOf
pub mod Deaf
pub mod FirstFault
pub mod FrameOctets
pub mod Holding
pub mod InUse
pub mod LastSet
pub mod Neighbors
pub mod OnlyForms
pub mod Opening
pub mod Places
pub mod PortAt
pub mod Rights
pub mod Shows
pub mod Tally
pub mod Calls

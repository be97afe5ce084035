-- Which neighbors are live, how a call changes them, and their order.
pub mod Events
pub mod LastStored
pub mod Calls
pub mod Order

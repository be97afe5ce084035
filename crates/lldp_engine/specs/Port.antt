-- One port: its events, and what they do to it. A port has no number here, except in Event and
-- EventView, which define what an event of the agent is for one port.
pub mod Event
pub mod EventView
pub mod Effects
pub mod Past
pub mod Headline

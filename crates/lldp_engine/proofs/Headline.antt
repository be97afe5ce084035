-- The headline: what is promised of each agent, and of the answer of each step.
pub mod Promise
pub mod Answered
-- used by the crates that depend on this one
pub use Rattle.lldp_engine.proofs.Headline.Promise.{promised, have_sent_exactly}

-- Definitions that only the laws use: how the causes of events decide a port's state and frames.
pub mod Causes

-- The slot belongs after the places passed so far, and `rest` is its ticks minus their gaps.
use Rattle.std.proofs.Common.{◌≡◌, ◌≤◌, ℕ, ◌++◌, take, drop}
use Rattle.lldp_table.specs.Code.Queue.{enter, dues}
use Rattle.lldp_table.proofs.queue.place_for.Given as goal

abbrev pub invariant-loop-at : goal.invariant-loop-at
invariant-loop-at l = record {
  place : (slot : ℕ) → enter slot l.left (dues l.fn.times.shown l.slots) ≡ take l.at (dues l.fn.times.shown l.slots) ++ enter slot l.rest (drop l.at (dues l.fn.times.shown l.slots));
  most : l.rest ≤ l.left;
  same : l.times.shown ≡ l.fn.times.shown;
}

use Rattle.std.proofs.Common.{◌≡◌, ◌≤◌, ◌-◌, true, length, drop, slice_get}
use Rattle.std.specs.List.{flat_map}
use Rattle.lldp_text.specs.Text.{ended}
use Rattle.lldp_engine.specs.declared.command.Show.TheVariants.{Neighbors}
use Rattle.lldp_engine.specs.Lines.{lines_of}
use Rattle.lldpa_c.proofs.callers.showing.octet_of_show.Given as goal

-- the agent is as it was, and the octet that is sought has this number among those of the lines that are left
abbrev pub invariant-page : goal.invariant-page
invariant-page l =
    (l.agent.is_open ≡ true)
    × (l.agent.held.agent ≡ l.initial.agent.held.agent)
    × (l.from ≤ length (lines_of Neighbors l.initial.agent.held.agent))
    × (slice_get (flat_map ended (drop l.from (lines_of Neighbors l.initial.agent.held.agent))) l.left
    ≡ slice_get (flat_map ended (lines_of Neighbors l.initial.agent.held.agent)) l.n)

abbrev pub decreases-page : goal.decreases-page
decreases-page l = length (lines_of Neighbors l.initial.agent.held.agent) - l.from

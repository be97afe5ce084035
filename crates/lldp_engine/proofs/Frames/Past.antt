-- A frame is built from the configuration that the definitions give for the past.
use Rattle.std.proofs.Common.{◌≡◌, ℕ, List, Option, Some, ap, ◌∙◌}
use Rattle.lldp_transmit.specs.declared.event.Mark.{Mark}
use Rattle.lldp_engine.specs.Configuration.{Configuration}
use Rattle.lldp_engine.specs.AgentState.{AgentState}
use Rattle.lldp_engine.specs.Past.{Past, configuration_after, agent_of}
use Rattle.lldp_engine.specs.Standing.{Stands}
use Rattle.lldp_engine.specs.Frames.{frame_of}

pub configuration_reads : (past : Past) (agent : AgentState) → Stands past agent → agent.configuration ≡ configuration_after past.options past.events
unfolding agent_of
configuration_reads past agent h = ap (λ (a : AgentState). a.configuration) h.is

pub frame_reads : (past : Past) (agent : AgentState) (c : Configuration) (found : Option (List ℕ)) (own name octets : List ℕ) (mark : Mark) → Stands past agent → c ≡ agent.configuration → found ≡ Some own → found ≡ Some name
    → octets ≡ frame_of c own mark → octets ≡ frame_of (configuration_after past.options past.events) name mark
frame_reads past agent c found own name octets mark h is at named e =
    e ∙ ap (λ (n : List ℕ). frame_of c n mark) (cc) ∙ ap (λ (c : Configuration). frame_of c name mark) (is ∙ configuration_reads past agent h)

-- A step of the program is the step of the definitions.
use Rattle.std.proofs.Common.{◌≡◌, ℕ, ◌+◌, ◌<◌, ◌≤◌, List, [], ◌∷◌, length, true, refl, arith}
use Rattle.std.specs.List.{AllByRecursion}
use Rattle.std.proofs.lemmas.Bool.Decides.{nat_tests}
use Rattle.lldp_transmit.specs.declared.event.Mark.{Mark}
use Rattle.lldp_transmit.specs.declared.event.Mark.TheVariants.{Quiet, Ordinary, Shutdown}
use Rattle.lldp_text.specs.Text.{is_text}
use Rattle.lldp_engine.specs.Event.{Event, set, hostname, description}
use Rattle.lldp_engine.specs.Configuration.{Configuration, configured}
use Rattle.lldp_engine.specs.AgentState.{AgentState, PortState, Allows}
use Rattle.lldp_engine.specs.Past.{sending}
use Rattle.lldp_engine.specs.Frames.{IsSent}
use Rattle.lldp_engine.specs.Code.PortStep.{port_mark}
use Rattle.lldp_engine.specs.Code.Step.{ports_step, marks_step, agent_after, agent_marks}
use Rattle.lldp_engine.specs.Code.ShortText.{HasShortText}
use Rattle.lldp_engine.specs.Code.Whose.{Whose, whose, of_port}

-- A text that is allowed has at most 255 octets.
short_text : (text : List ℕ) → is_text text ≡ true → length text ≤ 255
short_text text h = grind (arith, nat_tests, h)

pub allowed_short : (now : AgentState) (event : Event) → Allows now event → HasShortText event
allowed_short now (set (hostname text)) a = short_text text a
allowed_short now (set (description text)) a = short_text text a
allowed_short now event a = tt

-- The configuration changes first, then the ports, with the new tx-interval.
pub steps_to : (agent : AgentState) (event : Event) (c : Configuration) (n : ℕ) (ports new : List PortState) → c ≡ configured event agent.configuration → n ≡ c.interval → ports ≡ agent.ports → new ≡ ports_step (whose event) n 0 ports
    → (let a : AgentState = record { configuration = c; ports = new } in a) ≡ agent_after event agent
steps_to agent event c n ports new a b d e = rw (e, d, b, a) refl

pub marks_to : (agent : AgentState) (event : Event) (c : Configuration) (n : ℕ) (ports : List PortState) (marks : List (ℕ × Mark)) → c ≡ configured event agent.configuration → n ≡ c.interval → ports ≡ agent.ports → marks ≡ marks_step (whose event) n 0 ports
    → marks ≡ agent_marks event agent
marks_to agent event c n ports marks a b d e = rw (e, d, b, a) refl

-- Each port in the answer exists and sends something.
one_sent : (i m : ℕ) (mark : Mark) (others : List (ℕ × Mark)) → i < m → AllByRecursion (λ (x : ℕ × Mark). (x.0 < m) × IsSent x.1) others → AllByRecursion (λ (x : ℕ × Mark). (x.0 < m) × IsSent x.1) (sending i mark others)
one_sent i m Quiet others lt h = h
one_sent i m Ordinary others lt h = ((lt, tt), h)
one_sent i m Shutdown others lt h = ((lt, tt), h)

pub marks_sent : (event : Whose) (n s m : ℕ) (ports : List PortState) → s + length ports ≤ m → AllByRecursion (λ (x : ℕ × Mark). (x.0 < m) × IsSent x.1) (marks_step event n s ports)
marks_sent event n s m [] l = tt
marks_sent event n s m (p ∷ ps) l = one_sent s m (port_mark (of_port s event) n p) (marks_step event n (s + 1) ps) (omega arith) (marks_sent event n (s + 1) m ps (omega arith))

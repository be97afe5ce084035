-- The functions of an agent return what the definitions give for its past.
use Rattle.std.proofs.Common.{◌≡◌, ℕ, ◌+◌, ◌<◌, List, [], ◌∷◌, length, get_or, Option, Some, None, refl, ap, sym, ◌∙◌, subst, arith, map, suc, zero, add-zero}
use Rattle.std.specs.Prelude.{slice_get, IfSome, Bool, true, false, if◌then◌else◌}
use Rattle.std.specs.Str.{bytes_eq}
use Rattle.std.proofs.lemmas.List.{length-map}
use Rattle.lldp_engine.specs.Options.{Options}
use Rattle.lldp_engine.specs.Event.{Event}
use Rattle.lldp_engine.specs.Place.{place_from}
use Rattle.lldp_engine.specs.AgentState.{PortState}
use Rattle.lldp_engine.specs.AgentState.{AgentState}
use Rattle.lldp_engine.specs.Past.{Past, port_past, past_of, ports_after, agent_of}
use Rattle.lldp_engine.specs.Port.Past.{Happened, port_after}
use Rattle.lldp_engine.specs.Standing.{Stands}
use Rattle.std.proofs.lemmas.Grind.{common_steps}

pub ports_are : (past : Past) (agent : AgentState) → Stands past agent → agent.ports ≡ ports_after past.options past.events 0 past.options.names
unfolding agent_of
ports_are past agent h = ap (λ (a : AgentState). a.ports) h.is

-- The port p is the one that the definitions give for this past, and has this name.
pub record IsPortAfter (o : Options) (past : List Happened) (name : Option (List ℕ)) (p : PortState) : Type 0 where
  pub named : name ≡ Some p.name
  pub is : p ≡ port_after o past p.name

name_after : (o : Options) (past : List Happened) (name : List ℕ) → (port_after o past name).name ≡ name
unfolding port_after
name_after o past name = refl

port_at : (o : Options) (events : List Event) (s i : ℕ) (names : List (List ℕ)) (p : PortState) → i < length (ports_after o events s names) → p ≡ get_or (ports_after o events s names) i p
    → IsPortAfter o (port_past (s + i) events) (slice_get names i) p
port_at o events s i [] p lt h = absurd (omega arith)
port_at o events s zero (name ∷ names) p lt h =
    let n : p.name ≡ name = ap (λ (q : PortState). q.name) h ∙ name_after o (port_past s events) name in
    subst (λ (k : ℕ). IsPortAfter o (port_past k events) (Some name) p) (sym (add-zero s))
    (record { named = ap (λ (x : List ℕ). Some x) (sym n); is = h ∙ ap (port_after o (port_past s events)) (sym n) })
port_at o events s (suc i) (name ∷ names) p lt h = grind (arith, common_steps, port_at o events (s + 1) i names p (omega arith) h)

pub port_reads : (past : Past) (agent : AgentState) (i : ℕ) (p : PortState) → Stands past agent → i < length agent.ports → p ≡ get_or agent.ports i p → IsPortAfter past.options (past_of past i) (slice_get past.options.names i) p
port_reads past agent i p h lt at =
    let e = ports_are past agent h in
    let place : 0 + i ≡ i = omega arith in
    subst (λ (k : ℕ). IsPortAfter past.options (past_of past k) (slice_get past.options.names i) p) place
    (port_at past.options past.events 0 i past.options.names p (subst (λ (ps : List PortState). i < length ps) e lt) (at ∙ ap (λ (ps : List PortState). get_or ps i p) e))

names_are : (o : Options) (events : List Event) (i : ℕ) (names : List (List ℕ)) → map (λ (p : PortState). p.name) (ports_after o events i names) ≡ names
names_are o events i [] = refl
names_are o events i (name ∷ names) = grind (arith, common_steps, name_after, names_are o events (i + 1) names)

pub names_read : (past : Past) (agent : AgentState) → Stands past agent → map (λ (p : PortState). p.name) agent.ports ≡ past.options.names
names_read past agent h = ap (map (λ (p : PortState). p.name)) (ports_are past agent h) ∙ names_are past.options past.events 0 past.options.names

ports_number : (o : Options) (events : List Event) (i : ℕ) (names : List (List ℕ)) → length (ports_after o events i names) ≡ length names
ports_number o events i [] = refl
ports_number o events i (name ∷ names) = omega (arith, ports_number o events (i + 1) names)

pub number_reads : (past : Past) (agent : AgentState) → Stands past agent → length agent.ports ≡ length past.options.names
number_reads past agent h = ap length (ports_are past agent h) ∙ ports_number past.options past.events 0 past.options.names

-- A place below m is below n if m and n are equal.
within_more : (o : Option ℕ) (m n : ℕ) → m ≡ n → IfSome o (λ i. i < m) → IfSome o (λ i. i < n)
within_more None m n e h = tt
within_more (Some i) m n e h = omega arith

within_if : (b : Bool) (s n : ℕ) (o : Option ℕ) → IfSome o (λ i. i < s + 1 + n) → IfSome (if b then Some s else o) (λ i. i < s + suc n)
within_if true s n o h = omega arith
within_if false s n o h = within_more o (s + 1 + n) (s + suc n) (omega arith) h

place_within : (s : ℕ) (names : List (List ℕ)) (word : List ℕ) → IfSome (place_from s names word) (λ i. i < s + length names)
place_within s [] word = tt
place_within s (name ∷ names) word = within_if (bytes_eq name word) s (length names) (place_from (s + 1) names word) (place_within (s + 1) names word)

pub place_exists : (ports : List PortState) (word : List ℕ) (o : Option ℕ) → o ≡ place_from 0 (map (λ (p : PortState). p.name) ports) word → IfSome o (λ i. i < length ports)
place_exists ports word o e =
    let n : length (map (λ (p : PortState). p.name) ports) ≡ length ports = simp length-map in
    within_more o (0 + length (map (λ (p : PortState). p.name) ports)) (length ports) (omega arith)
    (subst (λ (x : Option ℕ). IfSome x (λ i. i < 0 + length (map (λ (p : PortState). p.name) ports))) (sym e) (place_within 0 (map (λ (p : PortState). p.name) ports) word))

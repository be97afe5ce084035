use Rattle.std.proofs.Common.{◌≡◌, ℕ, zero, suc, ◌+◌, ◌-◌, ◌<◌, Bool, not, inl, inr, List, [], ◌∷◌, length, nat_lt, Option, Some, None, refl, sym, ap, subst, ◌∙◌, arith}
use Rattle.std.specs.Prelude.{slice_get, sum_by}
use Rattle.std.specs.List.{filter, filter_map, list_any}
use Rattle.std.specs.Option.{option_map}
use Rattle.std.proofs.lemmas.Bool.{cases_Bool}
use Rattle.std.proofs.lemmas.List.Sums.{sum_by-cons}
use Rattle.std.proofs.lemmas.Option.{slice_get-map}
use Rattle.lldp_pdu.specs.Msap.{MsapId}
use Rattle.lldp_table.specs.Contents.{Contents, is_named}
use Rattle.lldp_table.specs.Events.{Neighbor, Call, tick as tick_call}
use Rattle.lldp_table.specs.Standing.{table_of}
use Rattle.lldp_table.specs.Code.Steps.{aged, expires, after_tick}
use Rattle.lldp_table.proofs.Live.Calls.{gone_order}
use Rattle.lldp_table.proofs.Standing.Calls.{leaves}
use Rattle.lldp_transmit.specs.declared.event.Mark.{Mark}
use Rattle.lldp_engine.specs.AgentState.{AgentState, PortState}
use Rattle.lldp_engine.specs.Event.{tick}
use Rattle.lldp_engine.specs.Past.{Past, past_of}
use Rattle.lldp_engine.specs.Standing.{Stands}
use Rattle.lldp_engine.specs.Port.Event.{tick as port_tick}
use Rattle.lldp_engine.specs.Port.Past.{calls_after}
use Rattle.lldp_engine.specs.Code.PortStep.{port_step}
use Rattle.lldp_engine.specs.Code.Step.{ports_step, agent_after}
use Rattle.lldp_engine.proofs.Headline.Promise.{table_reads}
use Rattle.lldp_engine.proofs.Readers.{port_reads, number_reads}
use Rattle.lldpa_c.specs.Due.{timeless, timeless_port, timeless_neighbors}
use Rattle.lldpa_c.specs.Held.{neighbors_on, neighbors_at, gone_on, gone_at}
use Rattle.lldpa_c.specs.Laws.Gone.{lacks, lost_at, octets_of}
use Rattle.lldpa_c.specs.Ticks.{Takes, LastDid, ticked, with_ticks, held_by}
use Rattle.lldpa_c.proofs.Dueness.{stands_ticked, quiet_ticks}
use Rattle.lldpa_c.proofs.Holding.{get_of}
use Rattle.lldpa_c.proofs.laws.aged_out_neighbors_are_those_lost.Goals as goal
use Rattle.lldp_engine.specs.Code.Whose.{each_port}

-- ---- a second

-- those of these neighbors that are not among the others
abbrev lost : List Neighbor → List Neighbor → List Neighbor
lost others neighbors = filter (λ (x : Neighbor). not (list_any (is_named x.msap) others)) neighbors

table_loses : (opened : ℕ) (calls : List Call) (t : Contents) → t ≡ table_of opened calls → (after_tick t).gone ≡ lost (after_tick t).neighbors t.neighbors
table_loses opened calls t e =
    let next : after_tick t ≡ table_of opened (tick_call ∷ calls) = ap after_tick e ∙ leaves opened calls tick_call tt in
    ap (λ (u : Contents). u.gone) next ∙ gone_order opened calls
    ∙ ap (λ (u : Contents). lost u.neighbors (table_of opened calls).neighbors) (sym next)
    ∙ ap (λ (u : Contents). lost (after_tick t).neighbors u.neighbors) (sym e)

step_at : (n i : ℕ) (ports : List PortState) (k : ℕ) → slice_get (ports_step (each_port port_tick) n i ports) k ≡ option_map (port_step port_tick n) (slice_get ports k)
step_at n i [] k = refl
step_at n i (p ∷ ports) zero = refl
step_at n i (p ∷ ports) (suc k) = step_at n (i + 1) ports k

port_loses : (past : Past) (agent : AgentState) (i n : ℕ) → Stands past agent → (found : Option PortState) → slice_get agent.ports i ≡ found
    → gone_on (option_map (port_step port_tick n) found) ≡ lost (neighbors_on (option_map (port_step port_tick n) found)) (neighbors_on found)
port_loses past agent i n h None e = refl
port_loses past agent i n h (Some p) e =
    let b = get_of agent.ports i p e in
    let number = number_reads past agent h in
    let stands = table_reads past agent i p (omega (arith, b.0, number)) h (port_reads past agent i p h b.0 b.1).is in
    table_loses past.options.max_neighbors (calls_after past.options (past_of past i)) p.table stands.is

second : (past : Past) (agent : AgentState) (port : ℕ) → Stands past agent → gone_at (agent_after tick agent) port ≡ lost_at agent (agent_after tick agent) port
second past agent port h =
    let n = agent.configuration.interval in
    let at = step_at n 0 agent.ports port in
    rw at (port_loses past agent port n h (slice_get agent.ports port) refl)

-- ---- several seconds

module _ (f : MsapId → Bool) where
  abbrev some : List Neighbor → List Neighbor
  some xs = filter (λ (x : Neighbor). f x.msap) xs

  some_timeless : (xs : List Neighbor) → octets_of (some (timeless_neighbors xs)) ≡ octets_of (some xs)
  some_timeless [] = refl
  some_timeless (x ∷ xs) = elim (cases_Bool (f x.msap)) [
    | inl t ↦ rw t (ap (λ rest. x.octets ∷ rest) (some_timeless xs))
    | inr d ↦ rw d (some_timeless xs)
  ]

held_timeless : (agent : AgentState) (port : ℕ) → neighbors_at (timeless agent) port ≡ timeless_neighbors (neighbors_at agent port)
held_timeless agent port = ap neighbors_on (slice_get-map timeless_port agent.ports port) ∙ one (slice_get agent.ports port)
  where
    one : (found : Option PortState) → neighbors_on (option_map timeless_port found) ≡ timeless_neighbors (neighbors_on found)
    one None = refl
    one (Some p) = refl

lost_alike : (one other after : AgentState) (port : ℕ) → timeless one ≡ timeless other → octets_of (lost_at one after port) ≡ octets_of (lost_at other after port)
lost_alike one other after port e =
    let f : MsapId → Bool = lacks after port in
    sym (some_timeless f (neighbors_at one port))
    ∙ ap (λ xs. octets_of (some f xs)) (sym (held_timeless one port) ∙ ap (λ (a : AgentState). neighbors_at a port) e ∙ held_timeless other port)
    ∙ some_timeless f (neighbors_at other port)

seconds : (asked taken : ℕ) (before after : AgentState) (sent : List (ℕ × Mark)) (gone : ℕ) (past : Past) (port : ℕ) → Takes asked taken before after sent gone → 0 < taken → Stands past before
    → octets_of (gone_at after port) ≡ octets_of (lost_at before after port)
seconds asked taken before after sent gone past port t some h =
    let k : ℕ = taken - 1 in
    let last : suc k ≡ taken = omega (arith, some) in
    let is : after ≡ agent_after tick (ticked k before) = t.is ∙ ap (λ (n : ℕ). ticked n before) (sym last) in
    let same : timeless (ticked k before) ≡ timeless before = quiet_ticks k before past h (λ j l. t.quiet j (omega (arith, l, some))) in
    rw is (ap octets_of (second (with_ticks k past) (ticked k before) port (stands_ticked k past before h)) ∙ lost_alike (ticked k before) before (agent_after tick (ticked k before)) port same)

-- ---- how many

parts : (xs : List Neighbor) → length (filter expires xs) + length (filter_map aged xs) ≡ length xs
parts [] = refl
parts (x ∷ xs) = elim (cases_Bool (nat_lt 1 x.left)) [
  | inl t ↦ rw t (omega (arith, parts xs))
  | inr d ↦ rw d (omega (arith, parts xs))
]

abbrev count : List PortState → ℕ
count ports = sum_by (λ (p : PortState). length p.table.gone) ports

counted : (n i : ℕ) (ports : List PortState) → count (ports_step (each_port port_tick) n i ports) + held_by (ports_step (each_port port_tick) n i ports) ≡ held_by ports
counted n i [] = refl
counted n i (p ∷ ports) =
    let next = ports_step (each_port port_tick) n (i + 1) ports in
    omega (arith, sum_by-cons (λ (q : PortState). length q.table.gone) (port_step port_tick n p) next, parts p.table.neighbors, counted n (i + 1) ports)

number : (asked taken : ℕ) (before after : AgentState) (sent : List (ℕ × Mark)) (gone : ℕ) → Takes asked taken before after sent gone → 0 < taken → gone ≡ count after.ports
number asked taken before after sent gone t some =
    let k : ℕ = taken - 1 in
    let last : suc k ≡ taken = omega (arith, some) in
    let did = subst (λ (n : ℕ). LastDid n before sent gone) (sym last) t.last in
    let is : after ≡ agent_after tick (ticked k before) = t.is ∙ ap (λ (n : ℕ). ticked n before) (sym last) in
    rw is (omega (arith, did.1, counted (ticked k before).configuration.interval 0 (ticked k before).ports))

pub returns : goal.returns
returns c = record { second = second; seconds = seconds; number = number }

-- When LLDPDUs and status commands remove neighbors.
use Rattle.std.proofs.Common.{◌≡◌, ℕ, Bool, true, false, List, [], ◌∷◌, Option, Some, None, refl, ap, sym, ◌∙◌, subst}
use Rattle.std.specs.Prelude.{◌==◌, ◌&&◌, not, if◌then◌else◌, slice_get, IfSome, option_and_then}
use Rattle.std.specs.List.{cons_option}
use Rattle.std.specs.Option.{option_map}
use Rattle.std.proofs.lemmas.Bool.{and_right}
use Rattle.lldp_pdu.specs.declared.fault.PduFault.{PduFault}
use Rattle.lldp_pdu.specs.Frame.{lldpdu_of}
use Rattle.lldp_pdu.specs.Fault.{fault_of}
use Rattle.lldp_pdu.specs.Lldpdu.{ttl_of, msap_of}
use Rattle.lldp_table.specs.Events.{purge, set_limit, Neighbor, events_of, neighbors}
use Rattle.lldp_table.proofs.Live.Events.{neighbors-purged, neighbors-limit_set}
use Rattle.lldp_table.proofs.Standing.Calls.{events-more}
use Rattle.lldp_engine.specs.declared.port.status.Status.{Status}
use Rattle.lldp_engine.specs.Options.{Options}
use Rattle.lldp_engine.specs.Status.{receives}
use Rattle.lldp_engine.specs.Event as agent
use Rattle.lldp_engine.specs.Heard.{leaves, heard_of}
use Rattle.lldp_engine.specs.Past.{Past, with_event, happened, past_of}
use Rattle.lldp_engine.specs.AgentState.{PortState}
use Rattle.lldp_engine.specs.Laws.PortAt.{port_at, table_at, neighbors_at, LeavesTables}
use Rattle.lldp_engine.specs.Laws.Deaf.{HasStatus, Hears}
use Rattle.lldp_engine.specs.Laws.Neighbors.{others_than}
use Rattle.lldp_engine.specs.Laws.Neighbors.{one_tick_older}
use Rattle.lldp_engine.specs.Port.Event.{PortEvent, tick, frame, status, limit}
use Rattle.lldp_engine.specs.Port.Effects.{call_of, status_then, call_at}
use Rattle.lldp_engine.specs.Port.Past.{Happened, status_after, up_after, calls_after}
use Rattle.lldp_engine.proofs.ForLaws.LastSet.{last_is_status}
use Rattle.lldp_engine.proofs.OnePort.Allowed.{port_table}
use Rattle.lldp_engine.proofs.AllPorts.EachPort.{own_or_nothing}
use Rattle.lldp_engine.proofs.ForLaws.PortAt.{map_twice, of_table, table_same}
use Rattle.lldp_engine.proofs.ForLaws.Whose.{ticked_neighbors}
use Rattle.lldp_engine.proofs.ForLaws.Deaf.{deaf, of_own, own_happened, heard_now, hears_it}
use Rattle.lldp_engine.proofs.OnePort.Heard.{heard_leaves, heard_refused}
use Rattle.lldp_engine.proofs.ForLaws.Held.{held_after, by_heard, others_stay, after_leaves}

-- ## A frame that the port receives

map_same : {X : Type 0} (o : Option X) → option_map (λ x. x) o ≡ o
map_same None = refl
map_same (Some x) = refl

-- An equation f (neighbors after a frame) ≡ g (neighbors before it) also holds for `neighbors_at`.
by_frame : {X : Type 0} (f g : List Neighbor → X) (past : Past) (i : ℕ) (octets : List ℕ)
    → f (held_after past.options.max_neighbors (calls_after past.options (past_of past i)) (heard_now past i octets)) ≡ g (neighbors (events_of past.options.max_neighbors (calls_after past.options (past_of past i))))
    → option_map f (neighbors_at (with_event past (agent.frame i octets)) i) ≡ option_map g (neighbors_at past i)
by_frame f g past i octets e =
    let o = past.options in
    let names = slice_get o.names i in
    map_twice (λ (port : PortState). port.table.neighbors) f (port_at (with_event past (agent.frame i octets)) i)
    ∙ of_table (λ table. f table.neighbors) (with_event past (agent.frame i octets)) i
    ∙ ap (λ (now : Happened). option_map (λ (name : List ℕ). f (port_table o (now ∷ past_of past i)).neighbors) names) (own_happened (frame octets) i (happened i (agent.frame i octets) past.events).interval)
    ∙ ap (λ x. option_map (λ (name : List ℕ). x) names) e
    ∙ sym (of_table (λ table. g table.neighbors) past i)
    ∙ sym (map_twice (λ (port : PortState). port.table.neighbors) g (port_at past i))

same_pdu : (one other : List ℕ) (o : Option (List ℕ)) → o ≡ Some one → o ≡ Some other → one ≡ other
same_pdu one other o e f = let s : Some one ≡ Some other = sym e ∙ f in cc

pub others_stay_at : (past : Past) (i : ℕ) (octets pdu : List ℕ) → lldpdu_of octets ≡ Some pdu
    → option_map (others_than (msap_of pdu)) (neighbors_at (with_event past (agent.frame i octets)) i) ≡ option_map (others_than (msap_of pdu)) (neighbors_at past i)
others_stay_at past i octets pdu is =
    let opened = past.options.max_neighbors in
    let calls = calls_after past.options (past_of past i) in
    by_frame (others_than (msap_of pdu)) (others_than (msap_of pdu)) past i octets
    (by_heard (λ h. others_than (msap_of pdu) (held_after opened calls h) ≡ others_than (msap_of pdu) (neighbors (events_of opened calls)))
    (status_after past.options (past_of past i)) (up_after (past_of past i)) octets refl
    (λ own e. subst (λ (p : List ℕ). others_than (msap_of p) (held_after opened calls (Some (heard_of own))) ≡ others_than (msap_of p) (neighbors (events_of opened calls))) (same_pdu own pdu (lldpdu_of octets) e is) (others_stay opened calls own)))

pub own_leaves : (past : Past) (i : ℕ) (octets pdu : List ℕ) → Hears past i → lldpdu_of octets ≡ Some pdu → fault_of pdu ≡ None → ttl_of pdu ≡ 0
    → neighbors_at (with_event past (agent.frame i octets)) i ≡ option_map (others_than (msap_of pdu)) (neighbors_at past i)
own_leaves past i octets pdu h is sound zero =
    let opened = past.options.max_neighbors in
    let calls = calls_after past.options (past_of past i) in
    let heard : heard_now past i octets ≡ Some (leaves (msap_of pdu)) = hears_it past i octets pdu h is ∙ ap Some (heard_leaves pdu (msap_of pdu) (sym sound) zero refl) in
    sym (map_same (neighbors_at (with_event past (agent.frame i octets)) i))
    ∙ by_frame (λ held. held) (others_than (msap_of pdu)) past i octets (ap (held_after opened calls) heard ∙ after_leaves opened calls (msap_of pdu))

-- An LLDPDU with a fault does not change the table.
pub refused_leaves : (past : Past) (i : ℕ) (octets pdu : List ℕ) (fault : PduFault) → lldpdu_of octets ≡ Some pdu → fault_of pdu ≡ Some fault → table_at (with_event past (agent.frame i octets)) i ≡ table_at past i
refused_leaves past i octets pdu fault is f =
    let given = status_after past.options (past_of past i) in
    let up = up_after (past_of past i) in
    table_same past (agent.frame i octets) i
    (ap (λ (e : PortEvent). call_at e given up) (of_own (frame octets) i)
    ∙ by_heard (λ h. option_and_then call_of h ≡ None) given up octets refl
    (λ own e. ap call_of (heard_refused own fault (sym (ap fault_of (same_pdu own pdu (lldpdu_of octets) e is) ∙ f)))))

-- ## A status command that lets a port receive changes no table

module _ (given : Status) (receiving : receives given ≡ true) where
  pub receiving_leaves_tables : (past : Past) (port : ℕ) → LeavesTables past (agent.set (agent.status port given))
  receiving_leaves_tables past port = λ i.
      let before = status_after past.options (past_of past i) in
      let up = up_after (past_of past i) in
      table_same past (agent.set (agent.status port given)) i (own_or_nothing (λ (e : PortEvent). call_at e before up ≡ None) (port == i) (status given) (rw (receiving, and_right (receives before) false refl) refl) refl)

-- ## A port that cannot receive holds no neighbors

module _ (o : Options) where
  abbrev held : List Happened → List Neighbor
  held past = (port_table o past).neighbors

  purged_or_none : (b : Bool) (past : List Happened) → (b ≡ false → held past ≡ []) → neighbors (events_of o.max_neighbors (cons_option (if b && true then Some purge else None) (calls_after o past))) ≡ []
  purged_or_none true past none = ap neighbors (events-more o.max_neighbors purge (calls_after o past)) ∙ neighbors-purged (events_of o.max_neighbors (calls_after o past))
  purged_or_none false past none = none refl

  none_more : (event : PortEvent) (n : ℕ) (past : List Happened) → (receives (status_after o past) ≡ false → held past ≡ []) → receives (status_then event (status_after o past)) ≡ false
      → held ((let now : Happened = record { event = event; interval = n } in now) ∷ past) ≡ []
  none_more tick n past none e = ticked_neighbors o.max_neighbors (calls_after o past) ∙ ap one_tick_older (none e)
  none_more (frame octets) n past none e =
      ap (held_after o.max_neighbors (calls_after o past)) (deaf (status_after o past) (up_after past) octets (ap (λ (b : Bool). b && up_after past) e)) ∙ none e
  none_more (status next) n past none e =
      ap (λ (b : Bool). neighbors (events_of o.max_neighbors (cons_option (if receives (status_after o past) && not b then Some purge else None) (calls_after o past)))) e
      ∙ purged_or_none (receives (status_after o past)) past none
  none_more (limit most) n past none e =
      ap neighbors (events-more o.max_neighbors (set_limit most) (calls_after o past)) ∙ neighbors-limit_set most (events_of o.max_neighbors (calls_after o past)) ∙ none e
  none_more event n past none e = none e

  none_at_first : held [] ≡ []
  unfolding neighbors events_of
  none_at_first = refl

  none_held : (past : List Happened) → receives (status_after o past) ≡ false → held past ≡ []
  none_held [] e = none_at_first
  none_held (now ∷ past) e = none_more now.event now.interval past (none_held past) e

if_held : (past : Past) (i : ℕ) (names : Option (List ℕ)) (xs : List Neighbor) (o : Option (List Neighbor)) → o ≡ option_map (λ (name : List ℕ). xs) names → xs ≡ [] → IfSome o (λ held. held ≡ [])
if_held past i None xs o e none = rw e tt
if_held past i (Some name) xs o e none = rw e none

module _ (given : Status) (ceases : receives given ≡ false) where
  pub deaf_holds_none : (past : Past) (i : ℕ) → HasStatus past i given → IfSome (neighbors_at past i) (λ held. held ≡ [])
  deaf_holds_none past i h =
      if_held past i (slice_get past.options.names i) _ (neighbors_at past i) (of_table (λ table. table.neighbors) past i)
      (none_held past.options (past_of past i) (ap receives (sym (last_is_status past.options i past.events given h)) ∙ ceases))

pub ruleset lldpdus_speak_of_one_neighbor = (others_stay_at, own_leaves, refused_leaves)

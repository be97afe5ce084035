-- The promise holds for every agent and each past that it may have had.
use Rattle.std.proofs.Common.{◌≡◌, ℕ, ◌<◌, ◌≤◌, List, [], ◌∷◌, length, get_or, Some, ap, sym, ◌∙◌, refl, subst, arith, zero, suc}
use Rattle.std.specs.Prelude.{slice_get}
use Rattle.std.specs.List.{Contains, AllPairs, AllByRecursion}
use Rattle.lldp_table.specs.Events.{Neighbor}
use Rattle.lldp_table.specs.Contents.{Contents, IsHeld}
use Rattle.lldp_table.specs.Standing.{Stands as TableStands}
use Rattle.lldp_table.specs.Positions.{IsNewBefore}
use Rattle.lldp_table.proofs.Standing.Calls.{stands_limit, stands_neighbors}
use Rattle.lldp_table.proofs.Live.LastStored.{last_stored_from_held, held_from_last_stored}
use Rattle.lldp_table.proofs.Standing.Lists.{sound_from_stands}
use Rattle.lldp_table.proofs.Live.Order.{neighbors_in_order}
use Rattle.lldp_transmit.specs.Standing.{machine_of}
use Rattle.lldp_transmit.proofs.Answered.{windows_hold, ordinary_with, shutdown_with}
use Rattle.lldp_engine.specs.Options.{Options, InRange}
use Rattle.lldp_engine.specs.AgentState.{PortState, AgentState}
use Rattle.lldp_engine.specs.Past.{Past, past_of}
use Rattle.lldp_engine.specs.Standing.{Stands}
use Rattle.lldp_engine.specs.Headline.{Promised}
use Rattle.lldp_engine.specs.Port.Past.{Happened, status_after, up_after, calls_after, table_events_after, settings_of, caused_at, causes_after, mark_after, counters_after, port_after}
use Rattle.lldp_engine.specs.Port.Headline.{HoldsLastStored}
use Rattle.lldp_engine.specs.Laws.Holding.{HoldsByPositions, HoldLastStored}
use Rattle.lldp_engine.specs.Sending.{SendsExactly, HasSentExactly, HaveSentExactly}
use Rattle.lldp_engine.proofs.OnePort.Allowed.{port_table, allowed_taken, table_stands}
use Rattle.lldp_engine.proofs.Standing.Carrying.{up_is, settings_in_range}
use Rattle.lldp_engine.proofs.Readers.{port_reads, number_reads}
use Rattle.std.proofs.lemmas.Grind.{common_steps}

-- ## The fields of a port, given its past

module _ (o : Options) (past : List Happened) (p : PortState) (h : p ≡ port_after o past p.name) where
  pub status_is : p.status ≡ status_after o past
  unfolding port_after
  status_is = ap (λ (q : PortState). q.status) h

  pub counters_are : p.counters ≡ counters_after o past
  unfolding port_after
  counters_are = ap (λ (q : PortState). q.counters) h

  pub machine_is : p.machine ≡ machine_of (settings_of o) (causes_after o past)
  unfolding port_after
  machine_is = ap (λ (q : PortState). q.machine) h

  pub links_read : p.machine.up ≡ up_after past
  unfolding port_after
  links_read = ap (λ (q : PortState). q.machine.up) h ∙ up_is o past

  table_is : p.table ≡ port_table o past
  unfolding port_after
  table_is = ap (λ (q : PortState). q.table) h

pub table_reads : (past : Past) (agent : AgentState) (i : ℕ) (p : PortState) → i < length past.options.names → Stands past agent → p ≡ port_after past.options (past_of past i) p.name
    → TableStands past.options.max_neighbors (calls_after past.options (past_of past i)) p.table
table_reads past agent i p lt h is = grind (arith, common_steps, table_is, table_stands, allowed_taken)

-- ## The promise of a port

short_ones : (xs : List Neighbor) → AllByRecursion IsHeld xs → AllByRecursion (λ neighbor. length neighbor.octets ≤ 1500) xs
short_ones [] h = tt
short_ones (x ∷ xs) h = (h.0.extent.short, short_ones xs h.1)

holds_last_stored : (o : Options) (past : List Happened) (table : Contents) → TableStands o.max_neighbors (calls_after o past) table → HoldsLastStored o past table
holds_last_stored o past table h =
    let calls = calls_after o past in
    let sound = sound_from_stands table o.max_neighbors calls h in
    record {
      exactly = stands_neighbors table o.max_neighbors calls h;
      limit = stands_limit table o.max_neighbors calls h;
      few = sound.few;
      short = short_ones table.neighbors sound.held;
    }

holds_by_positions : (o : Options) (past : List Happened) (table : Contents) → TableStands o.max_neighbors (calls_after o past) table → HoldsByPositions o past table
holds_by_positions o past table h =
    let calls = calls_after o past in
    record {
      exactly = λ x. (
        λ held. last_stored_from_held o.max_neighbors calls x (subst (λ (xs : List Neighbor). Contains xs x) (stands_neighbors table o.max_neighbors calls h) held),
        λ last. subst (λ (xs : List Neighbor). Contains xs x) (sym (stands_neighbors table o.max_neighbors calls h)) (held_from_last_stored o.max_neighbors calls x last),
      );
      once = (sound_from_stands table o.max_neighbors calls h).distinct;
      in_order = subst (λ (xs : List Neighbor). AllPairs (IsNewBefore (table_events_after o past)) xs) (sym (stands_neighbors table o.max_neighbors calls h)) (neighbors_in_order (table_events_after o past));
    }

sends_exactly : (o : Options) (now : Happened) (earlier : List Happened) → InRange o → SendsExactly o now earlier
sends_exactly o now earlier r =
    let s = settings_of o in
    let h = causes_after o earlier in
    let e = caused_at o now earlier in
    record {
      ordinary = ordinary_with s h e (mark_after o (now ∷ earlier)) refl (settings_in_range o r);
      shutdown = shutdown_with s h e (mark_after o (now ∷ earlier)) refl;
    }

has_sent_exactly : (o : Options) (past : List Happened) → InRange o → HasSentExactly o past
has_sent_exactly o past r =
    let w = windows_hold (settings_of o) (causes_after o past) (settings_in_range o r) in
    record {
      exactly = λ later earlier now split. sends_exactly o now earlier r;
      bounded = w.bounded;
      few_stops = w.few_stops;
      earliest = λ later earlier split. (windows_hold (settings_of o) (causes_after o earlier) (settings_in_range o r)).earliest [] (causes_after o earlier) refl;
    }

-- ## The promise of an agent

get_of : (ports : List PortState) (i : ℕ) (p : PortState) → slice_get ports i ≡ Some p → (i < length ports) × (p ≡ get_or ports i p)
get_of [] i p h = absurd cc
get_of (x ∷ xs) zero p h = (omega arith, let e : x ≡ p = cc in sym e)
get_of (x ∷ xs) (suc i) p h = let b = get_of xs i p h in (omega (arith, b.0), b.1)

stands_there : (past : Past) (agent : AgentState) → Stands past agent → (i : ℕ) (p : PortState) → slice_get agent.ports i ≡ Some p
    → TableStands past.options.max_neighbors (calls_after past.options (past_of past i)) p.table
stands_there past agent h i p at =
    let b = get_of agent.ports i p at in
    let number = number_reads past agent h in
    table_reads past agent i p (omega (arith, b.0, number)) h (port_reads past agent i p h b.0 b.1).is

pub promised : (past : Past) (agent : AgentState) → Stands past agent → Promised past agent
promised past agent h =
    record { tables = λ i p at. holds_last_stored past.options (past_of past i) p.table (stands_there past agent h i p at) }

pub hold_last_stored : (past : Past) (agent : AgentState) → Stands past agent → HoldLastStored past agent
hold_last_stored past agent h =
    record { tables = λ i p at. holds_by_positions past.options (past_of past i) p.table (stands_there past agent h i p at) }

pub have_sent_exactly : (past : Past) (agent : AgentState) → Stands past agent → HaveSentExactly past
have_sent_exactly past agent h = record { ports = λ i lt. has_sent_exactly past.options (past_of past i) h.in_range }

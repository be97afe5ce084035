-- The counters of neighbors that age out and of frames that are dropped for lack of room.
use Rattle.std.proofs.Common.{◌≡◌, ◌≢◌, ℕ, suc, ◌+◌, ◌-◌, ◌≤◌, ◌%◌, ◌^◌, Bool, true, false, ◌⊎◌, inl, inr, List, ◌∷◌, length, filter, Option, Some, None, refl, ap, sym, ◌∙◌, subst, arith}
use Rattle.std.specs.Prelude.{◌==◌, ◌&&◌, not, nat_lt, if◌then◌else◌, slice_get, is_some, option_and_then}
use Rattle.std.specs.List.{cons_option, list_any}
use Rattle.std.specs.Option.{option_map}
use Rattle.std.proofs.lemmas.Bool.{and_parts}
use Rattle.std.proofs.lemmas.Bool.Decides.{nat_tests}
use Rattle.lldp_pdu.specs.Frame.{lldpdu_of}
use Rattle.lldp_pdu.specs.Lldpdu.{extent, ttl_of, msap_of}
use Rattle.lldp_pdu.specs.Msap.{MsapId}
use Rattle.lldp_table.specs.Events.{Call, learn, forget, purge, tick as tick_call, set_limit, TableEvent, learned, ticked, events_of, answer, aged_out, live, neighbors, limit_after}
use Rattle.lldp_table.specs.Contents.{Contents, is_named, holds_name}
use Rattle.lldp_table.specs.declared.learned.Learned.{Learned}
use Rattle.lldp_table.specs.declared.learned.Learned.TheVariants.{New, Refreshed, Dropped}
use Rattle.lldp_table.proofs.Live.Events.{answer_by, by_dropped, has-live}
use Rattle.lldp_table.proofs.Live.LastStored.{aged_out-count}
use Rattle.lldp_table.proofs.Standing.Calls.{arrived, events-more}
use Rattle.lldp_transmit.specs.declared.event.Mark.{Mark}
use Rattle.lldp_engine.specs.declared.port.status.Status.{Status}
use Rattle.lldp_engine.specs.declared.port.status.Status.TheVariants.{RxAndTx, RxOnly, TxOnly, Disabled}
use Rattle.lldp_engine.specs.declared.port.counters.Counters.{Counters}
use Rattle.lldp_engine.specs.Status.{receives}
use Rattle.lldp_engine.specs.Event as agent
use Rattle.lldp_engine.specs.Event.{Event}
use Rattle.lldp_engine.specs.Heard.{Heard, refused, leaves, tells, heard_of, heard_by}
use Rattle.lldp_engine.specs.Counters.{wrapped, is_dropped, all_aged_out, counters_of}
use Rattle.lldp_engine.specs.AgentState.{PortState}
use Rattle.lldp_engine.specs.Past.{Past, with_event, happened, past_of}
use Rattle.lldp_engine.specs.Laws.PortAt.{port_at}
use Rattle.lldp_engine.specs.Laws.LastSet.{IsLastStatus, IsLastLink}
use Rattle.lldp_engine.specs.Laws.Deaf.{HasStatus, Hears}
use Rattle.lldp_engine.specs.Laws.Tally.{Makes, CountsAgedOut, KeepsAgeouts, CountsDrop, KeepsDrops, KeepsReceived, HasNoRoom}
use Rattle.lldp_engine.specs.Port.Event.{PortEvent, frame, link, status, nothing, for_port}
use Rattle.lldp_engine.specs.Port.Effects.{heard_at, call_of, call_at}
use Rattle.lldp_engine.specs.Port.Past.{Happened, status_after, up_after, heard_after, calls_after, table_events_after, marks_after}
use Rattle.lldp_engine.proofs.OnePort.Allowed.{port_table}
use Rattle.lldp_engine.proofs.AllPorts.EachPort.{own_or_nothing}
use Rattle.lldp_engine.proofs.ForLaws.PortAt.{of_table}
use Rattle.lldp_engine.proofs.ForLaws.Tally.{counters_at, rises}
use Rattle.lldp_engine.proofs.ForLaws.LastSet.{status_is_last, link_is_last}
use Rattle.lldp_engine.proofs.OnePort.Heard.{heard_tells}
use Rattle.lldp_engine.proofs.ForLaws.Held.{by_heard, heard_cases}
use Rattle.lldp_engine.proofs.ForLaws.Deaf.{own_happened, hears_it, deaf}

-- ## What ages out or is dropped in one more call on a table

module _ (opened : ℕ) (calls : List Call) where
  abbrev past : List TableEvent
  past = events_of opened calls

  -- the table events after one more call, if there is a call
  abbrev pub with_call : Option Call → List TableEvent
  with_call call = events_of opened (cons_option call calls)

  -- If there is a call, no neighbor ages out in it.
  abbrev pub AgesNone : Option Call → Type 0
  AgesNone call = all_aged_out (with_call call) ≡ all_aged_out past

  -- If there is a call, no frame is dropped in it.
  abbrev pub DropsNone : Option Call → Type 0
  DropsNone call = length (filter is_dropped (with_call call)) ≡ length (filter is_dropped past)

  purge_ages_none : (b : Bool) → AgesNone (if b then Some purge else None)
  purge_ages_none true = ap all_aged_out (events-more opened purge calls) ∙ omega arith
  purge_ages_none false = refl

  limit_ages_none : (n : ℕ) → AgesNone (Some (set_limit n))
  limit_ages_none n = ap all_aged_out (events-more opened (set_limit n) calls) ∙ omega arith

  heard_ages_none : (h : Option Heard) → AgesNone (option_and_then call_of h)
  heard_ages_none None = refl
  heard_ages_none (Some refused) = refl
  heard_ages_none (Some (leaves name)) = ap all_aged_out (events-more opened (forget name) calls) ∙ omega arith
  heard_ages_none (Some (tells pdu)) = ap all_aged_out (events-more opened (learn (msap_of pdu) (ttl_of pdu) (extent pdu)) calls) ∙ omega arith

  tick_drops_none : DropsNone (Some tick_call)
  tick_drops_none = ap (λ es. length (filter is_dropped es)) (events-more opened tick_call calls)

  purge_drops_none : (b : Bool) → DropsNone (if b then Some purge else None)
  purge_drops_none true = ap (λ es. length (filter is_dropped es)) (events-more opened purge calls)
  purge_drops_none false = refl

  limit_drops_none : (n : ℕ) → DropsNone (Some (set_limit n))
  limit_drops_none n = ap (λ es. length (filter is_dropped es)) (events-more opened (set_limit n) calls)

  forget_drops_none : (name : MsapId) → DropsNone (Some (forget name))
  forget_drops_none name = ap (λ es. length (filter is_dropped es)) (events-more opened (forget name) calls)

  learn_drops : (name : MsapId) (ttl : ℕ) (octets : List ℕ) (a : Learned) → answer opened name past ≡ a → with_call (Some (learn name ttl octets)) ≡ learned name ttl octets a ∷ past
  learn_drops name ttl octets a e = events-more opened (learn name ttl octets) calls ∙ ap (λ (b : Learned). learned name ttl octets b ∷ past) e

  -- If the table is full, a frame with an unknown MSAP identifier is dropped.
  dropped_answer : (name : MsapId) → list_any (is_named name) (neighbors past) ≡ false → limit_after opened past ≤ length (neighbors past) → answer opened name past ≡ Dropped
  dropped_answer name held full =
      let no : is_some (live name past) ≡ false = sym (has-live past (arrived opened calls) name) ∙ held in
      let room : nat_lt (length (neighbors past)) (limit_after opened past) ≡ false = grind (arith, nat_tests) in
      ap (λ b. answer_by b (nat_lt (length (neighbors past)) (limit_after opened past))) no ∙ ap (answer_by false) room

  -- A frame is dropped only if its MSAP identifier is unknown and the table is full.
  answer_dropped : (name : MsapId) → answer opened name past ≡ Dropped → (list_any (is_named name) (neighbors past) ≡ false) × (limit_after opened past ≤ length (neighbors past))
  answer_dropped name e =
      let parts = by_dropped (is_some (live name past)) (nat_lt (length (neighbors past)) (limit_after opened past)) e in
      let room : nat_lt (length (neighbors past)) (limit_after opened past) ≡ false = parts.1 in
      (has-live past (arrived opened calls) name ∙ parts.0, grind (arith, nat_tests))

  pub drop_is_one : (name : MsapId) (ttl : ℕ) (octets : List ℕ) → answer opened name past ≡ Dropped → length (filter is_dropped (with_call (Some (learn name ttl octets)))) ≡ suc (length (filter is_dropped past))
  drop_is_one name ttl octets e = ap (λ es. length (filter is_dropped es)) (learn_drops name ttl octets Dropped e)

  stored_drops_none : (name : MsapId) (ttl : ℕ) (octets : List ℕ) (a : Learned) → answer opened name past ≡ a → a ≢ Dropped → DropsNone (Some (learn name ttl octets))
  stored_drops_none name ttl octets New e n = ap (λ es. length (filter is_dropped es)) (learn_drops name ttl octets New e)
  stored_drops_none name ttl octets Refreshed e n = ap (λ es. length (filter is_dropped es)) (learn_drops name ttl octets Refreshed e)
  stored_drops_none name ttl octets Dropped e n = absurd (n refl)

  pub tick_ages : wrapped (all_aged_out (with_call (Some tick_call))) ≡ (wrapped (all_aged_out past) + (length (neighbors past) - length (neighbors (with_call (Some tick_call))))) % 2 ^ 32
  tick_ages =
      let more : with_call (Some tick_call) ≡ ticked ∷ past = events-more opened tick_call calls in
      let fewer : length (neighbors past) - length (neighbors (ticked ∷ past)) ≡ aged_out past = omega (arith, aged_out-count past) in
      rw (more, fewer) (rises (all_aged_out past) (aged_out past))

one_rises : (n : ℕ) → wrapped (suc n) ≡ (wrapped n + 1) % 2 ^ 32
one_rises n = omega arith

-- ## What an event of the agent is for port i

-- the port event that port i gets from an event of the agent
abbrev own : Past → ℕ → Event → PortEvent
own _ i event = for_port i event

abbrev calls_of : Past → ℕ → List Call
calls_of past i = calls_after past.options (past_of past i)

-- the call on the table of port i at this event, if any
abbrev told_now : Past → ℕ → Event → Option Call
told_now past i event = call_at (own past i event) (status_after past.options (past_of past i)) (up_after (past_of past i))

ageouts_wrapped : (heard : List Heard) (events : List TableEvent) (marks : List Mark) → (counters_of heard events marks).ageouts ≡ wrapped (all_aged_out events)
unfolding counters_of
ageouts_wrapped heard events marks = refl

drops_wrapped : (heard : List Heard) (events : List TableEvent) (marks : List Mark) → (counters_of heard events marks).drops ≡ wrapped (length (filter is_dropped events))
unfolding counters_of
drops_wrapped heard events marks = refl

ageouts_at : (past : Past) (i : ℕ) (port : PortState) → port_at past i ≡ Some port → port.counters.ageouts ≡ wrapped (all_aged_out (events_of past.options.max_neighbors (calls_of past i)))
ageouts_at past i port e =
    let o = past.options in
    ap (λ (c : Counters). c.ageouts) (counters_at past i port e).1 ∙ ageouts_wrapped (heard_after o (past_of past i)) (table_events_after o (past_of past i)) (marks_after o (past_of past i))

drops_at : (past : Past) (i : ℕ) (port : PortState) → port_at past i ≡ Some port → port.counters.drops ≡ wrapped (length (filter is_dropped (events_of past.options.max_neighbors (calls_of past i))))
drops_at past i port e =
    let o = past.options in
    ap (λ (c : Counters). c.drops) (counters_at past i port e).1 ∙ drops_wrapped (heard_after o (past_of past i)) (table_events_after o (past_of past i)) (marks_after o (past_of past i))

one_table : (table there : Contents) (name : Option (List ℕ)) → Some there ≡ option_map (λ (n : List ℕ). table) name → there ≡ table
one_table table there None e = cc
one_table table there (Some name) e = cc

table_known : (past : Past) (i : ℕ) (port : PortState) → port_at past i ≡ Some port → port.table ≡ port_table past.options (past_of past i)
table_known past i port e =
    one_table (port_table past.options (past_of past i)) port.table (slice_get past.options.names i)
    (sym (ap (option_map (λ (p : PortState). p.table)) e) ∙ of_table (λ table. table) past i)

-- ## Neighbors that age out

pub aged_out_is_counted : (past : Past) (i : ℕ) → Makes past agent.tick i CountsAgedOut
aged_out_is_counted past i before after was now =
    let next = with_event past agent.tick in
    rw (ageouts_at next i after now, ageouts_at past i before was, table_known past i before was, table_known next i after now)
    (tick_ages past.options.max_neighbors (calls_of past i))

module _ (past : Past) (i : ℕ) where
  abbrev mx : ℕ
  mx = past.options.max_neighbors

  abbrev Ages : PortEvent → Type 0
  Ages event = AgesNone mx (calls_of past i) (call_at event (status_after past.options (past_of past i)) (up_after (past_of past i)))

  none_age : (event : Event) → event ≢ agent.tick → Ages (own past i event)
  none_age agent.tick other = absurd (other refl)
  none_age (agent.frame port octets) other =
      own_or_nothing Ages (port == i) (frame octets) (heard_ages_none mx (calls_of past i) (heard_by (status_after past.options (past_of past i)) (up_after (past_of past i)) octets)) refl
  none_age (agent.link port up) other = own_or_nothing Ages (port == i) (link up) refl refl
  none_age (agent.set (agent.status port given)) other =
      own_or_nothing Ages (port == i) (status given) (purge_ages_none mx (calls_of past i) (receives (status_after past.options (past_of past i)) && not (receives given))) refl
  none_age (agent.set (agent.limit n)) other = limit_ages_none mx (calls_of past i) n
  none_age (agent.set setting) other = refl

  pub others_age_none : (event : Event) → event ≢ agent.tick → Makes past event i KeepsAgeouts
  others_age_none event other before after was now =
      ageouts_at (with_event past event) i after now ∙ ap wrapped (none_age event other) ∙ sym (ageouts_at past i before was)

  -- ## Frames that are dropped for lack of room

  abbrev given : Status
  given = status_after past.options (past_of past i)

  abbrev up : Bool
  up = up_after (past_of past i)

  abbrev Drops : PortEvent → Type 0
  Drops event = DropsNone mx (calls_of past i) (call_at event given up)

  called : (octets : List ℕ) (h : Option Heard) → heard_by given up octets ≡ h → told_now past i (agent.frame i octets) ≡ option_and_then call_of h
  called octets h e = ap (λ (x : PortEvent). call_at x given up) (ap (λ (h : Happened). h.event) (own_happened (frame octets) i 0)) ∙ ap (option_and_then call_of) e

  pub drop_is_counted : (octets : List ℕ) → HasNoRoom past i octets → Makes past (agent.frame i octets) i CountsDrop
  drop_is_counted octets full before after was now =
      let pdu = full.lldpdu in
      let calls = calls_of past i in
      let heard : heard_by given up octets ≡ Some (tells pdu) = hears_it past i octets pdu full.hears full.has ∙ ap Some (heard_tells pdu (sym full.sound) full.lives) in
      let table = table_known past i full.port full.is in
      let other : list_any (is_named (msap_of pdu)) (neighbors (events_of mx calls)) ≡ false = subst (λ (t : Contents). holds_name t (msap_of pdu) ≡ false) table full.other in
      let most : limit_after mx (events_of mx calls) ≤ length (neighbors (events_of mx calls)) = subst (λ (t : Contents). t.limit ≤ length t.neighbors) table full.full in
      let one = drop_is_one mx calls (msap_of pdu) (ttl_of pdu) (extent pdu) (dropped_answer mx calls (msap_of pdu) other most) in
      drops_at (with_event past (agent.frame i octets)) i after now
      ∙ ap (λ (c : Option Call). wrapped (length (filter is_dropped (with_call mx calls c)))) (called octets (Some (tells pdu)) heard)
      ∙ ap wrapped one
      ∙ one_rises (length (filter is_dropped (events_of mx calls)))
      ∙ ap (λ n. (n + 1) % 2 ^ 32) (sym (drops_at past i before was))

  status_hears : (s : Status) → receives s ≡ true → IsLastStatus past.options i past.events s → HasStatus past i RxAndTx ⊎ HasStatus past i RxOnly
  status_hears RxAndTx r h = inl h
  status_hears RxOnly r h = inr h
  status_hears TxOnly r h = cc
  status_hears Disabled r h = cc

  hears_now : (receives given && up) ≡ true → Hears past i
  hears_now e =
      let parts = and_parts (receives given) up e in
      record {
        status = status_hears given parts.0 (status_is_last past.options i past.events);
        link = subst (λ b. IsLastLink i past.events b) parts.1 (link_is_last past.options i past.events);
      }

  told_drops_none : (octets pdu : List ℕ) → ¬ (HasNoRoom past i octets) → Hears past i → lldpdu_of octets ≡ Some pdu → (port : PortState) → port_at past i ≡ Some port
      → DropsNone mx (calls_of past i) (option_and_then call_of (Some (heard_of pdu)))
  told_drops_none octets pdu room hears has port is =
      heard_cases (λ h. DropsNone mx (calls_of past i) (option_and_then call_of (Some h))) pdu
      (λ fault f. refl)
      (λ f t. forget_drops_none mx (calls_of past i) (msap_of pdu))
      (λ f t. stored_drops_none mx (calls_of past i) (msap_of pdu) (ttl_of pdu) (extent pdu) (answer mx (msap_of pdu) (events_of mx (calls_of past i))) refl
      (λ e.
      let found = answer_dropped mx (calls_of past i) (msap_of pdu) e in
      let table = sym (table_known past i port is) in
      room (record {
        hears = hears;
        lldpdu = pdu;
        has = has;
        sound = f;
        lives = t;
        port = port;
        is = is;
        other = subst (λ (t : Contents). holds_name t (msap_of pdu) ≡ false) table found.0;
        full = subst (λ (t : Contents). t.limit ≤ length t.neighbors) table found.1;
      })))

  heard_drops_none : (octets : List ℕ) (b : Bool) → (receives given && up) ≡ b → ¬ (HasNoRoom past i octets) → (port : PortState) → port_at past i ≡ Some port
      → DropsNone mx (calls_of past i) (option_and_then call_of (heard_by given up octets))
  heard_drops_none octets false e room port is = subst (λ (h : Option Heard). DropsNone mx (calls_of past i) (option_and_then call_of h)) (sym (deaf given up octets e)) refl
  heard_drops_none octets true e room port is =
      by_heard (λ h. DropsNone mx (calls_of past i) (option_and_then call_of h)) given up octets refl
      (λ pdu has. told_drops_none octets pdu room (hears_now e) has port is)

  pub no_drop_is_counted : (octets : List ℕ) → ¬ (HasNoRoom past i octets) → Makes past (agent.frame i octets) i KeepsDrops
  no_drop_is_counted octets room before after was now =
      drops_at (with_event past (agent.frame i octets)) i after now
      ∙ ap (λ (c : Option Call). wrapped (length (filter is_dropped (with_call mx (calls_of past i) c)))) (called octets (heard_by given up octets) refl)
      ∙ ap wrapped (heard_drops_none octets (receives given && up) refl room before was)
      ∙ sym (drops_at past i before was)

  -- ## Events that are not frames received by the port

  -- At the event the port hears no LLDPDU and drops none.
  abbrev IsUnheard : PortEvent → Type 0
  IsUnheard event = (heard_at event given up ≡ None) × Drops event

  of_another : (port : ℕ) (octets : List ℕ) (b : Bool) → (port == i) ≡ b → ((others : List ℕ) → agent.frame port octets ≢ agent.frame i others) → IsUnheard (if b then frame octets else nothing)
  of_another port octets true e other = let same : port ≡ i = grind (arith, nat_tests) in absurd (other octets (ap (λ p. agent.frame p octets) same))
  of_another port octets false e other = (refl, refl)

  unheard : (event : Event) → ((octets : List ℕ) → event ≢ agent.frame i octets) → IsUnheard (own past i event)
  unheard agent.tick other = (refl, tick_drops_none mx (calls_of past i))
  unheard (agent.frame port octets) other = of_another port octets (port == i) refl other
  unheard (agent.link port now) other = own_or_nothing IsUnheard (port == i) (link now) (refl, refl) (refl, refl)
  unheard (agent.set (agent.status port next)) other =
      own_or_nothing IsUnheard (port == i) (status next) (refl, purge_drops_none mx (calls_of past i) (receives given && not (receives next))) (refl, refl)
  unheard (agent.set (agent.limit n)) other = (refl, limit_drops_none mx (calls_of past i) n)
  unheard (agent.set setting) other = (refl, refl)

  keeps : (heard : List Heard) (before after : List TableEvent) (sent marks : List Mark) (old new : PortState) → old.counters ≡ counters_of heard before sent → new.counters ≡ counters_of heard after marks
      → length (filter is_dropped after) ≡ length (filter is_dropped before) → KeepsReceived old new
  unfolding counters_of
  keeps heard before after sent marks old new e f d = record {
    received = ap (λ (c : Counters). c.received) f ∙ sym (ap (λ (c : Counters). c.received) e);
    discarded = ap (λ (c : Counters). c.discarded) f ∙ sym (ap (λ (c : Counters). c.discarded) e);
    errors = ap (λ (c : Counters). c.errors) f ∙ sym (ap (λ (c : Counters). c.errors) e);
    tlvs_discarded = ap (λ (c : Counters). c.tlvs_discarded) f ∙ sym (ap (λ (c : Counters). c.tlvs_discarded) e);
    unrecognized = ap (λ (c : Counters). c.unrecognized) f ∙ sym (ap (λ (c : Counters). c.unrecognized) e);
    drops = ap (λ (c : Counters). c.drops) f ∙ ap wrapped d ∙ sym (ap (λ (c : Counters). c.drops) e);
  }

  pub others_count_none : (event : Event) → ((octets : List ℕ) → event ≢ agent.frame i octets) → Makes past event i KeepsReceived
  others_count_none event other before after was now =
      let o = past.options in
      let old = past_of past i in
      let more : Happened = happened i event past.events in
      let quiet = unheard event other in
      keeps (heard_after o old) (table_events_after o old) (table_events_after o (more ∷ old)) (marks_after o old) (marks_after o (more ∷ old)) before after
      (counters_at past i before was).1
      ((counters_at (with_event past event) i after now).1
      ∙ ap (λ (h : Option Heard). counters_of (cons_option h (heard_after o old)) (table_events_after o (more ∷ old)) (marks_after o (more ∷ old))) quiet.0)
      quiet.1

pub ruleset ports_count_what_they_lose = (aged_out_is_counted, others_age_none, drop_is_counted, no_drop_is_counted, others_count_none)

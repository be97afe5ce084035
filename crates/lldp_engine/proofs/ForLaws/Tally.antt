-- How the counters of a port change with each event.
use Rattle.std.proofs.Common.{◌≡◌, ◌≢◌, ℕ, zero, suc, ◌+◌, ◌<◌, ◌%◌, ◌^◌, Bool, true, false, ◌⊎◌, inl, inr, List, [], ◌∷◌, length, filter, Option, Some, None, refl, ap, sym, ◌∙◌, subst, arith}
use Rattle.std.specs.Prelude.{if◌then◌else◌, slice_get, nat_lt}
use Rattle.std.specs.List.{cons_option, sum_by}
use Rattle.std.specs.Option.{option_map}
use Rattle.std.proofs.lemmas.Bool.Decides.{nat_tests}
use Rattle.std.proofs.lemmas.List.Sums.{sum_by-cons}
use Rattle.lldp_pdu.specs.declared.fault.PduFault.{PduFault}
use Rattle.lldp_pdu.specs.Frame.{lldpdu_of}
use Rattle.lldp_pdu.specs.Fault.{fault_of}
use Rattle.lldp_pdu.specs.Lldpdu.{ttl_of, msap_of}
use Rattle.lldp_pdu.specs.Kept.{discarded_of}
use Rattle.lldp_table.specs.Events.{TableEvent}
use Rattle.lldp_transmit.specs.declared.event.Mark.{Mark}
use Rattle.lldp_transmit.specs.declared.event.Mark.TheVariants.{Quiet, Ordinary, Shutdown}
use Rattle.lldp_engine.specs.declared.port.counters.Counters.{Counters}
use Rattle.lldp_engine.specs.Options.{Options}
use Rattle.lldp_engine.specs.Event as agent
use Rattle.lldp_engine.specs.Event.{Event}
use Rattle.lldp_engine.specs.Frames.{IsSent}
use Rattle.lldp_engine.specs.Heard.{Heard, refused, leaves, tells, heard_of}
use Rattle.lldp_engine.specs.Counters.{wrapped, is_refused, is_error, discarded_tlvs, unrecognized_tlvs, is_ordinary, is_shutdown, counters_of}
use Rattle.lldp_engine.specs.AgentState.{PortState}
use Rattle.lldp_engine.specs.Past.{Past, with_event, happened, past_of, port_past}
use Rattle.lldp_engine.specs.Laws.PortAt.{port_at, Sends}
use Rattle.lldp_engine.specs.Laws.Deaf.{Hears}
use Rattle.lldp_engine.specs.Laws.Tally.{AreMany, none, one_more, no_more, HasSent, HaveRisen, Adds, unknown_tlvs}
use Rattle.lldp_engine.specs.Port.Event.{frame}
use Rattle.lldp_engine.specs.Port.Past.{Happened, heard_after, table_events_after, mark_after, marks_after, counters_after, port_after}
use Rattle.lldp_engine.proofs.ForLaws.PortAt.{port_at_is}
use Rattle.lldp_engine.proofs.ForLaws.Marks.{sent_is, is_sent}
use Rattle.lldp_engine.proofs.OnePort.Heard.{heard_refused, heard_leaves, heard_tells}
use Rattle.lldp_engine.proofs.ForLaws.Deaf.{own_happened, hears_it}

-- ## The counters of a port

counters_of_after : (o : Options) (past : List Happened) (name : List ℕ) → (port_after o past name).counters ≡ counters_after o past
unfolding port_after
counters_of_after o past name = refl

within : {X : Type 0} (xs : List X) (i : ℕ) (x : X) → slice_get xs i ≡ Some x → i < length xs
within [] i x e = cc
within (y ∷ xs) zero x e = omega arith
within (y ∷ xs) (suc i) x e = omega (arith, within xs i x e)

port_known : (o : Options) (past : List Happened) (i : ℕ) (name : Option (List ℕ)) (port : PortState) → slice_get o.names i ≡ name → option_map (port_after o past) name ≡ Some port → (i < length o.names) × (port.counters ≡ counters_after o past)
port_known o past i None port at e = cc
port_known o past i (Some name) port at e =
    let is : port_after o past name ≡ port = cc in
    (within o.names i name at, ap (λ (p : PortState). p.counters) (sym is) ∙ counters_of_after o past name)

pub counters_at : (past : Past) (i : ℕ) (port : PortState) → port_at past i ≡ Some port → (i < length past.options.names) × (port.counters ≡ counters_after past.options (past_of past i))
counters_at past i port e = port_known past.options (past_of past i) i (slice_get past.options.names i) port refl (sym (port_at_is past i) ∙ e)

-- ## Frames that the port sent

module _ (wanted : Mark) (sent : IsSent wanted) (test : Mark → Bool) (decides : (mark : Mark) → ((mark ≡ wanted) × (test mark ≡ true)) ⊎ ((mark ≢ wanted) × (test mark ≡ false))) (o : Options) (i : ℕ) (exists : i < length o.names) where
  abbrev at : List Event → Past
  at events = record { options = o; events = events }

  abbrev Many : List Event → Type 0
  Many events = (n : ℕ) × AreMany (λ earlier. Sends (at earlier) i wanted) events n × (length (filter test (marks_after o (port_past i events))) ≡ n)

  many_more : (event : Event) (events : List Event) (mark : Mark) → mark_after o (port_past i (event ∷ events)) ≡ mark → ((mark ≡ wanted) × (test mark ≡ true)) ⊎ ((mark ≢ wanted) × (test mark ≡ false)) → Many events → Many (event ∷ events)
  many_more event events mark e (inl d) m =
      (suc m.0, one_more (is_sent (at (event ∷ events)) i wanted exists sent (e ∙ d.0)) m.1, rw (e, d.1) (ap suc m.2))
  many_more event events mark e (inr d) m =
      (m.0, no_more (λ h. d.0 (sym e ∙ (sent_is (at (event ∷ events)) i wanted h).2)) m.1, rw (e, d.1) m.2)

  many : (events : List Event) → Many events
  many [] = (0, none, refl)
  many (event ∷ events) = many_more event events (mark_after o (port_past i (event ∷ events))) refl (decides (mark_after o (port_past i (event ∷ events)))) (many events)

ordinary_or_not : (mark : Mark) → ((mark ≡ Ordinary) × (is_ordinary mark ≡ true)) ⊎ ((mark ≢ Ordinary) × (is_ordinary mark ≡ false))
ordinary_or_not Ordinary = inl (refl, refl)
ordinary_or_not Quiet = inr (λ e. cc, refl)
ordinary_or_not Shutdown = inr (λ e. cc, refl)

shutdown_or_not : (mark : Mark) → ((mark ≡ Shutdown) × (is_shutdown mark ≡ true)) ⊎ ((mark ≢ Shutdown) × (is_shutdown mark ≡ false))
shutdown_or_not Shutdown = inl (refl, refl)
shutdown_or_not Quiet = inr (λ e. cc, refl)
shutdown_or_not Ordinary = inr (λ e. cc, refl)

sent_wrapped : (heard : List Heard) (events : List TableEvent) (marks : List Mark) → (counters_of heard events marks).sent ≡ length (filter is_ordinary marks) % 2 ^ 32
unfolding counters_of
sent_wrapped heard events marks = refl

shutdowns_wrapped : (heard : List Heard) (events : List TableEvent) (marks : List Mark) → (counters_of heard events marks).shutdowns ≡ length (filter is_shutdown marks) % 2 ^ 32
unfolding counters_of
shutdowns_wrapped heard events marks = refl

pub sent_is_counted : (past : Past) (i : ℕ) (port : PortState) → port_at past i ≡ Some port → (n : ℕ) × HasSent past i Ordinary n × (port.counters.sent ≡ n % 2 ^ 32)
sent_is_counted past i port e =
    let o = past.options in
    let known = counters_at past i port e in
    let m = many Ordinary tt is_ordinary ordinary_or_not o i known.0 past.events in
    (m.0, m.1, ap (λ (c : Counters). c.sent) known.1 ∙ sent_wrapped (heard_after o (past_of past i)) (table_events_after o (past_of past i)) (marks_after o (past_of past i)) ∙ ap (λ n. n % 2 ^ 32) m.2)

pub shutdowns_are_counted : (past : Past) (i : ℕ) (port : PortState) → port_at past i ≡ Some port → (n : ℕ) × HasSent past i Shutdown n × (port.counters.shutdowns ≡ n % 2 ^ 32)
shutdowns_are_counted past i port e =
    let o = past.options in
    let known = counters_at past i port e in
    let m = many Shutdown tt is_shutdown shutdown_or_not o i known.0 past.events in
    (m.0, m.1, ap (λ (c : Counters). c.shutdowns) known.1 ∙ shutdowns_wrapped (heard_after o (past_of past i)) (table_events_after o (past_of past i)) (marks_after o (past_of past i)) ∙ ap (λ n. n % 2 ^ 32) m.2)

-- ## LLDPDUs that the port heard

abbrev one_if : Bool → ℕ
one_if b = if b then 1 else 0

pub rises : (n k : ℕ) → wrapped (k + n) ≡ (wrapped n + k) % 2 ^ 32
rises n k = omega arith

rises_if : (b : Bool) (h : Heard) (heard : List Heard) → wrapped (length (if b then h ∷ heard else heard)) ≡ (wrapped (length heard) + one_if b) % 2 ^ 32
rises_if true h heard = omega arith
rises_if false h heard = omega arith

sum_rises : (f : Heard → ℕ) (h : Heard) (heard : List Heard) → wrapped (sum_by f (h ∷ heard)) ≡ (wrapped (sum_by f heard) + f h) % 2 ^ 32
sum_rises f h heard = ap wrapped (sum_by-cons f h heard) ∙ rises (sum_by f heard) (f h)

risen : (h : Heard) (heard : List Heard) (before after : List TableEvent) (sent marks : List Mark)
    → HaveRisen (counters_of heard before sent) (counters_of (h ∷ heard) after marks) (one_if (is_refused h)) (one_if (is_error h)) (discarded_tlvs h) (unrecognized_tlvs h)
unfolding counters_of
risen h heard before after sent marks = record {
  received = omega arith;
  discarded = rises_if (is_refused h) h (filter is_refused heard);
  errors = rises_if (is_error h) h (filter is_error heard);
  tlvs_discarded = sum_rises discarded_tlvs h heard;
  unrecognized = sum_rises unrecognized_tlvs h heard;
}

module _ (past : Past) (i : ℕ) (octets pdu : List ℕ) (hears : Hears past i) (is : lldpdu_of octets ≡ Some pdu) where
  adds : (h : Heard) → heard_of pdu ≡ h → Adds past i octets (one_if (is_refused h)) (one_if (is_error h)) (discarded_tlvs h) (unrecognized_tlvs h)
  adds h e = λ before after was now.
      let o = past.options in
      let old = past_of past i in
      let event : Happened = happened i (agent.frame i octets) past.events in
      let came : Happened = record { event = frame octets; interval = event.interval } in
      let told = table_events_after o (came ∷ old) in
      let marks = marks_after o (came ∷ old) in
      let first : before.counters ≡ counters_of (heard_after o old) (table_events_after o old) (marks_after o old) = (counters_at past i before was).1 in
      let second : after.counters ≡ counters_of (h ∷ heard_after o old) told marks =
      (counters_at (with_event past (agent.frame i octets)) i after now).1
      ∙ ap (λ (x : Happened). counters_after o (x ∷ old)) (own_happened (frame octets) i event.interval)
      ∙ ap (λ (x : Option Heard). counters_of (cons_option x (heard_after o old)) told marks) (hears_it past i octets pdu hears is ∙ ap Some e) in
      rw (first, second) (risen h (heard_after o old) (table_events_after o old) told (marks_after o old) marks)

  pub refused_adds : (fault : PduFault) → fault_of pdu ≡ Some fault → Adds past i octets 1 1 0 0
  refused_adds fault f = adds refused (heard_refused pdu fault (sym f))

  pub leaves_adds : fault_of pdu ≡ None → ttl_of pdu ≡ 0 → Adds past i octets 0 0 0 0
  leaves_adds f t = adds (leaves (msap_of pdu)) (heard_leaves pdu (msap_of pdu) (sym f) t refl)

  tells_adds : fault_of pdu ≡ None → 0 < ttl_of pdu → Adds past i octets 0 (one_if (nat_lt 0 (discarded_of pdu))) (discarded_of pdu) (unknown_tlvs pdu)
  tells_adds f t = adds (tells pdu) (heard_tells pdu (sym f) t)

  pub whole_adds : fault_of pdu ≡ None → 0 < ttl_of pdu → discarded_of pdu ≡ 0 → Adds past i octets 0 0 0 (unknown_tlvs pdu)
  whole_adds f t d = subst (λ n. Adds past i octets 0 (one_if (nat_lt 0 n)) n (unknown_tlvs pdu)) d (tells_adds f t)

  pub faulty_adds : fault_of pdu ≡ None → 0 < ttl_of pdu → 0 < discarded_of pdu → Adds past i octets 0 1 (discarded_of pdu) (unknown_tlvs pdu)
  faulty_adds f t d =
      let some : nat_lt 0 (discarded_of pdu) ≡ true = grind (arith, nat_tests) in
      subst (λ b. Adds past i octets 0 (one_if b) (discarded_of pdu) (unknown_tlvs pdu)) some (tells_adds f t)

pub ruleset ports_count_what_they_sent = (sent_is_counted, shutdowns_are_counted)

use Rattle.std.proofs.Common.{◌≡◌, ℕ, zero, suc, ◌+◌, ◌-◌, ◌<◌, ◌≤◌, Bool, true, false, List, [], ◌∷◌, ◌++◌, map, drop, Some, None, refl, sym, ap, ◌∙◌, append_assoc, arith}
use Rattle.std.specs.Prelude.{if◌then◌else◌, length, codes, decimal, replicate, slice_get, slice_index}
use Rattle.std.specs.Option.{option_map}
use Rattle.std.proofs.lemmas.Bool.{lt-ltb, ltb-true, not-false, le-leb, ne_eqb}
use Rattle.std.proofs.lemmas.List.{length-replicate, get_or-replicate}
use Rattle.std.proofs.lemmas.Option.{slice_get_past, slice_get-map, slice_get-get_or, get_or_from_slice_get}
use Rattle.lldp_pdu.specs.declared.fields.Caps.{Caps}
use Rattle.lldp_pdu.specs.Tlv.{TlvUnit}
use Rattle.lldp_pdu.specs.Msap.{IsIdentifier}
use Rattle.lldp_pdu.specs.Kept.{IsKeptTlv}
use Rattle.lldp_pdu.specs.WellFormed.{is_well_formed}
use Rattle.lldp_pdu.specs.Capabilities.{caps_fields}
use Rattle.lldp_pdu.specs.ManagementAddress.{Address, address_fields}
use Rattle.lldp_engine.specs.declared.port.counters.Counters.{Counters}
use Rattle.lldp_engine.specs.declared.port.status.Status.{Status}
use Rattle.lldp_engine.specs.Keys.{port_key, neighbor_key, number_lines}
use Rattle.lldp_engine.specs.declared.port.status.Status.TheVariants.{RxAndTx, RxOnly, TxOnly, Disabled}
use Rattle.lldp_engine.specs.AgentState.{AgentState, PortState, names_of, name_of}
use Rattle.lldp_engine.specs.ConfigurationLines.{status_text, status_line}
use Rattle.lldp_engine.specs.declared.agent.options.Role.{Role}
use Rattle.lldp_engine.specs.declared.agent.options.Role.TheVariants.{Station, Bridge, Router}
use Rattle.lldp_engine.specs.Frames.{frame_of, capabilities_of}
use Rattle.lldpa_c.specs.Bodies.{caps_told, address_told}
use Rattle.lldpa_c.specs.Held.{neighbors_at}
use Rattle.lldpa_c.specs.Settings.{status_number}
use Rattle.lldpa_c.specs.Chassis.{role_number}
use Rattle.lldpa_c.specs.Values.{may_write}
use Rattle.lldpa_c.specs.Laws.Shown.{word_numbered, statuses_told, role_worded, counters_told}
use Rattle.lldpa_c.proofs.Holding.{held_at}
use Rattle.lldpa_c.proofs.laws.told_values_are_shown.Goals as goal
use Rattle.lldp_text.specs.Capabilities.{capabilities_text}

-- ---- statuses

word_is : (s : Status) → word_numbered (status_number s) ≡ status_text s
word_is RxAndTx = refl
word_is RxOnly = refl
word_is TxOnly = refl
word_is Disabled = refl

line_is : (port : PortState) → codes "configuration." ++ (port.name ++ (codes ".status=" ++ word_numbered (status_number port.status))) ≡ status_line port
line_is port =
    let moved = sym (append_assoc port.name (codes ".") (codes "status=" ++ word_numbered (status_number port.status))) in
    ap (λ rest. codes "configuration." ++ rest) moved ∙ ap (λ word. codes "configuration." ++ ((port.name ++ codes ".") ++ (codes "status=" ++ word))) (word_is port.status)

lines_are : (ports : List PortState) → statuses_told (map (λ port. port.name) ports) (map (λ port. status_number port.status) ports) ≡ map status_line ports
lines_are [] = refl
lines_are (port ∷ ports) = rw (line_is port, lines_are ports) refl

role_is : (role : Role) → role_worded (role_number role) ≡ capabilities_text (caps_fields (capabilities_of role))
role_is Station = refl
role_is Bridge = refl
role_is Router = refl

-- ---- the zeros behind the last port and behind a text

behind : {X : Type 0} (xs : List X) (n i : ℕ) → slice_get (drop n xs) i ≡ slice_get xs (n + i)
behind xs zero i = let at : i ≡ 0 + i = omega arith in ap (slice_get xs) at
behind [] (suc n) i = refl
behind (x ∷ xs) (suc n) i = let at : suc (n + i) ≡ suc n + i = omega arith in behind xs n i ∙ ap (slice_get (x ∷ xs)) at

zeros : (n i : ℕ) → i < n → slice_get {X = ℕ} (replicate n 0) i ≡ Some 0
zeros n i lt = let none : ℕ = 0 in slice_get-get_or (replicate n none) i none (omega (arith, lt, length-replicate n none)) ∙ ap Some (get_or-replicate n i none none lt)

zero_behind : (size : ℕ) (xs : List ℕ) (n i : ℕ) → drop n xs ≡ drop n (replicate size 0) → n ≤ i → i < size → slice_get xs i ≡ Some 0
zero_behind size xs n i e le lt =
    let at : n + (i - n) ≡ i = omega (arith, le) in
    ap (slice_get xs) (sym at) ∙ sym (behind xs n (i - n)) ∙ ap (λ ys. slice_get ys (i - n)) e ∙ behind (replicate size 0) n (i - n) ∙ ap (slice_get (replicate size 0)) at ∙ zeros size i lt

-- ---- names

named : (agent : AgentState) (i : ℕ) (port : PortState) → slice_get agent.ports i ≡ Some port → name_of agent i ≡ port.name
named agent i port e = get_or_from_slice_get (names_of agent) i port.name [] (slice_get-map (λ port. port.name) agent.ports i ∙ ap (option_map (λ port. port.name)) e)

some_is : {X : Type 0} (x y : X) → Some x ≡ Some y → x ≡ y
some_is x y h = cc

pub returns-clause-shown : goal.returns-clause-shown
returns-clause-shown c = record {
  settings = λ before after told_before told r.
      let t = r.right refl in
      rw (t.interval, t.hold, t.ttl, t.reinit, t.fast_init, t.credit_max, t.max_neighbors, t.status, lines_are before.held.agent.ports, t.ports) refl;
  others = λ before after told_before told i r le lt. let t = r.right refl in zero_behind 64 told.status told.ports i t.others (omega (arith, le, t.ports)) lt;
  chassis = λ before after told_before told r.
      let t = r.right refl in rw (t.mac, t.hostname, t.description, t.role, t.management, role_is before.held.agent.configuration.role) refl;
  behind = λ before after told_before told i r lt.
      let t = r.right refl in
      (λ le. zero_behind 255 told.hostname told.hostname_length i t.behind_hostname le lt, λ le. zero_behind 255 told.description told.description_length i t.behind_description le lt);
  unmanaged = λ before after told_before told r e. let t = r.right refl in t.none (sym t.management ∙ rw e refl);
  statistics = λ before after i port told_before told r e.
      ap (λ (c : Counters). number_lines (port_key port.name) (counters_told c)) (some_is _ _ (sym (ap (option_map (λ (p : PortState). p.counters)) e) ∙ r.right refl));
  counted = λ before after i count_before count port r e.
      let n : count ≡ length (neighbors_at before.held.agent i) = r.right refl in rw (n, e) refl;
  times = λ before after i index number name room_before room told_before told neighbor past r here stands.
      let t = r.right neighbor here refl in
      let h = held_at past before.held.agent i index neighbor stands here in (
        ap (λ n. Some (neighbor_key name number ++ (codes "ttl=" ++ decimal n))) (sym (t.pdu.ttl ∙ h.extent.ttl_is)),
        ap (λ n. Some (neighbor_key name number ++ (codes "expires=" ++ decimal n))) (sym t.left),
      );
}

pub returns-clause-ports : goal.returns-clause-ports
returns-clause-ports c = record {
  neighbors = λ agent i port e. rw e refl;
  nowhere = λ agent port h. rw (slice_get_past agent.ports port h) refl;
  frames = λ agent i port mark octets e w. w.are ∙ ap (λ name. frame_of agent.configuration name mark) (named agent i port e);
  ports = λ agent port. (λ h. ltb-true _ _ (not-false _ h), λ lt. rw (lt-ltb _ _ lt) refl);
}

-- ---- TLVs

identifiers_may : (body : List ℕ) → IsIdentifier body → (may_write 1 body ≡ true) × (may_write 2 body ≡ true)
unfolding is_well_formed
identifiers_may body h =
    rw (le-leb (length body) 511 (omega (arith, h.greatest)), le-leb 2 (length body) h.least, le-leb (length body) 256 h.greatest) (refl, refl)

kept_may : (tlv : TlvUnit) → IsKeptTlv tlv → may_write tlv.kind tlv.body ≡ true
kept_may tlv h =
    rw (le-leb 1 tlv.kind (omega (arith, h.least)), le-leb tlv.kind 127 h.greatest, ne_eqb tlv.kind 3 (λ e. absurd (omega (arith, e, h.least))), le-leb (length tlv.body) 511 (omega (arith, h.short)), h.well_formed) refl

pub returns-clause-lines : goal.returns-clause-lines
returns-clause-lines c = record {
  chassis = λ name number neighbor h. rw (identifiers_may neighbor.msap.chassis h).0 refl;
  port = λ name number neighbor h. rw (identifiers_may neighbor.msap.port h).1 refl;
  kept = λ key tlv h. rw (kept_may tlv h, ne_eqb tlv.kind 1 (λ e. absurd (omega (arith, e, h.least))), ne_eqb tlv.kind 2 (λ e. absurd (omega (arith, e, h.least)))) refl;
}

-- ---- the bodies of TLVs

there : {X : Type 0} (b : Bool) (fields told : X) → (if b then Some fields else None) ≡ Some told → told ≡ fields
there true fields told h = cc
there false fields told h = absurd cc

pub returns-clause-read : goal.returns-clause-read
returns-clause-read c = record {
  capabilities = λ body told h.
      let same = there _ (caps_fields body) (caps_told told) h in
      (ap (λ (x : Caps). x.available) same, ap (λ (x : Caps). x.enabled) same);
  management = λ body told h.
      let same = there _ (address_fields body (slice_index body 0)) (address_told body told) h in
      (ap (λ (x : Address). x.family) same, ap (λ (x : Address). x.numbering) same);
}

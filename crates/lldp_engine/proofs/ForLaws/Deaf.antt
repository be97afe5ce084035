-- Which ports ignore received frames, and which process them.
use Rattle.std.proofs.Common.{◌≡◌, ℕ, Bool, true, false, List, Option, Some, None, refl, ap, sym, ◌∙◌, arith, ◌⊎◌, inl, inr}
use Rattle.std.specs.Prelude.{◌==◌, ◌&&◌, if◌then◌else◌, option_and_then}
use Rattle.std.specs.Option.{option_map}
use Rattle.std.proofs.lemmas.Bool.{and_right}
use Rattle.std.proofs.lemmas.Bool.Decides.{nat_tests}
use Rattle.lldp_pdu.specs.Frame.{lldpdu_of}
use Rattle.lldp_engine.specs.declared.port.status.Status.{Status}
use Rattle.lldp_engine.specs.declared.port.status.Status.TheVariants.{RxAndTx, RxOnly, TxOnly, Disabled}
use Rattle.lldp_engine.specs.Options.{InRange}
use Rattle.lldp_engine.specs.Status.{receives}
use Rattle.lldp_engine.specs.Heard.{Heard, heard_of, heard_by}
use Rattle.lldp_engine.specs.Event as agent
use Rattle.lldp_engine.specs.Laws.LastSet.{IsLastLink}
use Rattle.lldp_engine.specs.Past.{Past, happened, past_of}
use Rattle.lldp_engine.specs.Laws.PortAt.{LeavesPort}
use Rattle.lldp_engine.specs.Laws.Deaf.{HasStatus, Hears}
use Rattle.lldp_engine.specs.Port.Event.{PortEvent, frame}
use Rattle.lldp_engine.specs.Port.Effects.{call_of, cause_of_heard}
use Rattle.lldp_engine.specs.Port.Past.{Happened, status_after, up_after}
use Rattle.lldp_engine.proofs.ForLaws.LastSet.{last_is_status, last_is_link}
use Rattle.lldp_engine.proofs.ForLaws.PortAt.{answers}
use Rattle.lldp_engine.proofs.ForLaws.Whose.{nothing_leaves}
use Rattle.lldp_engine.specs.Code.Whose.{one_port, of_port}

-- ## An event for the port itself

pub of_own : (event : PortEvent) (i : ℕ) → of_port i (one_port i event) ≡ event
of_own event i = let yes : (i == i) ≡ true = grind (arith, nat_tests) in rw yes refl

-- An event for port i reaches port i unchanged, with any tx-interval.
pub own_happened : (event : PortEvent) (i n : ℕ) → ◌≡◌ {A = Happened} (record { event = of_port i (one_port i event); interval = n }) (record { event = event; interval = n })
own_happened event i n = ap (λ (e : PortEvent). let h : Happened = record { event = e; interval = n } in h) (of_own event i)

-- ## Ports that ignore frames

-- the LLDPDU that port i hears in these octets after this past, if any
abbrev pub heard_now : Past → ℕ → List ℕ → Option Heard
heard_now past i octets = heard_by (status_after past.options (past_of past i)) (up_after (past_of past i)) octets

pub unheard_leaves : (past : Past) (i : ℕ) (octets : List ℕ) → InRange past.options → heard_now past i octets ≡ None → LeavesPort past (agent.frame i octets) i
unheard_leaves past i octets r e =
    let now = happened i (agent.frame i octets) past.events in
    nothing_leaves past (agent.frame i octets) i r
    (rw (of_own (frame octets) i) (record { status = refl; heard = e; call = ap (option_and_then call_of) e; cause = ap (cause_of_heard (answers past.options (past_of past i) now r)) e }))

pub deaf : (given : Status) (up : Bool) (octets : List ℕ) → (receives given && up) ≡ false → heard_by given up octets ≡ None
deaf given up octets e = rw e refl

module _ (past : Past) (i : ℕ) (octets : List ℕ) (r : InRange past.options) where
  abbrev given : Status
  given = status_after past.options (past_of past i)

  abbrev up : Bool
  up = up_after (past_of past i)

  pub tx_only_is_deaf : HasStatus past i TxOnly → LeavesPort past (agent.frame i octets) i
  tx_only_is_deaf h = unheard_leaves past i octets r (deaf given up octets (ap (λ (s : Status). receives s && up) (sym (last_is_status past.options i past.events TxOnly h))))

  pub disabled_is_deaf : HasStatus past i Disabled → LeavesPort past (agent.frame i octets) i
  disabled_is_deaf h = unheard_leaves past i octets r (deaf given up octets (ap (λ (s : Status). receives s && up) (sym (last_is_status past.options i past.events Disabled h))))

  pub down_is_deaf : IsLastLink i past.events false → LeavesPort past (agent.frame i octets) i
  down_is_deaf h = unheard_leaves past i octets r (deaf given up octets (ap (λ (b : Bool). receives given && b) (sym (last_is_link past.options i past.events false h)) ∙ and_right (receives given) false refl))

pub none_either_way : (b : Bool) (o : Option (List ℕ)) → o ≡ None → (if b then option_map heard_of o else None) ≡ None
none_either_way true o e = ap (option_map heard_of) e
none_either_way false o e = refl

-- ## Ports that process frames

receives_now : (now : Status) → (now ≡ RxAndTx) ⊎ (now ≡ RxOnly) → receives now ≡ true
receives_now now (inl e) = ap receives e
receives_now now (inr e) = ap receives e

given_is : (past : Past) (i : ℕ) → HasStatus past i RxAndTx ⊎ HasStatus past i RxOnly → (status_after past.options (past_of past i) ≡ RxAndTx) ⊎ (status_after past.options (past_of past i) ≡ RxOnly)
given_is past i (inl h) = inl (sym (last_is_status past.options i past.events RxAndTx h))
given_is past i (inr h) = inr (sym (last_is_status past.options i past.events RxOnly h))

hears_of : (given : Status) (up : Bool) (octets : List ℕ) → receives given ≡ true → up ≡ true → heard_by given up octets ≡ option_map heard_of (lldpdu_of octets)
hears_of given up octets r u = rw (r, u) refl

-- A port that can receive hears the LLDPDU in the octets.
pub hears_it : (past : Past) (i : ℕ) (octets pdu : List ℕ) → Hears past i → lldpdu_of octets ≡ Some pdu → heard_now past i octets ≡ Some (heard_of pdu)
hears_it past i octets pdu h e =
    hears_of (status_after past.options (past_of past i)) (up_after (past_of past i)) octets (receives_now (status_after past.options (past_of past i)) (given_is past i h.status)) (sym (last_is_link past.options i past.events true h.link))
    ∙ ap (option_map heard_of) e

-- Which ports may send.
use Rattle.std.proofs.Common.{arith, ◌≡◌, ℕ, Bool, true, false, ◌⊎◌, inl, inr, List, [], ◌∷◌, refl, ap, sym, ◌∙◌, subst}
use Rattle.std.specs.Prelude.{if◌then◌else◌, IsTrue}
use Rattle.std.proofs.lemmas.Bool.{and_parts, not-true, false≢true}
use Rattle.lldp_transmit.specs.declared.event.Mark.{Mark}
use Rattle.lldp_transmit.specs.declared.event.Mark.TheVariants.{Quiet, Ordinary, Shutdown}
use Rattle.lldp_transmit.specs.History.{Settings, Event as Caused, History}
use Rattle.lldp_transmit.specs.Moments.{Moment, moment, moments, is_active, is_allowed}
use Rattle.lldp_transmit.proofs.Counters.{is_active-cons}
use Rattle.lldp_transmit.proofs.Standing.{exact}
use Rattle.lldp_engine.specs.declared.port.status.Status.{Status}
use Rattle.lldp_engine.specs.declared.port.status.Status.TheVariants.{RxAndTx, RxOnly, TxOnly, Disabled}
use Rattle.lldp_engine.specs.Options.{Options}
use Rattle.lldp_engine.specs.Status.{transmits, status_at_opening}
use Rattle.lldp_engine.specs.Event.{Event, set, status}
use Rattle.lldp_engine.specs.Frames.{IsSent}
use Rattle.lldp_engine.specs.Laws.LastSet.{NoneSets}
use Rattle.lldp_engine.specs.Past.{Past, past_of, port_past}
use Rattle.lldp_engine.specs.Laws.PortAt.{Sends}
use Rattle.lldp_engine.specs.Laws.Deaf.{HasStatus}
use Rattle.lldp_engine.specs.Port.Past.{Happened, status_after, settings_of, caused_at, causes_after, mark_after}
use Rattle.lldp_engine.proofs.ForLaws.LastSet.{status_is_last, last_is_status}
use Rattle.lldp_engine.proofs.OnePort.Rights.{follows_status}
use Rattle.lldp_engine.proofs.ForLaws.Marks.{sent_is}
use Rattle.std.proofs.lemmas.Grind.{common_steps}

-- ## The history of one port

-- an active port may transmit
allowed_if_active : (s : Settings) (h : History) → is_active (moments s h) ≡ true → is_allowed s (moments s h) ≡ true
unfolding moment
allowed_if_active s [] a = cc
allowed_if_active s (e ∷ h) a = grind (arith, common_steps, is_active-cons)

-- Only an active port sends an ordinary frame.
active_if_sent : (s : Settings) (past : List Moment) (e : Caused) → (moment s past e).sent ≡ true → is_active (moment s past e ∷ past) ≡ true
unfolding moment
active_if_sent s past e sent = grind (arith, common_steps, is_active-cons, and_parts)

-- A port that stops was active and may no longer transmit.
stop_parts : (s : Settings) (past : List Moment) (e : Caused) → (moment s past e).stop ≡ true → (is_active past ≡ true) × (is_allowed s (moment s past e ∷ past) ≡ false)
unfolding moment
stop_parts s past e stop = grind (arith, common_steps, and_parts, not-true)

-- ## What a port may send with each status

module _ (o : Options) where
  right : (past : List Happened) → is_allowed (settings_of o) (moments (settings_of o) (causes_after o past)) ≡ transmits (status_after o past)
  right past = (follows_status o past).right

  pub ordinary_transmits : (past : List Happened) → mark_after o past ≡ Ordinary → transmits (status_after o past) ≡ true
  ordinary_transmits [] e = cc
  ordinary_transmits (now ∷ past) e =
      let s = settings_of o in
      let h = causes_after o past in
      let c = caused_at o now past in
      let sent = (exact s (moments s h) c (mark_after o (now ∷ past)) refl).0.0 e in
      sym (right (now ∷ past)) ∙ allowed_if_active s (c ∷ h) (active_if_sent s (moments s h) c sent)

  shutdown_stops : (now : Happened) (past : List Happened) → mark_after o (now ∷ past) ≡ Shutdown → (transmits (status_after o past) ≡ true) × (transmits (status_after o (now ∷ past)) ≡ false)
  shutdown_stops now past e =
      let s = settings_of o in
      let h = causes_after o past in
      let c = caused_at o now past in
      let stop = stop_parts s (moments s h) c ((exact s (moments s h) c (mark_after o (now ∷ past)) refl).1.0 e) in
      (sym (right past) ∙ allowed_if_active s h stop.0, sym (right (now ∷ past)) ∙ stop.1)

-- the statuses that let a port transmit, and those that do not
pub may_transmit : (given : Status) → transmits given ≡ true → (given ≡ RxAndTx) ⊎ (given ≡ TxOnly)
may_transmit RxAndTx e = inl refl
may_transmit TxOnly e = inr refl
may_transmit RxOnly e = cc e
may_transmit Disabled e = cc e

pub may_not_transmit : (given : Status) → transmits given ≡ false → (given ≡ RxOnly) ⊎ (given ≡ Disabled)
may_not_transmit RxAndTx e = cc e
may_not_transmit TxOnly e = cc e
may_not_transmit RxOnly e = inl refl
may_not_transmit Disabled e = inr refl

pub has_one : (past : Past) (i : ℕ) (one other : Status) → (status_after past.options (past_of past i) ≡ one) ⊎ (status_after past.options (past_of past i) ≡ other) → HasStatus past i one ⊎ HasStatus past i other
has_one past i one other (inl e) = inl (subst (HasStatus past i) e (status_is_last past.options i past.events))
has_one past i one other (inr e) = inr (subst (HasStatus past i) e (status_is_last past.options i past.events))

pub shutdown_leaves : (o : Options) (past : List Happened) → mark_after o past ≡ Shutdown → transmits (status_after o past) ≡ false
shutdown_leaves o [] e = cc
shutdown_leaves o (now ∷ past) e = (shutdown_stops o now past e).1

-- ## Ports opened as RxOnly

opened_right : (o : Options) (i : ℕ) (events : List Event) → IsTrue o.receive_only → NoneSets (λ given. set (status i given)) events → transmits (status_after o (port_past i events)) ≡ false
opened_right o i events only none =
    ap transmits (sym (last_is_status o i events (status_at_opening o) (inr (none, refl)))) ∙ ap (λ (b : Bool). transmits (if b then RxOnly else RxAndTx)) only

opened_silent : (o : Options) (i : ℕ) (events : List Event) (mark : Mark) → IsTrue o.receive_only → NoneSets (λ given. set (status i given)) events → mark_after o (port_past i events) ≡ mark → mark ≡ Quiet
opened_silent o i events Quiet only none e = refl
opened_silent o i events Ordinary only none e = absurd (false≢true (sym (opened_right o i events only none) ∙ ordinary_transmits o (port_past i events) e))
opened_silent o i [] Shutdown only none e = cc
opened_silent o i (event ∷ events) Shutdown only none e =
    absurd (false≢true (sym (opened_right o i events only (λ later earlier given e. none (event ∷ later) earlier given (ap (λ (l : List Event). event ∷ l) e))) ∙ (shutdown_stops o _ (port_past i events) e).0))

pub receive_only_is_silent : (past : Past) (i : ℕ) (mark : Mark) → IsTrue past.options.receive_only → NoneSets (λ given. set (status i given)) past.events → ¬ (Sends past i mark)
receive_only_is_silent past i mark only none h =
    let is = sent_is past i mark h in
    subst IsSent (opened_silent past.options i past.events mark only none is.2) is.1

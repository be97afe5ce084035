-- How the causes of events decide whether a port may transmit, its link is up, and it sends.
use Rattle.std.specs.Prelude.{◌≡◌, ℕ, ◌⊎◌, ◌↔◌, Bool, true, false, not, ◌&&◌, ◌||◌, IsTrue, List, [], ◌∷◌, ◌++◌, map}
use Rattle.std.proofs.Common.{refl, ap, sym, ◌∙◌, inl, inr, arith, subst}
use Rattle.lldp_transmit.specs.declared.event.Cause.{Cause}
use Rattle.lldp_transmit.specs.declared.event.Cause.TheVariants.{Tick, Change, Neighbor, Stop, Allow, Down, Up}
use Rattle.lldp_transmit.specs.declared.event.Mark.TheVariants.{Ordinary, Shutdown}
use Rattle.lldp_transmit.specs.History.{Settings, Event, History, event, is_tick, is_down}
use Rattle.lldp_transmit.specs.Moments.{moment, moments, mark_at, allowed_after, up_after, is_allowed, is_up, is_active, rested}
use Rattle.lldp_transmit.specs.Code.Machine.{Machine, stepped}
use Rattle.lldp_transmit.specs.Standing.{AreSettings, machine_of}
use Rattle.lldp_transmit.proofs.Activity.{active_reads, stop_reads}
use Rattle.lldp_transmit.specs.Fronts.{Position}
use Rattle.lldp_transmit.proofs.Splits.{newest, older}
use Rattle.lldp_transmit.proofs.Counters.{is_active-cons}
use Rattle.lldp_transmit.proofs.Sending.{sent_reads}
use Rattle.lldp_transmit.proofs.Standing.{allowed_if_active, exact, marks, stands_left}
use Rattle.std.proofs.lemmas.Bool.{true_from_ne_false}
use Rattle.std.proofs.lemmas.Grind.{common_steps}
use Rattle.lldp_transmit.specs.Laws.Causes.{HasCause, IsGiven, MayTransmit, IsLinked, CanSend, CanStop}

-- ---- states turned on and off

-- f turns a state on if c is `gives`, turns it off if c is `takes`, and else leaves it as it is
abbrev Reads : (Cause → Bool → Bool) → Cause → Cause → Cause → Type 0
Reads f gives takes c =
    ((c ≡ gives) × ((b : Bool) → f c b ≡ true))
    ⊎ (((c ≡ takes) × ((b : Bool) → f c b ≡ false)) ⊎ (¬ (c ≡ gives) × ¬ (c ≡ takes) × ((b : Bool) → f c b ≡ b)))

reads_allowed : (c : Cause) → Reads allowed_after Allow Stop c
reads_allowed Allow = inl (refl, λ b. refl)
reads_allowed Stop = inr (inl (refl, λ b. refl))
reads_allowed _ = inr (inr (λ p. cc p, λ p. cc p, λ b. refl))

reads_up : (c : Cause) → Reads up_after Up Down c
reads_up Up = inl (refl, λ b. refl)
reads_up Down = inr (inl (refl, λ b. refl))
reads_up _ = inr (inr (λ p. cc p, λ p. cc p, λ b. refl))

nowhere : {X : Type 0} (after before : List X) (x : X) → [] ≡ after ++ x ∷ before → ⊥
nowhere [] before x p = cc p
nowhere (y ∷ after) before x p = cc p

-- whether the state is on after these events
abbrev held : (Cause → Bool → Bool) → Bool → History → Bool
held f b [] = b
held f b (e ∷ h) = f e.cause (held f b h)

-- if a property holds at the newest position and at each older one, it holds at every position
by_position : (P : Event → History → Type 0) (e : Event) (h : History) → P e [] → ((q : Position h) → P q.there (e ∷ q.after)) → (p : Position (e ∷ h)) → P p.there p.after
by_position P e h first rest p = go p.after p.is
  where
    go : (after : History) → e ∷ h ≡ after ++ p.there ∷ p.before → P p.there after
    go [] q = let head : e ≡ p.there = cc in subst (λ x. P x []) head first
    go (x ∷ after) q =
        let head : e ≡ x = cc in
        subst (λ y. P p.there (y ∷ after)) head (rest (record { after = after; there = p.there; before = p.before; is = cc }))

later : (c : Cause) (e : Event) (h : History) → HasCause c h → HasCause c (e ∷ h)
later c e h g = (older e g.0, g.1)

-- if some event has the cause c, but not the newest, then an earlier event has it
earlier : (c : Cause) (e : Event) (h : History) → ¬ (e.cause ≡ c) → HasCause c (e ∷ h) → HasCause c h
earlier c e h n g = by_position (λ x after. x.cause ≡ c → HasCause c h) e h (λ q. absurd (n q)) (λ p q. (p, q)) g.0 g.1

module _ (f : Cause → Bool → Bool) (gives takes : Cause) (reads : (c : Cause) → Reads f gives takes c) (apart : gives ≡ takes → ⊥) (b : Bool) where
  is_given : (h : History) → held f b h ≡ true → IsGiven gives takes b h
  is_given [] p = record { since = λ w q. absurd (nowhere w.after w.before w.there w.is); once = λ q. cc }
  is_given (e ∷ h) p = go (reads e.cause) (is_given h)
    where
      go : Reads f gives takes e.cause → (held f b h ≡ true → IsGiven gives takes b h) → IsGiven gives takes b (e ∷ h)
      go (inl (c, y)) i =
          record {
            since = by_position (λ x after. x.cause ≡ takes → HasCause gives after) e h (λ q. absurd (apart (sym c ∙ q))) (λ w q. (newest e w.after, c));
            once = λ q. (newest e h, c);
          }
      go (inr (inl (c, y))) i = cc (y (held f b h), p)
      go (inr (inr (g, t, y))) i =
          let r = i (sym (y (held f b h)) ∙ p) in
          record {
            since = by_position (λ x after. x.cause ≡ takes → HasCause gives after) e h (λ q. absurd (t q)) (λ w q. later gives e w.after (r.since w q));
            once = λ q. later gives e h (r.once q);
          }

  is_held : (h : History) → IsGiven gives takes b h → held f b h ≡ true
  is_held [] g = true_from_ne_false b (λ q. let w = (g.once q).0 in nowhere w.after w.before w.there w.is)
  is_held (e ∷ h) g = go (reads e.cause) (is_held h)
    where
      go : Reads f gives takes e.cause → (IsGiven gives takes b h → held f b h ≡ true) → f e.cause (held f b h) ≡ true
      go (inl (c, y)) i = y (held f b h)
      go (inr (inl (c, y))) i = let w = (g.since (newest e h) c).0 in absurd (nowhere w.after w.before w.there w.is)
      go (inr (inr (n, t, y))) i =
          y (held f b h) ∙ i (record {
            since = λ w q. earlier gives e w.after n (g.since (older e w) q);
            once = λ q. earlier gives e h n (g.once q);
          })

  given_reads : (h : History) → (held f b h ≡ true) ↔ IsGiven gives takes b h
  given_reads h = (is_given h, is_held h)

-- ---- whether a port may transmit, and whether its link is up

allowed_held : (s : Settings) (h : History) → is_allowed s (moments s h) ≡ held allowed_after s.allowed h
unfolding moment
allowed_held s [] = refl
allowed_held s (e ∷ h) = ap (allowed_after e.cause) (allowed_held s h)

up_held : (s : Settings) (h : History) → is_up (moments s h) ≡ held up_after true h
unfolding moment
up_held s [] = refl
up_held s (e ∷ h) = ap (up_after e.cause) (up_held s h)

pub allowed_reads : (s : Settings) (h : History) → IsTrue (is_allowed s (moments s h)) ↔ MayTransmit s h
allowed_reads s h = rw (allowed_held s h) (given_reads allowed_after Allow Stop reads_allowed (λ q. cc) s.allowed h)

pub up_reads : (s : Settings) (h : History) → IsTrue (is_up (moments s h)) ↔ IsLinked h
up_reads s h = rw (up_held s h) (given_reads up_after Up Down reads_up (λ q. cc) true h)

-- ---- frames

-- the answer to an event is an ordinary frame only if the event has one of these causes
ordinary_cause : (t : Machine) (c : Cause) (n : ℕ) → (stepped t c n).1 ≡ Ordinary → (c ≡ Tick) ⊎ ((c ≡ Change) ⊎ (c ≡ Neighbor))
ordinary_cause t Tick n q = inl refl
ordinary_cause t Change n q = inr (inl refl)
ordinary_cause t Neighbor n q = inr (inr refl)
ordinary_cause t Stop n q = grind (arith, common_steps)
ordinary_cause t _ n q = cc q

-- after an event that starts the port or leaves it active, the link is up
up_at : (c : Cause) (x l u r : Bool) → (not ((x && not l) || is_down c) && ((is_tick c && (l && (up_after c u && (not x && r)))) || x)) ≡ true → (x ≡ true → u ≡ true) → up_after c u ≡ true
up_at Up x l u r e i = refl
up_at other x l u r e i = grind (arith, common_steps)

-- The link of an active port is up.
up_if_active : (s : Settings) (h : History) → is_active (moments s h) ≡ true → is_up (moments s h) ≡ true
unfolding moment
up_if_active s [] a = refl
up_if_active s (e ∷ h) a =
    let past = moments s h in
    let m = moment s past e in
    up_at e.cause (is_active past) (is_allowed s (m ∷ past)) (is_up past) (rested s past) (sym (is_active-cons m past) ∙ a) (up_if_active s h)

pub ordinary_reads : (s : Settings) (past : History) (e : Event) → AreSettings s → mark_at s (e ∷ past) ≡ Ordinary → CanSend s e past
ordinary_reads s past e r q =
    let due = ((sent_reads s past e r.some_credit).0 ((exact s (moments s past) e (mark_at s (e ∷ past)) refl).0.0 q)).0 in
    let active = (active_reads s (e ∷ past)).1 due.0 in
    record {
      cause = ordinary_cause (machine_of s past) e.cause e.interval (marks s past (machine_of s past) e (stands_left s past r) ∙ q);
      active = due.0;
      allowed = (allowed_reads s (e ∷ past)).0 (allowed_if_active s (e ∷ past) active);
      up = (up_reads s (e ∷ past)).0 (up_if_active s (e ∷ past) active);
    }

taken : (c : Cause) (b : Bool) → b ≡ true → allowed_after c b ≡ false → c ≡ Stop
taken Stop b p q = refl
taken _ b p q = cc (p, q)

pub shutdown_reads : (s : Settings) (past : History) (e : Event) → (mark_at s (e ∷ past) ≡ Shutdown) ↔ CanStop s e past
unfolding moment
shutdown_reads s past e = (forth, back)
  where
    read : (mark_at s (e ∷ past) ≡ Shutdown) ↔ IsTrue (moment s (moments s past) e).stop
    read = (exact s (moments s past) e (mark_at s (e ∷ past)) refl).1

    forth : mark_at s (e ∷ past) ≡ Shutdown → CanStop s e past
    forth q =
        let stop = (stop_reads s past e).0 (read.0 q) in
        record {
          cause = taken e.cause (is_allowed s (moments s past)) (allowed_if_active s past ((active_reads s past).1 stop.0)) stop.1;
          active = stop.0;
        }

    back : CanStop s e past → mark_at s (e ∷ past) ≡ Shutdown
    back k = read.1 ((stop_reads s past e).1 (k.active, ap (λ (c : Cause). allowed_after c (is_allowed s (moments s past))) k.cause))

-- ---- the events of the moments

pub events_kept : (s : Settings) (h : History) → map (λ m. event m.cause m.interval) (moments s h) ≡ h
unfolding moment
events_kept s [] = refl
events_kept s (e ∷ h) = ap (λ (l : History). e ∷ l) (events_kept s h)

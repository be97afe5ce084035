-- Bounds on a port's frames and stops, and earliest service: no frame is sent later than possible.
use Rattle.std.specs.Prelude.{◌≡◌, ℕ, ◌+◌, ◌/◌, ◌≤◌, Bool, IsTrue, ◌&&◌, List, [], ◌∷◌, ◌++◌}
use Rattle.lldp_transmit.specs.declared.event.Mark.{Mark}
use Rattle.lldp_transmit.specs.declared.event.Mark.TheVariants.{Ordinary, Shutdown}
use Rattle.lldp_transmit.specs.Fronts.{count, after_first}
use Rattle.lldp_transmit.specs.History.{Settings, Event, History}
use Rattle.lldp_transmit.specs.Moments.{Moment, moment, moments, ticks, frames, due, open_at}

-- ---- marks: another choice of the moments at which frames are sent

-- the moments with these marks as their labels `sent`; the other labels do not depend on `sent`
abbrev pub with_marks : List Bool → List Moment → List Moment
with_marks (b ∷ bs) (m ∷ ms) = record m { sent = b } ∷ with_marks bs ms
with_marks _ _ = []

-- there is one mark for each moment, and a mark is true only if a frame is due and the window is
-- open there, with the marks in place of the frames sent
abbrev pub AreTimely : Settings → List Bool → List Moment → Type 0
AreTimely s [] [] = Unit {0}
AreTimely s (b ∷ bs) (m ∷ ms) =
    (IsTrue b → IsTrue (due (with_marks bs ms) m && open_at s (with_marks bs ms) m)) × AreTimely s bs ms
AreTimely s _ _ = ⊥

-- how many of the marks are true
abbrev pub marked : List Bool → ℕ
marked marks = count (λ b. b) marks

-- ---- the three properties of a history

-- A run is a part of the history without gaps. Each run has at most txCreditMax ordinary frames
-- plus one for each tick after its first event.
abbrev pub IsBounded : Settings → History → Type 0
IsBounded s h =
    (later run before : List Moment) → moments s h ≡ later ++ (run ++ before) →
    frames run ≤ s.credit_max + ticks (after_first run)

-- Few stops: each run has at most one stop plus one for each reinitDelay ticks in it.
abbrev pub StopsRarely : Settings → History → Type 0
StopsRarely s h =
    (later run before : List Moment) → moments s h ≡ later ++ (run ++ before) →
    count (λ m. m.stop) run ≤ 1 + ticks run / s.reinit

-- Earliest service: no other choice of moments (`AreTimely`) has more frames up to now.
abbrev pub IsEarliest : Settings → History → Type 0
IsEarliest s h = (marks : List Bool) → AreTimely s marks (moments s h) → marked marks ≤ frames (moments s h)

-- Earliest service holds after each event so far.
abbrev pub IsAlwaysEarliest : Settings → History → Type 0
IsAlwaysEarliest s h = (later earlier : History) → h ≡ later ++ earlier → IsEarliest s earlier

-- all three properties hold, the last after each event of the history
pub record WindowsHold (s : Settings) (h : History) : Type 0 where
  pub bounded : IsBounded s h
  pub few_stops : StopsRarely s h
  pub earliest : IsAlwaysEarliest s h

-- ---- the three properties for one event, with the machine's answer to it

-- how many ordinary frames a run has, including the frame that the answer sends now
abbrev pub frames_with : Mark → List Moment → ℕ
frames_with Ordinary run = 1 + frames run
frames_with _ run = frames run

-- how many stops a run has, including the present one if the answer is a shutdown frame
abbrev pub stops_with : Mark → List Moment → ℕ
stops_with Shutdown run = 1 + count (λ m. m.stop) run
stops_with _ run = count (λ m. m.stop) run

-- with this answer each run that ends with the event has at most txCreditMax frames plus one for
-- each tick after its first event
abbrev pub IsBoundedWith : Settings → History → Event → Mark → Type 0
IsBoundedWith s past e answer =
    (run before : List Moment) → moments s past ≡ run ++ before →
    frames_with answer run ≤ s.credit_max + ticks (after_first (moment s (moments s past) e ∷ run))

-- with this answer each run that ends with the event has at most one stop plus one for each
-- reinitDelay ticks in it
abbrev pub StopsRarelyWith : Settings → History → Event → Mark → Type 0
StopsRarelyWith s past e answer =
    (run before : List Moment) → moments s past ≡ run ++ before →
    stops_with answer run ≤ 1 + ticks (moment s (moments s past) e ∷ run) / s.reinit

-- with this answer, no other choice of moments (`AreTimely`) has more frames up to this event
abbrev pub IsEarliestWith : Settings → History → Event → Mark → Type 0
IsEarliestWith s past e answer =
    (marks : List Bool) → AreTimely s marks (moments s (e ∷ past)) → marked marks ≤ frames_with answer (moments s past)

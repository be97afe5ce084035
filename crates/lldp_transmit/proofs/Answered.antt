-- The three window properties, for a history and for the machine's answer to its next event.
use Rattle.std.specs.Prelude.{◌≡◌, ◌+◌, ◌↔◌, Bool, true, false, cond, List, [], ◌∷◌}
use Rattle.std.proofs.Common.{ap, sym, arith, subst}
use Rattle.lldp_transmit.specs.declared.event.Mark.{Mark}
use Rattle.lldp_transmit.specs.declared.event.Mark.TheVariants.{Quiet, Ordinary, Shutdown}
use Rattle.lldp_transmit.specs.History.{Settings, Event, History}
use Rattle.lldp_transmit.specs.Moments.{Moment, moment, moments, frames, mark_at}
use Rattle.lldp_transmit.specs.Positions.{IsDueAndOpen, StopsAt, stops_in}
use Rattle.lldp_transmit.specs.Standing.{AreSettings}
use Rattle.lldp_transmit.specs.Windows.{WindowsHold, frames_with, stops_with, IsBoundedWith, StopsRarelyWith, IsEarliestWith}
use Rattle.lldp_transmit.proofs.Windows.{is_bounded, one_if}
use Rattle.lldp_transmit.proofs.Stops.{stops_rarely}
use Rattle.lldp_transmit.proofs.Earliest.{is_earliest}
use Rattle.lldp_transmit.proofs.Standing.{apart, exact}
use Rattle.lldp_transmit.proofs.Activity.{through, stop_reads}
use Rattle.lldp_transmit.proofs.Sending.{sent_reads}
use Rattle.std.proofs.lemmas.Grind.{common_steps}

-- The bounds on frames and stops, and earliest service, hold for every history.
pub windows_hold : (s : Settings) (h : History) → AreSettings s → WindowsHold s h
windows_hold s h r = grind (arith, common_steps, is_bounded, stops_rarely, is_earliest)

-- if the answer is the mark of a moment, it adds that moment's frame and stop to the counts
frames_marked : (x y : Bool) (run : List Moment) → (x ≡ true → y ≡ false) → frames_with (cond x Shutdown (cond y Ordinary Quiet)) run ≡ one_if y + frames run
frames_marked x y run a = grind (arith, common_steps)

stops_marked : (x y : Bool) (run : List Moment) → stops_with (cond x Shutdown (cond y Ordinary Quiet)) run ≡ one_if x + stops_in run
stops_marked x y run = grind (arith, common_steps)

module _ (s : Settings) (past : History) (e : Event) where
  frames_of_mark : (run : List Moment) → frames_with (mark_at s (e ∷ past)) run ≡ frames (moment s (moments s past) e ∷ run)
  frames_of_mark run = grind (arith, common_steps, frames_marked, apart)

  stops_of_mark : (run : List Moment) → stops_with (mark_at s (e ∷ past)) run ≡ stops_in (moment s (moments s past) e ∷ run)
  stops_of_mark run = grind (arith, common_steps, stops_marked)

  module _ (answer : Mark) (is : answer ≡ mark_at s (e ∷ past)) where
    pub bounded_with : AreSettings s → IsBoundedWith s past e answer
    bounded_with r = subst (IsBoundedWith s past e) (sym is)
        (λ run before i.
        let all = is_bounded s (e ∷ past) r.some_credit [] (moment s (moments s past) e ∷ run) before (ap (λ l. moment s (moments s past) e ∷ l) i) in
        omega (arith, all, frames_of_mark run))

    pub stops_rarely_with : AreSettings s → StopsRarelyWith s past e answer
    stops_rarely_with r = subst (StopsRarelyWith s past e) (sym is)
        (λ run before i.
        let all = stops_rarely s (e ∷ past) r.some_wait [] (moment s (moments s past) e ∷ run) before (ap (λ l. moment s (moments s past) e ∷ l) i) in
        omega (arith, all, stops_of_mark run))

    pub earliest_with : IsEarliestWith s past e answer
    earliest_with = subst (IsEarliestWith s past e) (sym is)
        (λ marks t. omega (arith, is_earliest s (e ∷ past) marks t, frames_of_mark (moments s past)))

    pub ordinary_with : AreSettings s → (answer ≡ Ordinary) ↔ IsDueAndOpen s past e
    ordinary_with r = through _ _ _ (exact s (moments s past) e answer is).0 (sent_reads s past e r.some_credit)

    pub shutdown_with : (answer ≡ Shutdown) ↔ StopsAt s past e
    shutdown_with = through _ _ _ (exact s (moments s past) e answer is).1 (stop_reads s past e)

-- Wrong answers, each of which a clause of `event` rules out.
use Rattle.std.specs.Prelude.{◌≡◌, ◌↔◌, true, [], ◌∷◌}
use Rattle.std.proofs.Common.{refl, arith}
use Rattle.lldp_transmit.specs.declared.event.Cause.TheVariants.{Tick, Change, Stop}
use Rattle.lldp_transmit.specs.declared.event.Mark.TheVariants.{Quiet, Ordinary, Shutdown}
use Rattle.lldp_transmit.specs.History.{Settings, settings, event}
use Rattle.lldp_transmit.specs.Moments.{moment, moments}
use Rattle.lldp_transmit.specs.Positions.{IsDueAndOpen, StopsAt}
use Rattle.lldp_transmit.specs.Windows.{IsBoundedWith, StopsRarelyWith, IsEarliestWith}
use Rattle.lldp_transmit.proofs.Activity.{stop_reads}
use Rattle.lldp_transmit.proofs.Sending.{sent_reads}

abbrev usual : Settings
usual = settings 5 4 2 true

-- The answer Quiet at the first tick, when the port starts, breaks `ordinary` and `earliest`.
quiet_is_not_sent : (Quiet ≡ Ordinary) ↔ IsDueAndOpen usual [] (event Tick 30) → ⊥
unfolding moment
quiet_is_not_sent clause =
    let sends : Quiet ≡ Ordinary = clause.1 ((sent_reads usual [] (event Tick 30) (omega arith)).0 refl) in
    cc sends

quiet_is_not_earliest : IsEarliestWith usual [] (event Tick 30) Quiet → ⊥
unfolding moment
quiet_is_not_earliest clause = omega (arith, clause (true ∷ []) (λ _. refl, tt))

-- With one credit, a second frame before the next tick breaks `bounded`.
second_frame_is_not_bounded : IsBoundedWith (settings 1 4 2 true) (event Tick 30 ∷ []) (event Change 30) Ordinary → ⊥
unfolding moment
second_frame_is_not_bounded clause = omega (arith, clause (moments (settings 1 4 2 true) (event Tick 30 ∷ [])) [] refl)

-- A second shutdown frame in the same second breaks `few_stops` and `shutdown`.
second_shutdown_is_not_rare : StopsRarelyWith usual (event Stop 30 ∷ event Tick 30 ∷ []) (event Stop 30) Shutdown → ⊥
unfolding moment
second_shutdown_is_not_rare clause = omega (arith, clause (moment usual (moments usual (event Tick 30 ∷ [])) (event Stop 30) ∷ []) (moments usual (event Tick 30 ∷ [])) refl)

second_shutdown_is_no_stop : (Shutdown ≡ Shutdown) ↔ StopsAt usual (event Stop 30 ∷ event Tick 30 ∷ []) (event Stop 30) → ⊥
unfolding moment
second_shutdown_is_no_stop clause = cc ((stop_reads usual (event Stop 30 ∷ event Tick 30 ∷ []) (event Stop 30)).1 (clause.0 refl))

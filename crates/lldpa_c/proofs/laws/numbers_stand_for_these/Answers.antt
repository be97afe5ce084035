use Rattle.std.proofs.Common.{◌≡◌, ℕ, zero, suc, [], ◌∷◌, refl, arith}
use Rattle.std.proofs.lemmas.Bool.{ne_eqb}
use Rattle.lldp_transmit.specs.declared.event.Cause.TheVariants as cause
use Rattle.lldp_transmit.specs.declared.event.Mark.TheVariants as mark
use Rattle.lldp_engine.specs.declared.agent.options.Role.TheVariants as role
use Rattle.lldp_engine.specs.declared.command.Show.TheVariants as shown
use Rattle.lldpa_c.specs.Machine.{cause_numbered}
use Rattle.lldpa_c.specs.Frame.{mark_numbered}
use Rattle.lldpa_c.specs.Command.{show_numbered}
use Rattle.lldpa_c.specs.Opening.{role_numbered}
use Rattle.lldpa_c.specs.Numbers.{item_numbered}
use Rattle.lldpa_c.proofs.laws.numbers_stand_for_these.Goals as goal

causes : (n : ℕ) → cause_numbered n ≡ item_numbered 0 (cause.Tick ∷ cause.Change ∷ cause.Neighbor ∷ cause.Stop ∷ cause.Allow ∷ cause.Down ∷ cause.Up ∷ cause.Nothing ∷ []) n
causes zero = refl
causes (suc zero) = refl
causes (suc (suc zero)) = refl
causes (suc (suc (suc zero))) = refl
causes (suc (suc (suc (suc zero)))) = refl
causes (suc (suc (suc (suc (suc zero))))) = refl
causes (suc (suc (suc (suc (suc (suc zero)))))) = refl
causes (suc (suc (suc (suc (suc (suc (suc zero))))))) = refl
causes (suc (suc (suc (suc (suc (suc (suc (suc n)))))))) = let m : ℕ = (suc (suc (suc (suc (suc (suc (suc (suc n)))))))) in rw (ne_eqb m 0 (λ h. absurd (omega (arith, h))), ne_eqb m 1 (λ h. absurd (omega (arith, h))), ne_eqb m 2 (λ h. absurd (omega (arith, h))), ne_eqb m 3 (λ h. absurd (omega (arith, h))), ne_eqb m 4 (λ h. absurd (omega (arith, h))), ne_eqb m 5 (λ h. absurd (omega (arith, h))), ne_eqb m 6 (λ h. absurd (omega (arith, h))), ne_eqb m 7 (λ h. absurd (omega (arith, h)))) refl

marks : (n : ℕ) → mark_numbered n ≡ item_numbered 1 (mark.Ordinary ∷ mark.Shutdown ∷ []) n
marks zero = refl
marks (suc zero) = refl
marks (suc (suc zero)) = refl
marks (suc (suc (suc n))) = let m : ℕ = (suc (suc (suc n))) in rw (ne_eqb m 1 (λ h. absurd (omega (arith, h))), ne_eqb m 2 (λ h. absurd (omega (arith, h)))) refl

shows : (n : ℕ) → show_numbered n ≡ item_numbered 1 (shown.Neighbors ∷ shown.Statistics ∷ shown.Chassis ∷ shown.Configuration ∷ []) n
shows zero = refl
shows (suc zero) = refl
shows (suc (suc zero)) = refl
shows (suc (suc (suc zero))) = refl
shows (suc (suc (suc (suc zero)))) = refl
shows (suc (suc (suc (suc (suc n))))) = let m : ℕ = (suc (suc (suc (suc (suc n))))) in rw (ne_eqb m 1 (λ h. absurd (omega (arith, h))), ne_eqb m 2 (λ h. absurd (omega (arith, h))), ne_eqb m 3 (λ h. absurd (omega (arith, h))), ne_eqb m 4 (λ h. absurd (omega (arith, h)))) refl

roles : (n : ℕ) → role_numbered n ≡ item_numbered 0 (role.Station ∷ role.Bridge ∷ role.Router ∷ []) n
roles zero = refl
roles (suc zero) = refl
roles (suc (suc zero)) = refl
roles (suc (suc (suc n))) = let m : ℕ = (suc (suc (suc n))) in rw (ne_eqb m 0 (λ h. absurd (omega (arith, h))), ne_eqb m 1 (λ h. absurd (omega (arith, h))), ne_eqb m 2 (λ h. absurd (omega (arith, h)))) refl

pub returns-clause-given : goal.returns-clause-given
returns-clause-given c = record { causes = causes; marks = marks; shows = shows; roles = roles }

pub returns-clause-told : goal.returns-clause-told
returns-clause-told c = record { marks = refl; shows = refl; pdu_faults = refl; build_faults = refl; refusals = refl; command_faults = refl; answers = refl; news = refl; statuses = refl; roles = refl; never = refl }

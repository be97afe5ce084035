-- With one flag for each of the types 4 to 7, the code keeps the same TLVs as the definition.
use Rattle.std.proofs.Common.{◌≡◌, ℕ, ◌+◌, Bool, true, false, cond, not, ◌&&◌, ◌||◌, eqb, List, [], ◌∷◌, length, refl, sym, ap, ◌∙◌, arith}
use Rattle.std.proofs.lemmas.Bool.{cases_eq, and_parts, leb-true, eq-eqb, ne_eqb, and_right, and_left, or_right, le-leb, true≢false}
use Rattle.std.proofs.Math.Bool.{or-false}
use Rattle.std.proofs.lemmas.List.{length-set, get_or-set_same, get_or-set_other}
use Rattle.lldp_pdu.specs.Tlv.{TlvUnit}
use Rattle.lldp_pdu.specs.WellFormed.{is_well_formed}
use Rattle.lldp_pdu.specs.Kept.{is_single, has_well_formed, is_kept, kept_after, others_after}
use Rattle.lldp_pdu.specs.Code.Seen.{Flags, none_seen, has_flag, with_flag, is_kept_seen, seen_after, kept_seen}
use Rattle.lldp_pdu.specs.Code.Survey.{count_lost}
use Rattle.std.proofs.lemmas.Grind.{common_steps}

-- ---- the flags of types

pub flags_none : Flags none_seen (λ kind. false)
flags_none = grind (arith, common_steps)

-- setting the flag of a type adds exactly this type to those for which `is_met` is true
pub flags_more : (seen : List Bool) (is_met : ℕ → Bool) (met : ℕ) → Flags seen is_met → Flags (with_flag seen met) (λ kind. is_met kind || eqb met kind)
unfolding with_flag
flags_more seen is_met met f = grind (arith, common_steps, ne_eqb, or-false, true≢false, le-leb, and_parts, leb-true, length-set, cases_eq, get_or-set_same, or_right, eq-eqb, get_or-set_other)

-- `has_flag` is true exactly if the type is 4 to 7 and `is_met` is true for it
pub flag_is : (seen : List Bool) (is_met : ℕ → Bool) (kind : ℕ) → Flags seen is_met → has_flag seen kind ≡ (is_single kind && is_met kind)
unfolding has_flag
flag_is seen is_met kind f = grind (arith, common_steps, and_parts, leb-true, and_left)

-- `Flags` also holds for any other test that agrees with `is_met` on every type
pub flags_as : (seen : List Bool) (is_met also : ℕ → Bool) → ((kind : ℕ) → is_met kind ≡ also kind) → Flags seen is_met → Flags seen also
flags_as seen is_met also e f = record { four = f.four; set = λ kind low high. f.set kind low high ∙ e kind }

-- ---- which TLVs are kept

-- the flags are set for exactly the types of the earlier well-formed TLVs
abbrev FlagsMet : List Bool → List TlvUnit → Type 0
FlagsMet seen earlier = Flags seen (λ kind. has_well_formed kind earlier)

flags_after : (seen : List Bool) (earlier : List TlvUnit) (u : TlvUnit) → FlagsMet seen earlier → FlagsMet (seen_after seen u) (u ∷ earlier)
flags_after seen earlier u f = go (is_well_formed u) refl
  where
    now : (kind : ℕ) → is_well_formed u ≡ true → (has_well_formed kind earlier || eqb u.kind kind) ≡ has_well_formed kind (u ∷ earlier)
    now kind e = rw e (turned (has_well_formed kind earlier) (eqb u.kind kind))
      where
        turned : (a b : Bool) → (a || b) ≡ ((b && true) || a)
        turned a true = or_right a true refl
        turned a false = or-false a

    go : (b : Bool) → is_well_formed u ≡ b → FlagsMet (cond b (with_flag seen u.kind) seen) (u ∷ earlier)
    go true e = flags_as (with_flag seen u.kind) _ _ (λ kind. now kind e) (flags_more seen (λ kind. has_well_formed kind earlier) u.kind f)
    go false e = flags_as seen _ _ (λ kind. sym (ap (λ (b : Bool). b || has_well_formed kind earlier) (and_right (eqb u.kind kind) (is_well_formed u) e))) f

-- with these flags, the code keeps a TLV exactly if the definition keeps it
kept_same : (seen : List Bool) (earlier : List TlvUnit) (u : TlvUnit) → FlagsMet seen earlier → is_kept_seen seen u ≡ is_kept earlier u
kept_same seen earlier u f = ap (λ (b : Bool). is_well_formed u && not b) (flag_is seen (λ kind. has_well_formed kind earlier) u.kind f)

kept_all : (seen : List Bool) (earlier us : List TlvUnit) → FlagsMet seen earlier → kept_seen seen us ≡ kept_after earlier us
kept_all seen earlier [] f = refl
kept_all seen earlier (u ∷ us) f = grind (arith, common_steps, flags_after, kept_same, kept_all (seen_after seen u) (u ∷ earlier) us (flags_after seen earlier u f))

pub kept_seen-none : (us : List TlvUnit) → kept_seen none_seen us ≡ kept_after [] us
kept_seen-none us = kept_all none_seen [] us flags_none

-- `count_lost` counts the TLVs that are not kept
lost_all : (seen : List Bool) (earlier us : List TlvUnit) → FlagsMet seen earlier → count_lost seen us ≡ length (others_after earlier us)
lost_all seen earlier [] f = refl
lost_all seen earlier (u ∷ us) f = grind (arith, common_steps, kept_same, flags_after, lost_all (seen_after seen u) (u ∷ earlier) us (flags_after seen earlier u f))

pub count_lost-none : (us : List TlvUnit) → count_lost none_seen us ≡ length (others_after [] us)
count_lost-none us = lost_all none_seen [] us flags_none

-- the numbers of kept TLVs and of the others add up to the number of all TLVs
pub kept_and_others : (earlier us : List TlvUnit) → length (kept_after earlier us) + length (others_after earlier us) ≡ length us
kept_and_others earlier [] = omega arith
kept_and_others earlier (u ∷ us) = grind (arith, common_steps, kept_and_others (u ∷ earlier) us)

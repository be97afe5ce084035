-- The text of capabilities grows by at most one name with each bit.
use Rattle.std.proofs.Common.{◌≡◌, ℕ, ◌+◌, ◌<◌, Bool, true, false, List, [], ◌∷◌, ◌++◌, length, get_or, take, map, refl, ◌∙◌, append-nil, zero-add, arith}
use Rattle.std.specs.List.{join_with_byte, filter, range_with_len}
use Rattle.std.proofs.lemmas.List.{map-append, length-map, length-append}
use Rattle.std.proofs.lemmas.List.Elements.{filter_more}
use Rattle.std.proofs.lemmas.List.FromFn.{get_or-range_with_len}
use Rattle.lldp_text.specs.Text.{separator}
use Rattle.lldp_text.proofs.TextJoined.{join_push, grown}
use Rattle.std.proofs.lemmas.Grind.{common_steps}

-- the bits 0 to 15
abbrev pub capability_bits : List ℕ
capability_bits = range_with_len 0 16

bit_is : (i : ℕ) → i < 16 → get_or capability_bits i 0 ≡ i
bit_is i h = get_or-range_with_len 0 16 i 0 h ∙ zero-add i

set_more : (p : ℕ → Bool) (i : ℕ) → i < 16 → p i ≡ true → filter p (take (i + 1) capability_bits) ≡ filter p (take i capability_bits) ++ i ∷ []
set_more p i h e = filter_more p capability_bits i 0 h ∙ rw (bit_is i h, e) refl

unset_more : (p : ℕ → Bool) (i : ℕ) → i < 16 → p i ≡ false → filter p (take (i + 1) capability_bits) ≡ filter p (take i capability_bits)
unset_more p i h e = filter_more p capability_bits i 0 h ∙ rw (bit_is i h, e) (append-nil (filter p (take i capability_bits)))

-- the capabilities of the bits below i have been added to `old`, and `written` is their number
pub record Written (p : ℕ → Bool) (f : ℕ → List ℕ) (old line : List ℕ) (written i : ℕ) : Type 0 where
  pub line_is : line ≡ old ++ join_with_byte 44 (map f (filter p (take i capability_bits)))
  pub written_is : written ≡ length (filter p (take i capability_bits))

pub one_set : (p : ℕ → Bool) (f : ℕ → List ℕ) (old cur mid new : List ℕ) (written written' i : ℕ) → i < 16 → p i ≡ true → Written p f old cur written i
    → mid ≡ cur ++ separator 44 written → new ≡ mid ++ f i → written' ≡ written + 1 → Written p f old new written' (i + 1)
one_set p f old cur mid new written written' i h e w a b n = grind (arith, common_steps, set_more, length-map, map-append, join_push, grown, length-append)

pub one_unset : (p : ℕ → Bool) (f : ℕ → List ℕ) (old cur new : List ℕ) (written written' i : ℕ) → i < 16 → p i ≡ false → Written p f old cur written i
    → new ≡ cur → written' ≡ written → Written p f old new written' (i + 1)
one_unset p f old cur new written written' i h e w a n = grind (arith, common_steps, unset_more)

-- Opening reports the fault of the first check that fails.
use Rattle.std.proofs.Common.{◌≡◌, ℕ, zero, suc, ◌<◌, ◌≤◌, ◌==◌, ◌&&◌, Bool, true, false, not, List, [], ◌∷◌, length, get_or, Option, Some, None, refl, sym, ap, ◌∙◌, subst, arith, inl, inr}
use Rattle.std.specs.Prelude.{◌≢◌, nat_le, nat_lt, if◌then◌else◌}
use Rattle.std.specs.Bool.{Decides}
use Rattle.std.specs.List.{All, AllPairs, list_all, list_any}
use Rattle.std.specs.Str.{bytes_eq}
use Rattle.std.proofs.lemmas.Bool.{and_parts, and_from, or_parts, or_from, both_ways, false_from_ne_true, cases_order, not-true, not-false}
use Rattle.std.proofs.lemmas.Bool.Decides.{nat_tests, Decides-by_and}
use Rattle.std.proofs.lemmas.List.Folds.{list_any_at, Any-from_list_any}
use Rattle.std.proofs.lemmas.List.Sums.{AllPass-from_list_all, list_all-from_AllPass}
use Rattle.std.proofs.lemmas.Slice.Eq.{bytes_eq-Decides}
use Rattle.lldp_engine.specs.declared.agent.open_fault.OpenFault.{OpenFault}
use Rattle.lldp_engine.specs.declared.agent.open_fault.OpenFault.TheVariants.{Memory, NoPorts, TooManyPorts, PortName, SamePort, Text}
use Rattle.lldp_engine.specs.Options.{Options, is_name_octet, is_port_name, has_same, checks, fault_of, IsRefusal}
use Rattle.lldp_pdu.specs.Check.{Check, first_fault}
use Rattle.lldp_text.specs.Text.{is_text}
use Rattle.lldp_engine.specs.FixedNumbers.{number_of_refusal}
use Rattle.lldp_engine.specs.Laws.Opening.{IsName, IsText, Passes, IsFirstFault, Refuses}

-- ## A Boolean test for each check

names_decided : (name : List ℕ) → Decides (is_port_name name) (IsName name)
names_decided name = (
  λ h.
      let a = and_parts (nat_lt 0 (length name)) (nat_le (length name) 15 && list_all is_name_octet name) h in
      let b = and_parts (nat_le (length name) 15) (list_all is_name_octet name) a.1 in
      let some : nat_lt 0 (length name) ≡ true = a.0 in
      let short : nat_le (length name) 15 ≡ true = b.0 in
      record { some = grind (arith, nat_tests); short = grind (arith, nat_tests); octets = AllPass-from_list_all is_name_octet name b.1 },
  λ n.
      let some : 1 ≤ length name = n.some in
      let short : length name ≤ 15 = n.short in
      let t : nat_lt 0 (length name) ≡ true = grind (arith, nat_tests) in
      let u : nat_le (length name) 15 ≡ true = grind (arith, nat_tests) in
      and_from _ _ t (and_from _ _ u (list_all-from_AllPass is_name_octet name n.octets)),
)

octet_decided : (c : ℕ) → Decides (nat_le 32 c && nat_le c 126) ((32 ≤ c) × (c ≤ 126))
octet_decided c = (λ h. grind (arith, nat_tests), λ h. grind (arith, nat_tests))

octets_decided : (text : List ℕ) → Decides (list_all (λ c. nat_le 32 c && nat_le c 126) text) (All (λ c. (32 ≤ c) × (c ≤ 126)) text)
octets_decided text = Decides-by_and (λ c. nat_le 32 c && nat_le c 126) (λ c. (32 ≤ c) × (c ≤ 126)) (list_all (λ c. nat_le 32 c && nat_le c 126)) octet_decided refl (λ _ _. refl) text

text_decided : (text : List ℕ) → Decides (is_text text) (IsText text)
text_decided text = (
  λ h.
      let a = and_parts (nat_le (length text) 255) (list_all (λ c. nat_le 32 c && nat_le c 126) text) h in
      let short : nat_le (length text) 255 ≡ true = a.0 in
      record { short = grind (arith, nat_tests); octets = (octets_decided text).0 a.1 },
  λ t.
      let short : length text ≤ 255 = t.short in
      let u : nat_le (length text) 255 ≡ true = grind (arith, nat_tests) in
      and_from _ _ u ((octets_decided text).1 t.octets),
)

named_decided : (names : List (List ℕ)) → Decides (list_all is_port_name names) (All IsName names)
named_decided names = Decides-by_and is_port_name IsName (list_all is_port_name) names_decided refl (λ _ _. refl) names

apart : (names : List (List ℕ)) → has_same names ≡ false → AllPairs (λ name other. name ≢ other) names
apart [] h i j d lt below = absurd (omega arith)
apart (name ∷ names) h zero zero d lt below = absurd (omega arith)
apart (name ∷ names) h (suc i) zero d lt below = absurd (omega arith)
apart (name ∷ names) h zero (suc j) d lt below =
    let parts = or_parts (list_any (λ other. bytes_eq other name) names) (has_same names) h in
    λ e. both_ways (list_any (λ other. bytes_eq other name) names) parts.0 (list_any_at (λ other. bytes_eq other name) names j d (omega arith) ((bytes_eq-Decides (get_or names j d) name).1 (sym e)))
apart (name ∷ names) h (suc i) (suc j) d lt below =
    let parts = or_parts (list_any (λ other. bytes_eq other name) names) (has_same names) h in
    apart names parts.1 i j d (omega arith) (omega arith)

-- If all names differ, the first name does not occur among the others.
not_apart : (name : List ℕ) (names : List (List ℕ)) → AllPairs (λ a b. a ≢ b) (name ∷ names) → list_any (λ other. bytes_eq other name) names ≡ true → ⊥
not_apart name names apart_all h =
    let again = Any-from_list_any (λ other. bytes_eq other name) names h in
    apart_all 0 (suc again.0) again.1 (omega arith) (let lt = again.2 in omega arith)
    (sym ((bytes_eq-Decides (get_or names again.0 again.1) name).0 (ap (λ x. bytes_eq x name) again.3 ∙ again.4)))

none_same : (names : List (List ℕ)) → AllPairs (λ a b. a ≢ b) names → has_same names ≡ false
none_same [] h = refl
none_same (name ∷ names) h = or_from _ _ (false_from_ne_true _ (not_apart name names h)) (none_same names (λ i j d lt below. h (suc i) (suc j) d (omega arith) (omega arith)))

-- ## The numbers of the faults

-- the fault with this number
fault_at : ℕ → OpenFault
fault_at n =
    if n == 1 then Memory
    else if n == 2 then NoPorts
    else if n == 3 then TooManyPorts
    else if n == 4 then PortName
    else if n == 5 then SamePort
    else Text

numbered : (f : OpenFault) → fault_at (number_of_refusal f) ≡ f
unfolding fault_at
numbered Memory = refl
numbered fault = refl

at_most_6 : (f : OpenFault) → number_of_refusal f ≤ 6
at_most_6 Memory = omega arith
at_most_6 fault = omega arith

-- ## The tests determine the first fault

-- The test is true exactly if the check fails.
record Tests (failed : Bool) (P : Type 0) : Type 0 where
  fails : failed ≡ true → P → ⊥
  passes : failed ≡ false → P

-- Each check has a test, and the faults of the checks are numbered from n to 6.
abbrev AreTests : Options → ℕ → List (Check OpenFault) → Type 0
AreTests o n [] = 6 < n
AreTests o n (c ∷ cs) = (number_of_refusal c.fault ≡ n) × (Tests c.fails (Passes o c.fault) × AreTests o (suc n) cs)

-- The options pass each check with a number below n.
abbrev PassedBelow : Options → ℕ → Type 0
PassedBelow o n = (f : OpenFault) → number_of_refusal f < n → Passes o f

same_number : (f g : OpenFault) → number_of_refusal f ≡ number_of_refusal g → f ≡ g
same_number f g same = sym (numbered f) ∙ ap fault_at same ∙ numbered g

one_more : (o : Options) (n : ℕ) (g : OpenFault) → number_of_refusal g ≡ n → Passes o g → PassedBelow o n → PassedBelow o (suc n)
one_more o n g e p below f lt =
    elim (cases_order (number_of_refusal g) (number_of_refusal f)) [
      | inl same ↦ subst (Passes o) (same_number g f same) p
      | inr differ ↦ elim differ [ inl above ↦ absurd (omega (arith, e, lt, above)) | inr before ↦ below f (omega (arith, e, before)) ]
    ]

same_fault : (f g : OpenFault) → Some f ≡ Some g → f ≡ g
same_fault f g h = cc

first_or : (o : Options) (n : ℕ) (g : OpenFault) (b : Bool) (others : Option OpenFault) → number_of_refusal g ≡ n → Tests b (Passes o g) → PassedBelow o n
    → (f : OpenFault) → (PassedBelow o (suc n) → others ≡ Some f → IsFirstFault o f) → (if b then Some g else others) ≡ Some f → IsFirstFault o f
first_or o n g true others e t below f rest h =
    subst (IsFirstFault o) (same_fault g f h) (record { fails = t.fails refl; first = λ other lt. below other (omega (arith, e, lt)) })
first_or o n g false others e t below f rest h = rest (one_more o n g e (t.passes refl) below) h

told : (o : Options) (n : ℕ) (cs : List (Check OpenFault)) → AreTests o n cs → PassedBelow o n → (f : OpenFault) → first_fault cs ≡ Some f → IsFirstFault o f
told o n [] t below f h = cc
told o n (c ∷ cs) t below f h = first_or o n c.fault c.fails (first_fault cs) t.0 t.1.0 below f (λ b e. told o (suc n) cs t.1.1 b f e) h

passed_or : (o : Options) (n : ℕ) (g : OpenFault) (b : Bool) (others : Option OpenFault) → number_of_refusal g ≡ n → Tests b (Passes o g) → PassedBelow o n
    → (f : OpenFault) → (PassedBelow o (suc n) → others ≡ None → Passes o f) → (if b then Some g else others) ≡ None → Passes o f
passed_or o n g true others e t below f rest h = cc
passed_or o n g false others e t below f rest h = rest (one_more o n g e (t.passes refl) below) h

all_passed : (o : Options) (n : ℕ) (cs : List (Check OpenFault)) → AreTests o n cs → PassedBelow o n → first_fault cs ≡ None → (f : OpenFault) → Passes o f
all_passed o n [] t below h f = below f (omega (arith, t, at_most_6 f))
all_passed o n (c ∷ cs) t below h f = passed_or o n c.fault c.fails (first_fault cs) t.0 t.1.0 below f (λ b e. all_passed o (suc n) cs t.1.1 b e f) h

-- Options have at most one first fault.
one_first : (o : Options) (f g : OpenFault) → IsFirstFault o f → IsFirstFault o g → f ≡ g
one_first o f g hf hg =
    elim (cases_order (number_of_refusal f) (number_of_refusal g)) [
      | inl same ↦ same_number f g same
      | inr differ ↦ elim differ [ inl below ↦ absurd (hf.fails (hg.first f below)) | inr above ↦ absurd (hg.fails (hf.first g above)) ]
    ]

-- ## The first fault of options

negated : {P : Type 0} (b : Bool) → Decides b P → Tests (not b) P
negated b d = record { fails = λ h p. both_ways b (not-true b h) (d.1 p); passes = λ h. d.0 (not-false b h) }

fault_tests : (o : Options) → AreTests o 2 (checks o)
fault_tests o =
    let ports : Tests (length o.names == 0) (Passes o NoPorts) = record { fails = λ h p. grind (arith, nat_tests); passes = λ h. grind (arith, nat_tests) } in
    let few : Tests (nat_lt 64 (length o.names)) (Passes o TooManyPorts) = record { fails = λ h p. grind (arith, nat_tests); passes = λ h. grind (arith, nat_tests) } in
    let differ : Tests (has_same o.names) (Passes o SamePort) = record { fails = λ h p. both_ways (has_same o.names) (none_same o.names p) h; passes = apart o.names } in
    (refl, (ports, (refl, (few, (refl, (negated (list_all is_port_name o.names) (named_decided o.names), (refl, (differ, (refl, (negated (is_text o.hostname) (text_decided o.hostname), omega arith))))))))))

-- No check with a number below 2 fails: number 1 is lack of memory, which is not a check.
none_below : (o : Options) → PassedBelow o 2
none_below o Memory lt = tt
none_below o fault lt = absurd (omega arith)

pub fault_is_first : (o : Options) (f : OpenFault) → fault_of o ≡ Some f → IsFirstFault o f
fault_is_first o f h = told o 2 (checks o) (fault_tests o) (none_below o) f h

pub none_fails : (o : Options) → fault_of o ≡ None → (f : OpenFault) → Passes o f
none_fails o h = all_passed o 2 (checks o) (fault_tests o) (none_below o) h

the_first : (o : Options) (f : OpenFault) → IsFirstFault o f → (r : Option OpenFault) → fault_of o ≡ r → r ≡ Some f
the_first o f h None e = absurd (h.fails (none_fails o e f))
the_first o f h (Some g) e = ap Some (one_first o g f (fault_is_first o g e) h)

pub first_is_fault : (o : Options) (f : OpenFault) → IsFirstFault o f → fault_of o ≡ Some f
first_is_fault o f h = the_first o f h (fault_of o) refl

none_told : (o : Options) → ((f : OpenFault) → Passes o f) → (r : Option OpenFault) → fault_of o ≡ r → r ≡ None
none_told o h None e = refl
none_told o h (Some g) e = let first = fault_is_first o g e in absurd (first.fails (h g))

pub passed_opens : (o : Options) → ((f : OpenFault) → Passes o f) → fault_of o ≡ None
passed_opens o h = none_told o h (fault_of o) refl

-- Only lack of memory has the number 1.
memory_alone : (f : OpenFault) → f ≡ Memory → nat_lt 1 (number_of_refusal f) ≡ true → ⊥
memory_alone f e h = cc

is_refused : (o : Options) (f : OpenFault) → IsRefusal o f → Refuses o f
is_refused o Memory h = inr (refl, none_fails o h)
is_refused o NoPorts h = inl (fault_is_first o NoPorts h)
is_refused o TooManyPorts h = inl (fault_is_first o TooManyPorts h)
is_refused o PortName h = inl (fault_is_first o PortName h)
is_refused o SamePort h = inl (fault_is_first o SamePort h)
is_refused o Text h = inl (fault_is_first o Text h)

refuses : (o : Options) (f : OpenFault) → Refuses o f → IsRefusal o f
refuses o Memory (inl first) = absurd (first.fails tt)
refuses o Memory (inr passes) = passed_opens o passes.1
refuses o NoPorts (inl first) = first_is_fault o NoPorts first
refuses o NoPorts (inr passes) = absurd (memory_alone NoPorts passes.0 refl)
refuses o TooManyPorts (inl first) = first_is_fault o TooManyPorts first
refuses o TooManyPorts (inr passes) = absurd (memory_alone TooManyPorts passes.0 refl)
refuses o PortName (inl first) = first_is_fault o PortName first
refuses o PortName (inr passes) = absurd (memory_alone PortName passes.0 refl)
refuses o SamePort (inl first) = first_is_fault o SamePort first
refuses o SamePort (inr passes) = absurd (memory_alone SamePort passes.0 refl)
refuses o Text (inl first) = first_is_fault o Text first
refuses o Text (inr passes) = absurd (memory_alone Text passes.0 refl)

pub refusals : (o : Options) (f : OpenFault) → (IsRefusal o f → Refuses o f) × (Refuses o f → IsRefusal o f)
refusals o f = (is_refused o f, refuses o f)

pub ruleset openings_tell_first_faults = (fault_is_first, first_is_fault, none_fails, passed_opens, refusals)

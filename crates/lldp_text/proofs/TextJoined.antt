-- How a text of joined items grows by one item.
use Rattle.std.proofs.Common.{◌≡◌, ℕ, ◌+◌, ◌<◌, List, [], ◌∷◌, ◌++◌, length, get_or, take, map, refl, ap, sym, ◌∙◌, append_assoc, append-nil, arith}
use Rattle.std.specs.List.{join_with_byte}
use Rattle.std.proofs.lemmas.List.{take_more, length-take-le, length-map, map-append}
use Rattle.hex.specs.Hex.{encode_with, encode_lower}
use Rattle.lldp_text.specs.Text.{separator}
use Rattle.std.proofs.lemmas.Grind.{common_steps}

-- joining a list with x added at its end appends the separator, if needed, and x
pub join_push : (c : ℕ) (xs : List (List ℕ)) (x : List ℕ) → join_with_byte c (xs ++ x ∷ []) ≡ join_with_byte c xs ++ (separator c (length xs) ++ x)
join_push c [] x = refl
join_push c (y ∷ []) x = refl
join_push c (y ∷ z ∷ zs) x = ap (λ l. y ++ (c ∷ l)) (join_push c (z ∷ zs) x) ∙ sym (append_assoc y (c ∷ join_with_byte c (z ∷ zs)) (separator c (length (z ∷ zs)) ++ x))

-- appending a separator and then an item is the same as appending both at once
pub grown : (old cur mid new j s x j' : List ℕ) → cur ≡ old ++ j → mid ≡ cur ++ s → new ≡ mid ++ x → j' ≡ j ++ (s ++ x) → new ≡ old ++ j'
grown old cur mid new j s x j' a b c d = rw (c, b, a, d) (simp append_assoc)

-- joining one more item, item i, appends a separator, if needed, and that item
pub joined_more : {A : Type 0} (c : ℕ) (f : A → List ℕ) (xs : List A) (i : ℕ) (d : A) → i < length xs → join_with_byte c (map f (take (i + 1) xs)) ≡ join_with_byte c (map f (take i xs)) ++ (separator c i ++ f (get_or xs i d))
joined_more c f xs i d h = grind (arith, common_steps, length-map, length-take-le, take_more, map-append, join_push)

-- appending a key and then a value is the same as appending both at once
pub behind : (old mid new k v v' : List ℕ) → mid ≡ old ++ k → new ≡ mid ++ v → v ≡ v' → new ≡ old ++ (k ++ v')
behind old mid new k v v' a b c = rw (b, a, c) (append_assoc old k v')

-- appending a key and keeping the rest for later
pub tailed : (old mid k v : List ℕ) → mid ≡ old ++ k → mid ++ v ≡ old ++ (k ++ v)
tailed old mid k v a = rw a (append_assoc old k v)

-- no octets are written as no digits
pub nothing_more : (line : List ℕ) → line ++ encode_lower [] ≡ line
unfolding encode_with
nothing_more line = append-nil line

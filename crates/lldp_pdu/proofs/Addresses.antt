-- A Management Address body is well formed exactly if it encodes an address.
use Rattle.std.proofs.Common.{◌≡◌, ℕ, suc, ◌+◌, ◌-◌, ◌^◌, ◌<◌, ◌≤◌, Bool, true, cond, ◌&&◌, leb, eqb, List, [], ◌∷◌, ◌++◌, length, take, drop, get_or, Option, Some, None, refl, sym, ap, subst, ◌∙◌, append_assoc, arith}
use Rattle.std.specs.Int.{w32, from_be_bytes, to_be_bytes}
use Rattle.std.proofs.lemmas.Bool.{and_parts, leb-true, le-leb, eq-eqb, eqb-true}
use Rattle.std.proofs.lemmas.Option.{cond_some}
use Rattle.std.proofs.lemmas.List.{take_at, length-append, length-take, length-drop, take-append-drop, get_or-append-add}
use Rattle.std.proofs.Math.Seq.{drop-append-add}
use Rattle.std.proofs.lemmas.Nat.{from_be_bytes-to_be_bytes_4}
use Rattle.lldp_pdu.specs.Tlv.{AreOctets}
use Rattle.lldp_pdu.specs.ManagementAddress.{Address, IsSpelled, address_of}
use Rattle.lldp_pdu.proofs.Cuts.{AreOctets-right}
use Rattle.std.proofs.lemmas.Grind.{common_steps}

-- ---- the fields read from an encoded address

-- the octets after the address: numbering subtype, interface number, length of the OID, OID
abbrev tail_of : ℕ → ℕ → ℕ → ℕ → ℕ → ℕ → List ℕ → List ℕ
tail_of n a b c d o oid = n ∷ a ∷ b ∷ c ∷ d ∷ o ∷ oid

abbrev fits : ℕ → ℕ → ℕ → Bool
fits m o len = leb 2 m && leb m 32 && leb o 128 && eqb len (m + o + 7)

read_at : (m f : ℕ) (xs ys : List ℕ) (i j : ℕ) → i ≡ 2 + length xs + j → get_or (m ∷ f ∷ xs ++ ys) i 0 ≡ get_or ys j 0
read_at m f xs ys i j e = let e' : i ≡ suc (suc (length xs + j)) = omega (arith, e) in ap (λ (k : ℕ). get_or (m ∷ f ∷ xs ++ ys) k 0) e' ∙ get_or-append-add xs ys j 0

left_at : (m f : ℕ) (xs ys : List ℕ) (i j : ℕ) → i ≡ 2 + length xs + j → drop i (m ∷ f ∷ xs ++ ys) ≡ drop j ys
left_at m f xs ys i j e = let e' : i ≡ suc (suc (length xs + j)) = omega (arith, e) in ap (λ (k : ℕ). drop k (m ∷ f ∷ xs ++ ys)) e' ∙ drop-append-add xs ys j

address_at : (m f n a b c d o : ℕ) (address oid : List ℕ) → m ≡ length address + 1
    → address_of (m ∷ f ∷ address ++ tail_of n a b c d o oid)
    ≡ cond (fits m o (length (m ∷ f ∷ address ++ tail_of n a b c d o oid))) (Some (record { family = f; address = address; numbering = n; interface = from_be_bytes w32 (a ∷ b ∷ c ∷ d ∷ []); oid = oid })) None
address_at m f n a b c d o address oid e =
    let tail = tail_of n a b c d o oid in
    let body = m ∷ f ∷ address ++ tail in
    same (length body) m f (read_at m f address tail (m + 6) 5 (omega (arith, e))) (take_at address tail (m - 1) (omega (arith, e)))
    (read_at m f address tail (m + 1) 0 (omega (arith, e)))
    (ap (λ (xs : List ℕ). from_be_bytes w32 (take 4 xs)) (left_at m f address tail (m + 2) 1 (omega (arith, e))))
    (left_at m f address tail (m + 7) 6 (omega (arith, e)))
  where
    same : (len m f : ℕ) {o o' n n' i i' : ℕ} {x x' y y' : List ℕ} → o ≡ o' → x ≡ x' → n ≡ n' → i ≡ i' → y ≡ y'
        → ◌≡◌ {A = Option Address} (cond (fits m o len) (Some (record { family = f; address = x; numbering = n; interface = i; oid = y })) None) (cond (fits m o' len) (Some (record { family = f; address = x'; numbering = n'; interface = i'; oid = y' })) None)
    same len m f p q r s t = cc

-- ---- the encoding of an address is well formed

pub spelled_is_address : (body : List ℕ) (a : Address) → IsSpelled body a → address_of body ≡ Some a
spelled_is_address body a h = grind (arith, common_steps, append_assoc, address_at, le-leb, eq-eqb, length-append, from_be_bytes-to_be_bytes_4)

-- ---- a well-formed body encodes an address

record Fits (m o len : ℕ) : Type 0 where
  pub least : 2 ≤ m
  pub greatest : m ≤ 32
  pub oid : o ≤ 128
  pub exact : len ≡ m + o + 7

fits_parts : (m o len : ℕ) → fits m o len ≡ true → Fits m o len
fits_parts m o len h = grind (arith, common_steps, and_parts, leb-true, eqb-true)

four_back : (a b c d : ℕ) → a < 256 → b < 256 → c < 256 → d < 256 → (to_be_bytes w32 (from_be_bytes w32 (a ∷ b ∷ c ∷ d ∷ [])) ≡ a ∷ b ∷ c ∷ d ∷ []) × (from_be_bytes w32 (a ∷ b ∷ c ∷ d ∷ []) < 2 ^ 32)
four_back a b c d h k l m = grind (arith, common_steps)

spelled_at : (m f n a b c d o : ℕ) (address oid : List ℕ) (found : Address) → m ≡ length address + 1 → AreOctets (tail_of n a b c d o oid) → address_of (m ∷ f ∷ address ++ tail_of n a b c d o oid) ≡ Some found
    → IsSpelled (m ∷ f ∷ address ++ tail_of n a b c d o oid) found
spelled_at m f n a b c d o address oid found e octets h =
    let body = m ∷ f ∷ address ++ tail_of n a b c d o oid in
    let p = cond_some (fits m o (length body)) (record { family = f; address = address; numbering = n; interface = from_be_bytes w32 (a ∷ b ∷ c ∷ d ∷ []); oid = oid }) found (sym (address_at m f n a b c d o address oid e) ∙ h) in
    let g = fits_parts m o (length body) p.0 in
    let four = four_back a b c d octets.1.0 octets.1.1.0 octets.1.1.1.0 octets.1.1.1.1.0 in
    let rest : length oid ≡ o = omega (arith, g.exact, e, length-append address (tail_of n a b c d o oid)) in
    subst (IsSpelled body) p.1
    (record {
      address = record { least = omega (arith, e, g.least); greatest = omega (arith, e, g.greatest); interface = four.1; oid = omega (arith, rest, g.oid) };
      octets = made e rest four.0;
    })
  where
    both : {k k' l l' : ℕ} → k ≡ k' → l ≡ l' → ◌≡◌ {A = ℕ × ℕ} (k, l) (k', l')
    both p q = cc

    made : {l len : ℕ} {bytes : List ℕ} → m ≡ l → len ≡ o → bytes ≡ a ∷ b ∷ c ∷ d ∷ [] → m ∷ f ∷ address ++ tail_of n a b c d o oid ≡ l ∷ f ∷ address ++ n ∷ bytes ++ len ∷ oid
    made {l} {len} {bytes} p q r =
        ap (λ (x : ℕ × ℕ). (x.0 ∷ f ∷ address) ++ (n ∷ a ∷ b ∷ c ∷ d ∷ x.1 ∷ oid)) (both p (sym q))
        ∙ ap (λ (xs : List ℕ). (l ∷ f ∷ address) ++ ((n ∷ xs) ++ (len ∷ oid))) (sym r)
        ∙ sym (append_assoc (l ∷ f ∷ address) (n ∷ bytes) (len ∷ oid))

two_octets : (body : List ℕ) → 2 ≤ length body → (m : ℕ) × (f : ℕ) × (xs : List ℕ) × (body ≡ m ∷ f ∷ xs)
two_octets [] h = absurd (omega (arith, h))
two_octets (m ∷ []) h = absurd (omega (arith, h))
two_octets (m ∷ f ∷ xs) h = (m, f, xs, refl)

-- the octets after the address, split into six octets and the OID
record Tail (xs : List ℕ) : Type 0 where
  pub n : ℕ
  pub a : ℕ
  pub b : ℕ
  pub c : ℕ
  pub d : ℕ
  pub o : ℕ
  pub oid : List ℕ
  pub is : xs ≡ tail_of n a b c d o oid

six_octets : (xs : List ℕ) → 6 ≤ length xs → Tail xs
six_octets (n ∷ a ∷ b ∷ c ∷ d ∷ o ∷ oid) h = record { n = n; a = a; b = b; c = c; d = d; o = o; oid = oid; is = refl }
six_octets other h = absurd (omega (arith, h))

-- the lengths in a well-formed body are in range
long_enough : (body : List ℕ) (found : Address) → address_of body ≡ Some found → Fits (get_or body 0 0) (get_or body (get_or body 0 0 + 6) 0) (length body)
long_enough body found h = grind (arith, common_steps, fits_parts, cond_some)

pub address_is_spelled : (body : List ℕ) (found : Address) → AreOctets body → address_of body ≡ Some found → IsSpelled body found
address_is_spelled body found octets h =
    let g = long_enough body found h in
    let front = two_octets body (omega (arith, g.exact, g.least)) in
    let m = front.0 in
    let xs = front.2 in
    let first : get_or body 0 0 ≡ m = ap (λ (b : List ℕ). get_or b 0 0) front.3 in
    let len : length body ≡ suc (suc (length xs)) = ap length front.3 in
    let address = take (m - 1) xs in
    let address_len : m ≡ length address + 1 = omega (arith, g.exact, g.least, first, len, length-take (m - 1) xs) in
    let tail = six_octets (drop (m - 1) xs) (omega (arith, g.exact, g.least, first, len, length-drop (m - 1) xs)) in
    let whole : body ≡ m ∷ front.1 ∷ address ++ tail_of tail.n tail.a tail.b tail.c tail.d tail.o tail.oid =
    front.3 ∙ ap (λ (ys : List ℕ). m ∷ front.1 ∷ ys) (sym (take-append-drop (m - 1) xs) ∙ ap (λ (ys : List ℕ). address ++ ys) tail.is) in
    let left = AreOctets-right address (tail_of tail.n tail.a tail.b tail.c tail.d tail.o tail.oid) (subst AreOctets whole octets).1.1 in
    subst (λ (b : List ℕ). IsSpelled b found) (sym whole)
    (spelled_at m front.1 tail.n tail.a tail.b tail.c tail.d tail.o address tail.oid found address_len left (subst (λ (b : List ℕ). address_of b ≡ Some found) whole h))

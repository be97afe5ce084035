-- Whether octets have the length of an identifier.
use Rattle.std.proofs.Common.{ℕ, ◌<◌, ◌≤◌, ◌⊎◌, inl, inr, List, length, arith}
use Rattle.std.proofs.lemmas.Bool.{cases_lt}
use Rattle.lldp_pdu.specs.Msap.{IsIdentifier}
use Rattle.lldpa_c.specs.Laws.Order.{IsNoIdentifier}

pub not_less : (a b : ℕ) → ¬ (a < b) → b ≤ a
not_less a b never = elim (cases_lt a b) [ inl lt ↦ absurd (never lt) | inr le ↦ le ]

pub no_identifier : (body : List ℕ) → IsNoIdentifier body → IsIdentifier body → ⊥
no_identifier body wrong h = elim wrong [ inl short ↦ absurd (omega (arith, short, h.least)) | inr long ↦ absurd (omega (arith, long, h.greatest)) ]

pub is_identifier : (body : List ℕ) → ¬ (IsNoIdentifier body) → IsIdentifier body
is_identifier body right = record { least = not_less (length body) 2 (λ lt. right (inl lt)); greatest = not_less 256 (length body) (λ lt. right (inr lt)) }

pub is_or_not : (body : List ℕ) → IsNoIdentifier body ⊎ IsIdentifier body
is_or_not body = elim (cases_lt (length body) 2) [
  | inl short ↦ inl (inl short)
  | inr least ↦ elim (cases_lt 256 (length body)) [ inl long ↦ inl (inr long) | inr most ↦ inr (record { least = least; greatest = most }) ]
]

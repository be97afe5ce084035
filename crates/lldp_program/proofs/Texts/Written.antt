-- The octets of a device after two calls.
use Rattle.std.proofs.Common.{◌≡◌, ℕ, ◌<◌, List, [], ◌++◌, length, take, drop, refl, sym, ap, ◌∙◌, append_assoc, arith, Option, Some, None, length-drop}
use Rattle.std.specs.Io.KnownBytes.{Appends, Keeps, Consumes}
use Rattle.std.proofs.lemmas.List.{append-nil, take-append-drop}
use Rattle.lldp_program.specs.Trace.Runs.{IsCutOff}
use Rattle.lldp_program.specs.Code.Output.{IsWritten}

pub appends_then : (a b c : Option (List ℕ)) (x y : List ℕ) → Appends a b x → Appends b c y → Appends a c (x ++ y)
appends_then None b c x y h k = tt
appends_then (Some xs) None c x y h k = absurd h
appends_then (Some xs) (Some ys) None x y h k = absurd k
appends_then (Some xs) (Some ys) (Some zs) x y h k = k ∙ ap (λ t. t ++ y) h ∙ append_assoc xs x y

pub appends_nothing : (a : Option (List ℕ)) → Appends a a []
appends_nothing None = tt
appends_nothing (Some xs) = sym (append-nil xs)

pub appends_kept : (a b : Option (List ℕ)) → Keeps a b → Appends a b []
appends_kept None b h = tt
appends_kept (Some xs) None h = h
appends_kept (Some xs) (Some ys) h = h ∙ sym (append-nil xs)

-- if the second of two writes adds nothing, the two wrote exactly the text of the first
pub appends_and_kept : (a b c : Option (List ℕ)) (x : List ℕ) → Appends a b x → Keeps b c → Appends a c x
appends_and_kept None b c x h k = tt
appends_and_kept (Some xs) None c x h k = absurd h
appends_and_kept (Some xs) (Some ys) None x h k = absurd k
appends_and_kept (Some xs) (Some ys) (Some zs) x h k = k ∙ h

pub appends_same : (a b : Option (List ℕ)) (x y : List ℕ) → x ≡ y → Appends a b x → Appends a b y
appends_same a b x y e h = rw (← e) h

pub consumes_then : (a b c : Option (List ℕ)) (x y : List ℕ) → Consumes a b x → Consumes b c y → Consumes a c (x ++ y)
consumes_then None b c x y h k = tt
consumes_then (Some xs) None c x y h k = absurd h
consumes_then (Some xs) (Some ys) None x y h k = absurd k
consumes_then (Some xs) (Some ys) (Some zs) x y h k = h ∙ ap (λ t. x ++ t) k ∙ sym (append_assoc x y zs)

pub consumes_nothing : (a : Option (List ℕ)) → Consumes a a []
consumes_nothing None = tt
consumes_nothing (Some xs) = refl

-- a failed read after other reads consumes nothing more
pub consumes_kept : (a b c : Option (List ℕ)) (x : List ℕ) → Consumes a b x → Keeps b c → Consumes a c x
consumes_kept None b c x h k = tt
consumes_kept (Some xs) None c x h k = absurd h
consumes_kept (Some xs) (Some ys) None x h k = absurd k
consumes_kept (Some xs) (Some ys) (Some zs) x h k = h ∙ ap (λ t. x ++ t) (sym k)

-- a text was cut off if only its first octets were written
pub cut_off_at : (a b c : Option (List ℕ)) (xs : List ℕ) (i : ℕ) → i < length xs → Appends a b (take i xs) → Keeps b c → IsWritten (IsCutOff xs) a c
cut_off_at a b c xs i within h k = (
  take i xs,
  record {
    rest = drop i xs;
    joined = sym (take-append-drop i xs);
    missing = λ e. let none : length (drop i xs) ≡ 0 = ap length e in absurd (omega (arith, length-drop i xs));
  },
  appends_same a c _ _ (append-nil (take i xs)) (appends_then a b c _ _ h (appends_kept b c k)),
)

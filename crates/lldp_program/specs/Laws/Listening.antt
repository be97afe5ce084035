-- What `--listen` and `--connections` ask for: for all texts, and for example command lines.
use Rattle.std.specs.Prelude.{◌≡◌, ◌<◌, ◌↔◌, ℕ, List, [], ◌∷◌, Option, Some, None, codes}
use Rattle.std.specs.Str.Parse.{IsNumeral, digits_value, without_leading_plus}
use Rattle.std.specs.Borrow.{Bor}
use Rattle.clap.specs.Simple.{matches_of}
use Rattle.clap.specs.Walk.{Text, one_of}
use Rattle.lldp_program.specs.declared.arguments.Listening.{Listening}
use Rattle.lldp_program.specs.CommandLine.Usage.{AsksListening, program}

-- the text is decimal digits, possibly after a `+`, and n is the number that they spell
pub record IsNumberIn (text : Text) (n : ℕ) : Type 0 where
  pub digits : IsNumeral 10 (without_leading_plus text)
  pub value : n ≡ digits_value 10 (without_leading_plus text)
  pub small : n < 65536

-- Without `--listen` the options do not ask to listen. With it, its text spells the port, and the
-- text of `--connections` spells the number of connections.
abbrev pub IsAskedBy : Option Text → Option Text → Option Listening → Type 0
IsAskedBy None connections asked = asked ≡ None
IsAskedBy (Some port) None asked = ⊥
IsAskedBy (Some port) (Some connections) asked =
    (listening : Listening) × (asked ≡ Some listening) × IsNumberIn port listening.port
    × IsNumberIn connections listening.connections

-- The two definitions of what these texts ask for agree.
abbrev pub AskByTexts : Option Text → Option Text → Option Listening → Type 0
AskByTexts port connections asked = AsksListening port connections asked ↔ IsAskedBy port connections asked

-- `listening` is what `--listen` and `--connections` in these arguments ask for
abbrev pub AskFor : Bor (List (Bor Text)) → List Text → Option Listening → Type 0
AskFor roles words listening =
    (asked : Option Listening)
    → AsksListening (one_of (codes "listen") (matches_of (program roles) words)) (one_of (codes "connections") (matches_of (program roles) words)) asked
    → asked ≡ listening

-- Without `--listen` the options do not ask to listen. With it, the port is that of `--listen`, and
-- the number of connections is that of `--connections`, or 1.
pub record AskByWords (roles : Bor (List (Bor Text))) : Type 0 where
  pub nothing : AskFor roles (codes "lldpa" ∷ codes "--connections" ∷ codes "7" ∷ codes "eth0" ∷ []) None
  pub one : AskFor roles (codes "lldpa" ∷ codes "--listen" ∷ codes "4711" ∷ codes "eth0" ∷ [])
      (Some (record { port = 4711; connections = 1 }))
  pub many : AskFor roles (codes "lldpa" ∷ codes "--listen" ∷ codes "4711" ∷ codes "--connections" ∷ codes "10" ∷ codes "eth0" ∷ [])
      (Some (record { port = 4711; connections = 10 }))
  pub greatest : AskFor roles (codes "lldpa" ∷ codes "--connections=65535" ∷ codes "--listen=65534" ∷ codes "eth0" ∷ [])
      (Some (record { port = 65534; connections = 65535 }))

-- What `--listen` and `--connections` ask for: for all texts, and for example command lines.
use Rattle.std.proofs.Common.{◌≡◌, ℕ, List, Option, Some, None, refl, codes, Bor}
use Rattle.clap.specs.Walk.{Text}
use Rattle.clap.proofs.OnLiterals.{clap_on_literals}
use Rattle.lldp_program.specs.declared.arguments.Listening.{Listening}
use Rattle.lldp_program.specs.CommandLine.Usage.{AsksListening, WritesNumber}
use Rattle.lldp_program.specs.Laws.Listening.{AskByWords, AskByTexts, IsAskedBy, IsNumberIn}

asks_some : (port connections : Text) (asked : Option Listening) (p n : ℕ) → ((m : ℕ) → WritesNumber (Some port) m → m ≡ p) → ((m : ℕ) → WritesNumber (Some connections) m → m ≡ n)
    → AsksListening (Some port) (Some connections) asked → asked ≡ Some (record { port = p; connections = n })
asks_some port connections None p n ports numbers h = absurd h
asks_some port connections (Some l) p n ports numbers h =
    let port_is : l.port ≡ p = ports l.port h.0 in
    let connections_are : l.connections ≡ n = numbers l.connections h.1 in
    rw (← port_is, ← connections_are) refl

pub asked_by_words : (roles : Bor (List (Bor Text))) → AskByWords roles
unfolding clap_on_literals
asked_by_words roles =
    record {
      nothing = λ asked h. h;
      one = λ asked h. asks_some (codes "4711") (codes "1") asked 4711 1 (λ m w. w.1) (λ m w. w.1) h;
      many = λ asked h. asks_some (codes "4711") (codes "10") asked 4711 10 (λ m w. w.1) (λ m w. w.1) h;
      greatest = λ asked h. asks_some (codes "65534") (codes "65535") asked 65534 65535 (λ m w. w.1) (λ m w. w.1) h;
    }

written : (text : Text) (n : ℕ) → WritesNumber (Some text) n → IsNumberIn text n
written text n w = record { digits = w.0.0; value = w.1; small = rw w.1 w.0.1 }

writes : (text : Text) (n : ℕ) → IsNumberIn text n → WritesNumber (Some text) n
writes text n w = ((w.digits, rw (← w.value) w.small), w.value)

asked_by : (port connections : Option Text) (asked : Option Listening) → AsksListening port connections asked → IsAskedBy port connections asked
asked_by None connections asked h = h
asked_by (Some port) None None h = absurd h
asked_by (Some port) None (Some l) h = absurd h.1
asked_by (Some port) (Some connections) None h = absurd h
asked_by (Some port) (Some connections) (Some l) h = (l, refl, written port l.port h.0, written connections l.connections h.1)

asks_by : (port connections : Option Text) (asked : Option Listening) → IsAskedBy port connections asked → AsksListening port connections asked
asks_by None connections asked h = h
asks_by (Some port) None asked h = absurd h
asks_by (Some port) (Some connections) asked (l, is, p, n) = rw is (writes port l.port p, writes connections l.connections n)

pub asked_by_texts : (port connections : Option Text) (asked : Option Listening) → AskByTexts port connections asked
asked_by_texts port connections asked = (asked_by port connections asked, asks_by port connections asked)

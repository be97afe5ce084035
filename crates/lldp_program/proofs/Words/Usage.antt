-- The options that a parse yields.
use Rattle.std.proofs.Common.{◌≡◌, ◌∙◌, ℕ, List, [], Option, Some, None, Result, Ok, Err, refl, sym, ap, subst, inl, inr, Bor, map, option_map, codes, true, arith}
use Rattle.std.specs.Prelude.{IfOk, IfErr, ◌⊎◌, unwrap_or}
use Rattle.std.specs.Str.Parse.{ParsesUnsigned}
use Rattle.clap.specs.Matches.{ReadsOne, found_of, one_text}
use Rattle.clap.specs.Words.{without_minus}
use Rattle.clap.proofs.CallerReads.{signed_reads}
use Rattle.clap.specs.Walk.{Rule, Text, byte_or_zero, rows_of}
use Rattle.clap.specs.declared.builder.value_parser.ValueParser.{ValueParser}
use Rattle.clap.specs.declared.builder.value_parser.ValueParser.TheVariants.{Names}
use Rattle.clap.specs.Simple.{App, HasMatchesOf, is_simple, matches_of}
use Rattle.clap.specs.Faults.{fault_of, is_simple_and_free}
use Rattle.clap.specs.Kinds.{FailsBy, HasKind, IsAmong}
use Rattle.clap.specs.Values.{kind_of}
use Rattle.clap.specs.declared.error.Error.{Error}
use Rattle.clap.specs.declared.error.kind.ErrorKind.TheVariants.{OutOfMemory}
use Rattle.clap.specs.declared.parser.matches.ArgMatches.{ArgMatches}
use Rattle.clap.proofs.WalkLemmas.{byte_read}
use Rattle.clap.proofs.OnLiterals.{clap_on_literals}
use Rattle.lldp_program.specs.declared.arguments.Listening.{Listening}
use Rattle.lldp_program.specs.CommandLine.Arguments.{GivesNumber}
use Rattle.lldp_program.specs.CommandLine.Usage.{AreRoles, AsksListening, IsParse, MayFail, WritesNumber, program, role_rule, text_rule}

pub reads_byte : (E : Type 0) (G : List ℕ → Result ℕ E → Type 0) (t : List ℕ) (r : Option ℕ) → ReadsOne G t r
    → ((u : List ℕ) (x : Result ℕ E) → G u x → ParsesUnsigned 8 10 u x) → (v : ℕ) → r ≡ Some v → v ≡ byte_or_zero t
reads_byte E G t (Some w) read only v e =
    let same : w ≡ v = ap (λ o. unwrap_or o 0) e in
    sym same ∙ byte_read {E = E} t (Ok w) (only t (Ok w) read)
reads_byte E G t None read only v e = let bad : None ≡ Some v = e in cc

pub ports_named : (r : Option (Bor (List (Bor (List ℕ))))) (d got : Bor (List (Bor (List ℕ)))) (x y : Option (List (List ℕ))) → d.now ≡ [] → got ≡ unwrap_or r d
    → option_map (λ s. map (λ (v : Bor (List ℕ)). v.now) s.now) r ≡ x → x ≡ y → map (λ (v : Bor (List ℕ)). v.now) got.now ≡ unwrap_or y []
ports_named (Some s) d got x y empty is same rows = rw (is, ← rows, ← same) refl
ports_named None d got x y empty is same rows = rw (is, ← rows, ← same, empty) refl

-- the command line is simple enough that `clap`'s specification states its matches
is_plain : (roles : Bor (List (Bor Text))) → is_simple (program roles) ≡ true
unfolding clap_on_literals
is_plain roles = refl

is_plain_and_free : (roles : Bor (List (Bor Text))) → is_simple_and_free (program roles) ≡ true
unfolding clap_on_literals
is_plain_and_free roles = refl

pub parse_rows : (a : App) (roles : Bor (List (Bor Text))) (words : List Text) (r : Result ArgMatches Error) → AreRoles roles → a ≡ program roles
    → IfOk r (HasMatchesOf a words) → (is_simple_and_free a ≡ true → FailsBy (fault_of a words) r) → IfOk r (λ m. IsParse words (rows_of (found_of m)))
parse_rows a roles words (Ok m) named is has fails =
    record {
      roles = roles;
      named = named;
      taken = ap (λ b. fault_of b words) (sym is) ∙ fails (ap is_simple_and_free is ∙ is_plain_and_free roles);
      rows_are = (has (ap is_simple is ∙ is_plain roles)).0 ∙ ap (λ b. matches_of b words) is;
    }
parse_rows a roles words (Err e) named is has fails = tt

pub parse_kinds : (a : App) (roles : Bor (List (Bor Text))) (words : List Text) (r : Result ArgMatches Error) → AreRoles roles → a ≡ program roles
    → (is_simple_and_free a ≡ true → FailsBy (fault_of a words) r) → IfErr r (λ e. (kind_of e ≡ OutOfMemory) ⊎ MayFail words (kind_of e))
parse_kinds a roles words (Ok m) named is fails = tt
parse_kinds a roles words (Err e) named is fails = go (fails (ap is_simple_and_free is ∙ is_plain_and_free roles))
  where
    go : HasKind (fault_of a words) e → (kind_of e ≡ OutOfMemory) ⊎ MayFail words (kind_of e)
    go (inl memory) = inl memory
    go (inr among) = inr (record { roles = roles; named = named; among = subst (λ b. IsAmong (kind_of e) (fault_of b words)) is among })

pub role_ruled : (q : ValueParser) (roles : Bor (List (Bor (List ℕ)))) (r : Rule) → q ≡ Names roles → AreRoles roles
    → r ≡ record (text_rule (codes "role") (codes "station")) { parser = Some q } → (names : Bor (List (Bor (List ℕ)))) × AreRoles names × (r ≡ role_rule names)
role_ruled q roles r e named is = (roles, named, is ∙ ap (λ (p : ValueParser). record (text_rule (codes "role") (codes "station")) { parser = Some p }) e)

-- ## Listening

-- a number that was read from a text is the number that the text spells
pub number_written : (E : Type 0) (G : List ℕ → Result ℕ E → Type 0) (t : List ℕ) (r : Option ℕ) → ReadsOne G t r
    → ((u : List ℕ) (x : Result ℕ E) → G u x → ParsesUnsigned 16 10 u x) → (v : ℕ) → r ≡ Some v → WritesNumber (Some t) v
number_written E G t (Some w) read only v e =
    let same : w ≡ v = ap (λ o. unwrap_or o 0) e in
    subst (λ (n : ℕ). WritesNumber (Some t) n) same (only t (Ok w) read)
number_written E G t None read only v e = cc

-- if a port number was read, the options ask to listen there
pub listens : (E : Type 0) (G : List ℕ → Result ℕ E → Type 0) (port connections : Option Text) (r : Option ℕ) (n many : ℕ) → (port ≡ None → r ≡ None) → ((t : List ℕ) → port ≡ Some t → ReadsOne G t r)
    → ((u : List ℕ) (x : Result ℕ E) → G u x → ParsesUnsigned 16 10 u x) → WritesNumber connections many → r ≡ Some n → AsksListening port connections (Some (record { port = n; connections = many }))
listens E G None connections r n many none read only counted is = let bad = none refl in cc
listens E G (Some t) connections r n many none read only counted is = (number_written E G t r (read t refl) only n is, counted)

-- if no port number was read, `--listen` was not used, since its text is always a number
pub listens_not : (E : Type 0) (G : List ℕ → Result ℕ E → Type 0) (m : ArgMatches) (connections : Option Text) (r : Option ℕ) → (one_text (found_of m) (codes "listen") ≡ None) ⊎ GivesNumber 65535 (codes "listen") m
    → ((t : List ℕ) → one_text (found_of m) (codes "listen") ≡ Some t → ReadsOne G t r) → ((u : List ℕ) (x : Result ℕ E) → G u x → ParsesUnsigned 16 10 u x) → r ≡ None
    → AsksListening (one_text (found_of m) (codes "listen")) connections None
listens_not E G m connections r (inl none) read only is = rw none refl
listens_not E G m connections r (inr given) read only is =
    let got = signed_reads E G 16 1 65535 given.0 r (read (without_minus given.0) given.1) only (omega arith) given.2 in
    let bad : None ≡ Some got.0 = sym is ∙ got.1 in
    cc

-- if the options do not ask to listen, `--listen` was not used
pub not_asked : (port connections : Option Text) (asked : Option Listening) → AsksListening port connections asked → asked ≡ None → port ≡ None
not_asked None connections asked h is = refl
not_asked (Some t) connections None h is = absurd h
not_asked (Some t) connections (Some listening) h is = cc

-- if the options ask to listen, `--listen` has a text
pub was_asked : (port connections : Option Text) (asked : Option Listening) (listening : Listening) → AsksListening port connections asked → asked ≡ Some listening → (t : Text) × (port ≡ Some t)
was_asked None connections asked listening h is = let bad : None ≡ Some listening = sym h ∙ is in cc
was_asked (Some t) connections asked listening h is = (t, refl)

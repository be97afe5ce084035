-- The options, the roles and the ranges of the command line.
use Rattle.std.proofs.Common.{◌≡◌, ◌∙◌, ℕ, ◌≤◌, ◌<◌, slice_index, List, [], ◌∷◌, Option, Some, Ok, refl, sym, ap, Bor, option_map}
use Rattle.std.specs.Prelude.{unwrap_or}
use Rattle.std.specs.Net.Grammar.{IsDotted}
use Rattle.std.specs.Net.Text.{dotted_text}
use Rattle.hex.specs.Hex.{decode_of, decode_pairs, pair_value}
use Rattle.clap.specs.Walk.{Row, Text, byte_or_zero, one_of}
use Rattle.clap.proofs.WalkLemmas.{byte_read}
use Rattle.lldp_engine.specs.declared.agent.options.Role.{Role}
use Rattle.lldp_engine.specs.declared.agent.options.Role.TheVariants.{Station, Bridge, Router}
use Rattle.lldp_engine.specs.Options.{Options}
use Rattle.lldp_program.specs.CommandLine.Usage.{Asks, AsksManagement, role_named}
use Rattle.lldp_program.specs.Laws.CommandLine.{number_to, ArePair, AreAsked, HasOptions, HasRoles, SaysAddress, SaysNumber, SeparateByColons, SpellAddresses, SpellMacs, TakesRange, word_of_role}

pub has_options : (roles : Bor (List (Bor Text))) → HasOptions roles
has_options roles =
    record {
      names = refl;
      longs = refl;
      plain = (record { short = refl; aliases = refl; short_aliases = refl; index = refl; missing = refl; trailing = refl; case = refl; required = refl }, (record { short = refl; aliases = refl; short_aliases = refl; index = refl; missing = refl; trailing = refl; case = refl; required = refl }, (record { short = refl; aliases = refl; short_aliases = refl; index = refl; missing = refl; trailing = refl; case = refl; required = refl }, (record { short = refl; aliases = refl; short_aliases = refl; index = refl; missing = refl; trailing = refl; case = refl; required = refl }, (record { short = refl; aliases = refl; short_aliases = refl; index = refl; missing = refl; trailing = refl; case = refl; required = refl }, (record { short = refl; aliases = refl; short_aliases = refl; index = refl; missing = refl; trailing = refl; case = refl; required = refl }, (record { short = refl; aliases = refl; short_aliases = refl; index = refl; missing = refl; trailing = refl; case = refl; required = refl }, (record { short = refl; aliases = refl; short_aliases = refl; index = refl; missing = refl; trailing = refl; case = refl; required = refl }, (record { short = refl; aliases = refl; short_aliases = refl; index = refl; missing = refl; trailing = refl; case = refl; required = refl }, (record { short = refl; aliases = refl; short_aliases = refl; index = refl; missing = refl; trailing = refl; case = refl; required = refl }, (record { short = refl; aliases = refl; short_aliases = refl; index = refl; missing = refl; trailing = refl; case = refl; required = refl }, (record { short = refl; aliases = refl; short_aliases = refl; index = refl; missing = refl; trailing = refl; case = refl; required = refl }, tt))))))))))));
      takes = refl;
      defaults = refl;
      actions = refl;
      counts = refl;
      top = refl;
      subcommands = refl;
    }

role_read : (role : Role) → role_named (word_of_role role) ≡ role
role_read Station = refl
role_read Bridge = refl
role_read Router = refl

pub has_roles : (roles : Bor (List (Bor Text))) → HasRoles roles
has_roles roles = record { all = (λ e. e, λ e. e); each = role_read }

-- if the parsers of two ranges are equal, a number in one range is also in the other
taken_to : (n most greatest : ℕ) → number_to most ≡ number_to greatest → 1 ≤ n → n ≤ greatest → (1 ≤ n) × (n ≤ most)
taken_to n most greatest e low high = let same : most ≡ greatest = cc in (low, rw same high)

pub takes_range : (roles : Bor (List (Bor Text))) (o : Options) → TakesRange roles o
takes_range roles o = (
  λ r. ((128, refl, r.neighbors.0, r.neighbors.1), (10, refl, r.credit.0, r.credit.1), (8, refl, r.fast.0, r.fast.1), (10, refl, r.wait.0, r.wait.1)),
  λ t. record {
    neighbors = taken_to o.max_neighbors 128 t.0.0 t.0.1 t.0.2 t.0.3;
    credit = taken_to o.credit_max 10 t.1.0 t.1.1 t.1.2 t.1.3;
    fast = taken_to o.fast_init 8 t.2.0 t.2.1 t.2.2 t.2.3;
    wait = taken_to o.reinit 10 t.3.0 t.3.1 t.3.2 t.3.3;
  },
)

says_number : (name : Text) (rows : List Row) (n : ℕ) → option_map byte_or_zero (one_of name rows) ≡ Some n → SaysNumber name rows n
says_number name rows n asked text m given w small =
    let same : Some (byte_or_zero text) ≡ Some n = rw given at asked in
    ap (λ o. unwrap_or o 0) (sym same) ∙ sym (byte_read {E = Unit {0}} text (Ok m) ((w.digits, rw (← w.value) small), w.value))

says_address : (text : Text) (given : Option (List ℕ)) → AsksManagement (Some text) given → SaysAddress text given
says_address text given (octets, is, dotted) =
    (dotted.a, dotted.b, dotted.c, dotted.d, dotted.fit.0, dotted.fit.1, dotted.fit.2, dotted.fit.3, dotted.spelled, is ∙ ap (λ (t : List ℕ). Some t) dotted.value)

pairs : (i high low octet : ℕ) → ArePair high low octet → pair_value high low i ≡ Ok octet
pairs i high low octet h = rw (h.high_is, h.low_is, h.octet_is) refl

pub spell_macs : SpellMacs
unfolding decode_pairs
spell_macs a b c d e f g h i j k l m n o p q r am an ao ap' aq ar = record {
  long = refl;
  colons = refl;
  digits = six;
} where
  six : decode_of (a ∷ b ∷ c ∷ d ∷ e ∷ f ∷ g ∷ h ∷ i ∷ j ∷ k ∷ l ∷ []) ≡ Ok (m ∷ n ∷ o ∷ p ∷ q ∷ r ∷ [])
  six = rw (pairs 0 a b m am, pairs 2 c d n an, pairs 4 e f o ao, pairs 6 g h p ap', pairs 8 i j q aq, pairs 10 k l r ar) refl

pub separate_by_colons : (text mac : List ℕ) → SeparateByColons text mac
separate_by_colons text mac = record {
  long = λ m. m.long;
  first = λ m. ap (λ (xs : List ℕ). slice_index xs 0) m.colons;
  second = λ m. ap (λ (xs : List ℕ). slice_index xs 1) m.colons;
  third = λ m. ap (λ (xs : List ℕ). slice_index xs 2) m.colons;
  fourth = λ m. ap (λ (xs : List ℕ). slice_index xs 3) m.colons;
  fifth = λ m. ap (λ (xs : List ℕ). slice_index xs 4) m.colons;
}

dotted : (a b c d : ℕ) → a < 256 → b < 256 → c < 256 → d < 256 → IsDotted (dotted_text a b c d) (a ∷ b ∷ c ∷ d ∷ [])
dotted a b c d ha hb hc hd = record { a = a; b = b; c = c; d = d; fit = (ha, hb, hc, hd); value = refl; spelled = refl }

pub spell_addresses : SpellAddresses
spell_addresses a b c d ha hb hc hd =
    ((a ∷ b ∷ c ∷ d ∷ [], refl, dotted a b c d ha hb hc hd), λ none. none (a ∷ b ∷ c ∷ d ∷ []) (dotted a b c d ha hb hc hd))

pub are_asked : (rows : List Row) (o : Options) → Asks rows o → AreAsked rows o
are_asked rows o asks =
    record {
      ports = λ names e. asks.names ∙ ap (λ r. unwrap_or r []) e;
      no_port = λ e. asks.names ∙ ap (λ r. unwrap_or r []) e;
      mac = λ text e. rw e at asks.mac;
      hostname = λ text e. let same : Some text ≡ Some o.hostname = sym e ∙ asks.hostname in ap (λ r. unwrap_or r []) (sym same);
      address = λ text e. says_address text o.management (rw e at asks.management);
      no_address = λ e. rw e at asks.management;
      role = λ role e. let same : Some (role_named (word_of_role role)) ≡ Some o.role = rw e at asks.role in ap (λ r. unwrap_or r role) (sym same) ∙ role_read role;
      max_neighbors = says_number _ rows o.max_neighbors asks.max_neighbors;
      credit_max = says_number _ rows o.credit_max asks.credit_max;
      fast_init = says_number _ rows o.fast_init asks.fast_init;
      reinit = says_number _ rows o.reinit asks.reinit;
      receives = asks.receives;
      sends = asks.sends;
    }

pub ruleset options_are_these_alone = (has_options, has_roles)

-- Exactly which options the command line accepts, and what each option asks for.
use Rattle.std.specs.Prelude.{codes, ◌≡◌, ◌<◌, ◌≤◌, ◌↔◌, ℕ, ◌+◌, ◌*◌, true, false, List, [], ◌∷◌, length, slice_index, Option, Some, None, map, option_and_then, pos, find}
use Rattle.std.specs.Net.Grammar.{IsDotted}
use Rattle.std.specs.Net.Text.{dotted_text}
use Rattle.std.specs.Str.{bytes_eq}
use Rattle.std.specs.List.{AllByRecursion}
use Rattle.std.specs.Borrow.{Bor}
use Rattle.hex.specs.Hex.{hex_digit_value}
use Rattle.clap.specs.Lexer.{usize_max}
use Rattle.clap.specs.Simple.{new_shape}
use Rattle.clap.specs.Walk.{Row, Rule, Text, all_of, first_of, one_of, texts}
use Rattle.clap.specs.declared.builder.action.ArgAction.TheVariants.{Set, SetTrue}
use Rattle.clap.specs.declared.builder.value_parser.ValueParser.{ValueParser}
use Rattle.clap.specs.declared.builder.value_parser.ValueParser.TheVariants.{Signed, Names}
use Rattle.lldp_engine.specs.declared.agent.options.Role.{Role}
use Rattle.lldp_engine.specs.declared.agent.options.Role.TheVariants.{Station, Bridge, Router}
use Rattle.lldp_engine.specs.Options.{Options, InRange}
use Rattle.lldp_program.specs.CommandLine.Addresses.{IsMac}
use Rattle.lldp_program.specs.CommandLine.Usage.{AreRoles, AsksManagement, IsBad, program, role_named}
use Rattle.lldp_program.specs.Laws.Listening.{IsNumberIn}
use Rattle.lldp_program.specs.Ranges.{most_connections, most_tcp_port}
use Rattle.lldp_table.specs.Ranges.{most_neighbors}
use Rattle.lldp_transmit.specs.Ranges.{most_credit_max, most_fast_init, most_reinit}

-- the rules of the program's command line, in the order of the help
abbrev pub rules : Bor (List (Bor Text)) → List Rule
rules roles = (program roles).top.rules

-- the parser of an option for whole numbers from 1 to `greatest`
abbrev pub number_to : ℕ → Option ValueParser
number_to greatest = Some (Signed (pos 1) (pos greatest))

-- the argument uses none of these settings of `clap`
pub record IsPlain (rule : Rule) : Type 0 where
  pub short : rule.short ≡ None
  pub aliases : rule.aliases ≡ []
  pub short_aliases : rule.short_aliases ≡ []
  pub index : rule.index ≡ None
  pub missing : rule.missing ≡ []
  pub trailing : rule.trailing_var_arg ≡ false
  pub case : rule.ignore_case ≡ false
  pub required : rule.required ≡ false

-- The command line has eleven options and the ports, and no short form, alias or subcommand. Each
-- option is written as `--` and its name; `clap` adds `--help` and `--version`. The other fields
-- state what each option accepts, and its default.
pub record HasOptions (roles : Bor (List (Bor Text))) : Type 0 where
  pub names : map (λ r. r.id) (rules roles)
      ≡ codes "max-neighbors" ∷ codes "mac" ∷ codes "hostname" ∷ codes "management" ∷ codes "role" ∷ codes "tx-credit-max" ∷ codes "tx-fast-init"
      ∷ codes "reinit-delay" ∷ codes "receive-only" ∷ codes "listen" ∷ codes "connections" ∷ codes "PORT" ∷ []
  pub longs : map (λ r. r.long) (rules roles)
      ≡ Some (codes "max-neighbors") ∷ Some (codes "mac") ∷ Some (codes "hostname") ∷ Some (codes "management") ∷ Some (codes "role")
      ∷ Some (codes "tx-credit-max") ∷ Some (codes "tx-fast-init") ∷ Some (codes "reinit-delay") ∷ Some (codes "receive-only") ∷ Some (codes "listen")
      ∷ Some (codes "connections") ∷ None ∷ []
  pub plain : AllByRecursion IsPlain (rules roles)
  pub takes : map (λ r. r.parser) (rules roles)
      ≡ number_to most_neighbors ∷ None ∷ None ∷ None ∷ Some (Names roles) ∷ number_to most_credit_max ∷ number_to most_fast_init ∷ number_to most_reinit ∷ None
      ∷ number_to most_tcp_port ∷ number_to most_connections ∷ None ∷ []
  -- in order: 32; 02:00:00:00:00:01; localhost; none; station; 5; 4; 2; none; none; 1; none
  pub defaults : map (λ r. r.defaults) (rules roles)
      ≡ ((codes "32") ∷ [])
      ∷ ((codes "02:00:00:00:00:01") ∷ [])
      ∷ ((codes "localhost") ∷ [])
      ∷ [] ∷ (codes "station" ∷ []) ∷ ((0x35 ∷ []) ∷ []) ∷ ((0x34 ∷ []) ∷ []) ∷ ((0x32 ∷ []) ∷ []) ∷ [] ∷ [] ∷ ((0x31 ∷ []) ∷ []) ∷ [] ∷ []
  -- `--receive-only` has no value, every other option has one, and there may be any number of ports
  pub actions : map (λ r. r.action) (rules roles)
      ≡ Some Set ∷ Some Set ∷ Some Set ∷ None ∷ Some Set ∷ Some Set ∷ Some Set ∷ Some Set ∷ Some SetTrue ∷ None
      ∷ Some Set ∷ None ∷ []
  pub counts : map (λ r. r.range) (rules roles)
      ≡ None ∷ None ∷ None ∷ None ∷ None ∷ None ∷ None ∷ None ∷ None ∷ None ∷ None
      ∷ Some (record { start_inclusive = 0; end_inclusive = usize_max }) ∷ []
  -- apart from these arguments, the command line has only `--version`
  pub top : record ((program roles).top) { rules = [] } ≡ record (new_shape (codes "lldpa")) { has_version = true }
  pub subcommands : (program roles).subs ≡ []

abbrev pub word_of_role : Role → Text
word_of_role Station = codes "station"
word_of_role Bridge = codes "bridge"
word_of_role Router = codes "router"

-- The roles are exactly `station`, `bridge` and `router`, and each of these words names its role.
pub record HasRoles (roles : Bor (List (Bor Text))) : Type 0 where
  pub all : AreRoles roles ↔ (texts roles.now ≡ codes "station" ∷ codes "bridge" ∷ codes "router" ∷ [])
  pub each : (role : Role) → role_named (word_of_role role) ≡ role

-- the option of this name accepts this number
abbrev pub TakesNumber : Bor (List (Bor Text)) → Text → ℕ → Type 0
TakesNumber roles name n =
    (greatest : ℕ)
    × (option_and_then (λ r. r.parser) (find (λ r. bytes_eq r.id name) (rules roles)) ≡ number_to greatest) × (1 ≤ n)
    × (n ≤ greatest)

-- The four numbers are in their ranges exactly if their options accept them.
abbrev pub TakesRange : Bor (List (Bor Text)) → Options → Type 0
TakesRange roles o =
    InRange o
    ↔ (TakesNumber roles (codes "max-neighbors") o.max_neighbors × TakesNumber roles (codes "tx-credit-max") o.credit_max
    × TakesNumber roles (codes "tx-fast-init") o.fast_init × TakesNumber roles (codes "reinit-delay") o.reinit)

-- two hexadecimal digits, in either case, are the octet
pub record ArePair (high low octet : ℕ) : Type 0 where
  pub above : ℕ
  pub below : ℕ
  pub high_is : hex_digit_value high ≡ Some above
  pub low_is : hex_digit_value low ≡ Some below
  pub octet_is : octet ≡ above * 16 + below

-- Any six pairs of digits with `:` between them are the text of the address of their six octets.
abbrev pub SpellMacs : Type 0
SpellMacs =
    (a b c d e f g h i j k l : ℕ) (m n o p q r : ℕ) → ArePair a b m → ArePair c d n → ArePair e f o → ArePair g h p → ArePair i j q → ArePair k l r →
    IsMac (a ∷ b ∷ 58 ∷ c ∷ d ∷ 58 ∷ e ∷ f ∷ 58 ∷ g ∷ h ∷ 58 ∷ i ∷ j ∷ 58 ∷ k ∷ l ∷ []) (m ∷ n ∷ o ∷ p ∷ q ∷ r ∷ [])

-- The text of a MAC address has no other octet between its pairs of digits, and nothing before or after them.
pub record SeparateByColons (text mac : List ℕ) : Type 0 where
  pub long : IsMac text mac → length text ≡ 17
  pub first : IsMac text mac → slice_index text 2 ≡ 58
  pub second : IsMac text mac → slice_index text 5 ≡ 58
  pub third : IsMac text mac → slice_index text 8 ≡ 58
  pub fourth : IsMac text mac → slice_index text 11 ≡ 58
  pub fifth : IsMac text mac → slice_index text 14 ≡ 58

-- Any four numbers below 256 can be asked for as the management address, by their decimal text.
abbrev pub SpellAddresses : Type 0
SpellAddresses =
    (a b c d : ℕ) → a < 256 → b < 256 → c < 256 → d < 256 →
    AsksManagement (Some (dotted_text a b c d)) (Some (a ∷ b ∷ c ∷ d ∷ [])) × (IsBad IsDotted (Some (dotted_text a b c d)) → ⊥)

-- if the text of this option spells a number below 256, n is that number
abbrev pub SaysNumber : Text → List Row → ℕ → Type 0
SaysNumber name rows n = (text : Text) (m : ℕ) → one_of name rows ≡ Some text → IsNumberIn text m → m < 256 → n ≡ m

-- the text is four decimal numbers below 256 with dots between them, and they are the address
abbrev pub SaysAddress : Text → Option (List ℕ) → Type 0
SaysAddress text given =
    (a b c d : ℕ) × (a < 256) × (b < 256) × (c < 256) × (d < 256) × (text ≡ dotted_text a b c d)
    × (given ≡ Some (a ∷ b ∷ c ∷ d ∷ []))

-- Each option has the value of its own argument; `HasOptions` states the defaults. By default there
-- are no ports and no management address. If an address is bad, no options satisfy this.
pub record AreAsked (rows : List Row) (o : Options) : Type 0 where
  pub ports : (names : List Text) → all_of (codes "PORT") rows ≡ Some names → o.names ≡ names
  pub no_port : all_of (codes "PORT") rows ≡ None → o.names ≡ []
  pub mac : (text : Text) → first_of (codes "mac") rows ≡ Some text → IsMac text o.mac
  pub hostname : (text : Text) → first_of (codes "hostname") rows ≡ Some text → o.hostname ≡ text
  pub address : (text : Text) → first_of (codes "management") rows ≡ Some text → SaysAddress text o.management
  pub no_address : first_of (codes "management") rows ≡ None → o.management ≡ None
  pub role : (role : Role) → first_of (codes "role") rows ≡ Some (word_of_role role) → o.role ≡ role
  pub max_neighbors : SaysNumber (codes "max-neighbors") rows o.max_neighbors
  pub credit_max : SaysNumber (codes "tx-credit-max") rows o.credit_max
  pub fast_init : SaysNumber (codes "tx-fast-init") rows o.fast_init
  pub reinit : SaysNumber (codes "reinit-delay") rows o.reinit
  pub receives : one_of (codes "receive-only") rows ≡ Some (codes "true") → o.receive_only ≡ true
  pub sends : one_of (codes "receive-only") rows ≡ Some (codes "false") → o.receive_only ≡ false

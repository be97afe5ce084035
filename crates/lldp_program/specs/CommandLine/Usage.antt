-- The program's command line as `clap` reads it, and what its arguments ask for.
use Rattle.std.specs.Prelude.{◌≡◌, ◌⊎◌, ℕ, true, false, if◌then◌else◌, List, [], ◌∷◌, Option, Some, None, IsSomeAnd, Ok, map, option_map, unwrap_or, codes, pos, fold}
use Rattle.std.specs.Str.{bytes_eq}
use Rattle.std.specs.Borrow.{Bor}
use Rattle.std.specs.Net.Grammar.{IsDotted}
use Rattle.std.specs.Str.Parse.{ParsesUnsigned}
use Rattle.clap.specs.Lexer.{usize_max}
use Rattle.clap.specs.Walk.{Row, Rule, Text, all_of, byte_or_zero, first_of, one_of}
use Rattle.clap.specs.Simple.{App, matches_of, new_app, new_rule, on_top, with_rule}
use Rattle.clap.specs.Kinds.{IsAmong}
use Rattle.clap.specs.Faults.{fault_of}
use Rattle.clap.specs.declared.builder.action.ArgAction.TheVariants.{Set, SetTrue}
use Rattle.clap.specs.declared.builder.value_parser.ValueParser.TheVariants.{Signed, Names}
use Rattle.clap.specs.declared.error.kind.ErrorKind.{ErrorKind}
use Rattle.clap.specs.declared.error.kind.ErrorKind.TheVariants.{DisplayHelp, DisplayVersion}
use Rattle.lldp_engine.specs.declared.agent.options.Role.{Role}
use Rattle.lldp_engine.specs.declared.agent.options.Role.TheVariants.{Station, Bridge, Router}
use Rattle.lldp_engine.specs.Options.{Options}
use Rattle.lldp_program.specs.CommandLine.Addresses.{IsMac}
use Rattle.lldp_program.specs.Ranges.{most_connections, most_tcp_port}
use Rattle.lldp_program.specs.declared.arguments.Listening.{Listening}
use Rattle.lldp_program.specs.declared.arguments.AddressFault.{AddressFault}
use Rattle.lldp_program.specs.declared.arguments.AddressFault.TheVariants.{Mac, Management}
use Rattle.lldp_table.specs.Ranges.{most_neighbors}
use Rattle.lldp_transmit.specs.Ranges.{most_credit_max, most_fast_init, most_reinit}

-- an option that has a value; the help has a name for it
abbrev pub valued_rule : Text → Rule
valued_rule name = record (new_rule name) { long = Some name; value_names = 1 }

-- an option that has a value, with this default
abbrev pub text_rule : Text → Text → Rule
text_rule name default = record (valued_rule name) { action = Some Set; defaults = default ∷ [] }

-- an option for a whole number from 1 to `greatest`, with this default
abbrev pub number_rule : Text → ℕ → Text → Rule
number_rule name greatest default = record (text_rule name default) { parser = Some (Signed (pos 1) (pos greatest)) }

-- the names of the roles are these three, in this order
abbrev pub AreRoles : Bor (List (Bor Text)) → Type 0
AreRoles roles = map (λ (s : Bor Text). s.now) roles.now ≡ codes "station" ∷ codes "bridge" ∷ codes "router" ∷ []

-- the option for the role: one of the role names, `station` by default
abbrev pub role_rule : Bor (List (Bor Text)) → Rule
role_rule roles = record (text_rule (codes "role") (codes "station")) { parser = Some (Names roles) }

-- The command line: `--version`, the options in the order of the help, and the names of any number of ports.
-- `--receive-only` has no value, and `--listen` has no default.
abbrev pub program : Bor (List (Bor Text)) → App
program roles =
    fold with_rule (on_top (λ s. record s { has_version = true }) (new_app (codes "lldpa")))
    (number_rule (codes "max-neighbors") most_neighbors (codes "32")
    ∷ text_rule (codes "mac") (codes "02:00:00:00:00:01")
    ∷ text_rule (codes "hostname") (codes "localhost")
    ∷ valued_rule (codes "management")
    ∷ role_rule roles
    ∷ number_rule (codes "tx-credit-max") most_credit_max (codes "5")
    ∷ number_rule (codes "tx-fast-init") most_fast_init (codes "4")
    ∷ number_rule (codes "reinit-delay") most_reinit (codes "2")
    ∷ record (new_rule (codes "receive-only")) { long = Some (codes "receive-only"); action = Some SetTrue }
    ∷ record (valued_rule (codes "listen")) { parser = Some (Signed (pos 1) (pos most_tcp_port)) }
    ∷ number_rule (codes "connections") most_connections (codes "1")
    ∷ record (new_rule (codes "PORT")) { range = Some (record { start_inclusive = 0; end_inclusive = usize_max }) } ∷ [])

-- the role with this name, or Station for any other name
abbrev pub role_named : Text → Role
role_named name = if bytes_eq name (codes "bridge") then Bridge else if bytes_eq name (codes "router") then Router
    else Station

-- without a text there is no address, otherwise it is the address that the text spells
abbrev pub AsksManagement : Option Text → Option (List ℕ) → Type 0
AsksManagement None given = given ≡ None
AsksManagement (Some text) given = (octets : List ℕ) × (given ≡ Some octets) × IsDotted text octets

-- the option has a text, and it spells no address of this kind
abbrev pub IsBad : (Text → List ℕ → Type 0) → Option Text → Type 0
IsBad IsAddress given = IsSomeAnd given (λ text. (address : List ℕ) → ¬ IsAddress text address)

-- Mac: the value of `--mac` cannot be read. Management: only that of `--management` cannot.
abbrev pub HasBadAddress : List Row → AddressFault → Type 0
HasBadAddress rows Mac = IsBad IsMac (first_of (codes "mac") rows)
HasBadAddress rows Management =
    ((mac : List ℕ) × IsSomeAnd (first_of (codes "mac") rows) (λ text. IsMac text mac))
    × IsBad IsDotted (first_of (codes "management") rows)

-- Each option has the value of its argument, or its default.
pub record Asks (rows : List Row) (o : Options) : Type 0 where
  pub names : o.names ≡ unwrap_or (all_of (codes "PORT") rows) []
  pub mac : IsSomeAnd (first_of (codes "mac") rows) (λ text. IsMac text o.mac)
  pub hostname : first_of (codes "hostname") rows ≡ Some o.hostname
  pub management : AsksManagement (first_of (codes "management") rows) o.management
  pub role : option_map role_named (first_of (codes "role") rows) ≡ Some o.role
  pub max_neighbors : option_map byte_or_zero (one_of (codes "max-neighbors") rows) ≡ Some o.max_neighbors
  pub credit_max : option_map byte_or_zero (one_of (codes "tx-credit-max") rows) ≡ Some o.credit_max
  pub fast_init : option_map byte_or_zero (one_of (codes "tx-fast-init") rows) ≡ Some o.fast_init
  pub reinit : option_map byte_or_zero (one_of (codes "reinit-delay") rows) ≡ Some o.reinit
  pub receives : one_of (codes "receive-only") rows ≡ Some (codes "true") → o.receive_only ≡ true
  pub sends : one_of (codes "receive-only") rows ≡ Some (codes "false") → o.receive_only ≡ false

-- there is a text, and it spells this number
abbrev pub WritesNumber : Option Text → ℕ → Type 0
WritesNumber None n = ⊥
WritesNumber (Some text) n = ParsesUnsigned {E = Unit {0}} 16 10 text (Ok n)

-- Without `--listen`, the options do not ask to listen. With it, they ask for the port and the
-- number of connections that the texts of `--listen` and `--connections` spell.
abbrev pub AsksListening : Option Text → Option Text → Option Listening → Type 0
AsksListening None connections listening = listening ≡ None
AsksListening (Some port) connections None = ⊥
AsksListening (Some port) connections (Some listening) =
    WritesNumber (Some port) listening.port × WritesNumber connections listening.connections

-- a parse accepts these arguments, and yields these rows
pub record IsParse (words : List Text) (rows : List Row) : Type 0 where
  pub roles : Bor (List (Bor Text))
  pub named : AreRoles roles
  pub taken : fault_of (program roles) words ≡ []
  pub rows_are : rows ≡ matches_of (program roles) words

-- a parse of these arguments may fail with an error of this kind
pub record MayFail (words : List Text) (kind : ErrorKind) : Type 0 where
  pub roles : Bor (List (Bor Text))
  pub named : AreRoles roles
  pub among : IsAmong kind (fault_of (program roles) words)

-- the arguments ask for help or the version
abbrev pub AskForHelp : List Text → Type 0
AskForHelp words = MayFail words DisplayHelp ⊎ MayFail words DisplayVersion

-- Which arguments are refused, and which past an agent goes on from.
use Rattle.std.specs.Prelude.{◌≡◌, ◌<◌, ℕ, List, [], ◌∷◌, Some, codes}
use Rattle.std.specs.Borrow.{Bor}
use Rattle.std.specs.Net.Text.{dotted_text}
use Rattle.clap.specs.Walk.{Row, Text, first_of}
use Rattle.lldp_engine.specs.AgentState.{AgentState}
use Rattle.lldp_engine.specs.Event.{Event}
use Rattle.lldp_engine.specs.Headline.{Promised}
use Rattle.lldp_engine.specs.Options.{Options}
use Rattle.lldp_engine.specs.Past.{Past, with_event}
use Rattle.lldp_engine.specs.Standing.{Stands}
use Rattle.lldp_program.specs.declared.arguments.AddressFault.{AddressFault}
use Rattle.lldp_program.specs.declared.arguments.AddressFault.TheVariants.{Mac, Management}
use Rattle.lldp_program.specs.CommandLine.Addresses.{IsMac}
use Rattle.lldp_program.specs.CommandLine.Usage.{AreRoles, AskForHelp, Asks, HasBadAddress, IsParse}
use Rattle.lldp_program.specs.Program.{AreWrong}
use Rattle.lldp_program.specs.Trace.Runs.{KeepsOn}

-- the text is not four numbers below 256 with dots between them
abbrev pub IsNotDotted : Text → Type 0
IsNotDotted text = (a b c d : ℕ) → a < 256 → b < 256 → c < 256 → d < 256 → text ≡ dotted_text a b c d → ⊥

-- An address is bad exactly if its text is no address, `--mac` before `--management`. Then no
-- options are asked for.
pub record RefusesBadAddresses (rows : List Row) : Type 0 where
  pub never : (fault : AddressFault) (o : Options) → HasBadAddress rows fault → Asks rows o → ⊥
  pub mac : (text : Text) → first_of (codes "mac") rows ≡ Some text → ((mac : List ℕ) → IsMac text mac → ⊥) → HasBadAddress rows Mac
  pub management : (text other : Text) (mac : List ℕ) → first_of (codes "mac") rows ≡ Some text → IsMac text mac →
      first_of (codes "management") rows ≡ Some other → IsNotDotted other → HasBadAddress rows Management
  pub first : HasBadAddress rows Mac → HasBadAddress rows Management → ⊥

-- What goes on from a past and one more event goes on from the past; nothing more may happen.
pub record GoesOn (past : Past) (agent : AgentState) : Type 0 where
  pub same : Stands past agent → Promised past agent → KeepsOn past agent
  pub later : (event : Event) → KeepsOn (with_event past event) agent → KeepsOn past agent

-- `lldpa --help` and `lldpa --version` ask for help, and are not wrong. `lldpa --quiet eth0` is
-- wrong, and asks for no help. None of them is parsed.
pub record SortsWords (roles : Bor (List (Bor Text))) : Type 0 where
  pub help : AreRoles roles → AskForHelp (codes "lldpa" ∷ codes "--help" ∷ [])
  pub help_alone : (rows : List Row) → IsParse (codes "lldpa" ∷ codes "--help" ∷ []) rows → ⊥
  pub help_right : AreWrong (codes "lldpa" ∷ codes "--help" ∷ []) → ⊥
  pub version : AreRoles roles → AskForHelp (codes "lldpa" ∷ codes "--version" ∷ [])
  pub version_alone : (rows : List Row) → IsParse (codes "lldpa" ∷ codes "--version" ∷ []) rows → ⊥
  pub version_right : AreWrong (codes "lldpa" ∷ codes "--version" ∷ []) → ⊥
  pub wrong : AreRoles roles → AreWrong (codes "lldpa" ∷ codes "--quiet" ∷ codes "eth0" ∷ [])
  pub wrong_alone : (rows : List Row) → IsParse (codes "lldpa" ∷ codes "--quiet" ∷ codes "eth0" ∷ []) rows → ⊥
  pub no_help : AskForHelp (codes "lldpa" ∷ codes "--quiet" ∷ codes "eth0" ∷ []) → ⊥

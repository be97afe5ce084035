-- The values that a parse of the program's arguments yields for the options.
use Rattle.std.specs.Prelude.{◌≡◌, ℕ, List, Some, is_some, pos, true}
use Rattle.std.specs.Borrow.{Bor}
use Rattle.clap.specs.Simple.{app_of}
use Rattle.clap.specs.Walk.{Text}
use Rattle.clap.specs.Words.{found_of, first_value, one_text, without_minus, IsParsedFrom, IsSignedIn}
use Rattle.clap.specs.declared.builder.command.Command.{Command}
use Rattle.clap.specs.declared.parser.matches.ArgMatches.{ArgMatches}
use Rattle.lldp_program.specs.CommandLine.Usage.{program}

-- the matches are the result of a parse with the program's command line
pub record IsProgramParse (m : ArgMatches) : Type 0 where
  pub command : Command
  pub roles : Bor (List (Bor Text))
  pub line : app_of command ≡ program roles
  pub parsed : IsParsedFrom command m

-- the option of this name has a text: that of its argument, or its default
abbrev pub GivesText : Text → ArgMatches → Type 0
GivesText name m = is_some (first_value (found_of m) name) ≡ true

-- the option of this name has a number from 1 to `greatest`
abbrev pub GivesNumber : ℕ → Text → ArgMatches → Type 0
GivesNumber greatest name m =
    (text : Text) × (one_text (found_of m) name ≡ Some (without_minus text)) × IsSignedIn (pos 1) (pos greatest) text

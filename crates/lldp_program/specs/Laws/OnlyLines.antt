-- Which lines ask for which work: exactly those with these words, octet by octet.
use Rattle.std.specs.Prelude.{◌≡◌, ◌≢◌, ◌<◌, ◌≤◌, ◌⊎◌, ◌↔◌, ℕ, true, false, Bool, List, [], ◌∷◌, length, Some, None, Ok, Err, is_ok}
use Rattle.hex.specs.Hex.{decode_of}
use Rattle.lldp_text.specs.declared.fault.CommandFault.TheVariants.{Unknown, NoSuchPort, Extra, Quote}
use Rattle.lldp_text.specs.Number.{number_of}
use Rattle.lldp_text.specs.Words.{AreWords}
use Rattle.lldp_engine.specs.AgentState.{AgentState, names_of}
use Rattle.lldp_engine.specs.Place.{place_of}
use Rattle.lldp_engine.specs.Laws.OnlyForms.{AreWordsOf, IsNotInUse}
use Rattle.lldp_program.specs.declared.line.LineFault.{LineFault}
use Rattle.lldp_program.specs.declared.line.LineFault.TheVariants.{TooLong, Hex, Command}
use Rattle.lldp_program.specs.Trace.Forms.{tick_form, frame_form, link_form, form_of, work_given}
use Rattle.lldp_program.specs.Trace.Work.{Work, skip, ticks, frame, link, command}
use Rattle.lldp_program.specs.Laws.Sayings.{tick_word, rx_word, up_word, down_word, IsPassedOver}
use Rattle.lldp_program.specs.Ranges.{most_of_line, most_ticks}

-- the line is neither too long nor skipped, and these are its words
pub record IsReadAs (line : List ℕ) (words : List (List ℕ)) : Type 0 where
  pub short : length line ≤ most_of_line
  pub read : IsPassedOver line → ⊥
  pub are : AreWords line words

-- A line asks for what its words ask for. It is too long if it has more than 4,096 octets. If it
-- does not split into words, a quote is misplaced.
pub record SaysItsWords (agent : AgentState) (line : List ℕ) : Type 0 where
  pub words : (words : List (List ℕ)) → IsReadAs line words → work_given agent line ≡ form_of agent words
  pub quote : length line ≤ most_of_line → (IsPassedOver line → ⊥) → ((words : List (List ℕ)) → AreWords line words → ⊥) →
      work_given agent line ≡ Err (Command Quote)
  pub long : most_of_line < length line → work_given agent line ≡ Err TooLong

-- the word spells this number of ticks, 1 to 65535
abbrev pub SaysTicks : ℕ → List ℕ → Type 0
SaysTicks n word = number_of word 1 most_ticks ≡ Ok n

-- the word is the name of this port
abbrev pub NamesPort : AgentState → ℕ → List ℕ → Type 0
NamesPort agent port word = place_of (names_of agent) word ≡ Some port

-- the word is not the name of a port
abbrev pub NamesNoPort : AgentState → List ℕ → Type 0
NamesNoPort agent word = place_of (names_of agent) word ≡ None

-- the word for a link that came up (true) or went down (false)
abbrev pub link_word : Bool → List ℕ
link_word true = up_word
link_word false = down_word

-- The words that ask for this work, with nothing after them: `tick`, for one tick; `tick` and a
-- number of ticks, 1 to 65,535; `rx`, a port's name and hexadecimal octets; `up` or `down` and a
-- port's name; or a whole command.
abbrev pub AreWordsOfWork : AgentState → Work → List (List ℕ) → Type 0
AreWordsOfWork agent skip words = ⊥
AreWordsOfWork agent (ticks n) words =
    ((words ≡ tick_word ∷ []) × (n ≡ 1))
    ⊎ ((word : List ℕ) × SaysTicks n word × (words ≡ tick_word ∷ word ∷ []))
AreWordsOfWork agent (frame port octets) words =
    (name : List ℕ) × (digits : List ℕ) × NamesPort agent port name × (decode_of digits ≡ Ok octets)
    × (words ≡ rx_word ∷ name ∷ digits ∷ [])
AreWordsOfWork agent (link port up) words =
    (name : List ℕ) × NamesPort agent port name × (words ≡ link_word up ∷ name ∷ [])
AreWordsOfWork agent (command given) words = AreWordsOf agent given words × IsNotInUse agent given

-- The lines that ask for this work: blank lines and comments for `skip`, else lines with its words.
abbrev pub IsLineOfWork : AgentState → Work → List ℕ → Type 0
IsLineOfWork agent skip line = (length line ≤ most_of_line) × IsPassedOver line
IsLineOfWork agent work line = (words : List (List ℕ)) × IsReadAs line words × AreWordsOfWork agent work words

-- The fault of the words after `tick`: that of a bad number, or a word too many after the number.
abbrev pub RefusesTicks : List (List ℕ) → LineFault → Type 0
RefusesTicks [] fault = ⊥
RefusesTicks (word ∷ behind) (Command fault) =
    (number_of word 1 most_ticks ≡ Err fault)
    ⊎ ((n : ℕ) × SaysTicks n word × (behind ≢ []) × (fault ≡ Extra))
RefusesTicks (word ∷ behind) fault = ⊥

-- The fault of the words after `rx` is the first of these: no name; no port of this name; no
-- digits; digits that do not spell octets; a word too many.
abbrev pub RefusesFrame : AgentState → List (List ℕ) → LineFault → Type 0
RefusesFrame agent [] fault = fault ≡ Command Unknown
RefusesFrame agent (name ∷ []) fault =
    (NamesNoPort agent name × (fault ≡ Command NoSuchPort))
    ⊎ ((port : ℕ) × NamesPort agent port name × (fault ≡ Command Unknown))
RefusesFrame agent (name ∷ digits ∷ behind) fault =
    (NamesNoPort agent name × (fault ≡ Command NoSuchPort))
    ⊎ ((port : ℕ) × NamesPort agent port name
    × (((is_ok (decode_of digits) ≡ false) × (fault ≡ Hex))
    ⊎ ((is_ok (decode_of digits) ≡ true) × (behind ≢ []) × (fault ≡ Command Extra))))

-- The fault of the words after `up` or `down` is the first of these: no name; no port of this name;
-- a word too many.
abbrev pub RefusesLink : AgentState → List (List ℕ) → LineFault → Type 0
RefusesLink agent [] fault = fault ≡ Command Unknown
RefusesLink agent (name ∷ behind) fault =
    (NamesNoPort agent name × (fault ≡ Command NoSuchPort))
    ⊎ ((port : ℕ) × NamesPort agent port name × (behind ≢ []) × (fault ≡ Command Extra))

-- The words after `tick`, `rx`, `up` and `down` have exactly the faults defined above.
pub record RefusesForms (agent : AgentState) (words : List (List ℕ)) (fault : LineFault) : Type 0 where
  pub tick : (tick_form words ≡ Err fault) ↔ RefusesTicks words fault
  pub rx : (frame_form agent words ≡ Err fault) ↔ RefusesFrame agent words fault
  pub up : (link_form agent true words ≡ Err fault) ↔ RefusesLink agent words fault
  pub down : (link_form agent false words ≡ Err fault) ↔ RefusesLink agent words fault

-- The fault of words that are not a command: the first word that fits no command decides it.
use Rattle.std.specs.Prelude.{◌≡◌, ℕ, false, List, [], ◌∷◌, ◌++◌, codes, Some, None, Err}
use Rattle.std.specs.List.{AllByRecursion, Contains}
use Rattle.lldp_text.specs.declared.fault.CommandFault.{CommandFault}
use Rattle.lldp_text.specs.declared.fault.CommandFault.TheVariants.{Unknown, NoSuchPort, Text, Extra}
use Rattle.lldp_text.specs.Text.{is_text}
use Rattle.lldp_text.specs.Number.{number_of}
use Rattle.lldp_engine.specs.declared.port.status.Status.TheVariants.{RxAndTx, RxOnly, TxOnly, Disabled}
use Rattle.lldp_engine.specs.Place.{place_of}
use Rattle.lldp_engine.specs.AgentState.{AgentState, names_of}
use Rattle.lldp_engine.specs.Command.{Command}
use Rattle.lldp_engine.specs.Given.{said_by}
use Rattle.lldp_engine.specs.Laws.OnlyForms.{AreWordsOf, word_of}
use Rattle.lldp_engine.specs.Ranges.{most_interval, most_hold}

-- The first words of commands, and the fixed words that may follow them.
abbrev pub Choice : Type 0
Choice = List (List ℕ) × List (List ℕ)

-- After these first words, one of these fixed words must follow.
abbrev pub choices : List Choice
choices =
    ([], codes "show" ∷ codes "configure" ∷ codes "update" ∷ [])
    ∷ (codes "show" ∷ [], codes "neighbors" ∷ codes "statistics" ∷ codes "chassis" ∷ codes "configuration" ∷ [])
    ∷ (codes "configure" ∷ [], codes "system" ∷ codes "lldp" ∷ codes "ports" ∷ [])
    ∷ (codes "configure" ∷ codes "system" ∷ [], codes "hostname" ∷ codes "description" ∷ [])
    ∷ (codes "configure" ∷ codes "lldp" ∷ [], codes "tx-interval" ∷ codes "tx-hold" ∷ codes "max-neighbors" ∷ []) ∷ []

-- After `configure ports` and the name of a port, these fixed words must follow.
abbrev pub choices_behind : List ℕ → List Choice
choices_behind name =
    (codes "configure" ∷ codes "ports" ∷ name ∷ [], codes "lldp" ∷ [])
    ∷ (codes "configure" ∷ codes "ports" ∷ name ∷ codes "lldp" ∷ [], codes "status" ∷ [])
    ∷ (codes "configure" ∷ codes "ports" ∷ name ∷ codes "lldp" ∷ codes "status" ∷ [], word_of RxAndTx ∷ word_of RxOnly ∷ word_of TxOnly ∷ word_of Disabled ∷ []) ∷ []

-- A text, a number or the name of a port must follow these first words.
abbrev pub before_arguments : List (List (List ℕ))
before_arguments =
    (codes "configure" ∷ codes "system" ∷ codes "hostname" ∷ [])
    ∷ (codes "configure" ∷ codes "system" ∷ codes "description" ∷ [])
    ∷ (codes "configure" ∷ codes "lldp" ∷ codes "tx-interval" ∷ [])
    ∷ (codes "configure" ∷ codes "lldp" ∷ codes "tx-hold" ∷ [])
    ∷ (codes "configure" ∷ codes "lldp" ∷ codes "max-neighbors" ∷ [])
    ∷ (codes "configure" ∷ codes "ports" ∷ []) ∷ []

-- If no word follows these first words, the fault is Unknown.
abbrev pub WantsMore : AgentState → List (List ℕ) → Type 0
WantsMore agent front = said_by agent front ≡ Err Unknown

-- After the first words, any word outside the choice has the fault Unknown, whatever follows it.
abbrev pub TakesOnly : AgentState → List ℕ → List (List ℕ) → Choice → Type 0
TakesOnly agent word behind choice =
    ¬ (Contains choice.1 word) → said_by agent (choice.0 ++ word ∷ behind) ≡ Err Unknown

-- The fault of a word that fits no command, whatever follows it: Unknown in place of a fixed word;
-- Text, the fault of the number, or NoSuchPort in place of an argument; Extra after a whole
-- command. A missing word has the fault Unknown.
pub record TellsFirstFault (agent : AgentState) (word : List ℕ) (behind : List (List ℕ)) : Type 0 where
  pub fixed : AllByRecursion (TakesOnly agent word behind) choices
  pub fixed_behind : (name : List ℕ) (port : ℕ) → place_of (names_of agent) name ≡ Some port →
      AllByRecursion (TakesOnly agent word behind) (choices_behind name)
  pub hostname : is_text word ≡ false →
      said_by agent (codes "configure" ∷ codes "system" ∷ codes "hostname" ∷ word ∷ behind) ≡ Err Text
  pub description : is_text word ≡ false →
      said_by agent (codes "configure" ∷ codes "system" ∷ codes "description" ∷ word ∷ behind) ≡ Err Text
  pub interval : (fault : CommandFault) → number_of word 1 most_interval ≡ Err fault →
      said_by agent (codes "configure" ∷ codes "lldp" ∷ codes "tx-interval" ∷ word ∷ behind) ≡ Err fault
  pub hold : (fault : CommandFault) → number_of word 1 most_hold ≡ Err fault →
      said_by agent (codes "configure" ∷ codes "lldp" ∷ codes "tx-hold" ∷ word ∷ behind) ≡ Err fault
  pub limit : (fault : CommandFault) → number_of word 1 agent.configuration.capacity ≡ Err fault →
      said_by agent (codes "configure" ∷ codes "lldp" ∷ codes "max-neighbors" ∷ word ∷ behind) ≡ Err fault
  pub port : place_of (names_of agent) word ≡ None →
      said_by agent (codes "configure" ∷ codes "ports" ∷ word ∷ behind) ≡ Err NoSuchPort
  pub extra : (command : Command) (words : List (List ℕ)) → AreWordsOf agent command words →
      said_by agent (words ++ word ∷ behind) ≡ Err Extra
  pub missing : AllByRecursion (λ choice. WantsMore agent choice.0) choices
  pub missing_argument : AllByRecursion (WantsMore agent) before_arguments
  pub missing_behind : (name : List ℕ) (port : ℕ) → place_of (names_of agent) name ≡ Some port →
      AllByRecursion (λ choice. WantsMore agent choice.0) (choices_behind name)

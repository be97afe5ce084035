-- The words from which each command is read.
use Rattle.std.specs.Prelude.{◌≡◌, ℕ, true, List, [], ◌∷◌, codes, Some, Ok}
use Rattle.lldp_engine.specs.declared.command.Show.TheVariants.{Neighbors, Statistics, Chassis, Configuration}
use Rattle.lldp_engine.specs.declared.port.status.Status.{Status}
use Rattle.lldp_engine.specs.declared.port.status.Status.TheVariants.{RxAndTx, RxOnly, TxOnly, Disabled}
use Rattle.lldp_text.specs.Text.{is_text}
use Rattle.lldp_text.specs.Number.{number_of}
use Rattle.lldp_engine.specs.Place.{place_of}
use Rattle.lldp_engine.specs.Event.{hostname, description, interval, hold, limit, status, update}
use Rattle.lldp_engine.specs.AgentState.{AgentState, names_of}
use Rattle.lldp_engine.specs.Command.{Command, show, set}
use Rattle.lldp_engine.specs.Laws.InUse.{HoldAtMost}
use Rattle.lldp_text.specs.Words.{words_of}
use Rattle.lldp_engine.specs.Ranges.{most_interval, most_hold}

-- Returns the word of a status.
abbrev pub word_of : Status → List ℕ
word_of RxAndTx = codes "rx-and-tx"
word_of RxOnly = codes "rx-only"
word_of TxOnly = codes "tx-only"
word_of Disabled = codes "disabled"

-- The words of a command. An argument is a text, a word that reads as the number and is in the
-- range, the name of the port, or the word of the status.
abbrev pub AreWordsOf : AgentState → Command → List (List ℕ) → Type 0
AreWordsOf agent (show Neighbors) words = words ≡ codes "show" ∷ codes "neighbors" ∷ []
AreWordsOf agent (show Statistics) words = words ≡ codes "show" ∷ codes "statistics" ∷ []
AreWordsOf agent (show Chassis) words = words ≡ codes "show" ∷ codes "chassis" ∷ []
AreWordsOf agent (show Configuration) words = words ≡ codes "show" ∷ codes "configuration" ∷ []
AreWordsOf agent (set (hostname text)) words =
    (is_text text ≡ true) × (words ≡ codes "configure" ∷ codes "system" ∷ codes "hostname" ∷ text ∷ [])
AreWordsOf agent (set (description text)) words =
    (is_text text ≡ true) × (words ≡ codes "configure" ∷ codes "system" ∷ codes "description" ∷ text ∷ [])
AreWordsOf agent (set (interval n)) words =
    (word : List ℕ) × (number_of word 1 most_interval ≡ Ok n) × (words ≡ codes "configure" ∷ codes "lldp" ∷ codes "tx-interval" ∷ word ∷ [])
AreWordsOf agent (set (hold n)) words =
    (word : List ℕ) × (number_of word 1 most_hold ≡ Ok n) × (words ≡ codes "configure" ∷ codes "lldp" ∷ codes "tx-hold" ∷ word ∷ [])
AreWordsOf agent (set (limit n)) words =
    (word : List ℕ) × (number_of word 1 agent.configuration.capacity ≡ Ok n)
    × (words ≡ codes "configure" ∷ codes "lldp" ∷ codes "max-neighbors" ∷ word ∷ [])
AreWordsOf agent (set (status port given)) words =
    (name : List ℕ) × (place_of (names_of agent) name ≡ Some port)
    × (words ≡ codes "configure" ∷ codes "ports" ∷ name ∷ codes "lldp" ∷ codes "status" ∷ word_of given ∷ [])
AreWordsOf agent (set update) words = words ≡ codes "update" ∷ []

-- If the command sets a limit, every port holds at most that many neighbors.
abbrev pub IsNotInUse : AgentState → Command → Type 0
IsNotInUse agent (set (limit n)) = HoldAtMost agent n
IsNotInUse agent command = Unit {0}

-- The line has the words of the command, and a limit that it sets is not in use.
abbrev pub IsLineOf : AgentState → Command → List ℕ → Type 0
IsLineOf agent command line =
    (words : List (List ℕ)) × (words_of line ≡ Some words) × AreWordsOf agent command words × IsNotInUse agent command

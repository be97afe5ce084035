-- The forms of the commands, and how words are compared with them.
use Rattle.std.specs.Prelude.{ℕ, if◌then◌else◌, List, [], ◌∷◌, codes, Option, Some, None, Result, Ok, Err, ok_or}
use Rattle.std.specs.Str.{bytes_eq}
use Rattle.lldp_text.specs.declared.fault.CommandFault.{CommandFault}
use Rattle.lldp_text.specs.declared.fault.CommandFault.TheVariants.{Unknown, NoSuchPort, Text, Extra}
use Rattle.lldp_engine.specs.declared.command.Show.TheVariants.{Neighbors, Statistics, Chassis, Configuration}
use Rattle.lldp_engine.specs.declared.port.status.Status.{Status}
use Rattle.lldp_engine.specs.declared.port.status.Status.TheVariants.{RxAndTx, RxOnly, TxOnly, Disabled}
use Rattle.lldp_text.specs.Text.{is_text}
use Rattle.lldp_text.specs.Number.{number_of}
use Rattle.lldp_engine.specs.Place.{place_of}
use Rattle.lldp_engine.specs.Event.{hostname, description, interval, hold, limit, status as port_status, update}
use Rattle.lldp_text.specs.Answer.{on_ok}
use Rattle.lldp_engine.specs.Command.{Command, show, set}
use Rattle.lldp_engine.specs.Ranges.{most_interval, most_hold}

-- The rest of a command: nothing; a fixed word and the rest after it; or an argument, on which the
-- rest may depend.
pub data Form : Type 0 where
  complete : Command → Form
  word : List ℕ → Form → Form
  port : (ℕ → Form) → Form
  number : ℕ → ℕ → (ℕ → Form) → Form
  text : (List ℕ → Form) → Form
  status : (Status → Form) → Form

-- THE FORMS of all commands; `capacity` is the limit of neighbors at opening.
abbrev pub forms : ℕ → List Form
forms capacity =
    word (codes "show") (word (codes "neighbors") (complete (show Neighbors)))
    ∷ word (codes "show") (word (codes "statistics") (complete (show Statistics)))
    ∷ word (codes "show") (word (codes "chassis") (complete (show Chassis)))
    ∷ word (codes "show") (word (codes "configuration") (complete (show Configuration)))
    ∷ word (codes "configure")
    (word (codes "system") (word (codes "hostname") (text (λ t. complete (set (hostname t))))))
    ∷ word (codes "configure")
    (word (codes "system") (word (codes "description") (text (λ t. complete (set (description t))))))
    ∷ word (codes "configure")
    (word (codes "lldp") (word (codes "tx-interval") (number 1 most_interval (λ n. complete (set (interval n))))))
    ∷ word (codes "configure")
    (word (codes "lldp") (word (codes "tx-hold") (number 1 most_hold (λ n. complete (set (hold n))))))
    ∷ word (codes "configure")
    (word (codes "lldp") (word (codes "max-neighbors") (number 1 capacity (λ n. complete (set (limit n))))))
    ∷ word (codes "configure")
    (word (codes "ports")
    (port (λ p. word (codes "lldp") (word (codes "status") (status (λ s. complete (set (port_status p s))))))))
    ∷ word (codes "update") (complete (set update))
    ∷ []

-- Returns the status that a word names, if there is one.
abbrev pub status_of : List ℕ → Option Status
status_of w =
    if bytes_eq w (codes "rx-and-tx") then Some RxAndTx
    else if bytes_eq w (codes "rx-only") then Some RxOnly
    else if bytes_eq w (codes "tx-only") then Some TxOnly
    else if bytes_eq w (codes "disabled") then Some Disabled
    else None

-- Returns the rest of the form after a word that fits it, or the fault of a word that does not.
abbrev pub after_word : List (List ℕ) → Form → List ℕ → Result Form CommandFault
after_word names (complete command) w = Err Extra
after_word names (word expected next) w = if bytes_eq w expected then Ok next else Err Unknown
after_word names (port next) w = on_ok next (ok_or (place_of names w) NoSuchPort)
after_word names (number least greatest next) w = on_ok next (number_of w least greatest)
after_word names (text next) w = if is_text w then Ok (next w) else Err Text
after_word names (status next) w = on_ok next (ok_or (status_of w) Unknown)

-- Adds the rest of one more form to the others, if the word fits that form.
abbrev pub and_left : Result Form CommandFault → List Form → List Form
and_left (Ok next) others = next ∷ others
and_left (Err fault) others = others

-- Returns the form's fault, or the fault of the others if the form has no fault or has Extra.
abbrev pub fault_or : Result Form CommandFault → CommandFault → CommandFault
fault_or (Ok next) others = others
fault_or (Err Extra) others = others
fault_or (Err fault) others = fault

-- Returns the forms, or this fault if there are none.
abbrev pub if_any : List Form → CommandFault → Result (List Form) CommandFault
if_any [] fault = Err fault
if_any (form ∷ others) fault = Ok (form ∷ others)

-- Returns what remains of the forms that a word fits.
abbrev pub forms_left : List (List ℕ) → List Form → List ℕ → List Form
forms_left names [] w = []
forms_left names (form ∷ others) w = and_left (after_word names form w) (forms_left names others w)

-- Returns the fault of a word that fits no form: the first one that is not Extra, or else Extra.
abbrev pub first_fault : List (List ℕ) → List Form → List ℕ → CommandFault
first_fault names [] w = Extra
first_fault names (form ∷ others) w = fault_or (after_word names form w) (first_fault names others w)

-- Returns what remains of the forms that a word fits, or the word's fault if it fits none.
abbrev pub going_on : List (List ℕ) → List Form → List ℕ → Result (List Form) CommandFault
going_on names left w = if_any (forms_left names left w) (first_fault names left w)

-- Returns the command of a form that is complete at the end of the words, or else Unknown.
abbrev pub completed : List Form → Result Command CommandFault
completed [] = Err Unknown
completed (complete command ∷ others) = Ok command
completed (form ∷ others) = completed others

-- Words are read from left to right. The first word that fits no form decides the fault.
abbrev pub read_forms : List (List ℕ) → Result (List Form) CommandFault → List (List ℕ) → Result Command CommandFault
read_forms names (Err fault) words = Err fault
read_forms names (Ok left) [] = completed left
read_forms names (Ok left) (w ∷ words) = read_forms names (going_on names left w) words

-- The next word of a line, and the end of its words.
use Rattle.std.specs.Prelude.{ℕ, List, [], ◌∷◌, Result, Ok, Err, ok_or}
use Rattle.lldp_text.specs.declared.fault.CommandFault.{CommandFault}
use Rattle.lldp_text.specs.declared.fault.CommandFault.TheVariants.{Unknown, NoSuchPort, Extra}
use Rattle.lldp_text.specs.Answer.{◌>>=◌}
use Rattle.lldp_engine.specs.Place.{place_of}

-- Returns the next word and those after it, or Unknown if there is none.
abbrev pub word_said : List (List ℕ) → Result (List ℕ × List (List ℕ)) CommandFault
word_said [] = Err Unknown
word_said (word ∷ words) = Ok (word, words)

-- Returns the number of the port that the next word names, and the words after it.
abbrev pub port_said : List (List ℕ) → List (List ℕ) → Result (ℕ × List (List ℕ)) CommandFault
port_said names words = do
  name ← word_said words
  port ← ok_or (place_of names name.0) NoSuchPort
  Ok (port, name.1)

-- Returns the fault Extra if a word is left.
abbrev pub end_said : List (List ℕ) → Result Unit CommandFault
end_said [] = Ok tt
end_said (word ∷ words) = Err Extra

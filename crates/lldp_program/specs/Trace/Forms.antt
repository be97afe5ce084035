-- What one line of a trace asks for. Each line is checked from left to right.
use Rattle.std.specs.Prelude.{ℕ, List, [], ◌∷◌, length, codes, Result, Ok, Err, nat_lt, ◌==◌, Bool, true, false, if◌then◌else◌, ok_or}
use Rattle.std.specs.Str.{bytes_eq}
use Rattle.hex.specs.Hex.{decode_of}
use Rattle.lldp_text.specs.declared.fault.CommandFault.{CommandFault}
use Rattle.lldp_text.specs.declared.fault.CommandFault.TheVariants.{Unknown, Quote}
use Rattle.lldp_text.specs.Fault.{text_of as command_fault_text}
use Rattle.lldp_text.specs.Words.{words_of, is_separator}
use Rattle.lldp_text.specs.Answer.{on_ok, ◌>>=◌}
use Rattle.lldp_text.specs.Number.{number_of}
use Rattle.lldp_engine.specs.AgentState.{AgentState, names_of}
use Rattle.lldp_engine.specs.NextWords.{word_said, port_said, end_said}
use Rattle.lldp_engine.specs.Given.{command_said}
use Rattle.lldp_program.specs.declared.line.LineFault.{LineFault}
use Rattle.lldp_program.specs.declared.line.LineFault.TheVariants.{TooLong, Hex, Command}
use Rattle.lldp_program.specs.Trace.Work.{Work, skip, ticks, frame, link, command}
use Rattle.lldp_program.specs.Ranges.{most_of_line, most_ticks}
use Rattle.std.specs.Result.{result_map_both}

-- turns the fault of a command into a fault of its line
abbrev pub of_command : {A : Type 0} → Result A CommandFault → Result A LineFault
of_command said = result_map_both (λ x. x) Command said

-- the words after `tick`: none for one tick, or a number of ticks from 1 to 65535
unfoldable pub tick_form : List (List ℕ) → Result Work LineFault
tick_form [] = Ok (ticks 1)
tick_form (word ∷ words) = do
  n ← of_command (number_of word 1 most_ticks)
  end ← of_command (end_said words)
  Ok (ticks n)

-- the words after `rx`: a port, and the octets of a frame that it received, in hexadecimal
unfoldable pub frame_form : AgentState → List (List ℕ) → Result Work LineFault
frame_form agent words = do
  port ← of_command (port_said (names_of agent) words)
  digits ← of_command (word_said port.1)
  octets ← result_map_both (λ octets. octets) (λ fault. Hex) (decode_of digits.0)
  end ← of_command (end_said digits.1)
  Ok (frame port.0 octets)

-- the words after `up` or `down`: the port whose link came up or went down
unfoldable pub link_form : AgentState → Bool → List (List ℕ) → Result Work LineFault
link_form agent up words = do
  port ← of_command (port_said (names_of agent) words)
  end ← of_command (end_said port.1)
  Ok (link port.0 up)

-- the words of a line: `tick`, `rx`, `up` and `down` begin a form, any other word a command
unfoldable pub form_of : AgentState → List (List ℕ) → Result Work LineFault
form_of agent [] = Err (Command Unknown)
form_of agent (word ∷ words) =
    if bytes_eq word (codes "tick") then tick_form words
    else if bytes_eq word (codes "rx") then frame_form agent words
    else if bytes_eq word (codes "up") then link_form agent true words
    else if bytes_eq word (codes "down") then link_form agent false words
    else on_ok command (of_command (command_said agent (word ∷ words)))

-- true if the line has only spaces and tabs, or `#` as the first other octet
abbrev pub is_skipped : List ℕ → Bool
is_skipped [] = true
is_skipped (octet ∷ octets) = if is_separator octet then is_skipped octets else octet == 35

-- What a line asks of an agent, or the fault of the line. The checks in order: its length, at most
-- 4,096 octets; whether it is skipped; its quotes; its form.
unfoldable pub work_given : AgentState → List ℕ → Result Work LineFault
work_given agent line =
    if nat_lt most_of_line (length line) then Err TooLong
    else if is_skipped line then Ok skip
    else of_command (ok_or (words_of line) Quote) >>= form_of agent

-- the line that reports the fault of a refused line, without LF
abbrev pub fault_text : LineFault → List ℕ
fault_text TooLong = codes "error: line too long"
fault_text Hex = codes "error: bad hexadecimal"
fault_text (Command fault) = command_fault_text fault

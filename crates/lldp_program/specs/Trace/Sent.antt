-- The lines that report what ports sent.
use Rattle.std.specs.Prelude.{ℕ, List, [], ◌++◌, codes, get_or}
use Rattle.std.specs.List.{flat_map}
use Rattle.hex.specs.Hex.{encode_lower}
use Rattle.lldp_engine.specs.Configuration.{Configuration}
use Rattle.lldp_engine.specs.Frames.{frame_of}
use Rattle.lldp_engine.specs.Past.{Past, Sending, configuration_after, marks_of}
use Rattle.lldp_program.specs.Trace.Lines.{ended}

-- the line `tx NAME HEX` for what a port sends, by the names of the ports and the configuration: the
-- frame in lower case hexadecimal, and an LF
abbrev pub mark_line : List (List ℕ) → Configuration → Sending → List ℕ
mark_line names configuration mark =
    let name = get_or names mark.0 [] in
    ended (codes "tx " ++ name ++ codes " " ++ encode_lower (frame_of configuration name mark.1))

-- the lines for what ports sent at the last event, with the configuration after that event
abbrev pub sent_text : Past → List ℕ
sent_text past = flat_map (mark_line past.options.names (configuration_after past.options past.events)) (marks_of past)

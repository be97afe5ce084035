-- The descriptions of error numbers.
use Rattle.std.specs.Prelude.{ℕ, ◌==◌, List, [], ◌∷◌, Option, Some, None, is_none, codes, if◌then◌else◌}
use Rattle.lldp_pdu.specs.Check.{Check}
use Rattle.lldpa_c.specs.declared.answer.TheConstants.{OUT_OF_RANGE, NO_ROOM}
use Rattle.lldpa_c.specs.Answer.{is_over}

-- the description of an error number, if there is such an error
abbrev pub words_of : ℕ → Option (List ℕ)
words_of n =
    if n == 1 then Some (codes "no complete TLV where a mandatory one belongs")
    else if n == 2 then Some (codes "the first TLV is not a Chassis ID")
    else if n == 3 then Some (codes "the Chassis ID does not have 2 to 256 octets")
    else if n == 4 then Some (codes "the second TLV is not a Port ID")
    else if n == 5 then Some (codes "the Port ID does not have 2 to 256 octets")
    else if n == 6 then Some (codes "the third TLV is not a Time To Live")
    else if n == 7 then Some (codes "the Time To Live has fewer than 2 octets")
    else if n == 8 then Some (codes "a mandatory TLV is repeated after the third")
    else if n == 11 then Some (codes "it does not fit in 1500 octets")
    else if n == 12 then Some (codes "a TLV of its type may not be put")
    else if n == 13 then Some (codes "its body is not well formed for its type")
    else if n == 21 then Some (codes "there was no memory")
    else if n == 22 then Some (codes "no port was named")
    else if n == 23 then Some (codes "more than 64 ports were named")
    else if n == 24 then Some (codes "the name of a port is not valid")
    else if n == 25 then Some (codes "two ports have the same name")
    else if n == 26 then Some (codes "the hostname is over 255 octets, or has one that is not printable")
    else if n == 31 then Some (codes "unknown command")
    else if n == 32 then Some (codes "no such port")
    else if n == 33 then Some (codes "not a number")
    else if n == 34 then Some (codes "out of range")
    else if n == 35 then Some (codes "bad text")
    else if n == 36 then Some (codes "extra word")
    else if n == 37 then Some (codes "bad quote")
    else if n == 38 then Some (codes "too many held")
    else if n == 100 then Some (codes "a number or a length is not in its range")
    else if n == 101 then Some (codes "the room is too small")
    else if n == 102 then Some (codes "the agent is not open")
    else if n == 103 then Some (codes "the agent has no port of that number")
    else if n == 104 then Some (codes "the agent is open already")
    else if n == 105 then Some (codes "a pointer is NULL")
    else None

-- A description is not written if no error has this number, or if the text does not fit.
abbrev pub words_checks : ℕ → ℕ → List (Check ℕ)
words_checks number room =
    record { fails = is_none (words_of number); fault = OUT_OF_RANGE }
    ∷ record { fails = is_over room (words_of number); fault = NO_ROOM }
    ∷ []

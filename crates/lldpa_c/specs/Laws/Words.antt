-- The descriptions of error numbers, number by number.
use Rattle.std.specs.Prelude.{◌≡◌, ℕ, ◌<◌, List, [], ◌∷◌, ◌++◌, map, drop, replicate, Option, Some, None, codes}
use Rattle.std.specs.List.{range_with_len}
use Rattle.lldp_text.specs.declared.fault.CommandFault.TheVariants.{Unknown, NoSuchPort, Number, Range, Text, Extra, Quote, InUse}
use Rattle.lldp_text.specs.Fault.{text_of}
use Rattle.lldpa_c.specs.Texts.{words_of}

-- descriptions of the faults of LLDPDUs, from number 1 on
abbrev pub pdu_words : List (List ℕ)
pdu_words =
    codes "no complete TLV where a mandatory one belongs"
    ∷ codes "the first TLV is not a Chassis ID"
    ∷ codes "the Chassis ID does not have 2 to 256 octets"
    ∷ codes "the second TLV is not a Port ID"
    ∷ codes "the Port ID does not have 2 to 256 octets"
    ∷ codes "the third TLV is not a Time To Live"
    ∷ codes "the Time To Live has fewer than 2 octets"
    ∷ codes "a mandatory TLV is repeated after the third" ∷ []

-- descriptions of the faults of TLVs that are built, from number 11 on
abbrev pub tlv_words : List (List ℕ)
tlv_words =
    codes "it does not fit in 1500 octets"
    ∷ codes "a TLV of its type may not be put"
    ∷ codes "its body is not well formed for its type" ∷ []

-- descriptions of the faults of opening, from number 21 on
abbrev pub opening_words : List (List ℕ)
opening_words =
    codes "there was no memory"
    ∷ codes "no port was named"
    ∷ codes "more than 64 ports were named"
    ∷ codes "the name of a port is not valid"
    ∷ codes "two ports have the same name"
    ∷ codes "the hostname is over 255 octets, or has one that is not printable" ∷ []

-- descriptions of the faults of commands, from 31 on: their error lines without `error: `
abbrev pub command_words : List (List ℕ)
command_words = map (λ fault. drop 7 (text_of fault)) (Unknown ∷ NoSuchPort ∷ Number ∷ Range ∷ Text ∷ Extra ∷ Quote ∷ InUse ∷ [])

-- descriptions of the other errors, from number 100 on
abbrev pub misuse_words : List (List ℕ)
misuse_words =
    codes "a number or a length is not in its range"
    ∷ codes "the room is too small"
    ∷ codes "the agent is not open"
    ∷ codes "the agent has no port of that number"
    ∷ codes "the agent is open already"
    ∷ codes "a pointer is NULL" ∷ []

-- this many numbers without a description
abbrev pub no_words : ℕ → List (Option (List ℕ))
no_words count = replicate count None

-- The numbers of these lists have these descriptions, and no other number has a description.
pub record AreWords : Type 0 where
  pub few : map words_of (range_with_len 0 106)
      ≡ no_words 1 ++ map Some pdu_words ++ no_words 2 ++ map Some tlv_words ++ no_words 7 ++ map Some opening_words
      ++ no_words 4 ++ map Some command_words ++ no_words 61 ++ map Some misuse_words
  pub others : (n : ℕ) → 105 < n → words_of n ≡ None

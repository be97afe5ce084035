-- A line at the front of a text.
use Rattle.std.specs.Prelude.{◌≡◌, ℕ, ◌<◌, ◌==◌, ◌&&◌, not, nat_lt, Bool, List, [], length, take, slice_index}
use Rattle.lldp_program.specs.Code.Pieces.{pieces}

-- true for an octet that is neither a space, a quote nor a control character
abbrev pub is_plain_octet : ℕ → Bool
is_plain_octet c = nat_lt 32 c && not (c == 34)

-- the first LF of the text is at this place
pub record EndsAt (text : List ℕ) (end : ℕ) : Type 0 where
  pub within : end < length text
  pub line_feed : slice_index text end ≡ 10
  pub clear : pieces (take end text) ≡ []

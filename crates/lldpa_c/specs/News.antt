-- The news of a frame: what its step tells, in the struct for C.
use Rattle.std.specs.Prelude.{◌≡◌, ℕ, ◌+◌, if◌then◌else◌, List, Option, Some, None}
use Rattle.lldp_pdu.specs.FaultNumber.{pdu_fault_number}
use Rattle.lldp_pdu.specs.Msap.{MsapId}
use Rattle.lldp_table.specs.declared.learned.Outcome.{Outcome}
use Rattle.lldp_table.specs.declared.learned.Outcome.TheVariants.{Added, Changed, Repeated, NoRoom}
use Rattle.lldp_engine.specs.Told.{Told, nothing, deaf, not_lldp, refused, stored, left}
use Rattle.lldpa_c.specs.declared.place.LldpaPlace.{LldpaPlace}
use Rattle.lldpa_c.specs.declared.news.LldpaNews.{LldpaNews}
use Rattle.lldpa_c.specs.declared.news.TheConstants.{NOT_LLDP, DEAF, REFUSED, NEW, CHANGED, SAME, DROPPED, GONE, UNKNOWN}
use Rattle.lldpa_c.specs.Examined.{chassis_place, port_place}
use Rattle.lldpa_c.specs.Place.{Holds}

-- the number of what a frame with a TTL above 0 did
abbrev pub outcome_number : Outcome → ℕ
outcome_number Added = NEW
outcome_number Changed = CHANGED
outcome_number Repeated = SAME
outcome_number NoRoom = DROPPED

-- the number of what is told; only another event than a frame tells nothing
abbrev pub news_number : Told → ℕ
news_number nothing = NOT_LLDP
news_number not_lldp = NOT_LLDP
news_number deaf = DEAF
news_number (refused fault) = REFUSED
news_number (stored msap outcome) = outcome_number outcome
news_number (left msap held) = if held then GONE else UNKNOWN

-- the number of the fault that is told, or 0
abbrev pub news_fault : Told → ℕ
news_fault nothing = 0
news_fault not_lldp = 0
news_fault deaf = 0
news_fault (refused fault) = pdu_fault_number fault
news_fault (stored msap outcome) = 0
news_fault (left msap held) = 0

-- the MSAP identifier that is told, if an LLDPDU without a fault was received
abbrev pub news_name : Told → Option MsapId
news_name (stored msap outcome) = Some msap
news_name (left msap held) = Some msap
news_name told = None

-- converts a range of the LLDPDU to the range of the same octets in the frame
abbrev pub in_frame : LldpaPlace → LldpaPlace
in_frame place = record { start = 14 + place.start; length = place.length }

-- the ranges are those of these identifiers in a frame
pub record PlacesName (told : LldpaNews) (name : MsapId) : Type 0 where
  pub chassis : told.chassis ≡ in_frame (chassis_place name)
  pub port : told.port ≡ in_frame (port_place name)

-- the ranges contain the bodies of these identifiers
pub record HoldsName (frame : List ℕ) (told : LldpaNews) (name : MsapId) : Type 0 where
  pub chassis : Holds frame told.chassis name.chassis
  pub port : Holds frame told.port name.port

-- no identifiers are reported: both ranges are empty
pub record TellsNoName (told : LldpaNews) : Type 0 where
  pub chassis : told.chassis ≡ record { start = 0; length = 0 }
  pub port : told.port ≡ record { start = 0; length = 0 }

-- The report on a frame of which this is told: what the frame did, the number of the LLDPDU's fault
-- or 0, and the ranges of the identifiers if an LLDPDU without a fault was received.
pub record Reports (told : Told) (frame : List ℕ) (news : LldpaNews) : Type 0 where
  pub what : news.what ≡ news_number told
  pub fault : news.fault ≡ news_fault told
  pub none : news_name told ≡ None → TellsNoName news
  pub named : (name : MsapId) → news_name told ≡ Some name → HoldsName frame news name

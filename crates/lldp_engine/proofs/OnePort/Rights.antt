-- The machine's right to transmit follows the status, and its link follows the link events.
use Rattle.std.proofs.Common.{◌≡◌, ℕ, Bool, true, false, List, [], ◌∷◌, Option, Some, refl, ap, ◌∙◌}
use Rattle.lldp_pdu.specs.Msap.{MsapId}
use Rattle.lldp_pdu.specs.Lldpdu.{msap_of}
use Rattle.lldp_table.specs.Events.{answer}
use Rattle.lldp_table.specs.declared.learned.Learned.{Learned}
use Rattle.lldp_table.specs.declared.learned.Learned.TheVariants.{New}
use Rattle.lldp_transmit.specs.declared.event.Cause.{Cause}
use Rattle.lldp_transmit.specs.declared.event.Cause.TheVariants.{Neighbor, Nothing}
use Rattle.lldp_transmit.specs.History.{Settings, History, event as caused}
use Rattle.lldp_transmit.specs.Moments.{moment, moments, up_after as up_by_cause, allowed_after, is_up, is_allowed}
use Rattle.lldp_engine.specs.declared.port.status.Status.{Status}
use Rattle.lldp_engine.specs.Options.{Options}
use Rattle.lldp_engine.specs.Status.{transmits}
use Rattle.lldp_engine.specs.Heard.{Heard, tells, heard_by}
use Rattle.lldp_engine.specs.Port.Event.{PortEvent, frame, link, status}
use Rattle.lldp_engine.specs.Port.Effects.{status_then, up_then, cause_at, cause_of_answer, cause_of_heard, cause_of_link, cause_of_right}
use Rattle.lldp_engine.specs.Port.Past.{Happened, status_after, up_after, table_events_after, settings_of, causes_after}
use Rattle.lldp_engine.specs.Laws.Rights.{FollowsStatus}

-- The table's answer means either a new neighbor or nothing.
answer_is : (P : Cause → Type 0) → P Neighbor → P Nothing → (a : Learned) → P (cause_of_answer a)
answer_is P neighbor none New = neighbor
answer_is P neighbor none a = none

heard_is : (P : Cause → Type 0) → P Neighbor → P Nothing → (a : MsapId → Learned) (h : Option Heard) → P (cause_of_heard a h)
heard_is P neighbor none a (Some (tells pdu)) = answer_is P neighbor none (a (msap_of pdu))
heard_is P neighbor none a h = none

-- ## The right to transmit

link_leaves : (up given right : Bool) → allowed_after (cause_of_link up given) right ≡ right
link_leaves true true right = refl
link_leaves true false right = refl
link_leaves false true right = refl
link_leaves false false right = refl

right_moves : (before after : Bool) → allowed_after (cause_of_right before after) before ≡ after
right_moves true true = refl
right_moves true false = refl
right_moves false true = refl
right_moves false false = refl

event_moves : (event : PortEvent) (before : Status) (up : Bool) (a : MsapId → Learned) → allowed_after (cause_at event before up a) (transmits before) ≡ transmits (status_then event before)
event_moves (frame octets) before up a = heard_is (λ c. allowed_after c (transmits before) ≡ transmits before) refl refl a (heard_by before up octets)
event_moves (link given) before up a = link_leaves up given (transmits before)
event_moves (status given) before up a = right_moves (transmits before) (transmits given)
event_moves event before up a = refl

is_allowed-cons : (s : Settings) (c : Cause) (n : ℕ) (h : History) → is_allowed s (moments s (caused c n ∷ h)) ≡ allowed_after c (is_allowed s (moments s h))
unfolding moment
is_allowed-cons s c n h = refl

rights_are : (o : Options) (past : List Happened) → is_allowed (settings_of o) (moments (settings_of o) (causes_after o past)) ≡ transmits (status_after o past)
rights_are o [] = refl
rights_are o (now ∷ past) =
    let answers = λ (name : MsapId). answer o.max_neighbors name (table_events_after o past) in
    let c = cause_at now.event (status_after o past) (up_after past) answers in
    is_allowed-cons (settings_of o) c now.interval (causes_after o past)
    ∙ ap (allowed_after c) (rights_are o past)
    ∙ event_moves now.event (status_after o past) (up_after past) answers

-- ## The link

link_moves : (up given : Bool) → up_by_cause (cause_of_link up given) up ≡ given
link_moves true true = refl
link_moves true false = refl
link_moves false true = refl
link_moves false false = refl

right_leaves_link : (before after up : Bool) → up_by_cause (cause_of_right before after) up ≡ up
right_leaves_link true true up = refl
right_leaves_link true false up = refl
right_leaves_link false true up = refl
right_leaves_link false false up = refl

event_moves_link : (event : PortEvent) (before : Status) (up : Bool) (a : MsapId → Learned) → up_by_cause (cause_at event before up a) up ≡ up_then event up
event_moves_link (frame octets) before up a = heard_is (λ c. up_by_cause c up ≡ up) refl refl a (heard_by before up octets)
event_moves_link (link given) before up a = link_moves up given
event_moves_link (status given) before up a = right_leaves_link (transmits before) (transmits given) up
event_moves_link event before up a = refl

is_up-cons : (s : Settings) (c : Cause) (n : ℕ) (h : History) → is_up (moments s (caused c n ∷ h)) ≡ up_by_cause c (is_up (moments s h))
unfolding moment
is_up-cons s c n h = refl

-- The machine's link is up exactly if the last link event says up, or if there was none.
pub links_are : (o : Options) (past : List Happened) → is_up (moments (settings_of o) (causes_after o past)) ≡ up_after past
links_are o [] = refl
links_are o (now ∷ past) =
    let answers = λ (name : MsapId). answer o.max_neighbors name (table_events_after o past) in
    let c = cause_at now.event (status_after o past) (up_after past) answers in
    is_up-cons (settings_of o) c now.interval (causes_after o past)
    ∙ ap (up_by_cause c) (links_are o past)
    ∙ event_moves_link now.event (status_after o past) (up_after past) answers

pub follows_status : (o : Options) (past : List Happened) → FollowsStatus o past
follows_status o past = record { right = rights_are o past; link = links_are o past }

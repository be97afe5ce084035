-- What the values that callers pass and get mean.
use Rattle.std.proofs.Common.{◌≡◌, ℕ, ◌<◌, ◌≤◌, ◌&&◌, Bool, true, false, List, [], Option, Some, None, Ok, Err, is_some, refl, sym, ap, ◌∙◌, subst, arith}
use Rattle.std.specs.Prelude.{◌==◌, if◌then◌else◌, nat_le, slice_get}
use Rattle.std.specs.Str.{bytes_eq}
use Rattle.std.proofs.lemmas.Bool.Decides.{nat_tests}
use Rattle.std.proofs.lemmas.Option.{slice_get_within}
use Rattle.std.proofs.lemmas.List.{length-map}
use Rattle.lldp_pdu.specs.Frame.{lldpdu_of}
use Rattle.lldp_pdu.specs.Fault.{fault_of}
use Rattle.lldp_pdu.specs.Lldpdu.{ttl_of, msap_of}
use Rattle.lldp_pdu.specs.View.{msap_view}
use Rattle.lldp_pdu.specs.declared.fault.PduFault.{PduFault}
use Rattle.lldp_text.specs.declared.fault.CommandFault.TheVariants.{Number, Range}
use Rattle.lldp_text.specs.Number.{is_number, in_range, number_of}
use Rattle.std.specs.Str.Parse.{digits_value}
use Rattle.lldp_table.specs.declared.learned.Outcome.TheVariants.{Changed, Repeated}
use Rattle.lldp_table.specs.Contents.{Contents}
use Rattle.lldp_table.specs.Outcomes.{octets_held, outcome_between}
use Rattle.lldp_table.proofs.Outcomes.{held_from, held_by}
use Rattle.lldp_engine.specs.declared.agent.event.Event.{Event}
use Rattle.lldp_engine.specs.declared.agent.event.Event.TheVariants.{Set}
use Rattle.lldp_engine.specs.declared.agent.event.Setting.{Setting}
use Rattle.lldp_engine.specs.declared.agent.event.Setting.TheVariants as setting
use Rattle.lldp_engine.specs.declared.agent.told.Told.{Told as CodeTold}
use Rattle.lldp_engine.specs.declared.agent.told.Told.TheVariants as code
use Rattle.lldp_engine.specs.declared.command.Command.{Command}
use Rattle.lldp_engine.specs.declared.command.Command.TheVariants as command
use Rattle.lldp_engine.specs.declared.command.Show.TheVariants.{Neighbors, Statistics, Chassis, Configuration}
use Rattle.lldp_engine.specs.Status.{receives}
use Rattle.lldp_engine.specs.Event.{event_of, frame}
use Rattle.lldp_engine.specs.Configuration.{Configuration as Configured, configured}
use Rattle.lldp_engine.specs.AgentState.{AgentState, PortState, Allows, names_of}
use Rattle.lldp_engine.specs.Port.Event.{for_port}
use Rattle.lldp_engine.specs.Command.{command_of}
use Rattle.lldp_engine.specs.Given.{said_by, command_said}
use Rattle.lldp_engine.specs.Told.{stored, left, told_of, told_of_pdu, told_of_frame, Tells}
use Rattle.lldp_engine.specs.Laws.OnlyForms.{AreWordsOf, IsNotInUse}
use Rattle.lldp_engine.specs.Laws.Calls.{set_by, comes_to, words_for, Holds, IsOutcome, IsTrueOf}
use Rattle.lldp_engine.proofs.ForLaws.InUse.{limit_allowed}
use Rattle.lldp_engine.proofs.ForLaws.Places.{place_is_first}
use Rattle.lldp_engine.proofs.ForLaws.OnlyForms.{only_its_words, only_said}
use Rattle.lldp_engine.specs.Ranges.{most_interval, most_hold}

-- ## Events

pub set_alike : (event : Event) (c : Configured) → configured (event_of event) c ≡ set_by event c
set_alike (Set (setting.Hostname text)) c = refl
set_alike (Set (setting.Description text)) c = refl
set_alike (Set (setting.Interval seconds)) c = refl
set_alike (Set (setting.Hold times)) c = refl
set_alike (Set (setting.Limit neighbors)) c = refl
set_alike event c = refl

pub come_alike : (event : Event) (i : ℕ) → for_port i (event_of event) ≡ comes_to i event
come_alike (Set (setting.Status port given)) i = refl
come_alike (Set (setting.Limit neighbors)) i = refl
come_alike event i = refl

pub ruleset events_do_what_they_say = (set_alike, come_alike)

-- ## Commands

have_words : (agent : AgentState) (words : List (List ℕ)) (command : Command) → AreWordsOf agent (command_of command) words → (word : List ℕ) × (words ≡ words_for word command)
have_words agent words (command.Show Neighbors) h = ([], h)
have_words agent words (command.Show Statistics) h = ([], h)
have_words agent words (command.Show Chassis) h = ([], h)
have_words agent words (command.Show Configuration) h = ([], h)
have_words agent words (command.Set (setting.Hostname text)) h = ([], h.1)
have_words agent words (command.Set (setting.Description text)) h = ([], h.1)
have_words agent words (command.Set (setting.Interval n)) h = (h.0, h.2)
have_words agent words (command.Set (setting.Hold n)) h = (h.0, h.2)
have_words agent words (command.Set (setting.Limit n)) h = (h.0, h.2)
have_words agent words (command.Set (setting.Status port given)) h = (h.0, h.2)
have_words agent words (command.Set setting.Update) h = ([], h)

pub its_words : (agent : AgentState) (words : List (List ℕ)) (command : Command) → said_by agent words ≡ Ok (command_of command) → (word : List ℕ) × (words ≡ words_for word command)
its_words agent words command h = have_words agent words command (only_its_words agent (command_of command) words h)

in_range_by : (least greatest m n : ℕ) (b c : Bool) → nat_le least m ≡ b → nat_le m greatest ≡ c → (if b && c then Ok m else Err Range) ≡ Ok n → (least ≤ n) × (n ≤ greatest)
in_range_by least greatest m n true true p q e = let same : m ≡ n = cc in (grind (arith, nat_tests), grind (arith, nat_tests))
in_range_by least greatest m n true false p q e = cc
in_range_by least greatest m n false c p q e = cc

number_by : (word : List ℕ) (least greatest n : ℕ) (b : Bool) → is_number word ≡ b → (if b then in_range least greatest (digits_value 10 word) else Err Number) ≡ Ok n → (least ≤ n) × (n ≤ greatest)
number_by word least greatest n true b e = in_range_by least greatest (digits_value 10 word) n _ _ refl refl e
number_by word least greatest n false b e = cc

number_within : (word : List ℕ) (least greatest n : ℕ) → number_of word least greatest ≡ Ok n → (least ≤ n) × (n ≤ greatest)
number_within word least greatest n e = number_by word least greatest n _ refl e

is_allowed : (agent : AgentState) (words : List (List ℕ)) (given : Setting) → AreWordsOf agent (command_of (command.Set given)) words → IsNotInUse agent (command_of (command.Set given)) → Allows agent (event_of (Set given))
is_allowed agent words (setting.Hostname text) h u = h.0
is_allowed agent words (setting.Description text) h u = h.0
is_allowed agent words (setting.Interval n) h u = number_within h.0 1 most_interval n h.1
is_allowed agent words (setting.Hold n) h u = number_within h.0 1 most_hold n h.1
is_allowed agent words (setting.Limit n) h u = let w = number_within h.0 1 agent.configuration.capacity n h.1 in limit_allowed agent n (w.0, w.1, u)
is_allowed agent words (setting.Status port given) h u =
    let first = place_is_first (names_of agent) h.0 port h.1 in
    omega (arith, slice_get_within (names_of agent) port h.0 first.here, length-map agent.ports (λ (p : PortState). p.name))
is_allowed agent words setting.Update h u = tt

pub allowed : (agent : AgentState) (words : List (List ℕ)) (given : Setting) → command_said agent words ≡ Ok (command_of (command.Set given)) → Allows agent (event_of (Set given))
allowed agent words given h = let said = only_said agent words (command_of (command.Set given)) h in is_allowed agent words given said.0 said.1

-- ## What a step tells

same_held : (m : Bool) (n : Bool) → m ≡ n → (P : Type 0) → (n ≡ true → P) × (P → n ≡ true) → (m ≡ true → P) × (P → m ≡ true)
same_held m n e P h = (λ t. h.0 (sym e ∙ t), λ p. e ∙ h.1 p)

none_is : {o : Option (List ℕ)} → is_some o ≡ true → o ≡ None → ⊥
none_is t n = cc

kept_is : (octets : List ℕ) (before after : Contents) (same : Bool) → Holds before octets → Holds after octets → IsOutcome octets before after (if same then Repeated else Changed)
kept_is octets before after true b a = (b, a)
kept_is octets before after false b a = (b, a)

outcome_is : (octets : List ℕ) (before after : Contents) (b a : Option (List ℕ)) → octets_held before (msap_of octets) ≡ b → octets_held after (msap_of octets) ≡ a → IsOutcome octets before after (outcome_between b a)
outcome_is octets before after None None e f = λ h. absurd (none_is (held_by after (msap_of octets) h) f)
outcome_is octets before after (Some x) None e f = λ h. absurd (none_is (held_by after (msap_of octets) h) f)
outcome_is octets before after None (Some y) e f = (λ h. absurd (none_is (held_by before (msap_of octets) h) e), held_from after (msap_of octets) (ap is_some f))
outcome_is octets before after (Some x) (Some y) e f = kept_is octets before after (bytes_eq x y) (held_from before (msap_of octets) (ap is_some e)) (held_from after (msap_of octets) (ap is_some f))

module _ (octets : List ℕ) (before after : Contents) where
  true_at_ttl : (b : Bool) (given : CodeTold) → (ttl_of octets == 0) ≡ b → fault_of octets ≡ None
      → told_of given ≡ (if b then left (msap_of octets) (is_some (octets_held before (msap_of octets))) else stored (msap_of octets) (outcome_between (octets_held before (msap_of octets)) (octets_held after (msap_of octets))))
      → IsTrueOf true (Some octets) before after given
  true_at_ttl true (code.Left name held) e f h =
      let named : msap_view name ≡ msap_of octets = cc in
      let is : held ≡ is_some (octets_held before (msap_of octets)) = cc in
      let zero_is : ttl_of octets ≡ 0 = grind (arith, nat_tests) in
      (octets, refl, refl, f, zero_is, record { chassis = ap (λ m. m.chassis) named; port = ap (λ m. m.port) named }, same_held held _ is (Holds before octets) (held_from before (msap_of octets), held_by before (msap_of octets)))
  true_at_ttl true code.Nothing e f h = cc
  true_at_ttl true code.Deaf e f h = cc
  true_at_ttl true code.NotLldp e f h = cc
  true_at_ttl true (code.Refused fault) e f h = cc
  true_at_ttl true (code.Stored name outcome) e f h = cc
  true_at_ttl false (code.Stored name outcome) e f h =
      let named : msap_view name ≡ msap_of octets = cc in
      let is : outcome ≡ outcome_between (octets_held before (msap_of octets)) (octets_held after (msap_of octets)) = cc in
      let lives : 0 < ttl_of octets = grind (arith, nat_tests) in
      (octets, refl, refl, f, lives, record { chassis = ap (λ m. m.chassis) named; port = ap (λ m. m.port) named }, subst (IsOutcome octets before after) (sym is) (outcome_is octets before after _ _ refl refl))
  true_at_ttl false code.Nothing e f h = cc
  true_at_ttl false code.Deaf e f h = cc
  true_at_ttl false code.NotLldp e f h = cc
  true_at_ttl false (code.Refused fault) e f h = cc
  true_at_ttl false (code.Left name held) e f h = cc

  true_at_fault : (r : Option PduFault) (given : CodeTold) → fault_of octets ≡ r → told_of given ≡ told_of_pdu octets r before after → IsTrueOf true (Some octets) before after given
  true_at_fault None given e h = true_at_ttl (ttl_of octets == 0) given refl e h
  true_at_fault (Some fault) (code.Refused other) e h = let same : other ≡ fault = cc in (octets, refl, refl, e ∙ ap Some (sym same))
  true_at_fault (Some fault) code.Nothing e h = cc
  true_at_fault (Some fault) code.Deaf e h = cc
  true_at_fault (Some fault) code.NotLldp e h = cc
  true_at_fault (Some fault) (code.Stored name outcome) e h = cc
  true_at_fault (Some fault) (code.Left name held) e h = cc

true_of : (hears : Bool) (pdu : Option (List ℕ)) (before after : Contents) (given : CodeTold) → told_of given ≡ told_of_frame hears pdu before after → IsTrueOf hears pdu before after given
true_of true (Some octets) before after given h = true_at_fault octets before after (fault_of octets) given refl h
true_of true None before after code.NotLldp h = (refl, refl)
true_of true None before after code.Nothing h = cc
true_of true None before after code.Deaf h = cc
true_of true None before after (code.Refused fault) h = cc
true_of true None before after (code.Stored name outcome) h = cc
true_of true None before after (code.Left name held) h = cc
true_of false pdu before after code.Deaf h = refl
true_of false pdu before after code.Nothing h = cc
true_of false pdu before after code.NotLldp h = cc
true_of false pdu before after (code.Refused fault) h = cc
true_of false pdu before after (code.Stored name outcome) h = cc
true_of false pdu before after (code.Left name held) h = cc

pub told_is_true : (before after : AgentState) (number : ℕ) (octets : List ℕ) (port next : PortState) (given : CodeTold) → Tells (frame number octets) before after (told_of given)
    → slice_get before.ports number ≡ Some port → slice_get after.ports number ≡ Some next → IsTrueOf (receives port.status && port.machine.up) (lldpdu_of octets) port.table next.table given
told_is_true before after number octets port next given tells here there =
    true_of (receives port.status && port.machine.up) (lldpdu_of octets) port.table next.table given (tells port next here there).is

-- Each show command prints exactly the lines of `whole_of`.
use Rattle.std.proofs.Common.{◌≡◌, ℕ, ◌+◌, ◌≤◌, length, arith, List, [], ◌∷◌, ◌++◌, map, take, Option, Some, None, refl, sym, ap, ◌∙◌, append_assoc}
use Rattle.std.specs.Prelude.{codes, decimal}
use Rattle.std.specs.List.{flat_map, enumerate_from}
use Rattle.std.specs.Borrow.{MutBor}
use Rattle.std.proofs.lemmas.List.{take-append-drop, append-nil, length-append}
use Rattle.lldp_text.specs.Text.{ended, escaped}
use Rattle.lldp_engine.specs.Takes.{Takes}
use Rattle.lldp_engine.specs.LineRoom.{TakesWritten, TakesAny}
use Rattle.lldp_pdu.specs.Tlv.{TlvUnit}
use Rattle.lldp_pdu.specs.Kept.{kept_of}
use Rattle.lldp_table.specs.Events.{Neighbor}
use Rattle.lldp_text.specs.KeptTlv.{tlv_text}
use Rattle.lldp_engine.specs.declared.command.Show.{Show}
use Rattle.lldp_engine.specs.declared.command.Show.TheVariants.{Neighbors, Statistics, Chassis, Configuration}
use Rattle.lldp_engine.specs.declared.port.status.Status.{Status}
use Rattle.lldp_engine.specs.declared.port.status.Status.TheVariants.{RxAndTx}
use Rattle.lldp_engine.specs.Configuration.{Configuration as Configured}
use Rattle.lldp_engine.specs.AgentState.{AgentState, PortState}
use Rattle.lldp_engine.specs.ChassisLines.{management_lines}
use Rattle.lldp_engine.specs.ConfigurationLines.{status_text, status_line}
use Rattle.lldp_engine.specs.Keys.{neighbor_key}
use Rattle.lldp_engine.specs.NeighborLines.{neighbor_lines, numbered_lines, port_lines}
use Rattle.lldp_engine.specs.Lines.{lines_of}
use Rattle.lldp_engine.specs.Laws.OnlyForms.{word_of}
use Rattle.lldp_engine.specs.Laws.Shows.{line_of, lines_of_counts, first_lines, lines_of_neighbor, lines_of_port, lines_of_management, line_of_status, whole_of, Adds, role_text, lines_of_chassis}
use Rattle.lldp_engine.specs.Code.ShownValue.{kept_line}
use Rattle.lldp_engine.specs.declared.agent.options.Role.{Role}
use Rattle.lldp_engine.specs.declared.agent.options.Role.TheVariants.{Station, Bridge, Router}
use Rattle.lldp_text.specs.Capabilities.{capabilities_text}
use Rattle.lldp_text.specs.Addresses.{mac_text}
use Rattle.lldp_pdu.specs.Capabilities.{caps_fields}
use Rattle.lldp_engine.specs.Frames.{capabilities_of}

-- ## Lines about the agent

management_alike : (address : Option (List ℕ)) → management_lines address ≡ lines_of_management address
management_alike None = refl
management_alike (Some address) = refl

word_alike : (status : Status) → status_text status ≡ word_of status
word_alike RxAndTx = refl
word_alike status = refl

status_alike : (port : PortState) → status_line port ≡ line_of_status port
status_alike port = rw (word_alike port.status) refl

statuses_alike : (ports : List PortState) → map status_line ports ≡ map line_of_status ports
statuses_alike [] = refl
statuses_alike (port ∷ ports) = rw (status_alike port, statuses_alike ports) refl

-- ## Lines about the ports

both_alike : (a b c d : List (List ℕ)) → a ≡ c → b ≡ d → a ++ b ≡ c ++ d
both_alike a b c d h k = rw (h, k) refl

first_alike : (name : List ℕ) (number : ℕ) (neighbor : Neighbor) → take 4 (neighbor_lines name number neighbor) ≡ first_lines name number neighbor
first_alike name number neighbor = simp append_assoc

behind_number : (name : List ℕ) (number : ℕ) (text : List ℕ) → neighbor_key name number ++ text ≡ line_of name (decimal number ++ codes "." ++ text)
behind_number name number text = simp append_assoc

kept_alike : (name : List ℕ) (number : ℕ) (tlvs : List TlvUnit) → map (kept_line (neighbor_key name number)) tlvs ≡ map (λ tlv. line_of name (decimal number ++ codes "." ++ tlv_text tlv)) tlvs
kept_alike name number [] = refl
kept_alike name number (tlv ∷ tlvs) = rw (behind_number name number (tlv_text tlv), kept_alike name number tlvs) refl

neighbor_alike : (name : List ℕ) (number : ℕ) (neighbor : Neighbor) → neighbor_lines name number neighbor ≡ lines_of_neighbor name (number, neighbor)
neighbor_alike name number neighbor =
    sym (take-append-drop 4 (neighbor_lines name number neighbor))
    ∙ both_alike _ _ _ _ (first_alike name number neighbor) (kept_alike name number (kept_of neighbor.octets))

numbered_alike : (name : List ℕ) (number : ℕ) (neighbors : List Neighbor) → numbered_lines name number neighbors ≡ flat_map (lines_of_neighbor name) (enumerate_from number neighbors)
numbered_alike name number [] = refl
numbered_alike name number (neighbor ∷ others) = both_alike _ _ _ _ (neighbor_alike name number neighbor) (numbered_alike name (number + 1) others)

ports_alike : (ports : List PortState) → flat_map port_lines ports ≡ flat_map lines_of_port ports
ports_alike [] = refl
ports_alike (port ∷ ports) = both_alike _ _ _ _ (ap (λ lines. lines_of_counts port ++ lines) (numbered_alike port.name 1 port.table.neighbors)) (ports_alike ports)

-- a role's only capability is shown as its text
pub shown_as_sent : (role : Role) → role_text role ≡ capabilities_text (caps_fields (capabilities_of role))
shown_as_sent Station = refl
shown_as_sent Bridge = refl
shown_as_sent Router = refl

chassis_alike : (c : Configured) (text : List ℕ) → text ≡ role_text c.role
    → (codes "local-chassis.mac=" ++ mac_text c.mac)
    ∷ (codes "local-chassis.name=" ++ escaped c.hostname)
    ∷ (codes "local-chassis.descr=" ++ escaped c.description)
    ∷ (codes "local-chassis.caps=" ++ text)
    ∷ management_lines c.management
    ≡ lines_of_chassis c
chassis_alike c text e = rw (e, management_alike c.management) refl

pub whole : (show : Show) (agent : AgentState) → lines_of show agent ≡ whole_of show agent
whole Neighbors agent = ports_alike agent.ports
whole Statistics agent = refl
whole Chassis agent = chassis_alike agent.configuration _ (sym (shown_as_sent agent.configuration.role))
whole Configuration agent = rw (statuses_alike agent.ports) refl

-- ## Sinks

added : (before after lines : List (List ℕ)) → Takes Adds before after lines → after ≡ before ++ lines
unfolding Takes
added before after [] h = sym h ∙ sym (append-nil before)
added before after (line ∷ lines) h = added h.0 after lines h.2 ∙ ap (λ ls. ls ++ lines) h.1 ∙ append_assoc before (line ∷ []) lines

adds : (before after lines : List (List ℕ)) → after ≡ before ++ lines → Takes Adds before after lines
unfolding Takes
adds before after [] h = sym (h ∙ append-nil before)
adds before after (line ∷ lines) h = (before ++ line ∷ [], refl, adds (before ++ line ∷ []) after lines (h ∙ sym (append_assoc before (line ∷ []) lines)))

pub takes_all : (before after lines : List (List ℕ)) → (Takes Adds before after lines → after ≡ before ++ lines) × (after ≡ before ++ lines → Takes Adds before after lines)
takes_all before after lines = (added before after lines, adds before after lines)

pub takes_written : (before after : List (List ℕ)) (writer : MutBor (List ℕ)) (line : List ℕ) → length line ≤ 2048 → TakesWritten Adds before (Some writer) after (writer.now ++ ended line) → after ≡ before ++ line ∷ []
takes_written before after writer line short h = h writer line refl refl (omega (arith, length-append writer.now (ended line), length-append line (10 ∷ [])))

pub takes_any : (before after : List (List ℕ)) (line : List ℕ) → TakesAny Adds before None after → after ≡ before ++ line ∷ []
takes_any before after line h = h line refl

-- The lines that report the frames that ports send.
use Rattle.std.proofs.Common.{◌≡◌, ℕ, ◌+◌, ◌<◌, List, [], ◌∷◌, ◌++◌, length, get_or, take, sym, ap, ◌∙◌, add-one, subst}
use Rattle.std.specs.Prelude.{Result, codes}
use Rattle.std.specs.List.{flat_map}
use Rattle.std.proofs.Math.Seq.{take-suc}
use Rattle.std.proofs.lemmas.Grind.{flat_map-append}
use Rattle.std.proofs.lemmas.List.{append-nil}
use Rattle.lldp_engine.specs.Event.{Event}
use Rattle.lldp_engine.specs.Configuration.{Configuration}
use Rattle.lldp_engine.specs.AgentState.{AgentState, names_of}
use Rattle.lldp_engine.specs.Frames.{frame_of}
use Rattle.lldp_engine.specs.Past.{Past, Sending, with_event, marks_of}
use Rattle.lldp_engine.specs.Standing.{Stands}
use Rattle.lldp_engine.proofs.Frames.Past.{configuration_reads}
use Rattle.lldp_engine.proofs.Readers.{names_read}
use Rattle.lldp_program.specs.Trace.Lines.{ended}
use Rattle.lldp_program.specs.Trace.Items.{Item, happens}
use Rattle.lldp_program.specs.Trace.Sent.{mark_line, sent_text}
use Rattle.lldp_program.specs.Code.Output.{Output, Puts, Writes, sent_line}
use Rattle.lldp_program.specs.Code.Parts.{RunsItems}
use Rattle.lldp_program.specs.declared.device.DeviceFault.{DeviceFault}
use Rattle.lldp_program.proofs.Texts.Taken.{in_parts, puts_then}
use Rattle.lldp_program.proofs.Runs.Joined.{one_item}

-- ## One port after another

abbrev lines_of : List (List ℕ) → Configuration → List Sending → List ℕ
lines_of names c marks = flat_map (mark_line names c) marks

-- appending the parts of a frame's line one after another appends the whole line
pub sent_waits : (w a b c d e name hex : List ℕ) → a ≡ w ++ codes "tx " → b ≡ a ++ name → c ≡ b ++ codes " " → d ≡ c ++ hex → e ≡ d ++ codes "\n" → e ≡ w ++ ended (codes "tx " ++ name ++ codes " " ++ hex)
sent_waits w a b c d e name hex tx named space digits end =
    let front = in_parts w a b (codes "tx ") name tx named in
    let words = in_parts w b c (codes "tx " ++ name) (codes " ") front space in
    let line = in_parts w c d (codes "tx " ++ name ++ codes " ") hex words digits in
    in_parts w d e (codes "tx " ++ name ++ codes " " ++ hex) (codes "\n") line end

one_more : (names : List (List ℕ)) (c : Configuration) (marks : List Sending) (mark : Sending) → lines_of names c marks ++ mark_line names c mark ≡ lines_of names c (marks ++ mark ∷ [])
one_more names c marks mark =
    ap (λ t. lines_of names c marks ++ t) (sym (append-nil (mark_line names c mark))) ∙ sym (flat_map-append (mark_line names c) marks (mark ∷ []))

-- the lines of the first i ports and then the next line are the lines of i + 1 ports
pub mark_next : (names : List (List ℕ)) (c : Configuration) (marks : List Sending) (i : ℕ) (d : Sending) (name octets : List ℕ) (x y z : Output) → i < length marks
    → name ≡ get_or names (get_or marks i d).0 [] → octets ≡ frame_of c (get_or names (get_or marks i d).0 []) (get_or marks i d).1
    → Puts (lines_of names c (take i marks)) x y → Puts (sent_line name octets) y z → Puts (lines_of names c (take (i + 1) marks)) x z
mark_next names c marks i d name octets x y z lt n o h k =
    let line : sent_line name octets ≡ mark_line names c (get_or marks i d) = (ap (λ (x : List ℕ). sent_line x octets) n ∙ ap (sent_line (get_or names (get_or marks i d).0 [])) o) in
    rw (add-one, take-suc marks i d lt)
    (subst (λ (text : List ℕ). Puts text x z) (ap (λ t. lines_of names c (take i marks) ++ t) line ∙ one_more names c (take i marks) (get_or marks i d)) (puts_then x y z _ _ h k))

-- ## An event

-- the lines made from the agent's state are those that the definitions give for its past
sent_is : (past : Past) (event : Event) (agent : AgentState) (marks : List Sending) → Stands (with_event past event) agent → marks ≡ marks_of (with_event past event)
    → lines_of (names_of agent) agent.configuration marks ≡ sent_text (with_event past event)
sent_is past event agent marks h m =
    let names = names_read (with_event past event) agent h in
    let c = configuration_reads (with_event past event) agent h in
    ap (lines_of (names_of agent) agent.configuration) m
    ∙ ap (λ (ns : List (List ℕ)). lines_of ns agent.configuration (marks_of (with_event past event))) names
    ∙ ap (λ (k : Configuration). lines_of past.options.names k (marks_of (with_event past event))) c

-- one event is run by writing the lines for what ports send
pub event_runs : (items : List Item) (event : Event) (before after : AgentState) (marks : List Sending) (r : Result (Unit {0}) DeviceFault) (o p : Output) → items ≡ happens event ∷ []
    → ((past : Past) → Stands past before → Stands (with_event past event) after) → ((past : Past) → Stands past before → marks ≡ marks_of (with_event past event))
    → Writes (lines_of (names_of after) after.configuration marks) r o p → RunsItems (λ _. items) r before after o p
event_runs items event before after marks r o p is stands sent h =
    rw is (one_item (happens event) before after r o p _ (λ past h. (stands past h, sent_is past event after marks (stands past h) (sent past h))) h)

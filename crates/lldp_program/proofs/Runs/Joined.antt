-- Two runs, one after the other.
use Rattle.std.proofs.Common.{◌≡◌, ℕ, suc, zero, ◌<◌, List, [], ◌∷◌, ◌++◌, ◌≤◌, take, drop, length-take, replicate, refl, sym, ap, ◌∙◌, append_assoc, arith, Option, subst}
use Rattle.std.specs.Prelude.{Result, Ok, Err}
use Rattle.std.specs.Io.KnownBytes.{Appends}
use Rattle.std.proofs.lemmas.List.{append-nil, take-append-drop, take-take}
use Rattle.std.specs.List.{flat_map}
use Rattle.lldp_engine.specs.declared.command.Show.{Show}
use Rattle.lldp_engine.specs.Past.{Past, agent_of}
use Rattle.lldp_engine.specs.Standing.{Stands}
use Rattle.lldp_engine.specs.Lines.{lines_of}
use Rattle.lldp_engine.specs.AgentState.{AgentState}
use Rattle.lldp_engine.proofs.Headline.{promised as keeps_promise}
use Rattle.lldp_program.specs.declared.line.LineFault.{LineFault}
use Rattle.lldp_program.specs.Trace.Lines.{ended}
use Rattle.lldp_program.specs.Code.Plain.{EndsAt}
use Rattle.lldp_program.proofs.Lines.Pieces.{ends_within, first_line, lines_split}
use Rattle.lldp_program.specs.Trace.Items.{Item, happens, shows, refused, after, after_all, text_of, text_of_all, items_of, items_of_work, items_of_lines}
use Rattle.lldp_program.specs.declared.device.DeviceFault.{DeviceFault}
use Rattle.lldp_program.specs.Code.Output.{IsWritten, WrittenBy, Output, Writes}
use Rattle.lldp_program.specs.Trace.Runs.{IsCutOff, Done, Failed}
use Rattle.lldp_program.specs.Code.Parts.{Ended, RunsItems}
use Rattle.lldp_engine.specs.Event.{tick}
use Rattle.lldp_engine.specs.Event as event
use Rattle.lldp_program.specs.Trace.Work.{frame}
use Rattle.lldp_program.specs.Trace.Forms.{fault_text, work_given}
use Rattle.lldp_program.proofs.Texts.Taken.{same_then}
use Rattle.lldp_program.proofs.Texts.Written.{appends_then, appends_nothing, appends_same}
use Rattle.lldp_program.proofs.Runs.Items.{after_all-append, text_of_all-append, items_of_lines-append}
use Rattle.lldp_program.specs.Code.Pieces.{pieces, unfinished}

pub done_none : (past : Past) (a : Option (List ℕ)) (agent : AgentState) → Stands past agent → Done past [] a a agent
done_none past a agent h = record { written = appends_nothing a; stands = h; promised = keeps_promise past agent h }

pub done_one : (past : Past) (item : Item) (a b : Option (List ℕ)) (agent : AgentState) → Appends a b (text_of past item) → Stands (after past item) agent → Done past (item ∷ []) a b agent
done_one past item a b agent h k = record {
  written = appends_same a b _ _ (sym (append-nil (text_of past item))) h;
  stands = k;
  promised = keeps_promise (after past item) agent k;
}

pub failed_one : (past : Past) (item : Item) (a b : Option (List ℕ)) (agent : AgentState) → IsWritten (IsCutOff (text_of past item)) a b → Stands (after past item) agent → Failed past (item ∷ []) a b agent
failed_one past item a b agent h k = record {
  before = [];
  item = item;
  later = [];
  in_order = refl;
  part = h.0;
  cut_off = h.1;
  written = h.2;
  stands = k;
  promised = keeps_promise (after past item) agent k;
}

pub done_then : (past : Past) (xs ys : List Item) (a b c : Option (List ℕ)) (agent : AgentState) → Appends a b (text_of_all past xs) → Done (after_all past xs) ys b c agent → Done past (xs ++ ys) a c agent
done_then past xs ys a b c agent h k = record {
  written = appends_same a c _ _ (sym (text_of_all-append past xs ys)) (appends_then a b c _ _ h k.written);
  stands = rw after_all-append k.stands;
  promised = rw after_all-append k.promised;
}

-- if an item of xs failed, it also failed as an item of xs ++ ys
pub failed_early : (past : Past) (xs ys : List Item) (a b : Option (List ℕ)) (agent : AgentState) → Failed past xs a b agent → Failed past (xs ++ ys) a b agent
failed_early past xs ys a b agent h = record {
  before = h.before;
  item = h.item;
  later = h.later ++ ys;
  in_order = ap (λ t. t ++ ys) h.in_order ∙ append_assoc h.before (h.item ∷ h.later) ys;
  part = h.part;
  cut_off = h.cut_off;
  written = h.written;
  stands = h.stands;
  promised = h.promised;
}

-- if xs was done and then an item of ys failed, an item of xs ++ ys failed
pub failed_later : (past : Past) (xs ys : List Item) (a b c : Option (List ℕ)) (agent : AgentState) → Appends a b (text_of_all past xs) → Failed (after_all past xs) ys b c agent → Failed past (xs ++ ys) a c agent
failed_later past xs ys a b c agent h k = record {
  before = xs ++ k.before;
  item = k.item;
  later = k.later;
  in_order = ap (λ t. xs ++ t) k.in_order ∙ sym (append_assoc xs k.before (k.item ∷ k.later));
  part = k.part;
  cut_off = rw after_all-append k.cut_off;
  written = appends_same a c _ _ (sym (append_assoc (text_of_all past xs) (text_of_all (after_all past xs) k.before) k.part) ∙ ap (λ t. t ++ k.part) (sym (text_of_all-append past xs k.before))) (appends_then a b c _ _ h k.written);
  stands = rw (append_assoc, after_all-append) k.stands;
  promised = rw (append_assoc, after_all-append) k.promised;
}

pub done_same : (past : Past) (xs ys : List Item) (a b : Option (List ℕ)) (agent : AgentState) → xs ≡ ys → Done past xs a b agent → Done past ys a b agent
done_same past xs ys a b agent e h = rw (← e) h

-- ## Two parts of a run

pub nothing_runs : {T : Type 0} (items : Past → List Item) (agent : AgentState) (o : Output) (done : T) → ((past : Past) → items past ≡ []) → RunsItems {T = T} items (Ok done) agent agent o o
nothing_runs items agent o done none = record {
  ended = λ past h. done_same past [] (items past) _ _ agent (sym (none past)) (done_none past o.taken agent h);
  same = record { failures = refl; place = refl; sink = refl };
}

item_ended : (past : Past) (item : Item) (r : Result (Unit {0}) DeviceFault) (a b : Option (List ℕ)) (agent : AgentState) (text : List ℕ) → text ≡ text_of past item → WrittenBy r text a b → Stands (after past item) agent → Ended r past (item ∷ []) a b agent
item_ended past item (Ok done) a b agent text is h k = done_one past item a b agent (appends_same a b _ _ is h) k
item_ended past item (Err fault) a b agent text is h k =
    failed_one past item a b agent (subst (λ (t : List ℕ). IsWritten (IsCutOff t) a b) is h) k

-- if the text of an item was written, the item was run; if a write failed, the item failed
pub one_item : (item : Item) (before agent : AgentState) (r : Result (Unit {0}) DeviceFault) (o p : Output) (text : List ℕ) → ((past : Past) → Stands past before → Stands (after past item) agent × (text ≡ text_of past item)) → Writes text r o p → RunsItems (λ _. item ∷ []) r before agent o p
one_item item before agent r o p text gives h = record {
  ended = λ past stands. let given = gives past stands in item_ended past item r _ _ agent text given.1 h.written given.0;
  same = h.same;
}

-- a show is run by writing the lines that the agent returns
pub show_runs : (items : List Item) (show : Show) (agent : AgentState) (r : Result (Unit {0}) DeviceFault) (o p : Output) → items ≡ shows show ∷ [] → Writes (flat_map ended (lines_of show agent)) r o p → RunsItems (λ _. items) r agent agent o p
show_runs items show agent r o p is h =
    rw is (one_item (shows show) agent agent r o p _ (λ past stands. (stands, ap (λ seen. flat_map ended (lines_of show seen)) stands.is)) h)

pub fault_runs : (items : List Item) (fault : LineFault) (text : List ℕ) (agent : AgentState) (r : Result (Unit {0}) DeviceFault) (o p : Output) → items ≡ refused fault ∷ [] → text ≡ fault_text fault → Writes (ended text) r o p → RunsItems (λ _. items) r agent agent o p
fault_runs items fault text agent r o p is said h =
    rw is (one_item (refused fault) agent agent r o p _ (λ past stands. (stands, ap ended said)) h)

pub runs_same : {T : Type 0} (xs ys : Past → List Item) (r : Result T DeviceFault) (before agent : AgentState) (o p : Output) → ((past : Past) → Stands past before → xs past ≡ ys past) → RunsItems xs r before agent o p → RunsItems ys r before agent o p
runs_same xs ys r before agent o p is h = record {
  ended = λ past stands. subst (λ (items : List Item). Ended r past items o.taken p.taken agent) (is past stands) (h.ended past stands);
  same = h.same;
}

pub ended_then : {T : Type 0} (past : Past) (xs ys : List Item) (r : Result T DeviceFault) (a b c : Option (List ℕ)) (agent : AgentState) → Appends a b (text_of_all past xs) → Ended r (after_all past xs) ys b c agent → Ended r past (xs ++ ys) a c agent
ended_then past xs ys (Ok done) a b c agent h k = done_then past xs ys a b c agent h k
ended_then past xs ys (Err fault) a b c agent h k = failed_later past xs ys a b c agent h k

-- if the first part of a run was done, the run ends as its second part does
pub runs_then : {T : Type 0} (xs ys zs : Past → List Item) (r : Result T DeviceFault) (before between agent : AgentState) (o p q : Output) (done : Unit {0}) → ((past : Past) → xs past ++ ys (after_all past (xs past)) ≡ zs past)
    → RunsItems {T = Unit {0}} xs (Ok done) before between o p → RunsItems ys r between agent p q → RunsItems zs r before agent o q
runs_then xs ys zs r before between agent o p q done is h k = record {
  ended = λ past stands. let first = h.ended past stands in
      subst (λ (items : List Item). Ended r past items o.taken q.taken agent) (is past)
      (ended_then past (xs past) (ys (after_all past (xs past))) r _ _ _ agent first.written (k.ended (after_all past (xs past)) first.stands));
  same = same_then o p q done r h.same k.same;
}

-- if the first part of a run failed, the run failed
pub runs_cut_off : {T X : Type 0} (xs ys zs : Past → List Item) (fault other : DeviceFault) (before agent : AgentState) (o p : Output) → ((past : Past) → xs past ++ ys past ≡ zs past) → RunsItems {T = T} xs (Err fault) before agent o p → RunsItems {T = X} zs (Err other) before agent o p
runs_cut_off xs ys zs fault other before agent o p is h = record {
  ended = λ past stands. subst (λ (items : List Item). Failed past items o.taken p.taken agent) (is past) (failed_early past (xs past) (ys past) _ _ agent (h.ended past stands));
  same = record { failures = h.same.failures; place = h.same.place; sink = h.same.sink };
}

-- ## Ticks

pub ticks_left : (i n : ℕ) → i < n → (more : List Item) × ((replicate i (happens tick) ++ happens tick ∷ []) ++ more ≡ replicate n (happens tick))
ticks_left i zero lt = absurd (omega arith)
ticks_left zero (suc n) lt = (replicate n (happens tick), refl)
ticks_left (suc i) (suc n) lt = let left = ticks_left i n (omega arith) in (left.0, ap (λ (items : List Item). happens tick ∷ items) left.1)

-- ## Lines

-- the first line of a text asks for these items
pub first_items : (past : Past) (xs : List ℕ) (end : ℕ) → EndsAt xs end → items_of_lines past (take 1 (pieces xs)) ≡ items_of past (take end xs)
first_items past xs end e = ap (λ ls. items_of_lines past (take 1 ls)) (first_line xs end e) ∙ append-nil (items_of past (take end xs))

-- the same of a line that is found in a longer text
pub line_items : (past : Past) (text : List ℕ) (held end : ℕ) → EndsAt (take held text) end → items_of past (take end text) ≡ items_of_lines past (take 1 (pieces (take held text)))
line_items past text held end e =
    let within : end ≤ held = omega (arith, e.within, length-take held text) in
    ap (items_of past) (sym (take-take end held text within)) ∙ sym (first_items past (take held text) end e)

-- a frame on that line is received
pub frame_items : (past : Past) (agent : AgentState) (text octets : List ℕ) (held end port : ℕ) → EndsAt text end → end < held → work_given agent (take end text) ≡ Ok (frame port octets) → agent ≡ agent_of past
    → happens (event.frame port octets) ∷ [] ≡ items_of_lines past (take 1 (pieces (take held text)))
frame_items past agent text octets held end port e h work is =
    ap items_of_work (sym work ∙ ap (λ seen. work_given seen (take end text)) is) ∙ line_items past text held end (ends_within text end held e h)

-- the items of the next line follow those of the lines before it
pub next_items : (past : Past) (xs rest : List ℕ) (start : ℕ) (lines : List (List ℕ)) → rest ≡ drop start xs → lines ≡ pieces (take start xs) ++ take 1 (pieces (drop start xs))
    → items_of_lines past (pieces (take start xs)) ++ items_of_lines (after_all past (items_of_lines past (pieces (take start xs)))) (take 1 (pieces rest)) ≡ items_of_lines past lines
next_items past xs rest start lines is all =
    rw (is, all) (sym (items_of_lines-append past (pieces (take start xs)) (take 1 (pieces (drop start xs)))))

-- the items of all lines begin with those
pub later_items : (xs : List ℕ) (start : ℕ) → unfinished (take start xs) ≡ []
    → (later : Past → List Item) × ((past : Past) → items_of_lines past (pieces (take start xs) ++ take 1 (pieces (drop start xs))) ++ later past ≡ items_of_lines past (pieces xs))
later_items xs start whole =
    let first = pieces (take start xs) ++ take 1 (pieces (drop start xs)) in
    let later = drop 1 (pieces (drop start xs)) in
    let all : first ++ later ≡ pieces xs =
    append_assoc (pieces (take start xs)) (take 1 (pieces (drop start xs))) later ∙ ap (λ ls. pieces (take start xs) ++ ls) (take-append-drop 1 (pieces (drop start xs)))
    ∙ sym (lines_split xs start whole) in
    ((λ past. items_of_lines (after_all past (items_of_lines past first)) later), λ past. sym (items_of_lines-append past first later) ∙ ap (items_of_lines past) all)

-- a part of a run that was done is done whatever it returns
pub done_as : {T X : Type 0} (items : Past → List Item) (t : T) (x : X) (before agent : AgentState) (o p : Output) → RunsItems items (Ok t) before agent o p → RunsItems items (Ok x) before agent o p
done_as items t x before agent o p h = record { ended = h.ended; same = record { failures = h.same.failures; place = h.same.place; sink = h.same.sink } }

-- a run that failed is the same run with any fault and result
pub failed_as : {T X : Type 0} (items : Past → List Item) (fault other : DeviceFault) (before agent : AgentState) (o p : Output) → RunsItems {T = T} items (Err fault) before agent o p → RunsItems {T = X} items (Err other) before agent o p
failed_as items fault other before agent o p h =
    runs_cut_off items (λ _. []) items fault other before agent o p (λ past. append-nil (items past)) h

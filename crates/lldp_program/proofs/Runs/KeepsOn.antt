-- `KeepsOn` holds after items that were done, and after an item whose output failed.
use Rattle.std.proofs.Common.{inl, inr, ◌≡◌, ℕ, List, [], ◌∷◌, ◌++◌, refl, sym, ap, ◌∙◌, append_assoc, Option}
use Rattle.lldp_engine.specs.Event.{Event}
use Rattle.lldp_engine.specs.Past.{Past, with_event}
use Rattle.lldp_engine.specs.Standing.{Stands}
use Rattle.lldp_engine.specs.AgentState.{AgentState}
use Rattle.lldp_program.specs.Trace.Items.{Item, happens, shows, refused, after_all}
use Rattle.lldp_program.specs.Trace.Runs.{Done, Failed, StoppedAt, KeepsOn, followed}
use Rattle.lldp_engine.specs.Headline.{Promised}
use Rattle.lldp_engine.proofs.Headline.{have_sent_exactly}

pub all_followed : (past : Past) (items : List Item) → (events : List Event) × (after_all past items ≡ followed past events)
all_followed past [] = ([], refl)
all_followed past (happens event ∷ items) =
    let more = all_followed (with_event past event) items in
    (more.0 ++ event ∷ [], more.1 ∙ ap (λ events. record { options = past.options; events = events }) (sym (append_assoc more.0 (event ∷ []) past.events)))
all_followed past (shows show ∷ items) = all_followed past items
all_followed past (refused fault ∷ items) = all_followed past items

keeps_after : (past : Past) (items : List Item) (agent : AgentState) → Stands (after_all past items) agent → Promised (after_all past items) agent → KeepsOn past agent
keeps_after past items agent h k =
    let more = all_followed past items in
    let stands : Stands (followed past more.0) agent = rw more.1 at h in
    (more.0, stands, rw more.1 at k, have_sent_exactly (followed past more.0) agent stands)

pub done_keeps_on : (past : Past) (items : List Item) (a b : Option (List ℕ)) (agent : AgentState) → Done past items a b agent → KeepsOn past agent
done_keeps_on past items a b agent h = keeps_after past items agent h.stands h.promised

failed_keeps_on : (past : Past) (items : List Item) (a b : Option (List ℕ)) (agent : AgentState) → Failed past items a b agent → KeepsOn past agent
failed_keeps_on past items a b agent h = keeps_after past (h.before ++ h.item ∷ []) agent h.stands h.promised

pub stopped_keeps_on : (past : Past) (input : List ℕ) (left a b : Option (List ℕ)) (agent : AgentState) → StoppedAt past input left a b agent → KeepsOn past agent
stopped_keeps_on past input left a b agent (inl failed) = failed_keeps_on past _ a b agent failed
stopped_keeps_on past input left a b agent (inr failed) = failed_keeps_on past _ a b agent failed.1

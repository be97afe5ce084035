-- If a table matches a list of calls, then after one more call it matches the list with that call.
use Rattle.std.proofs.Common.{◌≡◌, ℕ, ◌<◌, ◌≤◌, List, [], ◌∷◌, refl, ap, sym, subst, is_some, arith}
use Rattle.std.specs.List.{list_any}
use Rattle.lldp_pdu.specs.Msap.{MsapId}
use Rattle.lldp_table.specs.Events.{Call, learn, forget, purge, tick, set_limit, TableEvent, learned, live, neighbors, too_many_left, limit_after, answer, event_of, events_of}
use Rattle.lldp_table.specs.Contents.{Contents, is_named}
use Rattle.lldp_table.specs.Code.Steps.{learn_answer, newly_opened, table_after}
use Rattle.lldp_table.specs.Standing.{Stands, IsPossible, table_of}
use Rattle.lldp_table.specs.declared.learned.Learned.{Learned}
use Rattle.lldp_table.specs.declared.learned.Learned.TheVariants.{New, Refreshed, Dropped}
use Rattle.lldp_table.proofs.Live.Events.{Arrived, Arrived-new, Arrived-refreshed, Arrived-dropped, Arrived-forgot, Arrived-purged, Arrived-ticked, Arrived-limit_set, neighbors-limit_set, has-live, answer_by, by_refreshed, by_new, neighbors-new, neighbors-refreshed, neighbors-dropped, neighbors-forgot, neighbors-purged, neighbors-ticked, gone-ticked, too_many-dropped, too_many-ticked}
use Rattle.std.proofs.lemmas.Grind.{common_steps}

-- ## Live MSAP identifiers are among the arrivals

Arrived-learnt : (opened : ℕ) (name : MsapId) (ttl : ℕ) (octets : List ℕ) (past : List TableEvent) (a : Learned) → answer opened name past ≡ a → Arrived past → Arrived (learned name ttl octets a ∷ past)
Arrived-learnt opened name ttl octets past New e h = Arrived-new name ttl octets past h
Arrived-learnt opened name ttl octets past Refreshed e h = Arrived-refreshed name ttl octets past (by_refreshed (is_some (live name past)) _ e) h
Arrived-learnt opened name ttl octets past Dropped e h = Arrived-dropped name ttl octets past h

pub arrived : (opened : ℕ) (calls : List Call) → Arrived (events_of opened calls)
unfolding events_of live
arrived opened [] = λ name h. h
arrived opened (learn name ttl octets ∷ calls) = Arrived-learnt opened name ttl octets (events_of opened calls) (answer opened name (events_of opened calls)) refl (arrived opened calls)
arrived opened (forget name ∷ calls) = Arrived-forgot name (events_of opened calls) (arrived opened calls)
arrived opened (purge ∷ calls) = Arrived-purged (events_of opened calls)
arrived opened (tick ∷ calls) = Arrived-ticked (events_of opened calls) (arrived opened calls)
arrived opened (set_limit limit ∷ calls) = Arrived-limit_set limit (events_of opened calls) (arrived opened calls)

-- ## The results of calls

-- the events after one more call
pub events-more : (opened : ℕ) (call : Call) (calls : List Call) → events_of opened (call ∷ calls) ≡ event_of opened call (events_of opened calls) ∷ events_of opened calls
unfolding events_of
events-more opened call calls = refl

-- the limit and the neighbors of a table that matches a list of calls
pub stands_limit : (table : Contents) (opened : ℕ) (calls : List Call) → Stands opened calls table → table.limit ≡ limit_after opened (events_of opened calls)
stands_limit table opened calls h = ap (λ (t : Contents). t.limit) h.is

pub stands_neighbors : (table : Contents) (opened : ℕ) (calls : List Call) → Stands opened calls table → table.neighbors ≡ neighbors (events_of opened calls)
stands_neighbors table opened calls h = ap (λ (t : Contents). t.neighbors) h.is

-- the result of `learn` is the one that the definitions give for the list of calls
answered : (opened : ℕ) (calls : List Call) (name : MsapId) → learn_answer (table_of opened calls) name ≡ answer opened name (events_of opened calls)
answered opened calls name = grind (arith, common_steps, answer_by, has-live, arrived)

pub learn_answers : (table : Contents) (opened : ℕ) (calls : List Call) (name : MsapId) → Stands opened calls table → learn_answer table name ≡ answer opened name (events_of opened calls)
learn_answers table opened calls name h = rw h.is (answered opened calls name)

-- an MSAP identifier is held exactly if it is live
pub held_is_live : (table : Contents) (opened : ℕ) (calls : List Call) (name : MsapId) → Stands opened calls table → list_any (is_named name) table.neighbors ≡ is_some (live name (events_of opened calls))
held_is_live table opened calls name h = rw h.is (has-live (events_of opened calls) (arrived opened calls) name)

-- ## The table after each call

-- the table after a call is the table that the definitions give for the list with that call
pub leaves : (opened : ℕ) (calls : List Call) (call : Call) → IsPossible (table_of opened calls) call → table_after (table_of opened calls) call ≡ table_of opened (call ∷ calls)
unfolding events_of too_many_left
leaves opened calls call t = grind (arith, common_steps, answered, neighbors-new, by_new, neighbors-refreshed, by_refreshed, neighbors-dropped, too_many-dropped, neighbors-forgot, neighbors-purged, neighbors-ticked, gone-ticked, too_many-ticked, neighbors-limit_set)

-- ## Matching a list of calls

pub stands_open : (opened : ℕ) → 0 < opened → opened ≤ 128 → Stands opened [] (newly_opened opened)
unfolding events_of neighbors too_many_left
stands_open opened l m = record { least = l; most = m; allowed = tt; is = refl }

-- if a table matches a list of calls, the table after a call matches the list with that call
pub carries : (table : Contents) (opened : ℕ) (calls : List Call) (call : Call) → Stands opened calls table → IsPossible table call → Stands opened (call ∷ calls) (table_after table call)
carries table opened calls call h t = grind (arith, common_steps, leaves)

-- the same for any table that equals the table after the call
pub stands_after : (old new : Contents) (opened : ℕ) (calls : List Call) (call : Call) → new ≡ table_after old call → IsPossible old call → Stands opened calls old → Stands opened (call ∷ calls) new
stands_after old new opened calls call e t h = subst (λ (x : Contents). Stands opened (call ∷ calls) x) (sym e) (carries old opened calls call h t)

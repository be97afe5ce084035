-- The table that the definitions give for a list of calls.
use Rattle.std.proofs.Common.{◌≡◌, ℕ, ◌<◌, ◌≤◌, Bool, true, nat_lt, List, [], ◌∷◌, length, refl, ap, ◌∙◌, sym, subst, is_some, ◌↔◌, arith}
use Rattle.std.proofs.lemmas.Bool.{ltb-true, lt-ltb, false_from_ne_true, false≢true}
use Rattle.lldp_pdu.specs.Msap.{MsapId}
use Rattle.lldp_table.specs.declared.learned.Learned.TheVariants.{New, Refreshed, Dropped}
use Rattle.lldp_table.specs.Events.{Call, TableEvent, live, neighbors, limit_after, answer, events_of}
use Rattle.lldp_table.specs.Contents.{Contents, IsSound}
use Rattle.lldp_table.specs.Standing.{Stands, ArePossible, table_of}
use Rattle.lldp_table.specs.Positions.{IsLive, HasRoom}
use Rattle.lldp_table.proofs.Live.Events.{live-named, answer_by, by_refreshed, by_new, by_dropped}
use Rattle.lldp_table.proofs.Standing.Calls.{stands_open, leaves}
use Rattle.lldp_table.proofs.Standing.Sound.{sound_open, sound_after}
use Rattle.lldp_table.proofs.Live.LastStored.{last_from_live, live_from_last}
use Rattle.std.proofs.lemmas.Grind.{common_steps}

-- ## The table matches the calls and is sound

-- the table that the definitions give matches the list of calls
pub stands_left : (opened : ℕ) (calls : List Call) → 0 < opened → opened ≤ 128 → ArePossible opened calls → Stands opened calls (table_of opened calls)
stands_left opened calls l m t = record { least = l; most = m; allowed = t; is = refl }

-- the table that the definitions give is sound
pub sound_left : (opened : ℕ) (calls : List Call) → 0 < opened → opened ≤ 128 → ArePossible opened calls → IsSound (table_of opened calls)
sound_left opened [] l m t = subst IsSound (stands_open opened l m).is (sound_open opened l m)
sound_left opened (call ∷ calls) l m t = subst IsSound (leaves opened calls call t.0) (sound_after (table_of opened calls) call (sound_left opened calls l m t.1) t.0)

pub sound_from_stands : (table : Contents) (opened : ℕ) (calls : List Call) → Stands opened calls table → IsSound table
sound_from_stands table opened calls h = subst IsSound (sym h.is) (sound_left opened calls h.least h.most h.allowed)

-- ## The results of `learn`

module _ (name : MsapId) (past : List TableEvent) where
  -- an MSAP identifier is live exactly if `IsLive` holds for it
  live_is_last : is_some (live name past) ≡ true → IsLive past name
  live_is_last h = grind (arith, common_steps, false≢true, live-named, last_from_live)

  last_is_live : IsLive past name → is_some (live name past) ≡ true
  last_is_live h = ap (λ n. is_some (live n past)) (sym h.1) ∙ ap is_some (live_from_last past h.0 h.2)

module _ (opened : ℕ) (calls : List Call) (name : MsapId) where
  abbrev past : List TableEvent
  past = events_of opened calls

  abbrev held : Bool
  held = is_some (live name past)

  abbrev room : Bool
  room = nat_lt (length (neighbors past)) (limit_after opened past)

  pub refreshed_is : (answer opened name past ≡ Refreshed) ↔ IsLive past name
  refreshed_is = (λ h. live_is_last name past (by_refreshed held room h), λ l. ap (λ b. answer_by b room) (last_is_live name past l))

  pub new_is : (answer opened name past ≡ New) ↔ ((¬ (IsLive past name)) × HasRoom opened past)
  new_is = grind (arith, common_steps, by_new, false≢true, last_is_live, ltb-true, answer_by, false_from_ne_true, live_is_last, lt-ltb)

  pub dropped_is : (answer opened name past ≡ Dropped) ↔ ((¬ (IsLive past name)) × (¬ (HasRoom opened past)))
  dropped_is = grind (arith, common_steps, by_dropped, last_is_live, false≢true, lt-ltb, answer_by, live_is_last, false_from_ne_true, ltb-true)

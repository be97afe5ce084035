-- Worked examples, computed from the definitions alone. Calls are written newest first.
use Rattle.std.proofs.Common.{◌≡◌, ℕ, List, [], ◌∷◌, Option, Some, None, refl}
use Rattle.std.specs.List.{filter_map}
use Rattle.lldp_pdu.specs.Msap.{MsapId}
use Rattle.lldp_table.specs.Events.{Call, learn, forget, purge, tick, set_limit, TableEvent, learned, Neighbor, live, neighbors, events_of, aged_out, too_many_left}
use Rattle.lldp_table.specs.Contents.{Contents}
use Rattle.lldp_table.specs.Standing.{table_of}
use Rattle.lldp_table.specs.declared.learned.Learned.{Learned}
use Rattle.lldp_table.specs.declared.learned.Learned.TheVariants.{New, Refreshed, Dropped}

-- an MSAP identifier: MAC 00:11:22:33:44:55, and the interface name `eth` followed by this octet
abbrev name : ℕ → MsapId
name port = record { chassis = 4 ∷ 0x00 ∷ 0x11 ∷ 0x22 ∷ 0x33 ∷ 0x44 ∷ 0x55 ∷ []; port = 5 ∷ 0x65 ∷ 0x74 ∷ 0x68 ∷ port ∷ [] }

-- the extent of an LLDPDU with this identifier and this TTL
abbrev extent : ℕ → ℕ → List ℕ
extent port ttl = 0x02 ∷ 0x07 ∷ 0x04 ∷ 0x00 ∷ 0x11 ∷ 0x22 ∷ 0x33 ∷ 0x44 ∷ 0x55 ∷ 0x04 ∷ 0x05 ∷ 0x05 ∷ 0x65 ∷ 0x74 ∷ 0x68 ∷ port ∷ 0x06 ∷ 0x02 ∷ 0x00 ∷ ttl ∷ []

abbrev frame : ℕ → ℕ → Call
frame port ttl = learn (name port) ttl (extent port ttl)

-- a neighbor with this port, this TTL and this many ticks left
abbrev held : ℕ → ℕ → ℕ → Neighbor
held port ttl left = record { msap = name port; octets = extent port ttl; ttl = ttl; left = left }

-- the contents of a table that was opened for two neighbors, with those that aged out
abbrev after : List Neighbor → ℕ → ℕ → List Neighbor → Contents
after gone limit timer held = record { capacity = 2; limit = limit; neighbors = held; gone = gone; too_many_left = timer }

abbrev table : ℕ → ℕ → List Neighbor → Contents
table limit timer held = after [] limit timer held

-- the result of `learn`, or None for any other event
abbrev answer_of : TableEvent → Option Learned
answer_of (learned msap ttl octets answer) = Some answer
answer_of _ = None

abbrev answers : List TableEvent → List Learned
answers events = filter_map answer_of events

-- ## Ageing

new_is_held : table_of 2 (frame 0x30 1 ∷ []) ≡ table 2 0 (held 0x30 1 1 ∷ [])
unfolding neighbors live events_of too_many_left
new_is_held = refl

ttl_of_one_ends_at_the_next_tick : table_of 2 (tick ∷ frame 0x30 1 ∷ []) ≡ after (held 0x30 1 1 ∷ []) 2 0 []
unfolding neighbors live events_of too_many_left
ttl_of_one_ends_at_the_next_tick = refl

ttl_of_two_lasts_one_tick : table_of 2 (tick ∷ frame 0x30 2 ∷ []) ≡ table 2 0 (held 0x30 2 1 ∷ [])
unfolding neighbors live events_of too_many_left
ttl_of_two_lasts_one_tick = refl

one_of_three_ages_out : aged_out (events_of 3 (frame 0x32 9 ∷ frame 0x31 120 ∷ frame 0x30 1 ∷ [])) ≡ 1
unfolding neighbors live events_of
one_of_three_ages_out = refl

a_refresh_begins_anew : table_of 2 (tick ∷ frame 0x30 7 ∷ tick ∷ frame 0x30 3 ∷ []) ≡ table 2 0 (held 0x30 7 6 ∷ [])
unfolding neighbors live events_of too_many_left
a_refresh_begins_anew = refl

a_refresh_may_shorten : table_of 2 (tick ∷ frame 0x30 1 ∷ frame 0x30 120 ∷ []) ≡ after (held 0x30 1 1 ∷ []) 2 0 []
unfolding neighbors live events_of too_many_left
a_refresh_may_shorten = refl

-- ## Order

a_refresh_keeps_its_place : table_of 2 (frame 0x30 9 ∷ frame 0x31 120 ∷ frame 0x30 60 ∷ []) ≡ table 2 0 (held 0x30 9 9 ∷ held 0x31 120 120 ∷ [])
unfolding neighbors live events_of too_many_left
a_refresh_keeps_its_place = refl

who_aged_out_comes_last : table_of 2 (frame 0x30 120 ∷ tick ∷ frame 0x31 5 ∷ frame 0x30 1 ∷ []) ≡ table 2 0 (held 0x31 5 4 ∷ held 0x30 120 120 ∷ [])
unfolding neighbors live events_of too_many_left
who_aged_out_comes_last = refl

who_left_comes_last : table_of 2 (frame 0x30 120 ∷ forget (name 0x30) ∷ frame 0x31 5 ∷ frame 0x30 60 ∷ []) ≡ table 2 0 (held 0x31 5 5 ∷ held 0x30 120 120 ∷ [])
unfolding neighbors live events_of too_many_left
who_left_comes_last = refl

-- ## MSAP identifiers

-- the same port ID with another chassis ID is another neighbor
another_chassis : answers (events_of 2 (learn (record { chassis = 7 ∷ 0x61 ∷ []; port = 7 ∷ 0x31 ∷ [] }) 9 [] ∷ learn (record { chassis = 7 ∷ 0x62 ∷ []; port = 7 ∷ 0x31 ∷ [] }) 9 [] ∷ [])) ≡ New ∷ New ∷ []
unfolding neighbors live events_of
another_chassis = refl

-- the same port ID with another subtype is another neighbor
another_subtype : answers (events_of 2 (learn (record { chassis = 7 ∷ 0x61 ∷ []; port = 7 ∷ 0x31 ∷ [] }) 9 [] ∷ learn (record { chassis = 7 ∷ 0x61 ∷ []; port = 5 ∷ 0x31 ∷ [] }) 9 [] ∷ [])) ≡ New ∷ New ∷ []
unfolding neighbors live events_of
another_subtype = refl

who_leaves_goes_alone : table_of 2 (forget (name 0x30) ∷ frame 0x31 9 ∷ frame 0x30 9 ∷ []) ≡ table 2 0 (held 0x31 9 9 ∷ [])
unfolding neighbors live events_of too_many_left
who_leaves_goes_alone = refl

-- ## A full table

-- a new neighbor is dropped, a refresh is stored, and the longest dropped TTL sets the timer
full_table : table_of 2 (tick ∷ frame 0x30 120 ∷ frame 0x33 5 ∷ frame 0x32 9 ∷ frame 0x31 120 ∷ frame 0x30 60 ∷ []) ≡ table 2 8 (held 0x30 120 119 ∷ held 0x31 120 119 ∷ [])
unfolding neighbors live events_of too_many_left
full_table = refl

full_table_answers : answers (events_of 2 (frame 0x30 120 ∷ frame 0x33 5 ∷ frame 0x32 9 ∷ frame 0x31 120 ∷ frame 0x30 60 ∷ [])) ≡ Refreshed ∷ Dropped ∷ Dropped ∷ New ∷ New ∷ []
unfolding neighbors live events_of
full_table_answers = refl

the_timer_ends : table_of 2 (tick ∷ tick ∷ frame 0x32 2 ∷ frame 0x31 120 ∷ frame 0x30 60 ∷ []) ≡ table 2 0 (held 0x30 60 58 ∷ held 0x31 120 118 ∷ [])
unfolding neighbors live events_of too_many_left
the_timer_ends = refl

-- a neighbor that has aged out is not held: if the table is full, its next frame is dropped
who_is_dropped_is_not_held : table_of 2 (frame 0x30 9 ∷ frame 0x32 60 ∷ tick ∷ frame 0x31 60 ∷ frame 0x30 1 ∷ []) ≡ table 2 9 (held 0x31 60 59 ∷ held 0x32 60 60 ∷ [])
unfolding neighbors live events_of too_many_left
who_is_dropped_is_not_held = refl

room_again : answers (events_of 2 (frame 0x32 9 ∷ tick ∷ frame 0x31 1 ∷ frame 0x30 60 ∷ [])) ≡ New ∷ New ∷ New ∷ []
unfolding neighbors live events_of
room_again = refl

-- ## Limit and purge, while the timer runs

-- two neighbors are held, a third is dropped, a tick passes, and one neighbor is forgotten
abbrev crowded : List Call
crowded = forget (name 0x31) ∷ tick ∷ frame 0x32 9 ∷ frame 0x31 120 ∷ frame 0x30 60 ∷ []

the_timer_outlasts_a_leave : table_of 2 crowded ≡ table 2 8 (held 0x30 60 59 ∷ [])
unfolding neighbors live events_of too_many_left
the_timer_outlasts_a_leave = refl

a_lower_limit_leaves_all_else : table_of 2 (set_limit 1 ∷ crowded) ≡ table 1 8 (held 0x30 60 59 ∷ [])
unfolding neighbors live events_of too_many_left
a_lower_limit_leaves_all_else = refl

a_lower_limit_is_read : table_of 2 (frame 0x33 20 ∷ set_limit 1 ∷ crowded) ≡ table 1 20 (held 0x30 60 59 ∷ [])
unfolding neighbors live events_of too_many_left
a_lower_limit_is_read = refl

a_higher_limit_is_read : table_of 2 (frame 0x33 5 ∷ set_limit 2 ∷ frame 0x34 5 ∷ set_limit 1 ∷ crowded) ≡ table 2 8 (held 0x30 60 59 ∷ held 0x33 5 5 ∷ [])
unfolding neighbors live events_of too_many_left
a_higher_limit_is_read = refl

a_purge_ends_the_timer : table_of 2 (purge ∷ set_limit 1 ∷ crowded) ≡ table 1 0 []
unfolding neighbors live events_of too_many_left
a_purge_ends_the_timer = refl

a_purge_leaves_the_limit : table_of 2 (tick ∷ frame 0x34 7 ∷ frame 0x33 5 ∷ purge ∷ set_limit 1 ∷ crowded) ≡ table 1 6 (held 0x33 5 4 ∷ [])
unfolding neighbors live events_of too_many_left
a_purge_leaves_the_limit = refl

all_answers : answers (events_of 2 (frame 0x34 7 ∷ frame 0x33 5 ∷ purge ∷ set_limit 1 ∷ crowded)) ≡ Dropped ∷ New ∷ Dropped ∷ New ∷ New ∷ []
unfolding neighbors live events_of
all_answers = refl

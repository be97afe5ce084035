-- Which ports an event concerns.
use Rattle.std.proofs.Common.{◌≡◌, ◌≢◌, ℕ, ◌+◌, Bool, true, false, List, [], ◌∷◌, Option, Some, None, refl, ap, sym, ◌∙◌, arith}
use Rattle.std.specs.Prelude.{◌==◌, ◌&&◌, not, if◌then◌else◌, All, option_and_then, slice_get}
use Rattle.std.specs.List.{AllByRecursion, cons_option, filter_map}
use Rattle.std.specs.Option.{option_map}
use Rattle.std.proofs.lemmas.Bool.Decides.{nat_tests}
use Rattle.std.proofs.lemmas.List.Elements.{All-from_recursion}
use Rattle.lldp_table.specs.Events.{Call, purge, tick as tick_call, set_limit, Neighbor, events_of, limit_after as table_limit, neighbors}
use Rattle.lldp_table.specs.Code.Steps.{aged}
use Rattle.lldp_table.proofs.Live.Events.{neighbors-ticked, neighbors-limit_set}
use Rattle.lldp_table.proofs.Standing.Calls.{events-more}
use Rattle.lldp_engine.specs.declared.port.status.Status.{Status}
use Rattle.lldp_engine.specs.Options.{Options, InRange}
use Rattle.lldp_engine.specs.Event.{Event, tick, frame, link, set, Setting, limit, status}
use Rattle.lldp_engine.specs.Configuration.{Configuration, configured}
use Rattle.lldp_engine.specs.Status.{receives}
use Rattle.lldp_engine.specs.Heard.{Heard, refused, heard_by}
use Rattle.lldp_engine.specs.Past.{Past, with_event, configuration_after, happened, past_of, port_past, ports_after, agent_of}
use Rattle.lldp_engine.specs.Laws.PortAt.{neighbors_at, LeavesPort, LeavesTables}
use Rattle.lldp_engine.specs.Laws.Neighbors.{one_tick_older}
use Rattle.lldp_engine.specs.Port.Event as own
use Rattle.lldp_engine.specs.Port.Event.{PortEvent, for_port}
use Rattle.lldp_engine.specs.Port.Effects.{call_of, call_at}
use Rattle.lldp_engine.specs.Port.Past.{Happened, status_after, up_after, calls_after, port_after}
use Rattle.lldp_engine.proofs.AllPorts.EachPort.{own_or_nothing}
use Rattle.lldp_engine.proofs.ForLaws.PortAt.{port_at_same, table_same, of_table, of_table_after, IsNothing, nothing_sent, port_same}
use Rattle.lldp_engine.proofs.ForLaws.Marks.{quiet_is_silent}
use Rattle.lldp_engine.specs.Code.Whose.{one_port, of_port}

-- ## An event that does not affect a port leaves it unchanged

pub nothing_leaves : (past : Past) (event : Event) (i : ℕ) (r : InRange past.options) → IsNothing past.options (past_of past i) (happened i event past.events) r → LeavesPort past event i
nothing_leaves past event i r n = record {
  as_it_was = port_at_same past event i (port_same past.options (past_of past i) (happened i event past.events) r n);
  silent = λ mark. quiet_is_silent (with_event past event) i mark (nothing_sent past.options (past_of past i) (happened i event past.events) r n.cause);
}

module _ (o : Options) (past : List Happened) (r : InRange o) where
  -- An event of one port does not affect another port.
  pub of_another : (event : PortEvent) (port i n : ℕ) → i ≢ port → IsNothing o past (record { event = of_port i (one_port port event); interval = n }) r
  of_another event port i n other = let no : (port == i) ≡ false = grind (arith, nat_tests) in rw no (record { status = refl; heard = refl; call = refl; cause = refl })

-- ## A tick concerns each port

older_one : (x : Neighbor) (xs : List Neighbor) → cons_option (aged x) (one_tick_older xs) ≡ one_tick_older (x ∷ xs)
older_one x xs = grind (arith, nat_tests)

pub older : (xs : List Neighbor) → filter_map aged xs ≡ one_tick_older xs
older [] = refl
older (x ∷ xs) = ap (cons_option (aged x)) (older xs) ∙ older_one x xs

pub ticked_neighbors : (opened : ℕ) (calls : List Call) → neighbors (events_of opened (tick_call ∷ calls)) ≡ one_tick_older (neighbors (events_of opened calls))
ticked_neighbors opened calls = ap neighbors (events-more opened tick_call calls) ∙ neighbors-ticked (events_of opened calls) ∙ older (neighbors (events_of opened calls))

pub tick_ages : (past : Past) (i : ℕ) → neighbors_at (with_event past tick) i ≡ option_map one_tick_older (neighbors_at past i)
tick_ages past i = of_table_after (λ table. table.neighbors) (λ table. table.neighbors) one_tick_older past tick i (ticked_neighbors past.options.max_neighbors (calls_after past.options (past_of past i)))

-- ## Links and settings

link_leaves_one : (past : Past) (port i : ℕ) (up : Bool) → call_at (of_port i (one_port port (own.link up))) (status_after past.options (past_of past i)) (up_after (past_of past i)) ≡ None
link_leaves_one past port i up = own_or_nothing (λ (e : PortEvent). call_at e (status_after past.options (past_of past i)) (up_after (past_of past i)) ≡ None) (port == i) (own.link up) refl refl

pub link_leaves_tables : (past : Past) (port : ℕ) (up : Bool) → LeavesTables past (link port up)
link_leaves_tables past port up = λ i. table_same past (link port up) i (link_leaves_one past port i up)

-- A setting that is neither a status nor a limit changes no table.
pub setting_leaves_tables : (past : Past) (setting : Setting) → ((port : ℕ) (given : Status) → setting ≢ status port given) → ((n : ℕ) → setting ≢ limit n) → LeavesTables past (set setting)
setting_leaves_tables past (status port given) no_status no_limit = absurd (no_status port given refl)
setting_leaves_tables past (limit n) no_status no_limit = absurd (no_limit n refl)
setting_leaves_tables past setting no_status no_limit = λ i. table_same past (set setting) i refl

-- A limit removes no neighbor.
pub limit_leaves_neighbors : (past : Past) (i n : ℕ) → neighbors_at (with_event past (set (limit n))) i ≡ neighbors_at past i
limit_leaves_neighbors past i n =
    let opened = past.options.max_neighbors in
    let calls = calls_after past.options (past_of past i) in
    of_table (λ table. table.neighbors) (with_event past (set (limit n))) i
    ∙ ap (λ (xs : List Neighbor). option_map (λ (name : List ℕ). xs) (slice_get past.options.names i)) (ap neighbors (events-more opened (set_limit n) calls) ∙ neighbors-limit_set n (events_of opened calls))
    ∙ sym (of_table (λ table. table.neighbors) past i)

-- ## The limit

-- the limit of a table after a call, if any; `before` is the limit before it
abbrev limit_by : Option Call → ℕ → ℕ
limit_by (Some (set_limit n)) before = n
limit_by call before = before

limit-more : (opened : ℕ) (call : Option Call) (calls : List Call) → table_limit opened (events_of opened (cons_option call calls)) ≡ limit_by call (table_limit opened (events_of opened calls))
unfolding events_of
limit-more opened None calls = refl
limit-more opened (Some (set_limit n)) calls = refl
limit-more opened (Some call) calls = refl

-- A heard LLDPDU sets no limit.
heard_sets_none : (h : Option Heard) (before : ℕ) → limit_by (option_and_then call_of h) before ≡ before
heard_sets_none None before = refl
heard_sets_none (Some refused) before = refl
heard_sets_none (Some heard) before = refl

purge_sets_none : (b : Bool) (before : ℕ) → limit_by (if b then Some purge else None) before ≡ before
purge_sets_none true before = refl
purge_sets_none false before = refl

-- The limit of a table and the configured limit change at the same events.
limits_move : (i : ℕ) (event : Event) (given : Status) (up : Bool) (c : Configuration) → limit_by (call_at (for_port i event) given up) c.limit ≡ (configured event c).limit
limits_move i tick given up c = refl
limits_move i (frame port octets) given up c = own_or_nothing (λ (e : PortEvent). limit_by (call_at e given up) c.limit ≡ c.limit) (port == i) (own.frame octets) (heard_sets_none (heard_by given up octets) c.limit) refl
limits_move i (link port now) given up c = own_or_nothing (λ (e : PortEvent). limit_by (call_at e given up) c.limit ≡ c.limit) (port == i) (own.link now) refl refl
limits_move i (set (status port next)) given up c = own_or_nothing (λ (e : PortEvent). limit_by (call_at e given up) c.limit ≡ c.limit) (port == i) (own.status next) (purge_sets_none (receives given && not (receives next)) c.limit) refl
limits_move i (set setting) given up c = refl

limit_is_configured : (o : Options) (i : ℕ) (events : List Event) → table_limit o.max_neighbors (events_of o.max_neighbors (calls_after o (port_past i events))) ≡ (configuration_after o events).limit
unfolding events_of
limit_is_configured o i [] = refl
limit_is_configured o i (event ∷ events) =
    let past = port_past i events in
    let call = call_at (for_port i event) (status_after o past) (up_after past) in
    limit-more o.max_neighbors call (calls_after o past)
    ∙ ap (limit_by call) (limit_is_configured o i events)
    ∙ limits_move i event (status_after o past) (up_after past) (configuration_after o events)

each_limit : (o : Options) (events : List Event) (i : ℕ) (names : List (List ℕ)) → AllByRecursion (λ port. port.table.limit ≡ (configuration_after o events).limit) (ports_after o events i names)
unfolding port_after
each_limit o events i [] = tt
each_limit o events i (name ∷ names) = (limit_is_configured o i events, each_limit o events (i + 1) names)

each_room : (o : Options) (events : List Event) (i : ℕ) (names : List (List ℕ)) → AllByRecursion (λ port. port.table.capacity ≡ o.max_neighbors) (ports_after o events i names)
unfolding port_after
each_room o events i [] = tt
each_room o events i (name ∷ names) = (refl, each_room o events (i + 1) names)

pub limits_are_configured : (past : Past) → All (λ port. port.table.limit ≡ (agent_of past).configuration.limit) (agent_of past).ports
unfolding agent_of
limits_are_configured past = All-from_recursion _ _ (each_limit past.options past.events 0 past.options.names)

pub rooms_are_opened : (past : Past) → All (λ port. port.table.capacity ≡ past.options.max_neighbors) (agent_of past).ports
unfolding agent_of
rooms_are_opened past = All-from_recursion _ _ (each_room past.options past.events 0 past.options.names)

pub ruleset links_and_updates_leave_tables = (link_leaves_tables, setting_leaves_tables, limit_leaves_neighbors)

pub ruleset ports_have_the_configured_limit = (limits_are_configured, rooms_are_opened)

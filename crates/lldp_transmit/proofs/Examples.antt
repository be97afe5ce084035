-- Worked examples, computed from the definitions: the mark of each event, oldest first.
use Rattle.std.specs.Prelude.{◌≡◌, ℕ, true, false, List, [], ◌∷◌, ◌++◌, map, replicate, reverse}
use Rattle.std.proofs.Common.{refl}
use Rattle.lldp_transmit.specs.declared.event.Cause.{Cause}
use Rattle.lldp_transmit.specs.declared.event.Cause.TheVariants.{Tick, Change, Neighbor, Stop, Allow, Down, Up, Nothing}
use Rattle.lldp_transmit.specs.declared.event.Mark.{Mark}
use Rattle.lldp_transmit.specs.declared.event.Mark.TheVariants.{Quiet, Ordinary, Shutdown}
use Rattle.lldp_transmit.specs.History.{Settings, Event, settings, event}
use Rattle.lldp_transmit.specs.Moments.{moment, moments, mark_of}
use Rattle.lldp_transmit.specs.Remaining.{credit_left}

-- events with these causes, all with the same interval
abbrev at : ℕ → List Cause → List Event
at interval causes = map (λ c. event c interval) causes

abbrev usual : Settings
usual = settings 5 4 2 true

abbrev O : Mark
O = Ordinary

abbrev Q : Mark
Q = Quiet

abbrev X : Mark
X = Shutdown

-- settings, events and the marks of the events; the comment over a row says what the row shows
abbrev rows : List (Settings × List Event × List Mark)
rows =
    -- changes beyond the credit
    (usual, at 30 (Tick ∷ replicate 6 Change ++ Tick ∷ Tick ∷ []), O ∷ O ∷ O ∷ O ∷ O ∷ Q ∷ Q ∷ O ∷ Q ∷ [])
    -- fast start
    ∷ (usual, at 30 (Tick ∷ Neighbor ∷ replicate 3 Tick ++ replicate 29 Tick ++ Tick ∷ []), O ∷ O ∷ O ∷ O ∷ O ∷ replicate 29 Q ++ O ∷ [])
    -- change inside a burst
    ∷ (usual, at 30 (Tick ∷ Neighbor ∷ Change ∷ replicate 3 Tick ++ replicate 29 Tick ++ Tick ∷ []), O ∷ O ∷ O ∷ O ∷ O ∷ O ∷ replicate 29 Q ++ O ∷ [])
    -- burst of two neighbors
    ∷ (usual, at 30 (Tick ∷ Neighbor ∷ Neighbor ∷ Tick ∷ Tick ∷ replicate 29 Tick ++ Tick ∷ []), O ∷ O ∷ O ∷ O ∷ O ∷ replicate 29 Q ++ O ∷ [])
    -- stop and allow
    ∷ (usual, at 30 (Tick ∷ Stop ∷ Stop ∷ Allow ∷ Tick ∷ Tick ∷ []), O ∷ X ∷ Q ∷ Q ∷ Q ∷ O ∷ [])
    -- stop before the start
    ∷ (usual, at 30 (Stop ∷ Allow ∷ Change ∷ Tick ∷ []), Q ∷ Q ∷ Q ∷ O ∷ [])
    -- shorter interval
    ∷ (usual, at 30 (Tick ∷ []) ++ at 2 (Change ∷ Tick ∷ Tick ∷ []), O ∷ O ∷ Q ∷ O ∷ [])
    -- stop ends the want: a stop cancels the waiting frame
    ∷ (settings 1 4 2 true, at 30 (Tick ∷ Change ∷ Stop ∷ Allow ∷ Tick ∷ Tick ∷ Tick ∷ []), O ∷ Q ∷ X ∷ Q ∷ Q ∷ O ∷ Q ∷ [])
    -- restart keeps credit
    ∷ (usual, at 30 (Tick ∷ replicate 4 Change ++ Stop ∷ Allow ∷ Tick ∷ Tick ∷ Change ∷ Change ∷ Tick ∷ []), O ∷ O ∷ O ∷ O ∷ O ∷ X ∷ Q ∷ Q ∷ O ∷ O ∷ Q ∷ O ∷ [])
    -- one credit
    ∷ (settings 1 4 2 true, at 30 (Tick ∷ Change ∷ Tick ∷ []), O ∷ Q ∷ O ∷ [])
    -- wait of one tick
    ∷ (settings 5 4 1 true, at 30 (Tick ∷ Stop ∷ Allow ∷ Tick ∷ Stop ∷ []), O ∷ X ∷ Q ∷ O ∷ X ∷ [])
    -- not allowed at first
    ∷ (settings 5 4 2 false, at 30 (replicate 3 Tick ++ Neighbor ∷ Allow ∷ Tick ∷ []), Q ∷ Q ∷ Q ∷ Q ∷ Q ∷ O ∷ [])
    -- link goes down and up
    ∷ (usual, at 30 (Tick ∷ Neighbor ∷ Down ∷ Nothing ∷ Tick ∷ Tick ∷ Up ∷ Tick ∷ replicate 29 Tick ++ Tick ∷ []), O ∷ O ∷ Q ∷ Q ∷ Q ∷ Q ∷ Q ∷ O ∷ replicate 29 Q ++ O ∷ [])
    -- wait runs on while down: the wait after a stop also passes while the link is down
    ∷ (usual, at 30 (Tick ∷ Stop ∷ Down ∷ Tick ∷ Tick ∷ Allow ∷ Up ∷ Tick ∷ []), O ∷ X ∷ Q ∷ Q ∷ Q ∷ Q ∷ Q ∷ O ∷ [])
    -- down begins no wait: the port starts at the first tick after the link comes up
    ∷ (usual, at 30 (Tick ∷ Down ∷ Up ∷ Tick ∷ []), O ∷ Q ∷ Q ∷ O ∷ [])
    -- status while down: a stop while the link is down sends no frame and begins no wait
    ∷ (usual, at 30 (Tick ∷ Down ∷ Stop ∷ Allow ∷ Up ∷ Tick ∷ []), O ∷ Q ∷ Q ∷ Q ∷ Q ∷ O ∷ [])
    -- the timer ends at the tick at which a waiting frame can be sent: one frame for both
    ∷ (settings 1 4 2 true, at 1 (Tick ∷ Change ∷ Tick ∷ Tick ∷ []), O ∷ Q ∷ O ∷ O ∷ [])
    -- the timer runs from the change, not from its frame
    ∷ (settings 1 4 2 true, at 2 (Tick ∷ Change ∷ Tick ∷ Tick ∷ Tick ∷ Tick ∷ []), O ∷ Q ∷ O ∷ O ∷ Q ∷ O ∷ [])
    -- several waiting signals get one frame
    ∷ (settings 1 4 2 true, at 30 (Tick ∷ Change ∷ Neighbor ∷ Change ∷ Tick ∷ []), O ∷ Q ∷ Q ∷ Q ∷ O ∷ [])
    -- `Nothing`, `Up` and `Allow`, before or after a frame is sent, are not signals
    ∷ (settings 1 4 2 true, at 30 (Tick ∷ Change ∷ Nothing ∷ Up ∷ Allow ∷ Tick ∷ Allow ∷ Up ∷ Nothing ∷ Tick ∷ []), O ∷ Q ∷ Q ∷ Q ∷ Q ∷ O ∷ Q ∷ Q ∷ Q ∷ Q ∷ [])
    -- a burst continues while its frames wait
    ∷ (settings 1 3 2 true, at 3 (Tick ∷ Neighbor ∷ replicate 6 Tick), O ∷ Q ∷ O ∷ O ∷ Q ∷ Q ∷ O ∷ Q ∷ [])
    -- a burst of one signal
    ∷ (settings 5 1 2 true, at 3 (Tick ∷ Neighbor ∷ replicate 4 Tick), O ∷ O ∷ Q ∷ Q ∷ O ∷ Q ∷ [])
    -- a new neighbor after a burst opens another burst
    ∷ (settings 9 2 2 true, at 3 (Tick ∷ Neighbor ∷ Tick ∷ Neighbor ∷ Tick ∷ replicate 3 Tick), O ∷ O ∷ O ∷ O ∷ O ∷ Q ∷ Q ∷ O ∷ [])
    -- a start ends an earlier burst
    ∷ (usual, at 2 (Tick ∷ Neighbor ∷ Down ∷ Up ∷ Tick ∷ Tick ∷ Tick ∷ []), O ∷ O ∷ Q ∷ Q ∷ O ∷ Q ∷ O ∷ [])
    -- a new neighbor of an inactive port opens no burst
    ∷ (usual, at 3 (Neighbor ∷ Tick ∷ replicate 3 Tick), Q ∷ O ∷ Q ∷ Q ∷ O ∷ [])
    -- a new interval applies from the next signal on
    ∷ (usual, at 3 (Tick ∷ []) ++ at 1 (Nothing ∷ replicate 4 Tick), O ∷ Q ∷ Q ∷ Q ∷ O ∷ O ∷ [])
    -- a wait of three ticks after a stop
    ∷ (settings 5 4 3 true, at 30 (Tick ∷ Stop ∷ Tick ∷ Allow ∷ Tick ∷ Tick ∷ []), O ∷ X ∷ Q ∷ Q ∷ Q ∷ O ∷ [])
    -- a stop of an inactive port does not restart the wait
    ∷ (usual, at 30 (Tick ∷ Stop ∷ Tick ∷ Stop ∷ Allow ∷ Tick ∷ []), O ∷ X ∷ Q ∷ Q ∷ Q ∷ O ∷ [])
    -- the loss of the link cancels the waiting frame
    ∷ (settings 1 4 2 true, at 30 (Tick ∷ Change ∷ Down ∷ Up ∷ Tick ∷ Tick ∷ []), O ∷ Q ∷ Q ∷ Q ∷ O ∷ Q ∷ [])
    -- credit grows while the port is stopped, up to txCreditMax
    ∷ (usual, at 30 (Tick ∷ replicate 4 Change ++ Stop ∷ replicate 7 Tick ++ Allow ∷ Tick ∷ replicate 5 Change), replicate 5 O ++ X ∷ replicate 8 Q ++ replicate 5 O ++ Q ∷ []) ∷ []

-- By the definitions, the events of each row have the marks in that row.
all_marked : map (λ row. reverse (map mark_of (moments row.0 (reverse row.1)))) rows ≡ map (λ row. row.2) rows
unfolding moment
all_marked = refl

-- after a stop, and the frame of a restart two ticks later, one credit is left
credit_at_the_restart : credit_left usual (moments usual (reverse (at 30 (Tick ∷ replicate 4 Change ++ Stop ∷ Allow ∷ Tick ∷ Tick ∷ [])))) ≡ 1
unfolding moment
credit_at_the_restart = refl

-- the shutdown frame uses no credit
credit_after_a_shutdown : credit_left usual (moments usual (reverse (at 30 (Tick ∷ Change ∷ Stop ∷ [])))) ≡ 3
unfolding moment
credit_after_a_shutdown = refl

-- The fields of a machine, and one step of it. Proofs of callers compute with these definitions.
-- `Moments` defines when a port sends, and `Standing` relates machines to histories.
use Rattle.std.specs.Prelude.{ℕ, ◌+◌, ◌-◌, true, false, ◌&&◌, ◌==◌, nat_lt, min, if◌then◌else◌}
use Rattle.lldp_transmit.specs.History.{Settings}
use Rattle.lldp_transmit.specs.declared.parts.Parts.{Parts}
use Rattle.lldp_transmit.specs.declared.event.Cause.{Cause}
use Rattle.lldp_transmit.specs.declared.event.Cause.TheVariants.{Tick, Change, Neighbor, Stop, Allow, Down, Up, Nothing}
use Rattle.lldp_transmit.specs.declared.event.Mark.{Mark}
use Rattle.lldp_transmit.specs.declared.event.Mark.TheVariants.{Quiet, Ordinary, Shutdown}

-- a machine is described by its fields
abbrev pub Machine : Type 0
Machine = Parts

-- the machine of a port just opened: full credit, the link up, not active
abbrev pub opened : Settings → Machine
opened s = record {
  credit_max = s.credit_max;
  fast_init = s.fast_init;
  reinit = s.reinit;
  credit = s.credit_max;
  wait = 0;
  timer = 0;
  left = 0;
  waiting = false;
  active = false;
  allowed = s.allowed;
  up = true;
}

-- sends the requested frame if there is credit; otherwise the frame waits
abbrev pub served : Machine → Machine × Mark
served t = (record t { waiting = t.credit == 0; credit = t.credit - 1 }, if t.credit == 0 then Quiet else Ordinary)

-- a signal: sets the timer to the distance to the next signal, and requests a frame
abbrev pub signalled : Machine → ℕ → Machine × Mark
signalled t interval = served (record t { timer = if nat_lt 0 t.left then 1 else interval })

-- counts one tick: credit goes up by 1, to txCreditMax at most; `wait` and `timer` go down by 1
abbrev pub counted : Machine → Machine
counted t =
    record t {
      credit = min t.credit_max (t.credit + 1);
      wait = t.wait - 1;
      timer = t.timer - 1;
    }

-- a tick: if active, the timer may end or a waiting frame may be sent; if not, the port may start
abbrev pub ticked : Machine → ℕ → Machine × Mark
ticked t interval =
    if t.active
    then (if t.timer == 1
    then signalled (record (counted t) { left = t.left - 1 }) interval
    else (if t.waiting then served (counted t) else (counted t, Quiet)))
    else (if t.allowed && (t.up && nat_lt t.wait 2)
    then signalled (record (counted t) { active = true; left = 0 }) interval
    else (counted t, Quiet))

-- a new neighbor: opens a burst if no signals are left, and uses one signal of the burst
abbrev pub neighbored : Machine → ℕ → Machine × Mark
neighbored t interval = signalled (record t { left = (if t.left == 0 then t.fast_init else t.left) - 1 }) interval

-- the port may no longer transmit: if active, it stops, sends a shutdown frame and begins its wait
abbrev pub stopped : Machine → Machine × Mark
stopped t =
    if t.active
    then (record t { allowed = false; active = false; wait = t.reinit }, Shutdown)
    else (record t { allowed = false }, Quiet)

-- one event, with the tx-interval in force after it: the next machine, and the frame that is sent
abbrev pub stepped : Machine → Cause → ℕ → Machine × Mark
stepped t Tick interval = ticked t interval
stepped t Change interval = if t.active then signalled t interval else (t, Quiet)
stepped t Neighbor interval = if t.active then neighbored t interval else (t, Quiet)
stepped t Stop interval = stopped t
stepped t Allow interval = (record t { allowed = true }, Quiet)
stepped t Down interval = (record t { up = false; active = false }, Quiet)
stepped t Up interval = (record t { up = true }, Quiet)
stepped t Nothing interval = (t, Quiet)

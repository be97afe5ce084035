-- The first and the greatest numbers of settings, the greatest TTL, and the most ports and octets of a name. A law ties
-- the constants of the code to these.
use Rattle.std.specs.Prelude.{ℕ}

-- the tx-interval at opening, in seconds
abbrev pub first_interval : ℕ
first_interval = 30

-- the greatest tx-interval, in seconds
abbrev pub most_interval : ℕ
most_interval = 3600

-- the greatest tx-hold
abbrev pub most_hold : ℕ
most_hold = 100

-- the greatest TTL of a frame, in seconds
abbrev pub most_ttl : ℕ
most_ttl = 65535

-- the most ports of an agent
abbrev pub most_ports : ℕ
most_ports = 64

-- the most octets of the name of a port
abbrev pub most_name : ℕ
most_name = 15

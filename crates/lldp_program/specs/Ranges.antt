-- The most octets of a line and ticks that it asks for, the greatest values of `--listen` and `--connections`, and the
-- most reads of a run. A law ties the constants of the code to these.
use Rattle.std.specs.Prelude.{ℕ}

-- the most octets of a line, without its LF
abbrev pub most_of_line : ℕ
most_of_line = 4096

-- the most ticks of a line `tick N`
abbrev pub most_ticks : ℕ
most_ticks = 65535

-- the greatest port of `--listen`
abbrev pub most_tcp_port : ℕ
most_tcp_port = 65535

-- the greatest number of `--connections`
abbrev pub most_connections : ℕ
most_connections = 65535

-- the most reads of a run
abbrev pub most_reads : ℕ
most_reads = 4294967295

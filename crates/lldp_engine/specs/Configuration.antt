-- The configuration of an agent, and how an event changes it.
use Rattle.std.specs.Prelude.{ℕ, ◌+◌, ◌*◌, min, List, Option, codes}
use Rattle.lldp_engine.specs.declared.agent.options.Role.{Role}
use Rattle.lldp_engine.specs.Options.{Options}
use Rattle.lldp_engine.specs.Ranges.{first_interval, most_ttl}
use Rattle.lldp_engine.specs.Event.{Event, set, Setting, hostname, description, interval, hold, limit, status, update}

-- The options fix the values up to `capacity`. Commands change the others: the two texts,
-- tx-interval (msgTxInterval) in seconds, tx-hold (msgTxHold) and the limit of neighbors.
pub record Configuration : Type 0 where
  pub mac : List ℕ
  pub role : Role
  pub management : Option (List ℕ)
  pub credit_max : ℕ
  pub fast_init : ℕ
  pub reinit : ℕ
  pub capacity : ℕ
  pub hostname : List ℕ
  pub description : List ℕ
  pub interval : ℕ
  pub hold : ℕ
  pub limit : ℕ

-- At opening the tx-interval is 30 seconds, the tx-hold is 4, and the description is `lldpa`.
abbrev pub configuration_at_opening : Options → Configuration
configuration_at_opening o =
    record {
      mac = o.mac;
      role = o.role;
      management = o.management;
      credit_max = o.credit_max;
      fast_init = o.fast_init;
      reinit = o.reinit;
      capacity = o.max_neighbors;
      hostname = o.hostname;
      description = codes "lldpa";
      interval = first_interval;
      hold = 4;
      limit = o.max_neighbors;
    }

-- A command changes only the value that it names.
abbrev pub with_setting : Setting → Configuration → Configuration
with_setting (hostname text) c = record c { hostname = text }
with_setting (description text) c = record c { description = text }
with_setting (interval seconds) c = record c { interval = seconds }
with_setting (hold times) c = record c { hold = times }
with_setting (limit neighbors) c = record c { limit = neighbors }
with_setting (status port given) c = c
with_setting update c = c

-- Only commands change the configuration.
abbrev pub configured : Event → Configuration → Configuration
configured (set setting) c = with_setting setting c
configured event c = c

-- The TTL of an ordinary frame (txTTL) is tx-interval times tx-hold, plus 1, at most 65,535.
abbrev pub sent_ttl : Configuration → ℕ
sent_ttl c = min most_ttl (c.interval * c.hold + 1)

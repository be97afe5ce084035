-- The lines of `show configuration`.
use Rattle.std.specs.Prelude.{ℕ, List, [], ◌∷◌, ◌++◌, length, map, codes}
use Rattle.lldp_engine.specs.declared.port.status.Status.{Status}
use Rattle.lldp_engine.specs.declared.port.status.Status.TheVariants.{RxAndTx, RxOnly, TxOnly, Disabled}
use Rattle.lldp_engine.specs.Configuration.{sent_ttl}
use Rattle.lldp_engine.specs.AgentState.{AgentState, PortState}
use Rattle.lldp_engine.specs.Keys.{front_of, number_lines}

-- Returns the word of a status.
abbrev pub status_text : Status → List ℕ
status_text RxAndTx = codes "rx-and-tx"
status_text RxOnly = codes "rx-only"
status_text TxOnly = codes "tx-only"
status_text Disabled = codes "disabled"

-- Returns the line of a port's status.
abbrev pub status_line : PortState → List ℕ
status_line port = front_of (codes "configuration.") port.name ++ (codes "status=" ++ status_text port.status)

-- The numbers and their keys; `ttl` is for ordinary frames, `max-neighbors` is the limit in force.
abbrev pub numbers_shown : AgentState → List (List ℕ × ℕ)
numbers_shown agent =
    let c = agent.configuration in
    (codes "tx-interval=", c.interval)
    ∷ (codes "tx-hold=", c.hold)
    ∷ (codes "ttl=", sent_ttl c)
    ∷ (codes "reinit-delay=", c.reinit)
    ∷ (codes "tx-fast-init=", c.fast_init)
    ∷ (codes "tx-credit-max=", c.credit_max)
    ∷ (codes "max-neighbors=", c.limit)
    ∷ (codes "ports=", length agent.ports) ∷ []

-- Returns the lines of the numbers, then of the status of each port in the order of opening.
abbrev pub configuration_lines : AgentState → List (List ℕ)
configuration_lines agent =
    number_lines (codes "configuration.") (numbers_shown agent) ++ map status_line agent.ports

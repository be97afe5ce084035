use Rattle.std.proofs.Common.{take, map}
use Rattle.lldp_engine.specs.Code.ShownValue.{plain_number, number_line}
use Rattle.lldp_engine.specs.Takes.{Takes}
use Rattle.lldp_engine.proofs.show.line.put_numbers.Given as goal

-- The sink has taken the lines of the numbers before this one.
abbrev pub invariant-loop-number : goal.invariant-loop-number
invariant-loop-number g l = Takes g.S.LineSink.takes l.fn.sink l.sink (map (λ number. number_line l.fn.front (plain_number number)) (take l.number-index l.numbers))

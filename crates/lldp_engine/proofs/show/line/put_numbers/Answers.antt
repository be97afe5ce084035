use Rattle.std.proofs.Common.{◌≡◌, refl, arith, take}
use Rattle.std.proofs.lemmas.List.{take_all}
use Rattle.lldp_engine.specs.Code.ShownValue.{plain_number, number_line}
use Rattle.lldp_engine.proofs.Lines.Taken.{takes_none, takes_next_line, map_twice}
use Rattle.lldp_engine.proofs.show.line.put_numbers.Goals as goal

pub loop-number-init : goal.loop-number-init
loop-number-init g c = takes_none _ _

pub loop-number-preserved : goal.loop-number-preserved
loop-number-preserved g c = takes_next_line _ (λ number. number_line c.args.front.now (plain_number number)) _ _ _ c.args.numbers.now _ _ _ c.loop-number-test.true refl c.loop-number.invariant c.put_line.ensures

pub returns : goal.returns
returns g c =
    let all : take c.loop-number.number-index c.args.numbers.now ≡ c.args.numbers.now = take_all c.loop-number.number-index c.args.numbers.now (omega arith) in
    rw (map_twice (number_line c.args.front.now) plain_number c.args.numbers.now) (rw all at c.loop-number.invariant)

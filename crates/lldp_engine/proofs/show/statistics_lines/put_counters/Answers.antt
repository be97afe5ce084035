use Rattle.std.proofs.Common.{◌∙◌, ap}
use Rattle.lldp_engine.specs.Keys.{port_key}
use Rattle.lldp_engine.specs.StatisticsLines.{counters_shown}
use Rattle.lldp_engine.proofs.show.statistics_lines.put_counters.Goals as goal

pub returns : goal.returns
returns g c =
    let front = c.as_slice.ensures.value ∙ c.port_front-front.ensures.value ∙ ap port_key c.name.ensures.value in
    let shown = c.in_order.ensures.shown ∙ ap counters_shown c.counters.ensures in
    rw (front, shown) at c.put_numbers.ensures

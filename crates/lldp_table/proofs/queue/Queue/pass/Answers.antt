use Rattle.std.proofs.Common.{◌≡◌, ◌∙◌, false, ap, arith, length, length-set, refl}
use Rattle.lldp_table.proofs.Slots.Counted.{shown_is}
use Rattle.lldp_table.specs.Code.Queue.{dues, less_first, is_spent, total}
use Rattle.lldp_table.proofs.Ageing.Due.{lessened, within_times, queue_lessened, some_there, total_passed}
use Rattle.lldp_table.proofs.queue.Queue.pass.Goals as goal

pub invariant_of-self : goal.invariant_of-self
invariant_of-self c =
    let times = c.self.inside.times.shown in
    let slots = c.self.inside.slots.items in
    let queue = c.self.invariant.queue in
    let some = some_there slots c.if-is_empty.ensures in
    let all = ap length c.set.ensures.value ∙ length-set c.get-left.new.self.shown _ _ ∙ ap length c.get-left.ensures.same ∙ queue.all in
    let less : dues c.set.new.self.shown slots ≡ less_first 1 (dues times slots) =
    rw (c.set.ensures.value, c.get-left.ensures.same, c.deref.ensures.0)
    (lessened times slots 0 some queue.distinct (within_times times slots queue 0 some) 1 _ (let got = rw c.deref.ensures.0 at c.get-left.ensures.value in omega (arith, got))) in
    let running : is_spent (dues times slots) ≡ false = ap is_spent (shown_is c.self.view_is) ∙ c.requires in
    let known = c.self.invariant.last_is in
    record {
      queue = queue_lessened times slots queue c.set.new.self.shown slots all 1 less refl;
      last_is = omega (arith, known, ap total less, total_passed times slots some running);
    }

pub returns-clause-after : goal.returns-clause-after
returns-clause-after c =
    let times = c.self.inside.times.shown in
    let slots = c.self.inside.slots.items in
    let queue = c.self.invariant.queue in
    let some = some_there slots c.if-is_empty.ensures in
    rw (c.set.ensures.value, c.get-left.ensures.same, c.deref.ensures.0)
    (lessened times slots 0 some queue.distinct (within_times times slots queue 0 some) 1 _ (let got = rw c.deref.ensures.0 at c.get-left.ensures.value in omega (arith, got)) ∙ ap (less_first 1) (shown_is c.self.view_is))

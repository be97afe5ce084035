-- The credit: the least of txCreditMax and, for each run that ends now, its bound less its frames.
use Rattle.std.proofs.Common.{ap, ◌∙◌, sym, subst}
use Rattle.lldp_transmit.specs.Moments.{moments}
use Rattle.lldp_transmit.specs.Positions.{IsLeastRoom}
use Rattle.lldp_transmit.specs.Standing.{machine_of}
use Rattle.lldp_transmit.proofs.Sending.{credit_reads}
use Rattle.lldp_transmit.proofs.machine.Transmit.credit.Goals as goal

pub returns-clause-left : goal.returns-clause-left
unfolding machine_of
returns-clause-left c = λ s past k. ap (λ t. t.credit) (c.self.view_is ∙ k.is)

pub returns-clause-least : goal.returns-clause-least
returns-clause-least c = λ s past k.
    subst (IsLeastRoom s (moments s past)) (sym (returns-clause-left c s past k)) (credit_reads s past k.in_range.some_credit)

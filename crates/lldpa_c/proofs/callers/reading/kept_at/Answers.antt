use Rattle.std.proofs.Common.{false, List, [], ◌∷◌, slice_get, refl, ap, arith}
use Rattle.lldp_pdu.specs.Tlv.{TlvUnit}
use Rattle.lldp_pdu.proofs.Cuts.{AreOctets-from_index}
use Rattle.lldpa_c.proofs.Walking.{begins_whole}
use Rattle.lldpa_c.proofs.callers.reading.kept_at.Goals as goal

pub loop-walk-init : goal.loop-walk-init
loop-walk-init c = ap (λ (ts : List TlvUnit). slice_get ts c.args.n)
    (begins_whole c.args.octets.now (record { next = 0; body = record { start = 0; length = 0 }; met = false ∷ false ∷ false ∷ false ∷ []; kind = 0 })
    (AreOctets-from_index _ (λ i. omega (arith, c.type_inv.octets i))) c.requires refl refl)

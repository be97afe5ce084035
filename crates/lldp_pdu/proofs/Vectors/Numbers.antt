-- The numbers that identify the faults.
use Rattle.std.proofs.Common.{◌≡◌, [], ◌∷◌, map, refl}
use Rattle.lldp_pdu.specs.declared.fault.BuildFault.TheVariants.{Full, Kind, Body}
use Rattle.lldp_pdu.specs.Fault.{checks}
use Rattle.lldp_pdu.specs.FaultNumber.{pdu_fault_number, build_fault_number}

-- the fault numbers of an LLDPDU, in the order of the checks
checked : map (λ check. pdu_fault_number check.fault) (checks [] 0 []) ≡ 1 ∷ 2 ∷ 3 ∷ 1 ∷ 4 ∷ 5 ∷ 1 ∷ 6 ∷ 7 ∷ 8 ∷ []
checked = refl

-- the fault numbers of Full, Kind and Body
put : map build_fault_number (Full ∷ Kind ∷ Body ∷ []) ≡ 1 ∷ 2 ∷ 3 ∷ []
put = refl

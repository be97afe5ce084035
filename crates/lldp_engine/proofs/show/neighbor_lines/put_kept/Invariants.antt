use Rattle.std.proofs.Common.{map}
use Rattle.std.specs.List.{AllByRecursion}
use Rattle.lldp_pdu.specs.Kept.{IsKeptTlv}
use Rattle.lldp_engine.proofs.Lines.Taken.{TakesTo}
use Rattle.lldp_engine.proofs.show.neighbor_lines.put_kept.Given as goal
use Rattle.lldp_engine.specs.Code.ShownValue.{kept_line}

-- The sink has taken all lines except those of the remaining TLVs.
abbrev pub invariant-loop-tlv : goal.invariant-loop-tlv
invariant-loop-tlv g l = record {
  taken : TakesTo g.S.LineSink.takes l.fn.sink l.sink (map (kept_line l.fn.front) l.tlv-iterator) (map (kept_line l.fn.front) l.fn.kept);
  kept : AllByRecursion IsKeptTlv l.tlv-iterator;
}

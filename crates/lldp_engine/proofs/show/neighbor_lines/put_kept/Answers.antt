use Rattle.std.proofs.Common.{List, [], ◌∷◌, ap, rules, map}
use Rattle.lldp_pdu.specs.Tlv.{TlvUnit}
use Rattle.lldp_engine.proofs.Lines.Taken.{takes_none, takes_line, takes_more}
use Rattle.lldp_engine.proofs.show.neighbor_lines.put_kept.Goals as goal
use Rattle.lldp_engine.specs.Code.ShownValue.{kept_line}

pub loop-tlv-init : goal.loop-tlv-init
loop-tlv-init g c = record {
  taken = ([], ap (λ (kept : List TlvUnit). map (kept_line c.args.front.now) kept) c.into_iter-tlv-iterator.ensures.into_iter_gives, takes_none _ _);
  kept = rw c.into_iter-tlv-iterator.ensures.into_iter_gives c.requires.kept;
}

pub loop-tlv-preserved : goal.loop-tlv-preserved
loop-tlv-preserved g c =
    let first = c.in-Some.ensures.steps in
    record {
      taken = takes_more _ _ _ _ (_ ∷ []) _ _ (rw first at c.loop-tlv.invariant.taken) (takes_line _ _ _ _ _ _ c.put_line.ensures (takes_none _ _));
      kept = search rules;
    }

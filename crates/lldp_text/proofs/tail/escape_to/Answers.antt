use Rattle.std.proofs.Common.{arith}
use Rattle.std.proofs.lemmas.List.Folds.{length-flat_map-take}
use Rattle.lldp_text.specs.Text.{escape}
use Rattle.lldp_text.proofs.PlainText.{plain_text}
use Rattle.lldp_text.proofs.tail.escape_to.Goals as goal
use Rattle.std.proofs.lemmas.Grind.{common_steps}

pub copy_from_slice-requires : goal.copy_from_slice-requires
copy_from_slice-requires c = grind (arith, common_steps, plain_text)

pub returns-then-are_plain : goal.returns-then-are_plain
returns-then-are_plain c = grind (arith, common_steps, plain_text)

pub put_escaped-end-requires : goal.put_escaped-end-requires
put_escaped-end-requires c =
    omega (arith, length-flat_map-take escape c.args.octets.now c.loop-octet.octet-index 0 c.loop-octet-test.true, c.loop-octet.invariant.1, c.loop-octet.invariant.2)

use Rattle.std.proofs.Common.{sym, ◌∙◌}
use Rattle.hex.specs.Hex.{encode_lower}
use Rattle.lldp_program.proofs.Texts.Taken.{puts_then, puts_waiting, puts_no_more}
use Rattle.lldp_program.proofs.Texts.Sent.{sent_waits}
use Rattle.lldp_program.proofs.output.Output.put_frame.Goals as goal
use Rattle.lldp_program.specs.Code.Output.{sent_line}

pub returns-then-is_ok : goal.returns-then-is_ok
returns-then-is_ok g c =
    let whole = sent_waits c.make_room.new.self.waiting c.text.new.self c.text-then-is_ok.new.self c.text-then-is_ok-2.new.self c.hex.new.self c.end_line.new.self c.args.name.now (encode_lower c.args.frame.now)
    c.text.ensures.value c.text-then-is_ok.ensures.value c.text-then-is_ok-2.ensures.value c.hex.ensures.value c.end_line.ensures.value in
    puts_then _ _ _ _ _ c.make_room.ensures.puts (puts_waiting _ _ (sent_line c.args.name.now c.args.frame.now) (sym c.is_ok.ensures.value ∙ c.if-is_ok.true) whole)

pub returns-else-is_ok : goal.returns-else-is_ok
returns-else-is_ok g c =
    puts_then _ _ _ _ _ c.make_room.ensures.puts (puts_no_more _ (sent_line c.args.name.now c.args.frame.now) (sym c.is_ok.ensures.value ∙ c.if-is_ok.false))

use Rattle.std.proofs.Common.{arith, refl}
use Rattle.clap.specs.Words.{without_minus}
use Rattle.clap.proofs.CallerReads.{signed_reads}
use Rattle.std.specs.Str.Parse.{ParsesUnsigned, ExplainsUnsignedError, HasUnsignedDigitsIfOk}
use Rattle.lldp_program.proofs.Words.Usage.{number_written}
use Rattle.lldp_program.proofs.arguments.connections_of.Goals as goal

pub unwrap-requires : goal.unwrap-requires
unwrap-requires c =
    let g = c.requires.given in
    let one = c.get_one.ensures.value _ g.1 in
    let got = signed_reads _ (λ bs r. ParsesUnsigned 16 10 bs r × ExplainsUnsignedError 10 bs r × HasUnsignedDigitsIfOk bs r) 16 1 65535 g.0 c.get_one.result one (λ u x h. h.0) (omega arith) g.2 in
    rw got.1 refl

pub returns : goal.returns
returns c =
    let g = c.requires.given in
    let one = c.get_one.ensures.value _ g.1 in
    rw g.1 (number_written _ (λ bs r. ParsesUnsigned 16 10 bs r × ExplainsUnsignedError 10 bs r × HasUnsignedDigitsIfOk bs r) (without_minus g.0) c.get_one.result one (λ u x h. h.0) c.unwrap.result c.unwrap.ensures)

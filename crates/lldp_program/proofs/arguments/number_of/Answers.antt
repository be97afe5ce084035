use Rattle.std.proofs.Common.{◌≡◌, ◌∙◌, sym, ap, arith, refl, Some}
use Rattle.clap.specs.Lexer.{without_minus}
use Rattle.lldp_program.proofs.Words.Usage.{reads_byte}
use Rattle.std.specs.Prelude.{unwrap_or}
use Rattle.clap.proofs.CallerReads.{signed_reads}
use Rattle.std.specs.Str.Parse.{ParsesUnsigned, ExplainsUnsignedError, HasUnsignedDigitsIfOk}
use Rattle.lldp_program.proofs.arguments.number_of.Goals as goal

pub unwrap-requires : goal.unwrap-requires
unwrap-requires c =
    let g = c.requires.given in
    let one = c.get_one.ensures.value _ g.2.1 in
    let got = signed_reads _ (λ bs r. ParsesUnsigned 8 10 bs r × ExplainsUnsignedError 10 bs r × HasUnsignedDigitsIfOk bs r) 8 1 g.0 g.2.0 c.get_one.result one (λ u x h. h.0) (omega arith) g.2.2 in
    rw got.1 refl

pub returns : goal.returns
returns c =
    record {
      range = λ greatest fits g.
          let one = c.get_one.ensures.value _ g.1 in
          let got = signed_reads _ (λ bs r. ParsesUnsigned 8 10 bs r × ExplainsUnsignedError 10 bs r × HasUnsignedDigitsIfOk bs r) 8 1 greatest g.0 c.get_one.result one (λ u x h. h.0) (omega arith) g.2 in
          let same : c.unwrap.result ≡ got.0 = ap (λ o. unwrap_or o 0) (sym c.unwrap.ensures ∙ got.1) in
          (rw same got.2, rw same got.3);
      value =
          let g = c.requires.given in
          let one = c.get_one.ensures.value _ g.2.1 in
          rw g.2.1 (ap Some (sym (reads_byte _ (λ bs r. ParsesUnsigned 8 10 bs r × ExplainsUnsignedError 10 bs r × HasUnsignedDigitsIfOk bs r) (without_minus g.2.0) c.get_one.result one (λ u x h. h.0) c.unwrap.result c.unwrap.ensures)));
    }

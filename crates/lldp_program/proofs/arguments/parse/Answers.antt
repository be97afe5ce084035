use Rattle.std.proofs.lemmas.Result.{IfOk-weaker}
use Rattle.lldp_program.proofs.Words.Usage.{parse_rows, parse_kinds}
use Rattle.lldp_program.proofs.arguments.parse.Goals as goal

pub returns : goal.returns
returns g c =
    let app = c.in_ok-command.ensures in
    let parse = c.try_get_matches_from in
    record {
      options = IfOk-weaker parse.result _ _ (λ m p. record { command = _; roles = app.0; line = app.2; parsed = p }) parse.ensures.parsed;
      words = parse_rows _ app.0 _ parse.result app.1 app.2 parse.ensures.matches parse.ensures.kinds;
      kinds = parse_kinds _ app.0 _ parse.result app.1 app.2 parse.ensures.kinds;
    }

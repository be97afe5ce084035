use Rattle.std.proofs.Common.{arith, refl, sym, ap, ◌∙◌, ◌∷◌, []}
use Rattle.lldp_engine.proofs.Headline.{promised, have_sent_exactly}
use Rattle.lldp_program.specs.Devices.Acceptors.{Visit, logged, refused}
use Rattle.lldp_program.specs.Serving.{calls_of}
use Rattle.lldp_program.proofs.Serving.{keeps_on_then, at_most_one, logged_none, logged_then, logged_visit}
use Rattle.lldp_program.proofs.serve.serve_connections.Goals as goal

pub overflow_add-faulty : goal.overflow_add-faulty
overflow_add-faulty g c = omega (arith, c.loop-served.invariant.few, at_most_one c.run.result, c.count_fault-faulty.ensures)

pub loop-served-init : goal.loop-served-init
loop-served-init g c = record { few = omega arith; runs = ([], refl, refl, refl, sym (logged_none _)); keeps = λ past stands. ([], stands, promised past _ stands, have_sent_exactly past _ stands) }

pub loop-served-preserved : goal.loop-served-preserved
loop-served-preserved g c =
    let inv = c.loop-served.invariant in
    let r = c.run.result in
    let ran = c.run.ensures.run in
    let visit : Visit g.row.D-Connection.Denot = record { connection = c.in-Ok.connection; left = ran.left; new = ran.new; result = r } in
    record {
      few = omega (arith, inv.few, at_most_one r, c.count_fault-faulty.ensures);
      runs = (
        visit ∷ inv.runs.0,
        (c.loop-served.agent, inv.runs.1, ran.run),
        omega (arith, inv.runs.2),
        omega (arith, inv.runs.3, c.count_fault-faulty.ensures),
        logged_visit inv.runs.0 visit _ _ _ _ inv.runs.4 c.in-Ok.ensures.asked ran.recorded,
      );
      keeps = λ past stands. keeps_on_then past _ _ (inv.keeps past stands) c.run.ensures.headline;
    }

pub returns-in_default-clause-asked : goal.returns-in_default-clause-asked
returns-in_default-clause-asked g c =
    let inv = c.loop-served.invariant in
    record {
      visits = inv.runs.0;
      runs = inv.runs.1;
      asked = c.in_default.ensures.asked ∙ ap (logged (refused ∷ [])) inv.runs.4 ∙ logged_then (calls_of inv.runs.0) (refused ∷ []) _;
      told = omega (arith, inv.runs.2);
    }

pub returns-clause-asked : goal.returns-clause-asked
returns-clause-asked g c =
    let inv = c.loop-served.invariant in
    record { visits = inv.runs.0; runs = inv.runs.1; asked = inv.runs.4; told = (omega (arith, inv.runs.2), inv.runs.3) }

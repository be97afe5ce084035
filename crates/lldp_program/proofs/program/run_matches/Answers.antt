use Rattle.std.proofs.Common.{◌∙◌, sym, codes, rules}
use Rattle.clap.specs.Matches.{found_of}
use Rattle.clap.proofs.WalkLemmas.{one_text-rows}
use Rattle.lldp_engine.specs.Options.{options_of}
use Rattle.lldp_program.specs.declared.fault.ProgramFault.TheVariants.{Opening, Address}
use Rattle.lldp_program.proofs.Statuses.{opened_ran}
use Rattle.lldp_program.proofs.Words.Usage.{not_asked, was_asked}
use Rattle.lldp_program.proofs.program.run_matches.Goals as goal

pub returns-in-Ok-open-clause-ran : goal.returns-in-Ok-open-clause-ran
returns-in-Ok-open-clause-ran g c some =
    let checked = c.in-Ok-open.ensures.checked in
    let text = was_asked _ _ _ c.in-Some.listening c.listening_of.ensures c.in-Some.is in
    let port = sym (one_text-rows (found_of c.args.matches.now) (codes "listen")) ∙ text.1 in
    (options_of c.in-Ok.options, c.in-Ok.ensures.asks, checked, rw port (search rules, search rules, c.run_sockets.ensures.ended))

pub returns-in-None-clause-ran : goal.returns-in-None-clause-ran
returns-in-None-clause-ran g c some =
    let checked = c.in-Ok-open.ensures.checked in
    let none = not_asked _ _ _ c.listening_of.ensures c.in-None.is in
    let port = sym (one_text-rows (found_of c.args.matches.now) (codes "listen")) ∙ none in
    (options_of c.in-Ok.options, c.in-Ok.ensures.asks, checked, rw port (opened_ran (options_of c.in-Ok.options) _ _ _ _ _ _ _ _ _ (search rules) c.run_streams.ensures.ran))

pub returns-in-Err-clause-refused : goal.returns-in-Err-clause-refused
returns-in-Err-clause-refused g c two = (Address c.in-Err.fault, c.in-Err.ensures.refused, c.tell.ensures.told)

pub returns-clause-refused : goal.returns-clause-refused
returns-clause-refused g c two =
    (Opening c.in-Err-open.fault, (options_of c.in-Ok.options, c.in-Ok.ensures.asks, c.in-Err-open.ensures.refused), c.tell-in-Err-open.ensures.told)

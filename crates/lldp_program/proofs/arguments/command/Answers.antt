use Rattle.std.proofs.Common.{◌≡◌, ◌∙◌, ap, codes, refl, true}
use Rattle.std.proofs.lemmas.Result.{IfOk-weaker}
use Rattle.clap.specs.Simple.{App, app_of, app_of_fields, new_app, on_top}
use Rattle.lldp_program.proofs.Words.Parsed.{one_more}
use Rattle.lldp_program.proofs.arguments.command.Goals as goal

-- `clap` adds the option `--version`
abbrev versioned : App → App
versioned = on_top (λ s. record s { has_version = true })

-- each call of `arg` adds the rule of its argument to the command line
pub returns : goal.returns
returns c =
    let s0 : app_of c.after_help.result ≡ versioned (new_app (codes "lldpa")) =
    ap app_of_fields c.after_help.ensures ∙ (ap app_of_fields c.hide_possible_values.ensures ∙ (ap app_of_fields c.override_usage.ensures
    ∙ (ap app_of_fields c.about.ensures ∙ (ap app_of_fields c.version.ensures ∙ ap versioned c.new.ensures.app)))) in
    let s1 = one_more c.in_ok-arg.ensures s0 c.number.ensures refl in
    let s2 = one_more c.in_ok-arg-2.ensures s1 c.text.ensures refl in
    let s3 = one_more c.in_ok-arg-3.ensures s2 c.text-2.ensures refl in
    let s4 = one_more c.in_ok-arg-4.ensures s3 c.valued.ensures refl in
    let s5 = one_more c.in_ok-arg-5.ensures s4 c.role.ensures.2 refl in
    let s6 = one_more c.in_ok-arg-6.ensures s5 c.number-2.ensures refl in
    let s7 = one_more c.in_ok-arg-7.ensures s6 c.number-3.ensures refl in
    let s8 = one_more c.in_ok-arg-8.ensures s7 c.number-4.ensures refl in
    let s9 = one_more c.in_ok-arg-9.ensures s8 c.receive_only.ensures refl in
    let s10 = one_more c.in_ok-arg-10.ensures s9 c.listen.ensures refl in
    let s11 = one_more c.in_ok-arg-11.ensures s10 c.number-5.ensures refl in
    IfOk-weaker c.arg-12.result _ _ (λ d a. (c.role.ensures.0, c.role.ensures.1, one_more a s11 c.ports.ensures refl)) c.arg-12.ensures

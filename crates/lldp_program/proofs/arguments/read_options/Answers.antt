use Rattle.std.proofs.Common.{◌∙◌, ap, sym, subst, arith, refl, codes, Some}
use Rattle.std.specs.Prelude.{option_map, IsSomeAnd}
use Rattle.std.specs.Net.Grammar.{IsDotted}
use Rattle.std.proofs.lemmas.Result.{err_from_is_err_and}
use Rattle.clap.specs.Walk.{byte_or_zero, rows_of}
use Rattle.clap.specs.Matches.{found_of}
use Rattle.clap.proofs.WalkLemmas.{first_value-rows, one_text-rows, raw_values-rows}
use Rattle.lldp_program.specs.CommandLine.Usage.{role_named, AsksManagement, HasBadAddress, IsBad}
use Rattle.lldp_program.specs.CommandLine.Addresses.{IsMac}
use Rattle.lldp_program.specs.declared.arguments.AddressFault.TheVariants.{Management}
use Rattle.lldp_program.proofs.Words.Parsed.{gives_number, gives_text}
use Rattle.lldp_program.proofs.Words.Usage.{ports_named}
use Rattle.lldp_program.proofs.arguments.read_options.Goals as goal

pub given-requires : goal.given-requires
given-requires c = record { given = gives_text c.requires.parse (codes "mac") _ _ (refl, refl) }

pub given-requires-2 : goal.given-requires-2
given-requires-2 c = record { given = gives_text c.requires.parse (codes "hostname") _ _ (refl, refl) }

pub given-requires-3 : goal.given-requires-3
given-requires-3 c = record { given = gives_text c.requires.parse (codes "role") _ _ (refl, refl) }

pub number_of-requires : goal.number_of-requires
number_of-requires c = record { given = (128, omega arith, gives_number c.requires.parse (codes "max-neighbors") _ _ (refl, refl)) }

pub number_of-requires-2 : goal.number_of-requires-2
number_of-requires-2 c = record { given = (10, omega arith, gives_number c.requires.parse (codes "tx-credit-max") _ _ (refl, refl)) }

pub number_of-requires-3 : goal.number_of-requires-3
number_of-requires-3 c = record { given = (8, omega arith, gives_number c.requires.parse (codes "tx-fast-init") _ _ (refl, refl)) }

pub number_of-requires-4 : goal.number_of-requires-4
number_of-requires-4 c = record { given = (10, omega arith, gives_number c.requires.parse (codes "reinit-delay") _ _ (refl, refl)) }

pub returns-clause-range : goal.returns-clause-range
returns-clause-range c =
    record {
      neighbors = c.number_of.ensures.range 128 (omega arith) (gives_number c.requires.parse (codes "max-neighbors") _ _ (refl, refl));
      credit = c.number_of-2.ensures.range 10 (omega arith) (gives_number c.requires.parse (codes "tx-credit-max") _ _ (refl, refl));
      fast = c.number_of-3.ensures.range 8 (omega arith) (gives_number c.requires.parse (codes "tx-fast-init") _ _ (refl, refl));
      wait = c.number_of-4.ensures.range 10 (omega arith) (gives_number c.requires.parse (codes "reinit-delay") _ _ (refl, refl));
    }

pub returns-clause-asks : goal.returns-clause-asks
returns-clause-asks c =
    let found = found_of c.args.matches.now in
    record {
      mac = subst (λ x. IsSomeAnd x (λ text. IsMac text c.in-Some.mac)) (sym c.given.ensures.value ∙ first_value-rows found (codes "mac")) c.in-Some.ensures;
      names = ports_named c.get_strs.result _ _ _ _ refl c.unwrap_or.ensures c.get_strs.ensures (raw_values-rows found (codes "PORT"));
      hostname = sym (first_value-rows found (codes "hostname")) ∙ c.given-2.ensures.value;
      management = subst (λ x. AsksManagement x c.in_ok-management_of.field-0) (first_value-rows found (codes "management")) c.in_ok-management_of.ensures.asked;
      role = ap (option_map role_named) (sym (first_value-rows found (codes "role")) ∙ c.given-3.ensures.value) ∙ ap Some (sym c.role_of.ensures);
      max_neighbors = ap (option_map byte_or_zero) (sym (one_text-rows found (codes "max-neighbors"))) ∙ c.number_of.ensures.value;
      credit_max = ap (option_map byte_or_zero) (sym (one_text-rows found (codes "tx-credit-max"))) ∙ c.number_of-2.ensures.value;
      fast_init = ap (option_map byte_or_zero) (sym (one_text-rows found (codes "tx-fast-init"))) ∙ c.number_of-3.ensures.value;
      reinit = ap (option_map byte_or_zero) (sym (one_text-rows found (codes "reinit-delay"))) ∙ c.number_of-4.ensures.value;
      receives = λ e. c.get_flag.ensures.value (one_text-rows found (codes "receive-only") ∙ e);
      sends = λ e. c.get_flag.ensures.other (one_text-rows found (codes "receive-only") ∙ e);
    }

pub returns-in_default-clause-refused : goal.returns-in_default-clause-refused
returns-in_default-clause-refused c =
    subst (IsBad IsMac) (sym c.given.ensures.value ∙ first_value-rows (found_of c.args.matches.now) (codes "mac")) c.in_default.ensures

pub returns-in_err-management_of-clause-refused : goal.returns-in_err-management_of-clause-refused
returns-in_err-management_of-clause-refused c =
    let found = found_of c.args.matches.now in
    let p = err_from_is_err_and c.from_residual.result c.from_residual.ensures.1 in
    let refused = c.in_err-management_of.ensures.refused in
    let mac = subst (λ x. IsSomeAnd x (λ text. IsMac text c.in-Some.mac)) (sym c.given.ensures.value ∙ first_value-rows found (codes "mac")) c.in-Some.ensures in
    let bad : HasBadAddress (rows_of found) Management = ((c.in-Some.mac, mac), subst (IsBad IsDotted) (first_value-rows found (codes "management")) refused.1) in
    rw p.1 (subst (HasBadAddress (rows_of found)) (sym (p.2 ∙ refused.0)) bad)

use Rattle.std.specs.Str.Parse.{ParsesUnsigned, ExplainsUnsignedError, HasUnsignedDigitsIfOk}
use Rattle.std.proofs.Common.{codes, refl}
use Rattle.lldp_program.proofs.Words.Parsed.{gives_number, may_give_number}
use Rattle.lldp_program.proofs.Words.Usage.{listens, listens_not}
use Rattle.lldp_program.proofs.arguments.listening_of.Goals as goal

pub returns-in-None : goal.returns-in-None
returns-in-None c =
    listens_not _ (λ bs r. ParsesUnsigned 16 10 bs r × ExplainsUnsignedError 10 bs r × HasUnsignedDigitsIfOk bs r) c.args.matches.now _ c.get_one.result (may_give_number c.requires.parse (codes "listen") _ (refl, refl) 65535 refl) c.get_one.ensures.value (λ u x h. h.0) c.in-None.is

pub returns-in-Some : goal.returns-in-Some
returns-in-Some c =
    listens _ (λ bs r. ParsesUnsigned 16 10 bs r × ExplainsUnsignedError 10 bs r × HasUnsignedDigitsIfOk bs r) _ _ c.get_one.result c.in-Some.port c.connections_of.result c.get_one.ensures.none c.get_one.ensures.value (λ u x h. h.0) c.connections_of.ensures c.in-Some.is

pub connections_of-requires : goal.connections_of-requires
connections_of-requires c = record { given = gives_number c.requires.parse (codes "connections") 65535 _ (refl, refl) }

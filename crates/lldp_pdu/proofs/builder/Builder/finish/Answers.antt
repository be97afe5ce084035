use Rattle.std.proofs.Common.{List, ℕ, ◌++◌, ap, ◌∙◌, subst}
use Rattle.lldp_pdu.specs.Tlv.{spelling, spellings}
use Rattle.lldp_pdu.specs.Draft.{Draft, all_tlvs, end_of_lldpdu, IsReadBack}
use Rattle.lldp_pdu.specs.Code.BuilderView.{IsDraft}
use Rattle.lldp_pdu.proofs.Drafts.{finished}
use Rattle.lldp_pdu.proofs.builder.Builder.finish.Goals as goal

all : (c : goal.After-append_end) → IsReadBack c.args.self c.append_end.new.octets.items
all c =
    finished c.args.self c.append_end.new.octets.items (subst IsDraft c.self.view_is c.self.invariant.draft)
    (c.append_end.ensures ∙ ap (λ (x : List ℕ). x ++ spelling end_of_lldpdu) (c.self.invariant.spelled ∙ ap (λ (d : Draft). spellings (all_tlvs d)) c.self.view_is))

pub returns-clause-sound : goal.returns-clause-sound
returns-clause-sound c = (all c).sound

pub returns-clause-msap : goal.returns-clause-msap
returns-clause-msap c = (all c).msap

pub returns-clause-ttl : goal.returns-clause-ttl
returns-clause-ttl c = (all c).ttl

pub returns-clause-info : goal.returns-clause-info
returns-clause-info c = (all c).info

use Rattle.std.proofs.Common.{refl, ap, ◌∙◌}
use Rattle.lldp_pdu.specs.View.{msap_view}
use Rattle.lldp_engine.specs.AgentState.{PortState}
use Rattle.lldp_engine.proofs.OnePort.Heard.{heard_refused, heard_leaves, heard_tells}
use Rattle.lldp_engine.proofs.OnePort.Telling.{tells_refused, tells_left, tells_stored}
use Rattle.lldp_engine.proofs.port.Port.hear.Goals as goal

pub returns-in-Err-clause-after : goal.returns-in-Err-clause-after
returns-in-Err-clause-after g c =
    rw (heard_refused c.args.pdu.now c.in-Err.fault c.in-Err.ensures.fault, ← c.self.view_is, c.count_refused.ensures, c.count_received.ensures) refl

pub returns-in-Err-clause-cause : goal.returns-in-Err-clause-cause
returns-in-Err-clause-cause g c = rw (heard_refused c.args.pdu.now c.in-Err.fault c.in-Err.ensures.fault) refl

pub returns-in-Err-clause-told : goal.returns-in-Err-clause-told
returns-in-Err-clause-told g c = tells_refused c.args.self.now.table c.args.pdu.now c.in-Err.fault c.in-Err.ensures.fault

pub returns-in-Ok-Shutdown-clause-after : goal.returns-in-Ok-Shutdown-clause-after
returns-in-Ok-Shutdown-clause-after g c =
    let told = rw c.in-Ok-Shutdown.field-0-is at c.in-Ok-Shutdown.ensures.answer in
    rw (heard_leaves c.args.pdu.now (msap_view c.in-Ok-Shutdown.name) c.in-Ok-Shutdown.ensures.fault told.0 told.1, ← c.self.view_is, c.forget-held.ensures.after, c.count_received.ensures) refl

pub returns-in-Ok-Shutdown-clause-cause : goal.returns-in-Ok-Shutdown-clause-cause
returns-in-Ok-Shutdown-clause-cause g c =
    let told = rw c.in-Ok-Shutdown.field-0-is at c.in-Ok-Shutdown.ensures.answer in
    rw (heard_leaves c.args.pdu.now (msap_view c.in-Ok-Shutdown.name) c.in-Ok-Shutdown.ensures.fault told.0 told.1) refl

pub returns-in-Ok-Shutdown-clause-told : goal.returns-in-Ok-Shutdown-clause-told
returns-in-Ok-Shutdown-clause-told g c =
    let told = rw c.in-Ok-Shutdown.field-0-is at c.in-Ok-Shutdown.ensures.answer in
    let table = ap (λ (p : PortState). p.table) c.self.view_is in
    rw (c.forget-held.ensures.answer, told.1, table) (tells_left c.args.self.now.table c.args.pdu.now c.in-Ok-Shutdown.ensures.fault told.0)

pub returns-in-Ok-Info-clause-after : goal.returns-in-Ok-Info-clause-after
returns-in-Ok-Info-clause-after g c =
    let told = rw c.in-Ok-Info.field-0-is at c.in-Ok-Info.ensures.answer in
    let learned = rw told.1 at c.learn.ensures.after in
    rw (heard_tells c.args.pdu.now c.in-Ok-Info.ensures.fault told.0, ← c.self.view_is, learned, c.count_received.ensures) refl

pub returns-in-Ok-Info-clause-cause : goal.returns-in-Ok-Info-clause-cause
returns-in-Ok-Info-clause-cause g c =
    let told = rw c.in-Ok-Info.field-0-is at c.in-Ok-Info.ensures.answer in
    rw (heard_tells c.args.pdu.now c.in-Ok-Info.ensures.fault told.0, ← c.self.view_is) (rw told.1 at c.learn.ensures.cause)

pub returns-in-Ok-Info-clause-told : goal.returns-in-Ok-Info-clause-told
returns-in-Ok-Info-clause-told g c =
    let told = rw c.in-Ok-Info.field-0-is at c.in-Ok-Info.ensures.answer in
    let table = ap (λ (p : PortState). p.table) c.self.view_is in
    let stored = rw (told.1, table) at c.learn.ensures.told in
    stored ∙ tells_stored c.args.self.now.table c.args.pdu.now c.in-Ok-Info.ensures.fault told.0

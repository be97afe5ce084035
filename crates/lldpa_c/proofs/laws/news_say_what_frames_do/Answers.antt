use Rattle.std.proofs.Common.{◌≡◌, ℕ, ◌<◌, Bool, true, false, List, length, Some, None, refl, sym, ap, subst, ◌∙◌, arith}
use Rattle.std.specs.Prelude.{◌==◌, ◌&&◌, ◌↔◌, nat_lt, if◌then◌else◌, slice_get}
use Rattle.std.specs.Str.{bytes_eq}
use Rattle.std.proofs.lemmas.Bool.{ne_eqb}
use Rattle.lldp_pdu.specs.FaultNumber.{pdu_fault_number}
use Rattle.lldp_pdu.specs.Msap.{MsapId}
use Rattle.lldp_pdu.specs.Frame.{lldpdu_of}
use Rattle.lldp_pdu.specs.Fault.{fault_of}
use Rattle.lldp_pdu.specs.Lldpdu.{extent, ttl_of, msap_of}
use Rattle.lldp_table.specs.declared.learned.Outcome.{Outcome}
use Rattle.lldp_table.specs.declared.learned.Outcome.TheVariants.{Added, Changed, Repeated, NoRoom}
use Rattle.lldp_table.specs.Contents.{holds_name}
use Rattle.lldp_table.specs.Outcomes.{store_outcome, outcome_for}
use Rattle.lldp_engine.specs.AgentState.{AgentState, PortState}
use Rattle.lldp_engine.specs.Event.{frame}
use Rattle.lldp_engine.specs.Port.Event.{frame as port_frame}
use Rattle.lldp_engine.specs.Status.{receives}
use Rattle.lldp_engine.specs.Told.{Told, nothing, deaf, not_lldp, refused, stored, left, is_new, is_gone}
use Rattle.lldp_engine.specs.Code.Telling.{agent_told, told_at, frame_tells}
use Rattle.lldpa_c.specs.declared.news.LldpaNews.{LldpaNews}
use Rattle.lldpa_c.specs.News.{outcome_number, news_number, news_fault, news_name, Reports}
use Rattle.lldpa_c.specs.Laws.Reported.{IsUnnamed, IsNamed, AreNews}
use Rattle.lldpa_c.proofs.laws.news_say_what_frames_do.Goals as goal

unnamed : (told : Told) (octets : List ℕ) (news : LldpaNews) (what fault : ℕ) → Reports told octets news → news_number told ≡ what → news_fault told ≡ fault
    → news_name told ≡ None → IsUnnamed news what fault
unnamed told octets news what fault r n f none =
    let names = r.none none in
    record {
      what_is = r.what ∙ n;
      fault_is = r.fault ∙ f;
      chassis = (ap (λ p. p.start) names.chassis, ap (λ p. p.length) names.chassis);
      port = (ap (λ p. p.start) names.port, ap (λ p. p.length) names.port);
    }

-- ---- an LLDPDU without a fault

no_fault : (leaves held : Bool) (msap : MsapId) (outcome : Outcome) → news_fault (if leaves then left msap held else stored msap outcome) ≡ 0
no_fault true held msap outcome = refl
no_fault false held msap outcome = refl

one_name : (leaves held : Bool) (msap : MsapId) (outcome : Outcome) → news_name (if leaves then left msap held else stored msap outcome) ≡ Some msap
one_name true held msap outcome = refl
one_name false held msap outcome = refl

same_or_not : (same : Bool) → outcome_number (if same then Repeated else Changed) ≡ (if same then 6 else 5)
same_or_not true = refl
same_or_not false = refl

room_or_not : (room : Bool) → outcome_number (if room then Added else NoRoom) ≡ (if room then 4 else 7)
room_or_not true = refl
room_or_not false = refl

module _ (port : PortState) (octets : List ℕ) (news : LldpaNews) (r : Reports (frame_tells port octets) octets news) where
  named : (pdu : List ℕ) → (receives port.status && port.machine.up) ≡ true → lldpdu_of octets ≡ Some pdu → fault_of pdu ≡ None → IsNamed port octets pdu news
  named pdu up is sound =
      let msap = msap_of pdu in
      let outcome = store_outcome port.table msap (extent pdu) in
      let held = holds_name port.table msap in
      let told : frame_tells port octets ≡ (if ttl_of pdu == 0 then left msap held else stored msap outcome) = rw (up, is, sound) refl in
      let gone : ttl_of pdu ≡ 0 → frame_tells port octets ≡ left msap held = λ e. told ∙ rw e refl in
      let alive : 0 < ttl_of pdu → frame_tells port octets ≡ stored msap outcome = λ lt. told ∙ rw (ne_eqb (ttl_of pdu) 0 (λ e. absurd (omega (arith, e, lt)))) refl in
      let holds = r.named msap (ap news_name told ∙ one_name (ttl_of pdu == 0) held msap outcome) in
      record {
        fault = r.fault ∙ ap news_fault told ∙ no_fault (ttl_of pdu == 0) held msap outcome;
        chassis = holds.chassis.held;
        port_id = holds.port.held;
        leaves = λ e. r.what ∙ ap news_number (gone e);
        held = λ was lt e. r.what ∙ ap news_number (alive lt) ∙ ap (λ before. outcome_number (outcome_for port.table before (extent pdu))) e ∙ same_or_not (bytes_eq was (extent pdu));
        other = λ lt e. r.what ∙ ap news_number (alive lt) ∙ ap (λ before. outcome_number (outcome_for port.table before (extent pdu))) e ∙ room_or_not (nat_lt (length port.table.neighbors) port.table.limit);
      }

  are_news : AreNews port octets news
  are_news = record {
    deaf = λ up. let told : frame_tells port octets ≡ deaf = rw up refl in unnamed _ octets news 2 0 r (ap news_number told) (ap news_fault told) (ap news_name told);
    not_lldp = λ up is. let told : frame_tells port octets ≡ not_lldp = rw (up, is) refl in unnamed _ octets news 1 0 r (ap news_number told) (ap news_fault told) (ap news_name told);
    refused = λ pdu fault up is e.
        let told : frame_tells port octets ≡ refused fault = rw (up, is, e) refl in
        unnamed _ octets news 3 (pdu_fault_number fault) r (ap news_number told) (ap news_fault told) (ap news_name told);
    named = named;
  }

-- ---- one neighbor more, or one fewer

new_is_4 : (told : Told) → (news_number told ≡ 4) ↔ (is_new told ≡ true)
new_is_4 nothing = (λ h. absurd (omega (arith, h)), λ h. absurd cc)
new_is_4 deaf = (λ h. absurd (omega (arith, h)), λ h. absurd cc)
new_is_4 not_lldp = (λ h. absurd (omega (arith, h)), λ h. absurd cc)
new_is_4 (refused fault) = (λ h. absurd (omega (arith, h)), λ h. absurd cc)
new_is_4 (stored msap Added) = (λ h. refl, λ h. refl)
new_is_4 (stored msap Changed) = (λ h. absurd (omega (arith, h)), λ h. absurd cc)
new_is_4 (stored msap Repeated) = (λ h. absurd (omega (arith, h)), λ h. absurd cc)
new_is_4 (stored msap NoRoom) = (λ h. absurd (omega (arith, h)), λ h. absurd cc)
new_is_4 (left msap true) = (λ h. absurd (omega (arith, h)), λ h. absurd cc)
new_is_4 (left msap false) = (λ h. absurd (omega (arith, h)), λ h. absurd cc)

gone_is_8 : (told : Told) → (news_number told ≡ 8) ↔ (is_gone told ≡ true)
gone_is_8 nothing = (λ h. absurd (omega (arith, h)), λ h. absurd cc)
gone_is_8 deaf = (λ h. absurd (omega (arith, h)), λ h. absurd cc)
gone_is_8 not_lldp = (λ h. absurd (omega (arith, h)), λ h. absurd cc)
gone_is_8 (refused fault) = (λ h. absurd (omega (arith, h)), λ h. absurd cc)
gone_is_8 (stored msap Added) = (λ h. absurd (omega (arith, h)), λ h. absurd cc)
gone_is_8 (stored msap Changed) = (λ h. absurd (omega (arith, h)), λ h. absurd cc)
gone_is_8 (stored msap Repeated) = (λ h. absurd (omega (arith, h)), λ h. absurd cc)
gone_is_8 (stored msap NoRoom) = (λ h. absurd (omega (arith, h)), λ h. absurd cc)
gone_is_8 (left msap true) = (λ h. refl, λ h. refl)
gone_is_8 (left msap false) = (λ h. absurd (omega (arith, h)), λ h. absurd cc)

told_here : (agent : AgentState) (number : ℕ) (port : PortState) (octets : List ℕ) → slice_get agent.ports number ≡ Some port → agent_told (frame number octets) agent ≡ frame_tells port octets
told_here agent number port octets e = ap (told_at (port_frame octets)) e

pub returns : goal.returns
returns c = record {
  frames = λ agent number port octets news e r.
      are_news port octets news (subst (λ (told : Told). Reports told octets news) (told_here agent number port octets e) r);
  steps = λ before after number port next octets told news here there tells r.
      let t = tells port next here there in
      let new = new_is_4 told in
      let gone = gone_is_8 told in (
        (λ h. t.new.0 (new.0 (sym r.what ∙ h)), λ h. r.what ∙ new.1 (t.new.1 h)),
        (λ h. t.gone.0 (gone.0 (sym r.what ∙ h)), λ h. r.what ∙ gone.1 (t.gone.1 h)),
      );
}

-- What a frame tells an agent.
use Rattle.std.proofs.Common.{◌≡◌, ℕ, zero, suc, ◌+◌, true, List, [], ◌∷◌, Option, None, Some, refl, sym, ap, subst, ◌∙◌, arith}
use Rattle.std.specs.Prelude.{◌==◌, ◌&&◌, slice_get}
use Rattle.std.specs.Option.{option_map}
use Rattle.std.proofs.lemmas.Bool.Decides.{nat_tests}
use Rattle.lldp_pdu.specs.Frame.{lldpdu_of}
use Rattle.lldp_engine.specs.Status.{receives}
use Rattle.lldp_engine.specs.Event as agent
use Rattle.lldp_engine.specs.Event.{Event}
use Rattle.lldp_engine.specs.AgentState.{AgentState, PortState}
use Rattle.lldp_engine.specs.Sound.{IsSoundPort}
use Rattle.lldp_engine.specs.Port.Event.{PortEvent, frame, link, status}
use Rattle.lldp_engine.specs.Code.PortStep.{port_step}
use Rattle.lldp_engine.specs.Code.Step.{ports_step, agent_after}
use Rattle.lldp_engine.specs.Told.{Told, nothing, TellsFrame, Tells}
use Rattle.lldp_engine.specs.Code.Telling.{told_at, port_told, agent_told}
use Rattle.lldp_engine.proofs.OnePort.Telling.{tells_frame}
use Rattle.lldp_engine.proofs.AllPorts.Sound.{AllSound}
use Rattle.lldp_engine.specs.Code.Whose.{one_port}

own_step : (event : PortEvent) (n s k q : ℕ) (ports : List PortState) → q ≡ s + k → slice_get (ports_step (one_port q event) n s ports) k ≡ option_map (port_step event n) (slice_get ports k)
own_step event n s k q [] e = refl
own_step event n s zero q (p ∷ ports) e = let same : (q == s) ≡ true = grind (arith, nat_tests) in rw same refl
own_step event n s (suc k) q (p ∷ ports) e = own_step event n (s + 1) k q ports (omega (arith, e))

sound_at : (capacity : ℕ) (ports : List PortState) (number : ℕ) (port : PortState) → slice_get ports number ≡ Some port → AllSound capacity ports → IsSoundPort capacity port
sound_at capacity [] number port h all = absurd cc
sound_at capacity (p ∷ ports) zero port h all = let same : p ≡ port = cc in subst (IsSoundPort capacity) same all.0
sound_at capacity (p ∷ ports) (suc number) port h all = sound_at capacity ports number port h all.1

nothing_told : (event : PortEvent) → ((p : PortState) → port_told event p nothing ≡ nothing) → (o : Option PortState) → told_at event o ≡ nothing
nothing_told event none None = refl
nothing_told event none (Some p) = none p

pub told_truly : (capacity : ℕ) (event : Event) (before after : AgentState) (told : Told) → AllSound capacity before.ports → after ≡ agent_after event before → told ≡ agent_told event before
    → Tells event before after told
told_truly capacity (agent.frame number octets) before after told sound is e = λ port next here there.
    let n = before.configuration.interval in
    let hears = receives port.status && port.machine.up in
    let stepped : Some (port_step (frame octets) n port) ≡ Some next =
    sym (ap (option_map (port_step (frame octets) n)) here) ∙ sym (own_step (frame octets) n 0 number number before.ports (omega arith)) ∙ sym (ap (λ (a : AgentState). slice_get a.ports number) is) ∙ there in
    let same : port_step (frame octets) n port ≡ next = cc in
    subst (λ (q : PortState). TellsFrame hears (lldpdu_of octets) port.table q.table told) same
    (subst (TellsFrame hears (lldpdu_of octets) port.table (port_step (frame octets) n port).table) (sym (e ∙ ap (told_at (frame octets)) here))
    (tells_frame port.table hears (lldpdu_of octets) (sound_at capacity before.ports number port here sound).table))
told_truly capacity (agent.link number up) before after told sound is e = e ∙ nothing_told (link up) (λ p. refl) (slice_get before.ports number)
told_truly capacity (agent.set (agent.status number given)) before after told sound is e = e ∙ nothing_told (status given) (λ p. refl) (slice_get before.ports number)
told_truly capacity event before after told sound is e = e

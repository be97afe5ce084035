use Rattle.std.proofs.Common.{◌≡◌, ℕ, List, sym, subst}
use Rattle.lldp_engine.specs.declared.command.Show.{Show}
use Rattle.lldp_engine.specs.declared.command.Show.TheVariants.{Chassis}
use Rattle.lldp_engine.specs.AgentState.{AgentState}
use Rattle.lldp_engine.specs.Configuration.{Configuration as Configured}
use Rattle.lldp_engine.specs.ChassisLines.{chassis_lines}
use Rattle.lldp_engine.specs.Lines.{lines_of}
use Rattle.lldp_engine.specs.Takes.{Takes}
use Rattle.lldp_engine.proofs.Lines.Bound.{few_lines}
use Rattle.lldp_engine.proofs.agent.Agent.show_lines.Goals as goal

pub returns-in-Neighbors-clause-few : goal.returns-in-Neighbors-clause-few
returns-in-Neighbors-clause-few g c = few_lines c.args.show.now c.args.self.now c.all_ports-ports.ensures.sound

pub returns-in-Statistics-clause-few : goal.returns-in-Statistics-clause-few
returns-in-Statistics-clause-few g c = few_lines c.args.show.now c.args.self.now c.all_ports-ports.ensures.sound

pub returns-in-Chassis-clause-few : goal.returns-in-Chassis-clause-few
returns-in-Chassis-clause-few g c = few_lines c.args.show.now c.args.self.now c.all_ports-ports.ensures.sound

pub returns-in-Configuration-clause-few : goal.returns-in-Configuration-clause-few
returns-in-Configuration-clause-few g c = few_lines c.args.show.now c.args.self.now c.all_ports-ports.ensures.sound

-- the lines of `show chassis`, for an equal configuration
chassis_shown : {S : Type 0} (T : S → S → List ℕ → Type 0) (before after : S) (show : Show) (agent : AgentState) (c : Configured) → show ≡ Chassis → c ≡ agent.configuration
    → Takes T before after (chassis_lines c) → Takes T before after (lines_of show agent)
chassis_shown T before after show agent c s e h =
    subst (λ (x : Show). Takes T before after (lines_of x agent)) (sym s) (subst (λ (x : Configured). Takes T before after (chassis_lines x)) e h)

pub returns-in-Chassis-clause-value : goal.returns-in-Chassis-clause-value
returns-in-Chassis-clause-value g c = chassis_shown _ _ _ _ c.args.self.now _ c.in-Chassis.is c.configuration-configuration.ensures.value c.put_chassis.ensures

pub returns-in-Chassis-clause-past : goal.returns-in-Chassis-clause-past
returns-in-Chassis-clause-past g c past stands =
    subst (λ (x : AgentState). Takes g.S.LineSink.takes c.args.sink.now c.put_chassis.new.sink (lines_of c.args.show.now x)) stands.is (returns-in-Chassis-clause-value g c)

pub put_configuration-requires : goal.put_configuration-requires
put_configuration-requires g c = rw c.all_ports-ports.ensures.value c.all_ports-ports.ensures.sound.few

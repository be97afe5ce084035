-- Definitions for the proofs that a handle owns the same as a box with the agent.
use mir.Syntax.{impl, tnil, tcons, dnil}
use mir.Raw.{raw}
use mathlib.Core.Path.{refl}
use mathlib.Core.List.{[], ◌∷◌}
use denote.Exit.{no}
use denote.Param.{arg, layout}
use denote.Param.Laws.{arg_laws}
use denote.RattleType.{RattleType}
use denote.Signature.{Slot, plain}
use Rattle.std_alloc.proofs.BoxSteps.Form.{Bx}
use Rattle.std_alloc.specs.contracts.boxed.Box as Box
use Rattle.std_heap.specs.contracts.Global as Heap
use Rattle.std_heap.specs.contracts.GlobalAllocator.TheImpl.{ghosts, dict}
use Rattle.std_heap.proofs.Global.TheLaws as heap
use Rattle.lldp_engine.proofs.agent.Agent.TheLaws as agent
use Rattle.lldpa_c.specs.contracts.handle.Held as Held
use Rattle.lldpa_c.specs.Handle.{agent_row}

-- a row as a call passes it for a type parameter
abbrev passed : RattleType → RattleType
passed row = arg (raw (layout row)) no row

-- the box of an agent, as a call of a generic function has it
abbrev pub E : Bx
E = record {
  row = passed agent_row;
  laws = arg_laws (raw (layout agent_row)) no agent_row (agent.the_row_laws Heap.the_row ghosts heap.the_row_laws) refl;
  al = record {
    row = passed Heap.the_row;
    laws = arg_laws (raw (layout Heap.the_row)) no Heap.the_row heap.the_row_laws refl;
    g = ghosts;
    d = dict;
    drops = impl ("lldpa_c::Destruct++none::drop" ∷ []) (tcons (raw (layout Heap.the_row)) tnil) dnil;
  };
}

abbrev pub FromBox : Slot 0
FromBox = plain (λ _. Box.the_row agent_row Heap.the_row ghosts)

abbrev pub FromHeld : Slot 0
FromHeld = plain (λ _. Held.the_row)

-- A handle owns nothing, or the agent that its pointer points to and the right to free the agent.
use Rattle.std.specs.Prelude.{Bool, true, false}
use base.Fml.{Fml, ftrue}
use base.Stored.{Coded}
use denote.RawPtr.{Ptr}
use denote.RattleType.{RattleType}
use Rattle.std.specs.Box.Ownership.{box_owns}
use Rattle.std.specs.Global.{Global}
use Rattle.std_heap.specs.contracts.Global as Heap
use Rattle.std_heap.specs.contracts.GlobalAllocator.TheImpl.{ghosts}
use Rattle.lldp_engine.specs.contracts.agent.Agent as Agent

abbrev pub agent_row : RattleType
agent_row = Agent.the_row Heap.the_row ghosts

abbrev pub held_owns : Bool → Global → Ptr → agent_row.Denot → Fml
held_owns true alloc p x = box_owns (ghosts.dealloc_token alloc) agent_row p x
held_owns false alloc p x = ftrue

abbrev pub agent_coded : Coded agent_row.Denot
agent_coded = agent_row.coded

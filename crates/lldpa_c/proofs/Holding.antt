-- The neighbors that the ports of an agent hold.
use Rattle.std.proofs.Common.{◌≡◌, ℕ, zero, suc, ◌<◌, List, [], ◌∷◌, length, get_or, Option, Some, None, refl, subst, arith, sym}
use Rattle.std.specs.Prelude.{slice_get}
use Rattle.std.specs.List.{AllByRecursion}
use Rattle.lldp_table.specs.Contents.{IsHeld}
use Rattle.lldp_table.specs.Events.{Neighbor}
use Rattle.lldp_table.proofs.Standing.Lists.{sound_from_stands}
use Rattle.lldp_engine.specs.AgentState.{AgentState, PortState}
use Rattle.lldp_engine.specs.Past.{Past, past_of}
use Rattle.lldp_engine.specs.Port.Past.{calls_after}
use Rattle.lldp_engine.specs.Standing.{Stands}
use Rattle.lldp_engine.proofs.Headline.Promise.{table_reads}
use Rattle.lldp_engine.proofs.Readers.{port_reads, number_reads}
use Rattle.lldpa_c.specs.Held.{neighbors_on, neighbors_at}

pub get_of : (ports : List PortState) (i : ℕ) (p : PortState) → slice_get ports i ≡ Some p → (i < length ports) × (p ≡ get_or ports i p)
get_of [] i p h = absurd cc
get_of (x ∷ xs) zero p h = (omega arith, let e : x ≡ p = cc in sym e)
get_of (x ∷ xs) (suc i) p h = let b = get_of xs i p h in (omega (arith, b.0), b.1)

element : (xs : List Neighbor) (i : ℕ) (x : Neighbor) → AllByRecursion IsHeld xs → slice_get xs i ≡ Some x → IsHeld x
element [] i x all h = absurd cc
element (y ∷ ys) zero x all h = let same : y ≡ x = cc in subst IsHeld same all.0
element (y ∷ ys) (suc i) x all h = element ys i x all.1 h

held_on : (past : Past) (agent : AgentState) (i index : ℕ) (neighbor : Neighbor) → Stands past agent → (found : Option PortState) → slice_get agent.ports i ≡ found
    → slice_get (neighbors_on found) index ≡ Some neighbor → IsHeld neighbor
held_on past agent i index neighbor h None e here = absurd cc
held_on past agent i index neighbor h (Some p) e here =
    let b = get_of agent.ports i p e in
    let number = number_reads past agent h in
    let stands = table_reads past agent i p (omega (arith, b.0, number)) h (port_reads past agent i p h b.0 b.1).is in
    let sound = sound_from_stands p.table past.options.max_neighbors (calls_after past.options (past_of past i)) stands in
    element p.table.neighbors index neighbor sound.held here

-- each neighbor of an agent with a past is as a table holds it
pub held_at : (past : Past) (agent : AgentState) (i index : ℕ) (neighbor : Neighbor) → Stands past agent → slice_get (neighbors_at agent i) index ≡ Some neighbor → IsHeld neighbor
held_at past agent i index neighbor h here = held_on past agent i index neighbor h (slice_get agent.ports i) refl here

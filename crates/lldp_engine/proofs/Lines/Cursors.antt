-- Cursors of `show neighbors`, and how they are moved on.
use Rattle.std.proofs.Common.{◌≡◌, ℕ, ◌+◌, ◌-◌, ◌<◌, ◌≤◌, List, [], ◌∷◌, ◌++◌, length, get_or, take, drop, Some, refl, ap, sym, ◌∙◌, append_assoc, arith}
use Rattle.std.specs.Prelude.{slice_get}
use Rattle.std.proofs.Math.Seq.{drop-append_seam}
use Rattle.std.proofs.lemmas.List.{drop-drop, drop_all, take_all, length-drop, length-map}
use Rattle.std.proofs.lemmas.Option.{slice_get-get_or}
use Rattle.lldp_pdu.specs.Kept.{kept_of}
use Rattle.lldp_table.specs.Events.{Neighbor}
use Rattle.lldp_engine.specs.declared.show.cursor.Cursor.{Cursor}
use Rattle.lldp_engine.specs.AgentState.{PortState}
use Rattle.lldp_engine.specs.NeighborLines.{neighbor_lines, numbered_lines, count_lines, neighbors_lines}
use Rattle.lldp_engine.specs.Keys.{neighbor_key}
use Rattle.lldp_engine.specs.Code.Cursor.{IsAt, IsBehind}
use Rattle.lldp_engine.proofs.Lines.Taken.{drop_at}
use Rattle.lldp_engine.specs.Code.ShownValue.{kept_line}

-- the port of a cursor, as it is read from the ports
pub port_is : (ports : List PortState) (i : ℕ) (port : PortState) → i < length ports → port ≡ get_or ports i port → slice_get ports i ≡ Some port
port_is ports i port lt is = slice_get-get_or ports i port lt ∙ ap (λ (p : PortState). Some p) (sym is)

-- the ports behind one of them, as they are read
pub ports_behind : (ports : List PortState) (n : ℕ) → take (length ports - n) (drop n ports) ≡ drop n ports
ports_behind ports n = take_all (length ports - n) (drop n ports) (omega (arith, length-drop n ports))

-- these neighbors are those of the cursor's port from the cursor's on
abbrev pub AreLeft : List PortState → Cursor → List Neighbor → Type 0
AreLeft ports cursor left = (port : PortState) → slice_get ports cursor.port ≡ Some port → left ≡ drop cursor.neighbor port.table.neighbors

-- the lines of a part are passed
passed : (before n : ℕ) (lines first rest : List (List ℕ)) → drop before lines ≡ first ++ rest → length first ≡ n → drop (before + n) lines ≡ rest
passed before n lines first rest e k = sym (drop-drop n before lines) ∙ ap (drop n) e ∙ ap (λ (m : ℕ). drop m (first ++ rest)) (sym k) ∙ drop-append_seam first rest

neighbor_size : (name : List ℕ) (number : ℕ) (neighbor : Neighbor) → length (neighbor_lines name number neighbor) ≡ 4 + length (kept_of neighbor.octets)
neighbor_size name number neighbor = omega (arith, length-map (kept_of neighbor.octets) (kept_line (neighbor_key name number)))

tail_of : (n : ℕ) (xs others : List Neighbor) (x : Neighbor) → x ∷ others ≡ drop n xs → others ≡ drop (n + 1) xs
tail_of n xs others x e = ap (drop 1) e ∙ drop-drop 1 n xs

abbrev behind_one : Cursor → ℕ → Cursor
behind_one cursor n = record { before = cursor.before + n; port = cursor.port; neighbor = cursor.neighbor + 1 }

-- the cursor passes one neighbor of a port
one_passed : (ports : List PortState) (cursor : Cursor) (n : ℕ) (port : PortState) (neighbor : Neighbor) (others : List Neighbor) → IsAt ports cursor port
    → neighbor ∷ others ≡ drop cursor.neighbor port.table.neighbors → n ≡ 4 + length (kept_of neighbor.octets) → IsAt ports (behind_one cursor n) port
one_passed ports cursor n port neighbor others at here e =
    let number = cursor.neighbor + 1 in
    let tail = neighbors_lines (drop (cursor.port + 1) ports) in
    let first = neighbor_lines port.name number neighbor in
    let rest = numbered_lines port.name (number + 1) others ++ tail in
    let split : drop cursor.before (neighbors_lines ports) ≡ first ++ rest =
    at.rest ∙ ap (λ (ns : List Neighbor). numbered_lines port.name number ns ++ tail) (sym here) ∙ append_assoc first (numbered_lines port.name (number + 1) others) tail in
    record {
      few = omega (arith, ap length here, length-drop cursor.neighbor port.table.neighbors);
      rest = passed cursor.before n (neighbors_lines ports) first rest split (neighbor_size port.name number neighbor ∙ sym e)
          ∙ ap (λ (ns : List Neighbor). numbered_lines port.name (number + 1) ns ++ tail) (tail_of cursor.neighbor port.table.neighbors others neighbor here);
    }

pub passes_neighbor : (ports : List PortState) (cursor : Cursor) (n : ℕ) (neighbor : Neighbor) (left others : List Neighbor) → IsBehind ports cursor → AreLeft ports cursor left → left ≡ neighbor ∷ others
    → n ≡ 4 + length (kept_of neighbor.octets) → IsBehind ports (behind_one cursor n) × AreLeft ports (behind_one cursor n) others
passes_neighbor ports cursor n neighbor left others b l e k = (
  record { exists = b.exists; at = λ port is. one_passed ports cursor n port neighbor others (b.at port is) (sym e ∙ l port is) k },
  λ port is. tail_of cursor.neighbor port.table.neighbors others neighbor (sym e ∙ l port is),
)

-- the cursor passes the end of a port and the first lines of the next one
abbrev behind_port : Cursor → Cursor
behind_port cursor = record { before = cursor.before + 3; port = cursor.port + 1; neighbor = 0 }

port_passed : (ports : List PortState) (cursor : Cursor) (port other : PortState) → IsAt ports cursor port → length port.table.neighbors ≤ cursor.neighbor
    → slice_get ports (cursor.port + 1) ≡ Some other → IsAt ports (behind_port cursor) other
port_passed ports cursor port other at all is =
    let none : drop cursor.neighbor port.table.neighbors ≡ [] = drop_all cursor.neighbor port.table.neighbors all in
    let tail = neighbors_lines (drop (cursor.port + 1 + 1) ports) in
    let rest = numbered_lines other.name 1 other.table.neighbors ++ tail in
    let split : drop cursor.before (neighbors_lines ports) ≡ count_lines other ++ rest =
    at.rest ∙ ap (λ (ns : List Neighbor). numbered_lines port.name (cursor.neighbor + 1) ns ++ neighbors_lines (drop (cursor.port + 1) ports)) none
    ∙ ap neighbors_lines (drop_at ports (cursor.port + 1) other is) ∙ append_assoc (count_lines other) (numbered_lines other.name 1 other.table.neighbors) tail in
    record { few = omega arith; rest = passed cursor.before 3 (neighbors_lines ports) (count_lines other) rest split refl }

pub passes_port : (ports : List PortState) (cursor : Cursor) (port : PortState) → IsBehind ports cursor → port ≡ get_or ports cursor.port port → length port.table.neighbors ≤ cursor.neighbor
    → cursor.port + 1 < length ports → IsBehind ports (behind_port cursor)
passes_port ports cursor port b is all lt = record {
  exists = lt;
  at = λ other there. port_passed ports cursor port other (b.at port (port_is ports cursor.port port b.exists is)) all there;
}

use Rattle.std.proofs.Common.{◌≡◌, zero, suc, ℕ, ◌-◌, List, [], ◌∷◌, length, take, drop, map, ap, sym, ◌∙◌, subst, arith}
use Rattle.std.specs.List.{AllByRecursion}
use Rattle.std.specs.Prelude.{min, slice_index}
use Rattle.std.proofs.lemmas.List.{drop-map, drop_min, length-drop, take_all}
use Rattle.lldp_table.specs.Code.Stored.{Stored}
use Rattle.lldp_table.specs.Code.Layout.{AreEntries, neighbor_at, neighbors_at}
use Rattle.lldp_table.proofs.entries.Entries.pass.Goals as goal

-- what is true of each item is true of those behind the first n
behind : {X : Type 0} (P : X → Type 0) (n : ℕ) (xs : List X) → AllByRecursion P xs → AllByRecursion P (drop n xs)
behind P zero xs h = h
behind P (suc n) [] h = h
behind P (suc n) (x ∷ xs) h = behind P n xs h.1

rest_is : (n : ℕ) (xs : List ℕ) → take (length xs - n) (drop n xs) ≡ drop n xs
rest_is n xs = take_all (length xs - n) (drop n xs) (omega (arith, length-drop n xs))

fewer : (slots : List Stored) (left : ℕ → ℕ) (n : ℕ) (order : List ℕ) → AreEntries slots left order → AreEntries slots left (drop n order)
fewer slots left n order e = record {
  written = behind _ n order e.written;
  within = behind _ n order e.within;
  held = subst (AllByRecursion _) (drop-map (neighbor_at slots left) n order) (behind _ n (neighbors_at slots left order) e.held);
}

pub invariant_of-self : goal.invariant_of-self
invariant_of-self c =
    subst (AreEntries c.self.inside.slots.now (slice_index c.self.inside.ticks)) (sym (rest_is c.min-count.result c.self.inside.order.now)) (fewer _ _ c.min-count.result c.self.inside.order.now c.self.invariant)

pub returns : goal.returns
returns c =
    let order = c.self.inside.order.now in
    let at = neighbor_at c.self.inside.slots.now (slice_index c.self.inside.ticks) in
    let same : drop c.min-count.result order ≡ drop c.args.count order =
    ap (λ (n : ℕ). drop n order) (c.min-count.ensures ∙ ap (λ (n : ℕ). min n (length order)) c.from.ensures) ∙ drop_min c.args.count order in
    ap (map at) (rest_is c.min-count.result order ∙ same) ∙ sym (drop-map at c.args.count order) ∙ ap (drop c.args.count) c.self.view_is

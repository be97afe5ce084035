-- The values that a parse of the program's arguments yields for the options.
use Rattle.std.proofs.Common.{zero, suc, ◌≡◌, ◌⊎◌, ◌∙◌, ◌<◌, ◌≤◌, ℕ, Bool, true, false, List, [], ◌∷◌, length, Option, Some, None, refl, sym, ap, ap₂, subst, inl, inr, arith, codes, slice_index_or, Bor, map}
use Rattle.std.specs.Prelude.{drop, find, get_or, is_some, not, option_map, pos}
use Rattle.std.specs.List.{All, Any, filter, list_all, list_any}
use Rattle.std.specs.Str.{bytes_eq}
use Rattle.std.proofs.lemmas.Bool.{cases_lt}
use Rattle.std.proofs.lemmas.List.Elements.{All-cons, All-nil}
use Rattle.std.proofs.lemmas.Slice.Eq.{bytes_eq-Decides}
use Rattle.clap.specs.Facts.{Entry, EntryPasses, HasIn, HasReading, IsCountArg, AllowsNone, PassesArg, WantsDefault, args_of, groups_of, least_values, parser_of, parser_of_value, unwrap_or_range}
use Rattle.clap.specs.Values.{Accepts, reading_of}
use Rattle.clap.specs.Matches.{found_of, matched_of, one_text}
use Rattle.clap.specs.Built.{AddsArg, IsAuto, SameRules}
use Rattle.clap.specs.Simple.{App, IsSimple, IsSimpleArg, app_of, is_ready, is_ready_leaf, with_rule}
use Rattle.clap.specs.Walk.{Rule, Text, is_empty, is_simple_arg, rule_of, texts}
use Rattle.clap.proofs.CallerLemmas.{default_present, entry_by_id}
use Rattle.clap.proofs.SimpleLemmas.{all_simple, is_false, ready_simple, simple_groups}
use Rattle.clap.proofs.WalkLemmas.{both}
use Rattle.clap.specs.declared.builder.action.ArgAction.TheVariants.{Set, Count}
use Rattle.clap.specs.declared.builder.arg.Arg.{Arg}
use Rattle.clap.specs.declared.builder.command.Command.{Command}
use Rattle.clap.specs.declared.builder.range.ValueRange.{ValueRange}
use Rattle.clap.specs.declared.builder.value_parser.ValueParser.{ValueParser}
use Rattle.clap.specs.declared.builder.value_parser.ValueParser.TheVariants.{Signed}
use Rattle.clap.specs.declared.builder.value_parser.Reading.TheVariants.{WithoutMinus}
use Rattle.clap.specs.declared.parser.matches.ArgMatches.{ArgMatches}
use Rattle.clap.specs.declared.parser.matches.MatchedArg.{MatchedArg}
use Rattle.lldp_program.specs.CommandLine.Arguments.{GivesNumber, GivesText, IsProgramParse}
use Rattle.lldp_program.specs.CommandLine.Usage.{number_rule, program, text_rule}

-- ## Building the command line

-- an argument with a simple rule is not global
local : (a : Arg) → is_simple_arg a ≡ true → a.global ≡ false
local a e =
    let p = both (is_empty a.overrides.items) _ e in
    let q = both (is_empty a.default_vals_ifs.items) _ p.1 in
    let r = both (is_empty a.groups.items) _ q.1 in
    let s = both (not (is_some a.val_delim)) _ r.1 in
    let t = both (not (is_some a.terminator)) _ s.1 in
    let u = both (not a.allow_hyphen_values) _ t.1 in
    let v = both (not a.allow_negative_numbers) _ u.1 in
    let w = both (not a.require_equals) _ v.1 in
    is_false _ (both (not a.last) _ w.1).1

-- adding an argument to the command line adds the rule of this argument
pub one_more : {old new : Command} {a : Arg} {line : App} {rule : Rule} → AddsArg old a new → app_of old ≡ line → rule_of a ≡ rule → rule.is_simple ≡ true → app_of new ≡ with_rule line rule
one_more {old} {new} {a} added before is simple = added.shape (local a (ap (λ r. r.is_simple) is ∙ simple)) ∙ ap₂ with_rule before is

-- ## The options of a parse

-- the ids that clap itself uses: help, version, and the empty id, which the entry of an external
-- subcommand has
abbrev pub own_names : List Text
own_names = [] ∷ codes "help" ∷ codes "version" ∷ []

-- exactly one option has this name, and it has this rule; the name is not one of `clap`'s own
abbrev pub HasOption : Bor (List (Bor Text)) → Text → Rule → Type 0
HasOption roles name rule =
    (filter (λ r. bytes_eq r.id name) (program roles).top.rules ≡ rule ∷ []) × (list_any (λ x. bytes_eq x name) own_names ≡ false)

-- at least one element passes the test, and each element that passes has the value y
record IsSole {X Y : Type 0} (value : X → Y) (test : Y → Bool) (y : Y) (xs : List X) : Type 0 where
  there : Any (λ x. test (value x) ≡ true) xs
  only : All (λ x. test (value x) ≡ true → value x ≡ y) xs

none : {X Y : Type 0} (f : X → Y) (p : Y → Bool) (y : Y) (xs : List X) → filter p (map f xs) ≡ [] → All (λ x. p (f x) ≡ true → f x ≡ y) xs
none f p y [] e = All-nil (λ x. p (f x) ≡ true → f x ≡ y)
none f p y (x ∷ xs) e = go (p (f x)) refl (λ h. none f p y xs h)
  where
    go : (t : Bool) → p (f x) ≡ t → (filter p (map f xs) ≡ [] → All (λ z. p (f z) ≡ true → f z ≡ y) xs) → All (λ z. p (f z) ≡ true → f z ≡ y) (x ∷ xs)
    go true t rest = let bad : f x ∷ filter p (map f xs) ≡ [] = rw t at e in cc
    go false t rest = All-cons (λ z. p (f z) ≡ true → f z ≡ y) x xs (λ h. let bad : false ≡ true = sym t ∙ h in cc) (rest (rw t at e))

sole : {X Y : Type 0} (f : X → Y) (p : Y → Bool) (y : Y) (xs : List X) → filter p (map f xs) ≡ y ∷ [] → IsSole f p y xs
sole f p y [] e = let bad : 0 ≡ length (y ∷ []) = ap length e in absurd (omega (arith, bad))
sole f p y (x ∷ xs) e = go (p (f x)) refl (λ h. sole f p y xs h)
  where
    go : (t : Bool) → p (f x) ≡ t → (filter p (map f xs) ≡ y ∷ [] → IsSole f p y xs) → IsSole f p y (x ∷ xs)
    go true t rest =
        let same : f x ∷ filter p (map f xs) ≡ y ∷ [] = rw t at e in
        record {
          there = (0, x, omega arith, refl, t);
          only = All-cons (λ z. p (f z) ≡ true → f z ≡ y) x xs (λ h. ap (λ ys. get_or ys 0 y) same) (none f p y xs (ap (drop 1) same));
        }
    go false t rest =
        let more = rest (rw t at e) in
        let any = more.there in
        record {
          there = (suc any.0, any.1, omega (arith, any.2), any.3, any.4);
          only = All-cons (λ z. p (f z) ≡ true → f z ≡ y) x xs (λ h. let bad : false ≡ true = sym t ∙ h in cc) more.only;
        }

-- if an id is among the entries, its entry is found
entry_found : (xs : List Entry) (id : Text) → HasIn xs id → (x : MatchedArg) × (option_map (λ e. e.1) (find (λ e. bytes_eq e.0.now id) xs) ≡ Some x)
entry_found [] id h = absurd (omega (arith, h.1))
entry_found (x ∷ xs) id h = go (bytes_eq x.0.now id) refl h.0 h.1 h.2 (λ later. entry_found xs id later)
  where
    go : (t : Bool) → bytes_eq x.0.now id ≡ t → (i : ℕ) → i < length (x ∷ xs) → ((d : Entry) → bytes_eq (slice_index_or (x ∷ xs) i d).0.now id ≡ true)
        → (HasIn xs id → (y : MatchedArg) × (option_map (λ e. e.1) (find (λ e. bytes_eq e.0.now id) xs) ≡ Some y))
        → (y : MatchedArg) × (option_map (λ e. e.1) (find (λ e. bytes_eq e.0.now id) (x ∷ xs)) ≡ Some y)
    go true t i lt at rec = (x.1, rw t refl)
    go false t zero lt at rec = let bad : false ≡ true = sym t ∙ at x in cc
    go false t (suc i) lt at rec = let rest = rec (i, omega arith, λ d. at d) in (rest.0, rw t rest.1)

some_default : (xs : List (Bor Text)) → is_empty (texts xs) ≡ false → 0 < length xs
some_default [] e = let bad : true ≡ false = e in cc
some_default (x ∷ xs) e = omega arith

split_first : (xs : List (Bor Text)) → 0 < length xs → (v : Bor Text) × (vs : List (Bor Text)) × (xs ≡ v ∷ vs)
split_first [] lt = absurd (omega arith)
split_first (v ∷ vs) lt = (v, vs, refl)

module _ {m : ArgMatches} (g : IsProgramParse m) where
  simple : IsSimple g.command
  simple = ready_simple g.command (ap (λ a. is_ready a.top) g.line) (ap (λ a. list_all is_ready_leaf a.subs) g.line)

  no_groups : groups_of g.parsed.built ≡ []
  no_groups = (g.parsed.from.same_groups (simple_groups g.command (ap (λ a. all_simple a.top.rules) g.line))).1 ∙ simple.groups

  module _ (name : Text) (rule : Rule) (has : HasOption g.roles name rule) where
    one : IsSole rule_of (λ r. bytes_eq r.id name) rule (args_of g.command)
    one = sole rule_of (λ r. bytes_eq r.id name) rule (args_of g.command) (ap (λ a. filter (λ r. bytes_eq r.id name) a.top.rules) g.line ∙ has.0)

    not_own : (id : Text) → name ≡ id → list_any (λ x. bytes_eq x id) own_names ≡ true → ⊥
    not_own id e own = let bad : false ≡ true = sym has.1 ∙ ap (λ n. list_any (λ x. bytes_eq x n) own_names) e ∙ own in cc

    -- an argument of this name in the built command comes from an argument with this rule
    kept : (P : Arg → Type 0) → Any (λ a. (bytes_eq a.id.now name ≡ true) × P a) (args_of g.parsed.built)
        → (o : Arg) × (a : Arg) × (rule_of o ≡ rule) × IsSimpleArg o × SameRules o a × P a
    kept P any = elim (cases_lt any.0 (length (args_of g.command))) [
      | inl under ↦
          let o = slice_index_or (args_of g.command) any.0 any.1 in
          let s : SameRules o any.1 = subst (SameRules o) any.3 (g.parsed.from.kept any.0 any.1 under).1 in
          (o, any.1, one.only any.0 any.1 under (subst (λ i. bytes_eq i.now name ≡ true) s.id any.4.0), simple.args any.0 any.1 under, s, any.4.1)
      | inr over ↦
          let is : any.1.id.now ≡ name = (bytes_eq-Decides any.1.id.now name).0 any.4.0 in
          absurd (elim (subst IsAuto any.3 (g.parsed.from.extra any.0 any.1 over any.2)) [
            | inl h ↦ not_own (codes "help") (sym is ∙ h) refl
            | inr h ↦ not_own (codes "version") (sym is ∙ h) refl
          ])
    ]

    -- what a parse ensures about the entry of the option
    record IsHeld (x : MatchedArg) : Type 0 where
      passes : All (λ v. PassesArg g.parsed.built name v.now) x.vals.items
      reads : HasReading g.parsed.built name x.reading
      filled : (0 < length x.vals.items) ⊎ (IsCountArg g.parsed.built name ⊎ AllowsNone g.parsed.built name)

    held : (x : MatchedArg) → matched_of (found_of m) name ≡ Some x → IsHeld x
    held x found =
        let b = g.parsed.built in
        let e = entry_by_id (EntryPasses b) (found_of m).entries.items name x (g.parsed.parsed (g.parsed.from.globals ∙ simple.globals)).values found in
        let is : e.0.0.now ≡ name = (bytes_eq-Decides e.0.0.now name).0 e.2 in
        let no_group : e.0.1.is_group ≡ true → ⊥ = λ y. elim (e.3.3 y) [
          | inl empty ↦ not_own [] (sym is ∙ empty) refl
          | inr lots ↦ let bad : 0 < 0 = rw no_groups at lots in absurd (omega arith)
        ] in
        subst IsHeld e.1 (record {
          passes = elim e.3.0 [
            | inl y ↦ absurd (no_group y)
            | inr all ↦ subst (λ i. All (λ (v : Bor Text). PassesArg b i v.now) e.0.1.vals.items) is all
          ];
          reads = elim e.3.4 [
            | inl y ↦ absurd (no_group y)
            | inr h ↦ subst (λ i. HasReading b i e.0.1.reading) is h
          ];
          filled = elim e.3.1 [
            | inl y ↦ absurd (no_group y.0)
            | inr (inl some) ↦ inl some
            | inr (inr (inl count)) ↦ inr (inl (subst (IsCountArg b) is count.1))
            | inr (inr (inr empty)) ↦ inr (inr (subst (AllowsNone b) is empty))
          ];
        })

    -- an option that has a default and one value per use always has a value
    valued : rule.action ≡ Some Set → rule.range ≡ None → is_empty rule.defaults ≡ false
        → (x : MatchedArg) × (matched_of (found_of m) name ≡ Some x) × (v : Bor Text) × (vs : List (Bor Text)) × (x.vals.items ≡ v ∷ vs)
    valued set single default =
        let any = one.there in
        let a = slice_index_or (args_of g.command) any.0 any.1 in
        let named : bytes_eq a.id.now name ≡ true = subst (λ y. bytes_eq y.id.now name ≡ true) (sym any.3) any.4 in
        let wants : WantsDefault a = ((simple.args any.0 any.1 any.2).default_ifs, some_default _ (ap (λ r. is_empty r.defaults) (one.only any.0 any.1 any.2 named) ∙ default)) in
        let has_id = default_present g.command m g.parsed simple.globals any.0 any.1 any.2 wants in
        let x = entry_found (found_of m).entries.items name (subst (HasIn (found_of m).entries.items) ((bytes_eq-Decides a.id.now name).0 named) has_id) in
        let full : 0 < length x.0.vals.items = elim (held x.0 x.1).filled [
          | inl some ↦ some
          | inr (inl count) ↦
              let k = kept _ count in
              let sets = k.4.action Set (ap (λ r. r.action) k.2 ∙ set) in
              let bad : Set ≡ Count = rw sets at k.5 in
              cc
          | inr (inr empty) ↦
              let k = kept _ empty in
              elim k.5 [
                | inl no_value ↦
                    let least : 1 ≤ least_values k.0 = subst (λ (r : Option ValueRange). 1 ≤ (unwrap_or_range r).start_inclusive) (sym (ap (λ r. r.range) k.2 ∙ single)) (omega arith) in
                    let bad = k.4.least (ap (λ r. r.action) k.2 ∙ set) least in
                    absurd (omega arith)
                | inr parts ↦ let bad : false ≡ true = rw (k.4.val_delim ∙ k.3.delimiter) at parts in cc
              ]
        ] in
        let vs = split_first x.0.vals.items full in
        (x.0, x.1, vs.0, vs.1, vs.2)

    -- the first value of a number option is in its range, and is read without a minus sign
    number_at : (greatest : ℕ) → rule.parser ≡ Some (Signed (pos 1) (pos greatest)) → (x : MatchedArg) → matched_of (found_of m) name ≡ Some x
        → (v : Bor Text) (vs : List (Bor Text)) → x.vals.items ≡ v ∷ vs → GivesNumber greatest name m
    number_at greatest takes x found v vs is =
        let h = held x found in
        let parser : (o a : Arg) → rule_of o ≡ rule → SameRules o a → parser_of a ≡ Signed (pos 1) (pos greatest) =
        λ o a ruled s. ap parser_of_value (s.parser _ (ap (λ r. r.parser) ruled ∙ takes)) in
        let first : All (λ (w : Bor Text). PassesArg g.parsed.built name w.now) (v ∷ vs) = subst (All (λ (w : Bor Text). PassesArg g.parsed.built name w.now)) is h.passes in
        let p = kept _ (first 0 v (omega arith)) in
        let r = kept _ h.reads in
        let read : x.reading ≡ WithoutMinus = sym r.5 ∙ ap reading_of (parser r.0 r.1 r.2 r.4) in
        (v.now, rw (found, is, read) refl, subst (λ (q : ValueParser). Accepts p.1.ignore_case q v.now) (parser p.0 p.1 p.2 p.4) p.5)

    -- a number option has no value, or a number in its range
    pub may_give_number : (greatest : ℕ) → rule.parser ≡ Some (Signed (pos 1) (pos greatest)) → (one_text (found_of m) name ≡ None) ⊎ GivesNumber greatest name m
    may_give_number greatest takes = at (matched_of (found_of m) name) refl
      where
        valued_at : (x : MatchedArg) → matched_of (found_of m) name ≡ Some x → (vs : List (Bor Text)) → x.vals.items ≡ vs → (one_text (found_of m) name ≡ None) ⊎ GivesNumber greatest name m
        valued_at x found [] is = inl (rw (found, is) refl)
        valued_at x found (v ∷ vs) is = inr (number_at greatest takes x found v vs is)

        at : (o : Option MatchedArg) → matched_of (found_of m) name ≡ o → (one_text (found_of m) name ≡ None) ⊎ GivesNumber greatest name m
        at None found = inl (rw found refl)
        at (Some x) found = valued_at x found x.vals.items refl

  -- a text option with a default always has a text
  pub gives_text : (name default : Text) (parser : Option ValueParser) → HasOption g.roles name (record (text_rule name default) { parser = parser }) → GivesText name m
  gives_text name default parser has = let x = valued name _ has refl refl refl in rw (x.1, x.4) refl

  -- a number option with a default always has a number in its range
  pub gives_number : (name : Text) (greatest : ℕ) (default : Text) → HasOption g.roles name (number_rule name greatest default) → GivesNumber greatest name m
  gives_number name greatest default has = let x = valued name _ has refl refl refl in number_at name _ has greatest refl x.0 x.1 x.2 x.3 x.4

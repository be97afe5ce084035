-- The fault InUse: a command would set a limit below the number of neighbors of some port.
use Rattle.std.proofs.Common.{◌≡◌, ℕ, suc, ◌<◌, ◌≤◌, ◌&&◌, Bool, true, false, List, [], ◌∷◌, length, Option, Some, None, Result, Ok, Err, refl, ap, ◌∙◌, subst, arith}
use Rattle.std.specs.Prelude.{nat_le, if◌then◌else◌, ok_or}
use Rattle.std.specs.Bool.{Decides}
use Rattle.std.specs.List.{All, Any}
use Rattle.std.specs.Str.{bytes_eq}
use Rattle.std.proofs.lemmas.Bool.{both_ways, leb-true, leb-false, le-leb, lt-leb}
use Rattle.std.proofs.lemmas.Bool.Decides.{Decides-by_and}
use Rattle.std.proofs.lemmas.List.Folds.{list_all_at}
use Rattle.lldp_text.specs.declared.fault.CommandFault.{CommandFault}
use Rattle.lldp_text.specs.declared.fault.CommandFault.TheVariants.{Unknown, NoSuchPort, Number, Range, Text, Extra, Quote, InUse}
use Rattle.lldp_text.specs.Text.{is_text}
use Rattle.lldp_text.specs.Number.{is_number, number_of}
use Rattle.lldp_engine.specs.Place.{place_of}
use Rattle.lldp_engine.specs.Event.{limit}
use Rattle.lldp_engine.specs.AgentState.{AgentState, PortState, AllowsSetting, names_of, fits}
use Rattle.lldp_text.specs.Answer.{on_ok, ◌>>=◌}
use Rattle.lldp_engine.specs.Command.{Command, set}
use Rattle.lldp_engine.specs.Forms.{Form, complete, word, port, number, text, status, status_of, after_word, fault_or, if_any, forms_left, first_fault, going_on, completed, read_forms, forms}
use Rattle.lldp_engine.specs.Given.{said_by, unless_in_use, command_said, command_given}
use Rattle.lldp_text.specs.Words.{words_of}
use Rattle.lldp_engine.specs.Laws.InUse.{HoldsMore, HoldAtMost, WouldLimitBelow}

-- ## The forms never report InUse

-- True if the result is not InUse.
abbrev is_other : {A : Type 0} → Result A CommandFault → Bool
is_other (Err InUse) = false
is_other r = true

made_other : {A B : Type 0} (f : A → B) (r : Result A CommandFault) → is_other r ≡ true → is_other (on_ok f r) ≡ true
made_other f (Ok a) h = refl
made_other f (Err InUse) h = h
made_other f (Err fault) h = refl

if_other : {A : Type 0} (b : Bool) (r s : Result A CommandFault) → is_other r ≡ true → is_other s ≡ true → is_other (if b then r else s) ≡ true
if_other true r s h i = h
if_other false r s h i = i

or_other : {A : Type 0} (o : Option A) (fault : CommandFault) → is_other {A = A} (Err fault) ≡ true → is_other (ok_or o fault) ≡ true
or_other (Some a) fault h = refl
or_other None fault h = h

word_other : (names : List (List ℕ)) (form : Form) (w : List ℕ) → is_other (after_word names form w) ≡ true
word_other names (complete command) w = refl
word_other names (word expected next) w = if_other (bytes_eq w expected) (Ok next) (Err Unknown) refl refl
word_other names (port next) w = made_other next (ok_or (place_of names w) NoSuchPort) (or_other (place_of names w) NoSuchPort refl)
word_other names (number least greatest next) w = made_other next (number_of w least greatest) (if_other (is_number w) _ (Err Number) (if_other _ (Ok _) (Err Range) refl refl) refl)
word_other names (text next) w = if_other (is_text w) (Ok (next w)) (Err Text) refl refl
word_other names (status next) w = made_other next (ok_or (status_of w) Unknown) (or_other (status_of w) Unknown refl)

fault_other : (names : List (List ℕ)) (left : List Form) (w : List ℕ) → is_other {A = Command} (Err (first_fault names left w)) ≡ true
fault_other names [] w = refl
fault_other names (form ∷ others) w = first_other (after_word names form w) (first_fault names others w) (word_other names form w) (fault_other names others w)
  where
    first_other : (one : Result Form CommandFault) (others : CommandFault) → is_other one ≡ true → is_other {A = Command} (Err others) ≡ true → is_other {A = Command} (Err (fault_or one others)) ≡ true
    first_other (Ok next) others h i = i
    first_other (Err Extra) others h i = i
    first_other (Err InUse) others h i = h
    first_other (Err fault) others h i = refl

any_other : (left : List Form) (fault : CommandFault) → is_other {A = Command} (Err fault) ≡ true → is_other (if_any left fault) ≡ true
any_other (form ∷ others) fault h = refl
any_other [] InUse h = h
any_other [] fault h = refl

end_other : (left : List Form) → is_other (completed left) ≡ true
end_other [] = refl
end_other (complete command ∷ others) = refl
end_other (form ∷ others) = end_other others

words_other : (names : List (List ℕ)) (left : Result (List Form) CommandFault) (words : List (List ℕ)) → is_other left ≡ true → is_other (read_forms names left words) ≡ true
words_other names (Err InUse) words h = h
words_other names (Err fault) words h = refl
words_other names (Ok left) [] h = end_other left
words_other names (Ok left) (w ∷ words) h = words_other names (going_on names left w) words (any_other (forms_left names left w) (first_fault names left w) (fault_other names left w))

not_in_use : (r : Result Command CommandFault) → is_other r ≡ true → r ≡ Err InUse → ⊥
not_in_use r other e = both_ways (is_other {A = Command} (Err InUse)) refl (subst (λ (s : Result Command CommandFault). is_other s ≡ true) e other)

not_said : (agent : AgentState) (words : List (List ℕ)) → said_by agent words ≡ Err InUse → ⊥
not_said agent words =
    not_in_use (said_by agent words) (words_other (names_of agent) (Ok (forms agent.configuration.capacity)) words refl)

-- ## Neighbors that ports hold

holds_decided : (most : ℕ) (here : PortState) → Decides (nat_le (length here.table.neighbors) most) (length here.table.neighbors ≤ most)
holds_decided most here = (leb-true (length here.table.neighbors) most, le-leb (length here.table.neighbors) most)

pub held_decided : (ports : List PortState) (most : ℕ) → Decides (fits ports most) (All (λ here. length here.table.neighbors ≤ most) ports)
held_decided ports most =
    Decides-by_and (λ here. nat_le (length here.table.neighbors) most) (λ here. length here.table.neighbors ≤ most) (λ ps. fits ps most) (holds_decided most) refl (λ _ _. refl) ports

one_holds : (here : PortState) (ports : List PortState) (most : ℕ) (b : Bool) → nat_le (length here.table.neighbors) most ≡ b → (b && fits ports most) ≡ false → (fits ports most ≡ false → Any (λ p. most < length p.table.neighbors) ports)
    → Any (λ p. most < length p.table.neighbors) (here ∷ ports)
one_holds here ports most false e h rest = (0, here, omega arith, refl, leb-false (length here.table.neighbors) most e)
one_holds here ports most true e h rest = let found = rest h in (suc found.0, found.1, (let lt = found.2 in omega arith), found.3, found.4)

some_holds : (ports : List PortState) (most : ℕ) → fits ports most ≡ false → Any (λ p. most < length p.table.neighbors) ports
some_holds [] most h = cc
some_holds (here ∷ ports) most h = one_holds here ports most (nat_le (length here.table.neighbors) most) refl h (some_holds ports most)

not_all_hold : (ports : List PortState) (most : ℕ) → Any (λ p. most < length p.table.neighbors) ports → fits ports most ≡ false
not_all_hold ports most h =
    list_all_at (λ here. nat_le (length here.table.neighbors) most) ports h.0 h.1 h.2
    (ap (λ p. nat_le (length p.table.neighbors) most) h.3 ∙ lt-leb (length h.1.table.neighbors) most h.4)

-- ## When a limit is in use

limit_in_use : (agent : AgentState) (most : ℕ) (b : Bool) → fits agent.ports most ≡ b → (if b then Ok (set (limit most)) else Err InUse) ≡ Err InUse → HoldsMore agent most
limit_in_use agent most true e h = cc
limit_in_use agent most false e h = some_holds agent.ports most e

command_in_use : (agent : AgentState) (command : Command) → unless_in_use agent.ports (Ok command) ≡ Err InUse → (most : ℕ) × (command ≡ set (limit most)) × HoldsMore agent most
command_in_use agent (set (limit n)) h = (n, refl, limit_in_use agent n (fits agent.ports n) refl h)
command_in_use agent command h = absurd (not_in_use (Ok command) refl h)

said_in_use : (agent : AgentState) (words : List (List ℕ)) (said : Result Command CommandFault) → said_by agent words ≡ said → unless_in_use agent.ports said ≡ Err InUse
    → (most : ℕ) × (said_by agent words ≡ Ok (set (limit most))) × HoldsMore agent most
said_in_use agent words (Ok command) e h = let found = command_in_use agent command h in (found.0, e ∙ ap Ok found.1, found.2)
said_in_use agent words (Err fault) e h = absurd (not_said agent words (e ∙ h))

given_in_use : (agent : AgentState) (line : List ℕ) (split : Option (List (List ℕ))) → words_of line ≡ split → (ok_or split Quote >>= command_said agent) ≡ Err InUse → WouldLimitBelow agent line
given_in_use agent line None e h = absurd (not_in_use (Err Quote) refl h)
given_in_use agent line (Some words) e h =
    let found = said_in_use agent words (said_by agent words) refl h in (words, found.0, e, found.1, found.2)

pub in_use : (agent : AgentState) (line : List ℕ) → command_given agent line ≡ Err InUse → WouldLimitBelow agent line
in_use agent line h = given_in_use agent line (words_of line) refl h

in_use_at : (agent : AgentState) (most : ℕ) → fits agent.ports most ≡ false → unless_in_use agent.ports (Ok (set (limit most))) ≡ Err InUse
in_use_at agent most e = rw e refl

pub would_be : (agent : AgentState) (line : List ℕ) → WouldLimitBelow agent line → command_given agent line ≡ Err InUse
would_be agent line h =
    ap (λ (w : Option (List (List ℕ))). ok_or w Quote >>= command_said agent) h.2
    ∙ ap (unless_in_use agent.ports) h.3 ∙ in_use_at agent h.1 (not_all_hold agent.ports h.1 h.4)

-- ## Limits that are allowed

pub allows_limit : (agent : AgentState) (most : ℕ) → AllowsSetting agent (limit most) → (1 ≤ most) × (most ≤ agent.configuration.capacity) × HoldAtMost agent most
allows_limit agent most h = (h.least, h.most, (held_decided agent.ports most).0 h.held)

pub limit_allowed : (agent : AgentState) (most : ℕ) → (1 ≤ most) × (most ≤ agent.configuration.capacity) × HoldAtMost agent most → AllowsSetting agent (limit most)
limit_allowed agent most h = record { least = h.0; most = h.1; held = (held_decided agent.ports most).1 h.2 }

pub ruleset limits_below_what_ports_hold_are_in_use = (in_use, would_be, allows_limit, limit_allowed)

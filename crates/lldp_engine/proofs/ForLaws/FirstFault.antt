-- The fault of a word that no command allows at its position.
use Rattle.std.proofs.Common.{◌≡◌, ℕ, ◌<◌, Bool, true, false, ◌&&◌, List, [], ◌∷◌, ◌++◌, length, Option, Some, None, Result, Ok, Err, refl, sym, ap, ◌∙◌, subst, true≢false, arith}
use Rattle.std.specs.Prelude.{if◌then◌else◌, codes, ok_or}
use Rattle.std.specs.Bool.{Decides}
use Rattle.std.specs.Str.{bytes_eq}
use Rattle.std.specs.List.{AllByRecursion, Contains, list_any}
use Rattle.std.proofs.lemmas.Bool.{and_parts}
use Rattle.std.proofs.lemmas.Map.Views.{Contains-from_any}
use Rattle.std.proofs.lemmas.Slice.Eq.{bytes_eq-Decides}
use Rattle.lldp_text.specs.declared.fault.CommandFault.{CommandFault}
use Rattle.lldp_text.specs.declared.fault.CommandFault.TheVariants.{Unknown, NoSuchPort, Text, Extra}
use Rattle.lldp_text.specs.Answer.{on_ok}
use Rattle.lldp_text.specs.Text.{is_text}
use Rattle.lldp_text.specs.Number.{number_of}
use Rattle.lldp_engine.specs.declared.command.Show.TheVariants.{Neighbors}
use Rattle.lldp_engine.specs.declared.port.status.Status.{Status}
use Rattle.lldp_engine.specs.declared.port.status.Status.TheVariants.{RxAndTx, RxOnly, TxOnly, Disabled}
use Rattle.lldp_engine.specs.Place.{place_of}
use Rattle.lldp_engine.specs.Event.{hostname, description, interval, hold, limit, status as set_status}
use Rattle.lldp_engine.specs.AgentState.{AgentState, names_of}
use Rattle.lldp_engine.specs.Command.{Command, show, set}
use Rattle.lldp_engine.specs.Forms.{Form, complete, word, status_of, after_word, and_left, fault_or, if_any, forms_left, first_fault, going_on, read_forms, forms}
use Rattle.lldp_engine.specs.Given.{said_by}
use Rattle.lldp_engine.specs.Laws.OnlyForms.{AreWordsOf, word_of}
use Rattle.lldp_engine.specs.Laws.FirstFault.{choices, choices_behind, WantsMore, TakesOnly, TellsFirstFault}
use Rattle.lldp_engine.proofs.ForLaws.OnlyForms.{one_left, status_form, own_word_read, read_by_word}
use Rattle.lldp_engine.specs.Ranges.{most_interval, most_hold}

-- True if each of these forms begins with a fixed word from this list.
abbrev take_only : List (List ℕ) → List Form → Bool
take_only xs [] = true
take_only xs (word expected next ∷ others) = list_any (bytes_eq expected) xs && take_only xs others
take_only xs (form ∷ others) = false

module _ (names : List (List ℕ)) (w : List ℕ) (behind : List (List ℕ)) where
  -- ## A word that no form accepts

  no_word : (b : Bool) (next : Form) (P : Type 0) → Decides b P → ¬ P → (if b then Ok next else Err Unknown) ≡ Err Unknown
  no_word true next P d h = absurd (h (d.0 refl))
  no_word false next P d h = refl

  abbrev AllUnknown : List Form → Type 0
  AllUnknown left = AllByRecursion (λ form. after_word names form w ≡ Err Unknown) left

  all_unknown : (xs : List (List ℕ)) (left : List Form) → take_only xs left ≡ true → ¬ (Contains xs w) → AllUnknown left
  all_unknown xs [] t h = tt
  all_unknown xs (word expected next ∷ others) t h =
      let p = and_parts (list_any (bytes_eq expected) xs) (take_only xs others) t in
      let among : Contains xs expected = Contains-from_any (λ x y. (bytes_eq-Decides x y).0) expected xs p.0 in
      (no_word (bytes_eq w expected) next (w ≡ expected) (bytes_eq-Decides w expected) (λ e. h (subst (Contains xs) (sym e) among)), all_unknown xs others p.1 h)
  all_unknown xs (form ∷ others) t h = absurd (true≢false (sym t))

  none_left : (left : List Form) → AllUnknown left → forms_left names left w ≡ []
  none_left [] h = refl
  none_left (form ∷ others) h = ap (λ r. and_left r (forms_left names others w)) h.0 ∙ none_left others h.1

  fault_unknown : (left : List Form) → 0 < length left → AllUnknown left → first_fault names left w ≡ Unknown
  fault_unknown [] some h = absurd (omega arith)
  fault_unknown (form ∷ others) some h = ap (λ r. fault_or r (first_fault names others w)) h.0

  stops : (xs : List (List ℕ)) (left : List Form) → 0 < length left → take_only xs left ≡ true → ¬ (Contains xs w) → read_forms names (going_on names left w) behind ≡ Err Unknown
  stops xs left some t h =
      let unknown = all_unknown xs left t h in
      ap (λ fs. read_forms names (if_any fs (first_fault names left w)) behind) (none_left left unknown)
      ∙ ap (λ (fault : CommandFault). read_forms names (Err fault) behind) (fault_unknown left some unknown)

  no_status : (o : Option Status) → ((given : Status) → o ≡ Some given → w ≡ word_of given) → ¬ (Contains (word_of RxAndTx ∷ word_of RxOnly ∷ word_of TxOnly ∷ word_of Disabled ∷ []) w) → o ≡ None
  no_status None read h = refl
  no_status (Some RxAndTx) read h = absurd (h (0, omega arith, sym (read RxAndTx refl)))
  no_status (Some RxOnly) read h = absurd (h (1, omega arith, sym (read RxOnly refl)))
  no_status (Some TxOnly) read h = absurd (h (2, omega arith, sym (read TxOnly refl)))
  no_status (Some Disabled) read h = absurd (h (3, omega arith, sym (read Disabled refl)))

  -- ## A word that the only remaining form does not accept

  one_fault : (fault : CommandFault) → read_forms names (one_left (Err fault)) behind ≡ Err fault
  one_fault Extra = refl
  one_fault fault = refl

  text_fault : (b : Bool) (command : Command) → b ≡ false → read_forms names (one_left (if b then Ok (complete command) else Err Text)) behind ≡ Err Text
  text_fault b command e = ap (λ (c : Bool). read_forms names (one_left (if c then Ok (complete command) else Err Text)) behind) e

  made_fault : {A : Type 0} (r : Result A CommandFault) (next : A → Form) (fault : CommandFault) → r ≡ Err fault → read_forms names (one_left (on_ok next r)) behind ≡ Err fault
  made_fault r next fault e = ap (λ s. read_forms names (one_left (on_ok next s)) behind) e ∙ one_fault fault

  -- ## A word after a complete command

  text_extra : (b : Bool) (command : Command) → b ≡ true → read_forms names (one_left (if b then Ok (complete command) else Err Text)) (w ∷ behind) ≡ Err Extra
  text_extra b command e = ap (λ (c : Bool). read_forms names (one_left (if c then Ok (complete command) else Err Text)) (w ∷ behind)) e

  made_extra : {A : Type 0} (r : Result A CommandFault) (command : A → Command) (a : A) → r ≡ Ok a → read_forms names (one_left (on_ok (λ x. complete (command x)) r)) (w ∷ behind) ≡ Err Extra
  made_extra r command a e = ap (λ s. read_forms names (one_left (on_ok (λ x. complete (command x)) s)) (w ∷ behind)) e

-- ## The commands

module _ (agent : AgentState) (w : List ℕ) (behind : List (List ℕ)) where
  abbrev names : List (List ℕ)
  names = names_of agent

  -- the forms that remain after these words, which are in reverse order
  abbrev left_behind : List (List ℕ) → List Form
  left_behind [] = forms agent.configuration.capacity
  left_behind (last ∷ before) = forms_left names (left_behind before) last

  -- the result of reading the words after a port's name; `place` is the number of that port
  abbrev with_port : Option ℕ → List (List ℕ) → Result Command CommandFault
  with_port place words = read_forms names (one_left (on_ok status_form (ok_or place NoSuchPort))) words

  extra_words : (command : Command) (words : List (List ℕ)) → AreWordsOf agent command words → said_by agent (words ++ w ∷ behind) ≡ Err Extra
  extra_words (show Neighbors) words e = ap (λ ws. said_by agent (ws ++ w ∷ behind)) e
  extra_words (set (hostname t)) words (is, e) = ap (λ ws. said_by agent (ws ++ w ∷ behind)) e ∙ text_extra names w behind (is_text t) (set (hostname t)) is
  extra_words (set (description t)) words (is, e) = ap (λ ws. said_by agent (ws ++ w ∷ behind)) e ∙ text_extra names w behind (is_text t) (set (description t)) is
  extra_words (set (interval n)) words (v, is, e) = ap (λ ws. said_by agent (ws ++ w ∷ behind)) e ∙ made_extra names w behind (number_of v 1 most_interval) (λ n. set (interval n)) n is
  extra_words (set (hold n)) words (v, is, e) = ap (λ ws. said_by agent (ws ++ w ∷ behind)) e ∙ made_extra names w behind (number_of v 1 most_hold) (λ n. set (hold n)) n is
  extra_words (set (limit n)) words (v, is, e) = ap (λ ws. said_by agent (ws ++ w ∷ behind)) e ∙ made_extra names w behind (number_of v 1 agent.configuration.capacity) (λ n. set (limit n)) n is
  extra_words (set (set_status port given)) words (name, at, e) =
      ap (λ ws. said_by agent (ws ++ w ∷ behind)) e
      ∙ ap (λ place. with_port place (codes "lldp" ∷ codes "status" ∷ word_of given ∷ w ∷ behind)) at
      ∙ made_extra names w behind (ok_or (status_of (word_of given)) Unknown) (λ s. set (set_status port s)) given (ap (λ o. ok_or o Unknown) (own_word_read given))
  extra_words command words e = ap (λ ws. said_by agent (ws ++ w ∷ behind)) e

  fixed_words : AllByRecursion (TakesOnly agent w behind) choices
  fixed_words =
      let at = λ (front : List (List ℕ)) (xs : List (List ℕ)). stops names w behind xs (left_behind front) in (
        at [] (codes "show" ∷ codes "configure" ∷ codes "update" ∷ []) (omega arith) refl,
        (
          at (codes "show" ∷ []) (codes "neighbors" ∷ codes "statistics" ∷ codes "chassis" ∷ codes "configuration" ∷ []) (omega arith) refl,
          (
            at (codes "configure" ∷ []) (codes "system" ∷ codes "lldp" ∷ codes "ports" ∷ []) (omega arith) refl,
            (
              at (codes "system" ∷ codes "configure" ∷ []) (codes "hostname" ∷ codes "description" ∷ []) (omega arith) refl,
              (at (codes "lldp" ∷ codes "configure" ∷ []) (codes "tx-interval" ∷ codes "tx-hold" ∷ codes "max-neighbors" ∷ []) (omega arith) refl, tt),
            ),
          ),
        ),
      )

  module _ (name : List ℕ) (port : ℕ) (at : place_of names name ≡ Some port) where
    behind_port : AllByRecursion (TakesOnly agent w behind) (choices_behind name)
    behind_port = (
      λ h. ap (λ place. with_port place (w ∷ behind)) at ∙ stops names w behind (codes "lldp" ∷ []) (status_form port ∷ []) (omega arith) refl h,
      (
        λ h. ap (λ place. with_port place (codes "lldp" ∷ w ∷ behind)) at ∙ stops names w behind (codes "status" ∷ []) (forms_left names (status_form port ∷ []) (codes "lldp")) (omega arith) refl h,
        (
          λ h. ap (λ place. with_port place (codes "lldp" ∷ codes "status" ∷ w ∷ behind)) at
              ∙ ap (λ (o : Option Status). read_forms names (one_left (on_ok (λ s. complete (set (set_status port s))) (ok_or o Unknown))) behind) (no_status names w behind (status_of w) (read_by_word w) h),
          tt,
        ),
      ),
    )

    missing_port : AllByRecursion (λ choice. WantsMore agent choice.0) (choices_behind name)
    missing_port = (ap (λ place. with_port place []) at, (ap (λ place. with_port place (codes "lldp" ∷ [])) at, (ap (λ place. with_port place (codes "lldp" ∷ codes "status" ∷ [])) at, tt)))

pub tells_first : (agent : AgentState) (w : List ℕ) (behind : List (List ℕ)) → TellsFirstFault agent w behind
tells_first agent w behind =
    record {
      fixed = fixed_words agent w behind;
      fixed_behind = behind_port agent w behind;
      hostname = text_fault (names_of agent) w behind (is_text w) (set (hostname w));
      description = text_fault (names_of agent) w behind (is_text w) (set (description w));
      interval = λ fault e. made_fault (names_of agent) w behind (number_of w 1 most_interval) (λ n. complete (set (interval n))) fault e;
      hold = λ fault e. made_fault (names_of agent) w behind (number_of w 1 most_hold) (λ n. complete (set (hold n))) fault e;
      limit = λ fault e. made_fault (names_of agent) w behind (number_of w 1 agent.configuration.capacity) (λ n. complete (set (limit n))) fault e;
      port = λ e. ap (λ place. with_port agent w behind place behind) e;
      extra = extra_words agent w behind;
      missing = (refl, (refl, (refl, (refl, (refl, tt)))));
      missing_argument = (refl, (refl, (refl, (refl, (refl, (refl, tt))))));
      missing_behind = missing_port agent w behind;
    }

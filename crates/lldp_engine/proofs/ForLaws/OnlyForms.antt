-- A command is read only from the words of its own form.
use Rattle.std.proofs.Common.{◌≡◌, ℕ, Bool, true, false, ◌⊎◌, inl, inr, List, [], ◌∷◌, Option, Some, None, Result, Ok, Err, refl, ap, ◌∙◌, subst}
use Rattle.std.specs.Prelude.{if◌then◌else◌, codes, ok_or}
use Rattle.std.specs.Bool.{Decides}
use Rattle.std.specs.Str.{bytes_eq}
use Rattle.std.proofs.lemmas.Slice.Eq.{bytes_eq-Decides}
use Rattle.lldp_text.specs.declared.fault.CommandFault.{CommandFault}
use Rattle.lldp_text.specs.declared.fault.CommandFault.TheVariants.{Unknown, NoSuchPort, Text, Extra, Quote, InUse}
use Rattle.lldp_text.specs.Answer.{on_ok, ◌>>=◌}
use Rattle.lldp_text.specs.Text.{is_text}
use Rattle.lldp_text.specs.Number.{number_of}
use Rattle.lldp_engine.specs.declared.command.Show.TheVariants.{Neighbors, Statistics, Chassis, Configuration}
use Rattle.lldp_engine.specs.declared.port.status.Status.{Status}
use Rattle.lldp_engine.specs.declared.port.status.Status.TheVariants.{RxAndTx, RxOnly, TxOnly, Disabled}
use Rattle.lldp_engine.specs.Place.{place_of}
use Rattle.lldp_engine.specs.Event.{hostname, description, interval, hold, limit, status as set_status, update}
use Rattle.lldp_engine.specs.AgentState.{AgentState, names_of, fits}
use Rattle.lldp_engine.specs.Command.{Command, show, set}
use Rattle.lldp_engine.specs.Forms.{Form, complete, word, port, number, text, status, status_of, after_word, and_left, fault_or, if_any, forms_left, first_fault, completed, read_forms, forms}
use Rattle.lldp_engine.specs.Given.{said_by, unless_in_use, command_said, command_given}
use Rattle.lldp_text.specs.Words.{words_of}
use Rattle.lldp_engine.specs.Laws.OnlyForms.{AreWordsOf, IsNotInUse, IsLineOf, word_of}
use Rattle.lldp_engine.proofs.ForLaws.InUse.{held_decided}
use Rattle.lldp_engine.specs.Ranges.{most_interval, most_hold}

-- ## When one form is left

-- the result of a word when one form is left: the rest of that form, or the fault
abbrev pub one_left : Result Form CommandFault → Result (List Form) CommandFault
one_left one = if_any (and_left one []) (fault_or one Extra)

text_said : (names : List (List ℕ)) (b : Bool) (command : Command) → b ≡ true → read_forms names (one_left (if b then Ok (complete command) else Err Text)) [] ≡ Ok command
text_said names b command e = ap (λ (c : Bool). read_forms names (one_left (if c then Ok (complete command) else Err Text)) []) e

made_said : {A : Type 0} (names : List (List ℕ)) (r : Result A CommandFault) (command : A → Command) (a : A) → r ≡ Ok a → read_forms names (one_left (on_ok (λ a. complete (command a)) r)) [] ≡ Ok (command a)
made_said names r command a e = ap (λ s. read_forms names (one_left (on_ok (λ a. complete (command a)) s)) []) e

-- the rest of the form that sets a status, after the name of the port
abbrev pub status_form : ℕ → Form
status_form p = word (codes "lldp") (word (codes "status") (status (λ given. complete (set (set_status p given)))))

-- ## Statuses

own_word : (w : List ℕ) (s given : Status) → w ≡ word_of s → Some s ≡ Some given → w ≡ word_of given
own_word w s given h e = let same : s ≡ given = cc in h ∙ ap word_of same

word_by : (w : List ℕ) (given : Status) (a b c d : Bool) → Decides a (w ≡ word_of RxAndTx) → Decides b (w ≡ word_of RxOnly) → Decides c (w ≡ word_of TxOnly) → Decides d (w ≡ word_of Disabled)
    → (if a then Some RxAndTx else if b then Some RxOnly else if c then Some TxOnly else if d then Some Disabled else None) ≡ Some given → w ≡ word_of given
word_by w given true b c d p q r s e = own_word w RxAndTx given (p.0 refl) e
word_by w given false true c d p q r s e = own_word w RxOnly given (q.0 refl) e
word_by w given false false true d p q r s e = own_word w TxOnly given (r.0 refl) e
word_by w given false false false true p q r s e = own_word w Disabled given (s.0 refl) e
word_by w given false false false false p q r s e = cc

pub read_by_word : (w : List ℕ) (given : Status) → status_of w ≡ Some given → w ≡ word_of given
read_by_word w given e =
    word_by w given _ _ _ _ (bytes_eq-Decides w (word_of RxAndTx)) (bytes_eq-Decides w (word_of RxOnly)) (bytes_eq-Decides w (word_of TxOnly)) (bytes_eq-Decides w (word_of Disabled)) e

pub own_word_read : (given : Status) → status_of (word_of given) ≡ Some given
own_word_read RxAndTx = refl
own_word_read given = refl

pub word_is_read : (w : List ℕ) (given : Status) → w ≡ word_of given → status_of w ≡ Some given
word_is_read w given e = ap status_of e ∙ own_word_read given

-- ## Words that match a form

module _ (names : List (List ℕ)) (command : Command) where
  -- The words match the form, and the form then gives the command.
  abbrev Matches : Form → List (List ℕ) → Type 0
  Matches (complete c) words = (words ≡ []) × (c ≡ command)
  Matches (word expected next) words = (rest : List (List ℕ)) × (words ≡ expected ∷ rest) × Matches next rest
  Matches (port next) words =
      (w : List ℕ) × (rest : List (List ℕ)) × (p : ℕ) × (words ≡ w ∷ rest) × (place_of names w ≡ Some p) × Matches (next p) rest
  Matches (number least greatest next) words =
      (w : List ℕ) × (rest : List (List ℕ)) × (n : ℕ) × (words ≡ w ∷ rest) × (number_of w least greatest ≡ Ok n) × Matches (next n) rest
  Matches (text next) words =
      (w : List ℕ) × (rest : List (List ℕ)) × (words ≡ w ∷ rest) × (is_text w ≡ true) × Matches (next w) rest
  Matches (status next) words =
      (w : List ℕ) × (rest : List (List ℕ)) × (s : Status) × (words ≡ w ∷ rest) × (status_of w ≡ Some s) × Matches (next s) rest

  -- The words match one of the forms.
  abbrev AnyMatches : List Form → List (List ℕ) → Type 0
  AnyMatches [] words = ⊥
  AnyMatches (form ∷ others) words = Matches form words ⊎ AnyMatches others words

  same_form : (f g : Form) (ws : List (List ℕ)) → ◌≡◌ {A = Result Form CommandFault} (Ok f) (Ok g) → Matches g ws → Matches f ws
  same_form f g ws e m = let same : g ≡ f = cc in subst (λ (h : Form). Matches h ws) same m

  word_more : (expected : List ℕ) (next left : Form) (w : List ℕ) (ws : List (List ℕ)) (b : Bool) → Decides b (w ≡ expected) → (if b then Ok next else Err Unknown) ≡ Ok left → Matches left ws
      → Matches (word expected next) (w ∷ ws)
  word_more expected next left w ws true d e m = (ws, ap (λ (x : List ℕ). x ∷ ws) (d.0 refl), same_form next left ws e m)
  word_more expected next left w ws false d e m = cc

  port_more : (next : ℕ → Form) (left : Form) (w : List ℕ) (ws : List (List ℕ)) (o : Option ℕ) → place_of names w ≡ o → on_ok next (ok_or o NoSuchPort) ≡ Ok left → Matches left ws → Matches (port next) (w ∷ ws)
  port_more next left w ws (Some p) d e m = (w, ws, p, refl, d, same_form (next p) left ws e m)
  port_more next left w ws None d e m = cc

  number_more : (least greatest : ℕ) (next : ℕ → Form) (left : Form) (w : List ℕ) (ws : List (List ℕ)) (r : Result ℕ CommandFault) → number_of w least greatest ≡ r → on_ok next r ≡ Ok left → Matches left ws
      → Matches (number least greatest next) (w ∷ ws)
  number_more least greatest next left w ws (Ok n) d e m = (w, ws, n, refl, d, same_form (next n) left ws e m)
  number_more least greatest next left w ws (Err fault) d e m = cc

  text_more : (next : List ℕ → Form) (left : Form) (w : List ℕ) (ws : List (List ℕ)) (b : Bool) → is_text w ≡ b → (if b then Ok (next w) else Err Text) ≡ Ok left → Matches left ws → Matches (text next) (w ∷ ws)
  text_more next left w ws true d e m = (w, ws, refl, d, same_form (next w) left ws e m)
  text_more next left w ws false d e m = cc

  status_more : (next : Status → Form) (left : Form) (w : List ℕ) (ws : List (List ℕ)) (o : Option Status) → status_of w ≡ o → on_ok next (ok_or o Unknown) ≡ Ok left → Matches left ws → Matches (status next) (w ∷ ws)
  status_more next left w ws (Some s) d e m = (w, ws, s, refl, d, same_form (next s) left ws e m)
  status_more next left w ws None d e m = cc

  one_more : (form left : Form) (w : List ℕ) (ws : List (List ℕ)) → after_word names form w ≡ Ok left → Matches left ws → Matches form (w ∷ ws)
  one_more (complete c) left w ws e m = cc
  one_more (word expected next) left w ws e m = word_more expected next left w ws (bytes_eq w expected) (bytes_eq-Decides w expected) e m
  one_more (port next) left w ws e m = port_more next left w ws (place_of names w) refl e m
  one_more (number least greatest next) left w ws e m = number_more least greatest next left w ws (number_of w least greatest) refl e m
  one_more (text next) left w ws e m = text_more next left w ws (is_text w) refl e m
  one_more (status next) left w ws e m = status_more next left w ws (status_of w) refl e m

  end_matches : (left : List Form) → completed left ≡ Ok command → AnyMatches left []
  end_matches [] e = cc
  end_matches (complete c ∷ others) e = inl (refl, cc)
  end_matches (form ∷ others) e = inr (end_matches others e)

  and_more : (form : Form) (others left : List Form) (w : List ℕ) (ws : List (List ℕ)) (r : Result Form CommandFault) → after_word names form w ≡ r → (AnyMatches left ws → AnyMatches others (w ∷ ws))
      → AnyMatches (and_left r left) ws → AnyMatches (form ∷ others) (w ∷ ws)
  and_more form others left w ws (Ok next) e rest (inl m) = inl (one_more form next w ws e m)
  and_more form others left w ws (Ok next) e rest (inr m) = inr (rest m)
  and_more form others left w ws (Err fault) e rest m = inr (rest m)

  left_matches : (left : List Form) (w : List ℕ) (ws : List (List ℕ)) → AnyMatches (forms_left names left w) ws → AnyMatches left (w ∷ ws)
  left_matches [] w ws m = m
  left_matches (form ∷ others) w ws m = and_more form others (forms_left names others w) w ws (after_word names form w) refl (left_matches others w ws) m

  any_left : (left : List Form) (fault : CommandFault) (ws : List (List ℕ)) → ((fs : List Form) → read_forms names (Ok fs) ws ≡ Ok command → AnyMatches fs ws) → read_forms names (if_any left fault) ws ≡ Ok command → AnyMatches left ws
  any_left [] fault ws rest e = cc
  any_left (form ∷ others) fault ws rest e = rest (form ∷ others) e

  said_matches : (words : List (List ℕ)) (left : List Form) → read_forms names (Ok left) words ≡ Ok command → AnyMatches left words
  said_matches [] left e = end_matches left e
  said_matches (w ∷ ws) left e = left_matches left w ws (any_left (forms_left names left w) (first_fault names left w) ws (said_matches ws) e)

-- ## The eleven forms

module _ (agent : AgentState) (command : Command) (words : List (List ℕ)) where
  abbrev of : Form → Type 0
  of form = Matches (names_of agent) command form words

  of_command : (c : Command) → c ≡ command → AreWordsOf agent c words → AreWordsOf agent command words
  of_command c e h = subst (λ (d : Command). AreWordsOf agent d words) e h

  abbrev configured : List (List ℕ) → List (List ℕ)
  configured rest = codes "configure" ∷ rest

  form_words : AnyMatches (names_of agent) command (forms agent.configuration.capacity) words → AreWordsOf agent command words
  form_words (inl (r, e, (s, f, (g, c)))) = of_command (show Neighbors) c (e ∙ ap (λ x. codes "show" ∷ x) (f ∙ ap (λ x. codes "neighbors" ∷ x) g))
  form_words (inr (inl (r, e, (s, f, (g, c))))) = of_command (show Statistics) c (e ∙ ap (λ x. codes "show" ∷ x) (f ∙ ap (λ x. codes "statistics" ∷ x) g))
  form_words (inr (inr (inl (r, e, (s, f, (g, c)))))) = of_command (show Chassis) c (e ∙ ap (λ x. codes "show" ∷ x) (f ∙ ap (λ x. codes "chassis" ∷ x) g))
  form_words (inr (inr (inr (inl (r, e, (s, f, (g, c))))))) = of_command (show Configuration) c (e ∙ ap (λ x. codes "show" ∷ x) (f ∙ ap (λ x. codes "configuration" ∷ x) g))
  form_words (inr (inr (inr (inr (inl (r, e, (s, f, (t, g, (w, u, h, is, (i, c)))))))))) =
      of_command (set (hostname w)) c (is, e ∙ ap configured (f ∙ ap (λ x. codes "system" ∷ x) (g ∙ ap (λ x. codes "hostname" ∷ x) (h ∙ ap (λ x. w ∷ x) i))))
  form_words (inr (inr (inr (inr (inr (inl (r, e, (s, f, (t, g, (w, u, h, is, (i, c))))))))))) =
      of_command (set (description w)) c (is, e ∙ ap configured (f ∙ ap (λ x. codes "system" ∷ x) (g ∙ ap (λ x. codes "description" ∷ x) (h ∙ ap (λ x. w ∷ x) i))))
  form_words (inr (inr (inr (inr (inr (inr (inl (r, e, (s, f, (t, g, (w, u, n, h, is, (i, c)))))))))))) =
      of_command (set (interval n)) c (w, is, e ∙ ap configured (f ∙ ap (λ x. codes "lldp" ∷ x) (g ∙ ap (λ x. codes "tx-interval" ∷ x) (h ∙ ap (λ x. w ∷ x) i))))
  form_words (inr (inr (inr (inr (inr (inr (inr (inl (r, e, (s, f, (t, g, (w, u, n, h, is, (i, c))))))))))))) =
      of_command (set (hold n)) c (w, is, e ∙ ap configured (f ∙ ap (λ x. codes "lldp" ∷ x) (g ∙ ap (λ x. codes "tx-hold" ∷ x) (h ∙ ap (λ x. w ∷ x) i))))
  form_words (inr (inr (inr (inr (inr (inr (inr (inr (inl (r, e, (s, f, (t, g, (w, u, n, h, is, (i, c)))))))))))))) =
      of_command (set (limit n)) c (w, is, e ∙ ap configured (f ∙ ap (λ x. codes "lldp" ∷ x) (g ∙ ap (λ x. codes "max-neighbors" ∷ x) (h ∙ ap (λ x. w ∷ x) i))))
  form_words (inr (inr (inr (inr (inr (inr (inr (inr (inr (inl (r, e, (s, f, (w, u, p, g, at, (t, h, (v, i, (x, y, given, j, is, (k, c))))))))))))))))) =
      of_command (set (set_status p given)) c
      (w, at, e ∙ ap configured (f ∙ ap (λ z. codes "ports" ∷ z) (g ∙ ap (λ z. w ∷ z) (h ∙ ap (λ z. codes "lldp" ∷ z) (i ∙ ap (λ z. codes "status" ∷ z) (j ∙ ap (λ z. x ∷ z) k ∙ ap (λ z. z ∷ []) (read_by_word x given is)))))))
  form_words (inr (inr (inr (inr (inr (inr (inr (inr (inr (inr (inl (r, e, (g, c))))))))))))) = of_command (set update) c (e ∙ ap (λ x. codes "update" ∷ x) g)
  form_words (inr (inr (inr (inr (inr (inr (inr (inr (inr (inr (inr none))))))))))) = absurd none

  pub only_its_words : said_by agent words ≡ Ok command → AreWordsOf agent command words
  only_its_words e = form_words (said_matches (names_of agent) command words (forms agent.configuration.capacity) e)

-- ## The words of each form are read as its command

module _ (agent : AgentState) where
  abbrev names : List (List ℕ)
  names = names_of agent

  pub its_words_say_it : (command : Command) (words : List (List ℕ)) → AreWordsOf agent command words → said_by agent words ≡ Ok command
  its_words_say_it (show Neighbors) words e = ap (said_by agent) e
  its_words_say_it (set (hostname t)) words (is, e) = ap (said_by agent) e ∙ text_said names (is_text t) (set (hostname t)) is
  its_words_say_it (set (description t)) words (is, e) = ap (said_by agent) e ∙ text_said names (is_text t) (set (description t)) is
  its_words_say_it (set (interval n)) words (w, is, e) = ap (said_by agent) e ∙ made_said names (number_of w 1 most_interval) (λ n. set (interval n)) n is
  its_words_say_it (set (hold n)) words (w, is, e) = ap (said_by agent) e ∙ made_said names (number_of w 1 most_hold) (λ n. set (hold n)) n is
  its_words_say_it (set (limit n)) words (w, is, e) = ap (said_by agent) e ∙ made_said names (number_of w 1 agent.configuration.capacity) (λ n. set (limit n)) n is
  its_words_say_it (set (set_status p given)) words (name, at, e) =
      ap (said_by agent) e
      ∙ ap (λ place. read_forms names (one_left (on_ok status_form (ok_or place NoSuchPort))) (codes "lldp" ∷ codes "status" ∷ word_of given ∷ [])) at
      ∙ made_said names (ok_or (status_of (word_of given)) Unknown) (λ given. set (set_status p given)) given (ap (λ o. ok_or o Unknown) (own_word_read given))
  its_words_say_it command words e = ap (said_by agent) e

-- ## Limits that are in use

module _ (agent : AgentState) (words : List (List ℕ)) (command : Command) where
  abbrev OfWords : Command → Type 0
  OfWords c = AreWordsOf agent c words × IsNotInUse agent c

  same_command : (c : Command) → ◌≡◌ {A = Result Command CommandFault} (Ok c) (Ok command) → OfWords c → OfWords command
  same_command c e h = let same : c ≡ command = cc in subst OfWords same h

  limit_fits : (n : ℕ) (b : Bool) → fits agent.ports n ≡ b → said_by agent words ≡ Ok (set (limit n)) → (if b then Ok (set (limit n)) else Err InUse) ≡ Ok command → OfWords command
  limit_fits n true f e h = same_command (set (limit n)) h (only_its_words agent (set (limit n)) words e, (held_decided agent.ports n).0 f)
  limit_fits n false f e h = cc

  said_as : (said : Result Command CommandFault) → said_by agent words ≡ said → unless_in_use agent.ports said ≡ Ok command → OfWords command
  said_as (Ok (set (limit n))) e h = limit_fits n (fits agent.ports n) refl e h
  said_as (Ok c) e h = same_command c h (only_its_words agent c words e, tt)
  said_as (Err fault) e h = cc

  pub only_said : command_said agent words ≡ Ok command → OfWords command
  only_said h = said_as (said_by agent words) refl h

not_in_use : (agent : AgentState) (command : Command) → IsNotInUse agent command → unless_in_use agent.ports (Ok command) ≡ Ok command
not_in_use agent (set (limit n)) h = let fit : fits agent.ports n ≡ true = (held_decided agent.ports n).1 h in rw fit refl
not_in_use agent command h = refl

pub words_are_said : (agent : AgentState) (words : List (List ℕ)) (command : Command) → AreWordsOf agent command words × IsNotInUse agent command → command_said agent words ≡ Ok command
words_are_said agent words command h = ap (unless_in_use agent.ports) (its_words_say_it agent command words h.0) ∙ not_in_use agent command h.1

given_by : (agent : AgentState) (line : List ℕ) (command : Command) (split : Option (List (List ℕ))) → words_of line ≡ split → (ok_or split Quote >>= command_said agent) ≡ Ok command → IsLineOf agent command line
given_by agent line command None e h = cc
given_by agent line command (Some words) e h = let of_words = only_said agent words command h in (words, e, of_words.0, of_words.1)

pub only_given : (agent : AgentState) (line : List ℕ) (command : Command) → command_given agent line ≡ Ok command → IsLineOf agent command line
only_given agent line command h = given_by agent line command (words_of line) refl h

pub line_gives : (agent : AgentState) (line : List ℕ) (command : Command) → IsLineOf agent command line → command_given agent line ≡ Ok command
line_gives agent line command (words, e, are, free) =
    ap (λ (split : Option (List (List ℕ))). ok_or split Quote >>= command_said agent) e ∙ words_are_said agent words command (are, free)

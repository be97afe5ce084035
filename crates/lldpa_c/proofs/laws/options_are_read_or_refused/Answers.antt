use Rattle.std.proofs.Common.{◌≡◌, ℕ, zero, suc, ◌+◌, ◌<◌, ◌≤◌, Bool, true, false, List, [], ◌∷◌, length, map, take, None, Some, refl, ap, subst, ◌∙◌, arith}
use Rattle.std.specs.Prelude.{IsSome}
use Rattle.std.specs.Str.{IsUtf8, IsAscii, is_utf8, chars}
use Rattle.std.proofs.lemmas.Bool.{ne_eqb, lt-ltb}
use Rattle.std.proofs.lemmas.List.{length-map}
use Rattle.std.proofs.lemmas.List.Elements.{All-get_or, All-take}
use Rattle.std.proofs.lemmas.Option.{slice_get_within, get_or_from_slice_get}
use Rattle.std.proofs.lemmas.Str.{IsUtf8-from_ascii, is_utf8-from_IsUtf8}
use Rattle.lldp_table.specs.Events.{events_of, neighbors}
use Rattle.lldp_engine.specs.AgentState.{names_of}
use Rattle.lldp_engine.specs.declared.agent.open_fault.OpenFault.TheVariants.{NoPorts, TooManyPorts}
use Rattle.lldp_engine.specs.Options.{Options, fault_of}
use Rattle.lldp_engine.specs.Past.{opened, configuration_after, ports_after, agent_of}
use Rattle.lldp_engine.specs.Port.Past.{port_after}
use Rattle.lldpa_c.specs.declared.holder.LldpaAgent.{LldpaAgent}
use Rattle.lldpa_c.specs.declared.options.LldpaOptions.{LldpaOptions}
use Rattle.lldpa_c.specs.declared.options.LldpaText.{LldpaText}
use Rattle.lldpa_c.specs.Opening.{asked, role_numbered, IsRead, OpensOnce}
use Rattle.lldpa_c.specs.Laws.Opened.{AreInRange, AreRead}
use Rattle.lldpa_c.specs.Ticks.{held_by, neighbors_held}
use Rattle.lldpa_c.proofs.laws.options_are_read_or_refused.Goals as goal

some_role : (n : ℕ) → n ≤ 2 → IsSome (role_numbered n)
some_role zero h = refl
some_role (suc zero) h = refl
some_role (suc (suc zero)) h = refl
some_role (suc (suc (suc n))) h = absurd (omega (arith, h))

three_roles : (n : ℕ) → IsSome (role_numbered n) → n ≤ 2
three_roles zero h = omega arith
three_roles (suc zero) h = omega arith
three_roles (suc (suc zero)) h = omega arith
three_roles (suc (suc (suc n))) h =
    let m : ℕ = suc (suc (suc n)) in
    let none : role_numbered m ≡ None = rw (ne_eqb m 0 (λ e. absurd (omega (arith, e))), ne_eqb m 1 (λ e. absurd (omega (arith, e))), ne_eqb m 2 (λ e. absurd (omega (arith, e)))) refl in
    absurd cc

-- ---- texts

not_utf8 : is_utf8 (255 ∷ []) ≡ false
unfolding is_utf8 chars
not_utf8 = refl

refused : (text : List ℕ) → text ≡ 255 ∷ [] → ¬ (IsUtf8 text)
refused text e h = let one = is_utf8-from_IsUtf8 text h in let other = ap is_utf8 e ∙ not_utf8 in absurd cc

-- ---- the agent

names_are : (o : Options) (i : ℕ) (names : List (List ℕ)) → map (λ port. port.name) (ports_after o [] i names) ≡ names
unfolding port_after
names_are o i [] = refl
names_are o i (name ∷ names) = ap (λ rest. name ∷ rest) (names_are o (i + 1) names)

none_held : (o : Options) (i : ℕ) (names : List (List ℕ)) → held_by (ports_after o [] i names) ≡ 0
unfolding port_after events_of neighbors
none_held o i [] = refl
none_held o i (name ∷ names) = omega (arith, none_held o (i + 1) names)

names_opened : (o : Options) → names_of (agent_of (opened o)) ≡ o.names
unfolding agent_of
names_opened o = names_are o 0 o.names

held_opened : (o : Options) → neighbors_held (agent_of (opened o)) ≡ 0
unfolding agent_of
held_opened o = none_held o 0 o.names

configured : (o : Options) → (agent_of (opened o)).configuration ≡ configuration_after o []
unfolding agent_of
configured o = refl

is_read : (o : LldpaOptions) → AreRead o → IsRead o
is_read o r = record {
  role = some_role o.role r.0.role;
  names = λ k d lt. IsUtf8-from_ascii _ (All-take (λ (text : LldpaText). IsAscii text.octets.now) 65 o.ports.now r.1 k d lt);
  hostname = IsUtf8-from_ascii _ r.2;
  range = record { neighbors = r.0.max_neighbors; credit = r.0.credit_max; fast = r.0.fast_init; wait = r.0.reinit };
}

in_range : (o : LldpaOptions) → IsRead o → AreInRange o
in_range o r = record {
  role = three_roles o.role r.role;
  max_neighbors = r.range.neighbors;
  credit_max = r.range.credit;
  fast_init = r.range.fast;
  reinit = r.range.wait;
}

pub returns-clause-options : goal.returns-clause-options
returns-clause-options c o = record {
  read = λ r names hostname. is_read o (r, names, hostname);
  range = in_range o;
  hostname = λ e r. refused _ e r.hostname;
  names = λ i text here e r.
      let read = All-get_or (λ (text : LldpaText). IsUtf8 text.octets.now) (take 65 o.ports.now) i text (slice_get_within _ i text here) r.names in
      refused _ e (subst (λ (text : LldpaText). IsUtf8 text.octets.now) (get_or_from_slice_get (take 65 o.ports.now) i text text here) read);
  agent = λ agent opens. (
    ap names_of opens.stands.is ∙ names_opened (asked o),
    ap (λ x. x.configuration) opens.stands.is ∙ configured (asked o),
    ap neighbors_held opens.stands.is ∙ held_opened (asked o),
  );
}

-- ---- the order of the errors

no_port : (o : LldpaOptions) → o.ports.now ≡ [] → fault_of (asked o) ≡ Some NoPorts
no_port o e = rw e refl

too_many : (o : LldpaOptions) → 64 < length o.ports.now → fault_of (asked o) ≡ Some TooManyPorts
too_many o h =
    let names = (asked o).names in
    let long : 64 < length names = omega (arith, h, length-map o.ports.now (λ (text : LldpaText). text.octets.now)) in
    rw (ne_eqb (length names) 0 (λ e. absurd (omega (arith, e, long))), lt-ltb 64 (length names) long) refl

module _ (o : LldpaOptions) (before after : LldpaAgent) (answer : ℕ) (once : OpensOnce o before answer after) where
  stays_closed : (n : ℕ) → 0 < n → answer ≡ n → before.is_open ≡ false → (answer ≡ n) × (after.is_open ≡ false)
  stays_closed n some a closed = (a, (once.refused (λ z. absurd (omega (arith, some, a, z)))).is_open ∙ closed)

  was_closed : answer ≡ 0 → (b : Bool) → before.is_open ≡ b → before.is_open ≡ false
  was_closed z true is = absurd (omega (arith, z, once.again is))
  was_closed z false is = is

pub returns-clause-order : goal.returns-clause-order
returns-clause-order c o before after answer once = record {
  again = λ is.
      let a = once.again is in
      let same = once.refused (λ z. absurd (omega (arith, a, z))) in
      (a, same.is_open ∙ is, same.agent is);
  range = λ closed differs. stays_closed o before after answer once 100 (omega arith) (once.range closed (λ read. differs (in_range o read))) closed;
  text = λ closed e. stays_closed o before after answer once 100 (omega arith) (once.range closed (λ read. refused _ e read.hostname)) closed;
  none = λ closed read e. stays_closed o before after answer once 22 (omega arith) (once.faulty closed (is_read o read) NoPorts (no_port o e)) closed;
  many = λ closed read h. stays_closed o before after answer once 23 (omega arith) (once.faulty closed (is_read o read) TooManyPorts (too_many o h)) closed;
  success = λ z.
      let opens = once.agent z in
      (was_closed o before after answer once z _ refl, once.is_open z, ap names_of opens.stands.is ∙ names_opened (asked o));
}

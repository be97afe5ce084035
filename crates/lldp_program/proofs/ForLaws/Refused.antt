-- Bad addresses, and pasts that go on.
use Rattle.std.proofs.Common.{◌≡◌, ◌⊎◌, ℕ, List, [], ◌∷◌, ◌++◌, Option, Some, None, refl, sym, ap, ◌∙◌, append_assoc, Bor, inl, inr, arith}
use Rattle.std.specs.Prelude.{codes, IsSomeAnd}
use Rattle.std.specs.Net.Grammar.{IsDotted}
use Rattle.clap.specs.Walk.{Row, Text, first_of}
use Rattle.lldp_engine.specs.AgentState.{AgentState}
use Rattle.lldp_engine.specs.Event.{Event}
use Rattle.lldp_engine.specs.Options.{Options}
use Rattle.lldp_engine.specs.Past.{Past, with_event}
use Rattle.lldp_engine.proofs.Headline.{have_sent_exactly}
use Rattle.lldp_program.specs.declared.arguments.AddressFault.{AddressFault}
use Rattle.lldp_program.specs.declared.arguments.AddressFault.TheVariants.{Mac, Management}
use Rattle.lldp_program.specs.CommandLine.Addresses.{IsMac}
use Rattle.lldp_program.specs.CommandLine.Usage.{Asks, AsksManagement, HasBadAddress, IsBad}
use Rattle.clap.proofs.OnLiterals.{clap_on_literals}
use Rattle.clap.specs.Kinds.{IsAmong}
use Rattle.clap.specs.declared.error.kind.ErrorKind.{ErrorKind}
use Rattle.clap.specs.declared.error.kind.ErrorKind.TheVariants.{DisplayHelp, DisplayVersion, UnknownArgument}
use Rattle.std.proofs.lemmas.Grind.{common_steps}
use Rattle.lldp_program.specs.Trace.Runs.{KeepsOn, followed}
use Rattle.lldp_program.specs.Laws.Refused.{GoesOn, IsNotDotted, RefusesBadAddresses, SortsWords}

no_mac : (text : Option Text) (mac : List ℕ) → IsBad IsMac text → IsSomeAnd text (λ t. IsMac t mac) → ⊥
no_mac None mac bad asks = absurd bad
no_mac (Some text) mac bad asks = bad mac asks

no_address : (text : Option Text) (given : Option (List ℕ)) → IsBad IsDotted text → AsksManagement text given → ⊥
no_address None given bad asks = absurd bad
no_address (Some text) given bad (octets, is, dotted) = bad octets dotted

never : (rows : List Row) (fault : AddressFault) (o : Options) → HasBadAddress rows fault → Asks rows o → ⊥
never rows Mac o bad asks = no_mac (first_of (codes "mac") rows) o.mac bad asks.mac
never rows Management o bad asks = no_address (first_of (codes "management") rows) o.management bad.1 asks.management

not_dotted : (text : Text) → IsNotDotted text → (octets : List ℕ) → IsDotted text octets → ⊥
not_dotted text h octets dotted = h dotted.a dotted.b dotted.c dotted.d dotted.fit.0 dotted.fit.1 dotted.fit.2 dotted.fit.3 dotted.spelled

pub refuses_bad_addresses : (rows : List Row) → RefusesBadAddresses rows
refuses_bad_addresses rows =
    record {
      never = never rows;
      mac = λ text e h. rw e h;
      management = λ text other mac e is f h. ((mac, rw e is), rw f (not_dotted other h));
      first = λ a b. no_mac (first_of (codes "mac") rows) b.0.0 a b.0.1;
    }

later : (past : Past) (agent : AgentState) (event : Event) → KeepsOn (with_event past event) agent → KeepsOn past agent
later past agent event (events, stands, promised, sending) =
    let same : followed (with_event past event) events ≡ followed past (events ++ event ∷ []) =
    ap {B = Past} (λ all. record { options = past.options; events = all }) (sym (append_assoc events (event ∷ []) past.events)) in
    (events ++ event ∷ [], rw (← same) stands, rw (← same) promised, rw (← same) sending)

pub goes_on : (past : Past) (agent : AgentState) → GoesOn past agent
goes_on past agent = record { same = λ stands promised. ([], stands, promised, have_sent_exactly past agent stands); later = later past agent }

some_fault : (kind : ErrorKind) (faults kinds : List ErrorKind) → faults ≡ kind ∷ kinds → faults ≡ [] → ⊥
some_fault kind faults kinds e f = let bad : kind ∷ kinds ≡ [] = sym e ∙ f in cc

only_unknown : (kinds : List ErrorKind) → kinds ≡ UnknownArgument ∷ [] → IsAmong DisplayHelp kinds ⊎ IsAmong DisplayVersion kinds → ⊥
only_unknown kinds e (inl among) = grind (arith, common_steps)
only_unknown kinds e (inr among) = grind (arith, common_steps)

-- no other fault is among the faults of these words
only_of : (kind one : ErrorKind) (kinds : List ErrorKind) → kinds ≡ one ∷ [] → IsAmong kind kinds → kind ≡ one
only_of kind one kinds e among = grind (arith, common_steps)

pub sorts_words : (roles : Bor (List (Bor Text))) → SortsWords roles
unfolding clap_on_literals
sorts_words roles =
    record {
      help = λ named. inl (record { roles = roles; named = named; among = inl refl });
      help_alone = λ rows h. some_fault DisplayHelp _ _ refl h.taken;
      help_right = λ h. h.2 (only_of h.0 DisplayHelp _ refl h.1.among);
      version = λ named. inr (record { roles = roles; named = named; among = inl refl });
      version_alone = λ rows h. some_fault DisplayVersion _ _ refl h.taken;
      version_right = λ h. h.3 (only_of h.0 DisplayVersion _ refl h.1.among);
      wrong = λ named. (UnknownArgument, record { roles = roles; named = named; among = inl refl }, (λ e. cc), (λ e. cc));
      wrong_alone = λ rows h. some_fault UnknownArgument _ _ refl h.taken;
      no_help = λ h. elim h [ inl a ↦ only_unknown _ refl (inl a.among) | inr b ↦ only_unknown _ refl (inr b.among) ];
    }

pub ruleset arguments_are_refused = (refuses_bad_addresses, sorts_words)

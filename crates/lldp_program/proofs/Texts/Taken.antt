-- Text that is added to an output: a part that the sink took, and a part in the buffer.
use Rattle.std.proofs.Common.{◌≡◌, ◌≢◌, ℕ, true, false, List, [], ◌∷◌, ◌++◌, refl, sym, ap, ◌∙◌, append_assoc, subst, Option, Some, rules}
use Rattle.std.specs.Prelude.{Result, Ok, Err, is_ok, is_err, OnOk}
use Rattle.std.specs.Borrow.{MutBor}
use Rattle.std.specs.Io.KnownBytes.{Appends}
use Rattle.std.specs.List.{flat_map}
use Rattle.std.proofs.lemmas.List.{append-nil}
use Rattle.lldp_engine.specs.Takes.{Takes}
use Rattle.lldp_program.specs.declared.device.DeviceFault.{DeviceFault}
use Rattle.lldp_program.specs.Devices.Counts.{failures_after}
use Rattle.lldp_program.specs.Trace.Lines.{ended}
use Rattle.lldp_program.specs.Trace.Runs.{IsCutOff}
use Rattle.lldp_program.specs.Code.Output.{IsWritten, WrittenBy, GoesOut, Output, SameSink, Went, Goes, GoesBehind, Puts, Flushes, begun, Writes}
use Rattle.lldp_program.proofs.Texts.Written.{appends_then, appends_nothing, appends_same}

abbrev Answer : Type 0
Answer = Result (Unit {0}) DeviceFault

-- ## Text that was written or buffered

-- two texts that were added one after the other were added as one text
goes_out_then : (a b c : Option (List ℕ)) (w v u t s : List ℕ) → GoesOut a w b v t → GoesOut b v c u s → GoesOut a w c u (t ++ s)
goes_out_then a b c w v u t s h k = record {
  sent = h.sent ++ k.sent;
  in_order = sym (append_assoc w t s) ∙ ap (λ x. x ++ s) h.in_order ∙ append_assoc h.sent v s ∙ ap (λ x. h.sent ++ x) k.in_order ∙ sym (append_assoc h.sent k.sent u);
  taken = appends_then a b c h.sent k.sent h.taken k.taken;
}

-- if the buffer is empty before and after, the text was written
goes_out_whole : (a b : Option (List ℕ)) (v t : List ℕ) → v ≡ [] → GoesOut a [] b v t → Appends a b t
goes_out_whole a b v t none h = appends_same a b _ _ (sym (h.in_order ∙ ap (λ x. h.sent ++ x) none ∙ append-nil h.sent)) h.taken

-- a list is not empty if a part of it is not empty
longer_missing : (xs ys : List ℕ) → xs ≢ [] → xs ++ ys ≢ []
longer_missing [] ys h e = h refl
longer_missing (x ∷ xs) ys h e = cc

-- if only a part of a text was written, only a part of every longer text was written
cut_off_longer : (a b : Option (List ℕ)) (w s : List ℕ) → IsWritten (IsCutOff w) a b → IsWritten (IsCutOff (w ++ s)) a b
cut_off_longer a b w s k = (
  k.0,
  record {
    rest = k.1.rest ++ s;
    joined = ap (λ x. x ++ s) k.1.joined ∙ append_assoc k.0 k.1.rest s;
    missing = longer_missing k.1.rest s k.1.missing;
  },
  k.2,
)

-- if only a part of the second text was written, only a part of both together was written
cut_off_after : (a b c : Option (List ℕ)) (w v t s : List ℕ) → GoesOut a w b v t → IsWritten (IsCutOff (v ++ s)) b c → IsWritten (IsCutOff (w ++ (t ++ s))) a c
cut_off_after a b c w v t s h k = (
  h.sent ++ k.0,
  record {
    rest = k.1.rest;
    joined = sym (append_assoc w t s) ∙ ap (λ x. x ++ s) h.in_order ∙ append_assoc h.sent v s ∙ ap (λ x. h.sent ++ x) k.1.joined ∙ sym (append_assoc h.sent k.0 k.1.rest);
    missing = k.1.missing;
  },
  appends_then a b c h.sent k.0 h.taken k.2,
)

-- ## Two steps

pub same_then : {T : Type 0} (a b c : Output) (done : Unit {0}) (r : Result T DeviceFault) → SameSink {T = Unit {0}} (Ok done) a b → SameSink r b c → SameSink r a c
same_then a b c done r h k = record {
  failures = k.failures ∙ ap (λ n. failures_after n r) h.failures;
  place = k.place ∙ h.place;
  sink = k.sink ∙ h.sink;
}

goes_then : (a b c : Output) (t s : List ℕ) (r q : Answer) → b.answer ≡ r → c.answer ≡ q → Goes t a b → GoesBehind r s b c → Goes (t ++ s) a c
goes_then a b c t s (Ok done) (Ok end) is last h k =
    let first : GoesOut a.taken a.waits b.taken b.waits t = rw is at h.went in
    let next : GoesOut b.taken b.waits c.taken c.waits s = rw last at k.went in
    record {
      went = rw last (goes_out_then _ _ _ _ _ _ t s first next);
      same = same_then a b c done c.answer (subst (λ (r : Answer). SameSink r a b) is h.same) k.same;
    }
goes_then a b c t s (Ok done) (Err fault) is last h k =
    let first : GoesOut a.taken a.waits b.taken b.waits t = rw is at h.went in
    let next : IsWritten (IsCutOff (b.waits ++ s)) b.taken c.taken = rw last at k.went in
    record {
      went = rw last (cut_off_after _ _ _ _ _ t s first next);
      same = same_then a b c done c.answer (subst (λ (r : Answer). SameSink r a b) is h.same) k.same;
    }
goes_then a b c t s (Err fault) q is last h k =
    let first : IsWritten (IsCutOff (a.waits ++ t)) a.taken b.taken = rw is at h.went in
    rw k record {
      went = rw (is, ← append_assoc a.waits t s) (cut_off_longer _ _ (a.waits ++ t) s first);
      same = h.same;
    }

behind_then : (a b c : Output) (t s : List ℕ) (r : Answer) → a.answer ≡ r → GoesBehind r t a b → Puts s b c → GoesBehind r (t ++ s) a c
behind_then a b c t s (Ok done) is h k = goes_then a b c t s b.answer c.answer refl refl h k
behind_then a b c t s (Err fault) is h k =
    let still : b.answer ≡ Err fault = ap (λ (o : Output). o.answer) h ∙ is in
    let last : c ≡ b = subst (λ (r : Answer). GoesBehind r s b c) still k in
    last ∙ h

pub puts_then : (a b c : Output) (t s : List ℕ) → Puts t a b → Puts s b c → Puts (t ++ s) a c
puts_then a b c t s h k = behind_then a b c t s a.answer refl h k

behind_nothing : (a : Output) (r : Answer) → a.answer ≡ r → GoesBehind r [] a a
behind_nothing a (Ok done) is = record { went = rw is record { sent = []; in_order = append-nil _; taken = appends_nothing _ }; same = record { failures = rw is refl; place = refl; sink = refl } }
behind_nothing a (Err fault) is = refl

pub puts_nothing : (a : Output) → Puts [] a a
puts_nothing a = behind_nothing a a.answer refl

-- appending x and then y is the same as appending x ++ y
pub in_parts : (w v u x y : List ℕ) → v ≡ w ++ x → u ≡ v ++ y → u ≡ w ++ (x ++ y)
in_parts w v u x y h k = k ∙ ap (λ t. t ++ y) h ∙ append_assoc w x y

-- a text that is appended to the buffer was added to the output
behind_waits : (a : Output) (waits text : List ℕ) (r : Answer) → a.answer ≡ r → is_ok r ≡ true → waits ≡ a.waits ++ text → GoesBehind r text a (record a { waits = waits })
behind_waits a waits text (Ok done) is ok e = record {
  went = rw is record { sent = []; in_order = sym e; taken = appends_nothing _ };
  same = record { failures = rw is refl; place = refl; sink = refl };
}
behind_waits a waits text (Err fault) is ok e = cc

pub puts_waiting : (a : Output) (waits text : List ℕ) → is_ok a.answer ≡ true → waits ≡ a.waits ++ text → Puts text a (record a { waits = waits })
puts_waiting a waits text ok e = behind_waits a waits text a.answer refl ok e

-- an answer that is not a fault is Ok
pub no_fault : (r : Answer) → is_err r ≡ false → is_ok r ≡ true
no_fault (Ok done) h = refl
no_fault (Err fault) h = cc

pub a_fault : (r : Answer) → is_err r ≡ true → is_ok r ≡ false
a_fault (Ok done) h = cc
a_fault (Err fault) h = refl

-- if x and y are the same writer, a line that was appended through y was appended to x
pub behind_lent : (x y : MutBor (List ℕ)) (text line : List ℕ) → Some x ≡ Some y → text ≡ y.now ++ line → text ≡ x.now ++ line
behind_lent x y text line is e =
    let same : x ≡ y = cc in
    e ∙ ap (λ (w : MutBor (List ℕ)). w.now ++ line) (sym same)

-- after a failed write nothing changes
behind_fault : (a : Output) (text : List ℕ) (r : Answer) → a.answer ≡ r → is_ok r ≡ false → GoesBehind r text a a
behind_fault a text (Ok done) is failed = cc
behind_fault a text (Err fault) is failed = refl

pub puts_no_more : (a : Output) (text : List ℕ) → is_ok a.answer ≡ false → Puts text a a
puts_no_more a text failed = behind_fault a text a.answer refl failed

-- ## The lines of a show

pub lines_put : {S : Type 0} (f : S → Output) (a b : S) (lines : List (List ℕ)) → Takes (λ x y line. Puts (ended line) (f x) (f y)) a b lines → Puts (flat_map ended lines) (f a) (f b)
unfolding Takes
lines_put f a b [] h = subst (λ x. Puts [] (f a) (f x)) h (puts_nothing (f a))
lines_put f a b (line ∷ lines) h = puts_then (f a) (f h.0) (f b) (ended line) (flat_map ended lines) h.1 (lines_put f h.0 b lines h.2)

-- ## The buffer is written

-- writing the buffer, or a part of it, adds no new text
behind_sent : (a b : Output) (r q : Answer) → a.answer ≡ r → is_ok r ≡ true → b.answer ≡ q → b.waits ≡ [] → WrittenBy q a.waits a.taken b.taken → SameSink q a b → GoesBehind r [] a b
behind_sent a b (Ok done) (Ok end) is ok last none h k = record {
  went = rw last record { sent = a.waits; in_order = ap (λ x. a.waits ++ x) (sym none); taken = h };
  same = subst (λ (x : Answer). SameSink x a b) (sym last) k;
}
behind_sent a b (Ok done) (Err fault) is ok last none h k = record {
  went = rw last (cut_off_longer _ _ a.waits [] h);
  same = subst (λ (x : Answer). SameSink x a b) (sym last) k;
}
behind_sent a b (Err fault) q is ok last none h k = cc

pub flushed : (a b : Output) → is_ok a.answer ≡ true → b.waits ≡ [] → WrittenBy b.answer a.waits a.taken b.taken → SameSink b.answer a b → Flushes a b
flushed a b ok none h k = record { puts = behind_sent a b a.answer b.answer refl ok refl none h k; none = search (rules, none) }

-- A text that is added to an empty buffer, and then flushed, was written.
written : (a c : Output) (text : List ℕ) (r : Answer) → c.answer ≡ r → a.waits ≡ [] → Went r (text ++ []) a c → OnOk r (c.waits ≡ []) → WrittenBy r text a.taken c.taken
written a c text (Ok done) is none h end = goes_out_whole _ _ _ text end (rw (none, append-nil) at h)
written a c text (Err fault) is none h end = rw (none, append-nil) at h

pub text_written : (o a b c : Output) (text : List ℕ) → a ≡ begun o → Puts text a b → Flushes b c → Writes text c.answer o c
text_written o a b c text start h k =
    let all : Puts (text ++ []) (begun o) c = subst (λ (x : Output). Puts (text ++ []) x c) start (puts_then a b c text [] h k.puts) in
    record {
      written = written (begun o) c text c.answer refl refl all.went k.none;
      same = record { failures = all.same.failures; place = all.same.place; sink = all.same.sink };
    }

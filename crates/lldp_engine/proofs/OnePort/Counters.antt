-- The counters of the code match their definition after each LLDPDU, table event or mark.
use Rattle.std.proofs.Common.{◌≡◌, ℕ, ◌+◌, Bool, true, false, List, [], ◌∷◌, length, filter, refl, arith, suc}
use Rattle.std.specs.Prelude.{if◌then◌else◌}
use Rattle.std.specs.Int.{from_bool}
use Rattle.std.proofs.lemmas.List.Sums.{sum_by-cons}
use Rattle.lldp_pdu.specs.Msap.{MsapId}
use Rattle.lldp_pdu.specs.Lldpdu.{extent, ttl_of, msap_of}
use Rattle.lldp_pdu.specs.Kept.{kept_of, discarded_of, count_unrecognized}
use Rattle.lldp_table.specs.Events.{TableEvent, learned, forgot, purged, ticked, limit_set, aged_out}
use Rattle.lldp_transmit.specs.declared.event.Mark.{Mark}
use Rattle.lldp_transmit.specs.declared.event.Mark.TheVariants.{Quiet, Ordinary, Shutdown}
use Rattle.lldp_table.specs.declared.learned.Learned.{Learned}
use Rattle.lldp_table.specs.declared.learned.Learned.TheVariants.{New, Refreshed, Dropped}
use Rattle.lldp_engine.specs.Heard.{Heard, refused, leaves, tells}
use Rattle.lldp_engine.specs.Counters.{wrapped, is_dropped, all_aged_out, is_ordinary, is_shutdown, counters_of}
use Rattle.lldp_engine.specs.Code.Counting.{none_counted, with_received, with_refused, with_tlvs, with_answer, with_aged_out, with_mark}
use Rattle.std.proofs.lemmas.Grind.{common_steps}

-- Adding n to a counter counts n more, modulo 2^32.
counts : (all n : ℕ) → wrapped (wrapped all + n) ≡ wrapped (n + all)
counts all n = omega arith

-- Adding 1 to a counter counts one more, modulo 2^32.
counts_one : (all : ℕ) → wrapped (wrapped all + 1) ≡ wrapped (suc all)
counts_one all = omega arith

-- A counter that counts 0 more keeps its value.
counts_none : (all : ℕ) → wrapped all ≡ wrapped (0 + all)
counts_none all = omega arith

-- A counter rises by one exactly if the test is true.
counts_if : (b : Bool) (x : Heard) (xs : List Heard) → wrapped (wrapped (length xs) + from_bool b) ≡ wrapped (length (if b then x ∷ xs else xs))
counts_if true x xs = omega arith
counts_if false x xs = omega arith

pub counted_none : counters_of [] [] [] ≡ none_counted
unfolding counters_of
counted_none = refl

module _ (heard : List Heard) (events : List TableEvent) (marks : List Mark) where
  pub counted_refused : with_refused (with_received (counters_of heard events marks)) ≡ counters_of (refused ∷ heard) events marks
  unfolding counters_of
  counted_refused = grind (arith, common_steps, sum_by-cons, counts_one, filter, counts_none)

  pub counted_leaves : (msap : MsapId) → with_received (counters_of heard events marks) ≡ counters_of (leaves msap ∷ heard) (forgot msap ∷ events) marks
  unfolding counters_of
  counted_leaves msap = grind (arith, common_steps, sum_by-cons, counts_one, counts_none)

  -- an LLDPDU that was stored
  counted_stored : (pdu : List ℕ) (answer : Learned) → is_dropped (learned (msap_of pdu) (ttl_of pdu) (extent pdu) answer) ≡ false
      → with_tlvs (with_received (counters_of heard events marks)) (discarded_of pdu) (count_unrecognized (kept_of pdu)) ≡ counters_of (tells pdu ∷ heard) (learned (msap_of pdu) (ttl_of pdu) (extent pdu) answer ∷ events) marks
  unfolding counters_of
  counted_stored pdu answer d = grind (arith, common_steps, sum_by-cons, counts_one, counts_if, filter, counts, counts_none)

  -- an LLDPDU that was dropped
  counted_dropped : (pdu : List ℕ)
      → with_answer (with_tlvs (with_received (counters_of heard events marks)) (discarded_of pdu) (count_unrecognized (kept_of pdu))) Dropped ≡ counters_of (tells pdu ∷ heard) (learned (msap_of pdu) (ttl_of pdu) (extent pdu) Dropped ∷ events) marks
  unfolding counters_of
  counted_dropped pdu = grind (arith, common_steps, sum_by-cons, counts_one, filter, counts_if, counts, counts_none)

  pub counted_tells : (pdu : List ℕ) (answer : Learned)
      → with_answer (with_tlvs (with_received (counters_of heard events marks)) (discarded_of pdu) (count_unrecognized (kept_of pdu))) answer ≡ counters_of (tells pdu ∷ heard) (learned (msap_of pdu) (ttl_of pdu) (extent pdu) answer ∷ events) marks
  counted_tells pdu New = counted_stored pdu New refl
  counted_tells pdu Refreshed = counted_stored pdu Refreshed refl
  counted_tells pdu Dropped = counted_dropped pdu

  pub counted_second : (n : ℕ) → n ≡ aged_out events → with_aged_out (counters_of heard events marks) n ≡ counters_of heard (ticked ∷ events) marks
  unfolding counters_of
  counted_second n h = rw (h, counts (all_aged_out events) (aged_out events)) refl

  pub counted_purged : counters_of heard events marks ≡ counters_of heard (purged ∷ events) marks
  unfolding counters_of
  counted_purged = rw (← counts_none (all_aged_out events)) refl

  pub counted_limit : (limit : ℕ) → counters_of heard events marks ≡ counters_of heard (limit_set limit ∷ events) marks
  unfolding counters_of
  counted_limit limit = rw (← counts_none (all_aged_out events)) refl

  pub counted_mark : (mark : Mark) → with_mark (counters_of heard events marks) mark ≡ counters_of heard events (mark ∷ marks)
  unfolding counters_of
  counted_mark Quiet = refl
  counted_mark Ordinary = rw (counts_one (length (filter is_ordinary marks))) refl
  counted_mark Shutdown = rw (counts_one (length (filter is_shutdown marks))) refl

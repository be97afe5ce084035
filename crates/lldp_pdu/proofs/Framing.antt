-- `lldpdu_of` returns an LLDPDU exactly if the frame is the LLDP header fields and this LLDPDU.
use Rattle.std.proofs.Common.{◌≡◌, ℕ, ◌≤◌, true, leb, List, [], ◌∷◌, ◌++◌, length, Some, arith, Bool, ◌&&◌, take, drop, sym, ap, ◌∙◌, append_assoc}
use Rattle.std.proofs.lemmas.Bool.{le-leb, and_parts, leb-true}
use Rattle.lldp_pdu.specs.Frame.{nearest_bridge, lldp_ethertype, is_lldp_frame, lldpdu_of}
use Rattle.std.proofs.lemmas.Grind.{common_steps}
use Rattle.std.specs.List.{starts_with}
use Rattle.std.specs.Prelude.{nat_eq}
use Rattle.lldp_pdu.specs.Range.{is_between}
use Rattle.std.proofs.lemmas.List.{drop-drop, take-append-drop, length-take-le, length-drop}
use Rattle.std.proofs.lemmas.Option.{none-some}
use Rattle.std.proofs.lemmas.Slice.Eq.{starts_is}
use Rattle.lldp_pdu.specs.Laws.FrameForm.{HasForm}

framed : (a b c d e f : ℕ) (lldpdu : List ℕ) → length lldpdu ≤ 1500 → lldpdu_of (nearest_bridge ++ (a ∷ b ∷ c ∷ d ∷ e ∷ f ∷ []) ++ lldp_ethertype ++ lldpdu) ≡ Some lldpdu
unfolding is_lldp_frame
framed a b c d e f lldpdu h = grind (arith, common_steps, le-leb)

pub has_lldpdu : (source lldpdu : List ℕ) → length source ≡ 6 → length lldpdu ≤ 1500 → lldpdu_of (nearest_bridge ++ source ++ lldp_ethertype ++ lldpdu) ≡ Some lldpdu
has_lldpdu (a ∷ b ∷ c ∷ d ∷ e ∷ f ∷ []) lldpdu l h = framed a b c d e f lldpdu h
has_lldpdu other lldpdu l h = absurd (omega arith)

-- a frame of at least 14 octets has a source address of six octets
six_octets : (frame : List ℕ) → 14 ≤ length frame → length (take 6 (drop 6 frame)) ≡ 6
six_octets frame h = length-take-le 6 (drop 6 frame) (grind (arith, length-drop 6 frame))

joined : (frame : List ℕ) → starts_with nat_eq frame nearest_bridge ≡ true → starts_with nat_eq (drop 12 frame) lldp_ethertype ≡ true
    → frame ≡ nearest_bridge ++ (take 6 (drop 6 frame) ++ (lldp_ethertype ++ drop 14 frame))
joined frame a t = grind (arith, common_steps, starts_is, take-append-drop, drop-drop)

three : (a b c : Bool) → (a && b && c) ≡ true → (a ≡ true) × (b ≡ true) × (c ≡ true)
three a b c h = let one = and_parts (a && b) c h in let two = and_parts a b one.0 in (two.0, two.1, one.1)

form : (frame : List ℕ) → is_lldp_frame frame ≡ true → HasForm frame (drop 14 frame)
unfolding is_lldp_frame
form frame h =
    let each = three (is_between 14 (length frame) 1514) (starts_with nat_eq frame nearest_bridge) (starts_with nat_eq (drop 12 frame) lldp_ethertype) h in
    let size = and_parts (leb 14 (length frame)) (leb (length frame) 1514) each.0 in
    let most = leb-true (length frame) 1514 size.1 in
    record {
      source = take 6 (drop 6 frame);
      six = six_octets frame (leb-true 14 (length frame) size.0);
      most = grind (arith, length-drop 14 frame, most);
      octets = joined frame each.1 each.2;
    }

-- if a frame has an LLDPDU, `HasForm` holds
pub has_form : (frame lldpdu : List ℕ) → lldpdu_of frame ≡ Some lldpdu → HasForm frame lldpdu
has_form frame lldpdu h = grind (arith, common_steps, form, none-some)

-- if `HasForm` holds, the frame has that LLDPDU
pub of_form : (frame lldpdu : List ℕ) → HasForm frame lldpdu → lldpdu_of frame ≡ Some lldpdu
of_form frame lldpdu f =
    ap lldpdu_of (f.octets ∙ sym (append_assoc (nearest_bridge ++ f.source) lldp_ethertype lldpdu))
    ∙ has_lldpdu f.source lldpdu f.six f.most

-- A body that is read in parts.
use Rattle.std.proofs.Common.{◌≡◌, ℕ, ◌+◌, List, [], ◌∷◌, ◌++◌, length, Some, Result, Ok, Err, IfOk, Vec, refl, sym, ap, subst, arith, append_assoc, append-nil, length-append}
use Rattle.std.specs.declared.alloc.Global.{Global}
use Rattle.relay_disk.specs.declared.disks.Side.{Side}
use Rattle.relay_disk.specs.Disks.{Images, mine}
use Rattle.relay_spool.specs.Blocks.{Lies}
use Rattle.relay_spool.specs.Cursor.{HasReadOne}
use Rattle.relay_spool.specs.Part.{BeginsGate, HasPart, HasPartOne, LeadsTo, WholeIsRead}
use Rattle.relay_spool.proofs.ChainLemmas.{front_more, lies_on}
use Rattle.relay_spool.proofs.ImageLemmas.{size_of-push}

-- nothing of the body was read yet
pub begins : (image : List ℕ) (total from to left : ℕ) (bodies : List (List ℕ)) → HasReadOne image from bodies → BeginsGate image from to (Some left)
    → LeadsTo total from to (Some left) → HasPartOne image to left bodies []
begins image total from to left bodies has gate leads =
    let way = leads.0 in
    let number = gate.2 in
    record {
      gate = from;
      before = has;
      size = gate.0;
      width = gate.1;
      number = omega (arith, number);
      place_is = omega (arith, way);
      lies = subst (λ (octets : List ℕ). Lies image from to (1 ∷ octets)) (sym (append-nil gate.0)) gate.3;
    }

-- more of it was read
pub part_more : (image : List ℕ) (from to count left : ℕ) (bodies : List (List ℕ)) (part octets : List ℕ) → HasPartOne image from (count + left) bodies part
    → Lies image from to octets → to ≡ from + count → length octets ≡ count → HasPartOne image to left bodies (part ++ octets)
part_more image from to count left bodies part octets has lies way long =
    let longer = length-append part octets in
    let number = has.number in
    let place = has.place_is in
    record {
      gate = has.gate;
      before = has.before;
      size = has.size;
      width = has.width;
      number = omega (arith, number, longer, long);
      place_is = omega (arith, place, way, longer, long);
      lies = subst (λ (l : List ℕ). Lies image has.gate to (1 ∷ l)) (append_assoc has.size part octets)
          (lies_on image has.gate from to (1 ∷ (has.size ++ part)) octets has.lies lies);
    }

-- the same of two disks, one of which was brought to the front
pub part_on : {E : Type 0} (result : Result (Vec ℕ Global) E) (seen : List ℕ) (images : Images) (side : Side) (from to count left : ℕ) (bodies : List (List ℕ)) (part : List ℕ)
    → seen ≡ mine side images → HasPart images side from (count + left) bodies part
    → (HasPartOne seen from (count + left) bodies part → IfOk result (λ octets. HasPartOne seen to left bodies (part ++ octets.items)))
    → IfOk result (λ octets. HasPart images side to left bodies (part ++ octets.items))
part_on (Err fault) seen images side from to count left bodies part same has more = tt
part_on (Ok octets) seen images side from to count left bodies part same has more = record {
  is_taken = has.is_taken;
  has = subst (λ (image : List ℕ). HasPartOne image to left bodies (part ++ octets.items)) same
      (more (subst (λ (image : List ℕ). HasPartOne image from (count + left) bodies part) (sym same) has.has));
}

-- all of it was read
whole : (image : List ℕ) (place : ℕ) (bodies : List (List ℕ)) (body : List ℕ) → HasPartOne image place 0 bodies body → HasReadOne image place (bodies ++ body ∷ [])
whole image place bodies body has =
    let more = size_of-push bodies body in
    let at = has.before.place_is in
    let way = has.place_is in
    let number = has.number in
    record {
      front = front_more image (1 ∷ (has.size ++ body)) body has.gate place bodies has.before.front
          (record { size = has.size; width = has.width; number = omega (arith, number); text = refl }) has.lies;
      place_is = omega (arith, more, at, way);
    }

pub whole_is_read : WholeIsRead
whole_is_read images side place bodies body has = record { is_taken = has.is_taken; has = whole (mine side images) place bodies body has.has }

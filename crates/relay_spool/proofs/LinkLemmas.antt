-- What a stop leaves while links are added: their octets are written after the closed gate, and then that gate is opened.
use Rattle.std.proofs.Common.{◌≡◌, ◌≢◌, ℕ, suc, ◌+◌, ◌<◌, ◌≤◌, min, List, [], ◌∷◌, ◌++◌, length, take, drop, slice_index, refl, sym, ap, ◌∙◌, inl, inr, ⊎_elim, arith, append_assoc, length-append, length-take, get_or-take}
use Rattle.std.proofs.lemmas.List.{take_at, drop_at, take-take, get_or_at}
use Rattle.std.proofs.lemmas.Bool.{cases_eq}
use Rattle.relay_disk.specs.Device.{DiskWords, written, Writes, WritesLeaveTheRest}
use Rattle.relay_spool.specs.Image.{IsFront, IsImageOf, HasBodies, size_of}
use Rattle.relay_spool.specs.Run.{AtEachMoment}
use Rattle.relay_spool.specs.Spool.{IsBeforeOrWithAll}
use Rattle.relay_spool.specs.Head.{KeepsHead}
use Rattle.relay_spool.proofs.HeadLemmas.{writes_keep_head}
use Rattle.relay_spool.proofs.RunLemmas.{joined, weakened}
use Rattle.relay_spool.proofs.ImageLemmas.{AreAfter, length-front, with_front, with_links}

-- where the last gate of an image stands
pub record Gate (image : List ℕ) (bodies : List (List ℕ)) (place : ℕ) : Type 0 where
  pub front : List ℕ
  pub is_front : IsFront front bodies
  pub within : place < length image
  pub same : take place image ≡ front
  pub closed : slice_index image place ≢ 1

pub gate_of : (image : List ℕ) (bodies : List (List ℕ)) (place : ℕ) → place + 1 ≡ size_of bodies → IsImageOf image bodies → Gate image bodies place
gate_of image bodies place at is =
    let size = length-front is.front bodies is.is_front in
    let here : length is.front ≡ place = omega (arith, size, at) in
    let all : length image ≡ length is.front + suc (length is.after) = ap length is.text ∙ length-append is.front (is.gate ∷ is.after) in
    record {
      front = is.front;
      is_front = is.is_front;
      within = omega (arith, here, all);
      same = ap (λ (xs : List ℕ). take place xs) is.text ∙ take_at is.front (is.gate ∷ is.after) place here;
      closed = λ e. is.closed (sym (get_or_at is.front is.gate is.after 0 place here) ∙ sym (ap (λ (xs : List ℕ). slice_index xs place) is.text) ∙ e);
    }

-- what an image keeps up to a place, it keeps before
take_less : (place : ℕ) (xs ys : List ℕ) → take (place + 1) xs ≡ take (place + 1) ys → take place xs ≡ take place ys
take_less place xs ys same =
    sym (take-take place (place + 1) xs (omega arith)) ∙ ap (λ (zs : List ℕ). take place zs) same ∙ take-take place (place + 1) ys (omega arith)

index_less : (place : ℕ) (xs ys : List ℕ) → take (place + 1) xs ≡ take (place + 1) ys → slice_index xs place ≡ slice_index ys place
index_less place xs ys same =
    sym (get_or-take (place + 1) xs place 0 (omega arith)) ∙ ap (λ (zs : List ℕ). slice_index zs place) same ∙ get_or-take (place + 1) ys place 0 (omega arith)

-- an image that is the same up to the closed gate has the same bodies
pub same_gate : (image other : List ℕ) (bodies : List (List ℕ)) (place : ℕ) → Gate image bodies place → place < length other
    → take (place + 1) other ≡ take (place + 1) image → IsImageOf other bodies
same_gate image other bodies place gate within same =
    with_front gate.front bodies other place gate.is_front within (take_less place other image same ∙ gate.same)
    (λ e. gate.closed (sym (index_less place other image same) ∙ e))

-- Written after the closed gate: whatever a stop leaves of it, the bodies are the same.
pub after_the_gate : WritesLeaveTheRest → (image other : List ℕ) (bodies : List (List ℕ)) (place count : ℕ) → Gate image bodies place
    → Writes (place + 1) count image other → IsImageOf other bodies
after_the_gate law image other bodies place count gate writes =
    let within = gate.within in
    let longer = writes.no_shorter in
    let front = (law (place + 1) count image other writes).0 in
    let least : min (place + 1) (length image) ≡ place + 1 = omega arith in
    same_gate image other bodies place gate (omega (arith, within, longer)) (ap (λ (n : ℕ). take n other) (sym least) ∙ front)

-- an image with a tail after its closed gate
pub record Ready (image : List ℕ) (bodies : List (List ℕ)) (place : ℕ) (tail : List ℕ) : Type 0 where
  pub gate : Gate image bodies place
  pub rest : List ℕ
  pub after : drop (place + 1) image ≡ tail ++ rest

pub length-written : (image : List ℕ) (place : ℕ) (octets : List ℕ) → place ≤ length image → place + length octets ≤ length (written image place octets)
length-written image place octets within =
    let begin = length-take place image in
    let front = length-append (take place image) octets in
    let all = length-append (take place image ++ octets) (drop (place + length octets) image) in
    omega (arith, begin, front, all, within)

pub take-written : (image : List ℕ) (place : ℕ) (octets : List ℕ) → place ≤ length image → take place (written image place octets) ≡ take place image
take-written image place octets within =
    let begin = length-take place image in
    ap (λ (xs : List ℕ). take place xs) (append_assoc (take place image) octets (drop (place + length octets) image))
    ∙ take_at (take place image) (octets ++ drop (place + length octets) image) place (omega (arith, begin, within))

pub drop-written : (image : List ℕ) (place : ℕ) (octets : List ℕ) → place ≤ length image → drop place (written image place octets) ≡ octets ++ drop (place + length octets) image
drop-written image place octets within =
    let begin = length-take place image in
    ap (λ (xs : List ℕ). drop place xs) (append_assoc (take place image) octets (drop (place + length octets) image))
    ∙ drop_at (take place image) (octets ++ drop (place + length octets) image) place (omega (arith, begin, within))

pub ready_of : (image : List ℕ) (bodies : List (List ℕ)) (place : ℕ) (tail : List ℕ) → Gate image bodies place → Ready (written image (place + 1) tail) bodies place tail
ready_of image bodies place tail gate =
    let within = gate.within in
    let low : place + 1 ≤ length image = omega (arith, within) in
    let long = length-written image (place + 1) tail low in
    let same = take-written image (place + 1) tail low in
    record {
      gate = record {
        front = gate.front;
        is_front = gate.is_front;
        within = omega (arith, long);
        same = take_less place (written image (place + 1) tail) image same ∙ gate.same;
        closed = λ e. gate.closed (sym (index_less place (written image (place + 1) tail) image same) ∙ e);
      };
      rest = drop (place + 1 + length tail) image;
      after = drop-written image (place + 1) tail low;
    }

-- The gate written: whatever a stop leaves there, the bodies are the same, or with all of these.
pub at_the_gate : WritesLeaveTheRest → (image other : List ℕ) (bodies more : List (List ℕ)) (place : ℕ) (tail : List ℕ) → Ready image bodies place tail → AreAfter tail more
    → Writes place 1 image other → HasBodies (IsBeforeOrWithAll bodies more) other
at_the_gate law image other bodies more place tail ready are writes =
    let gate = ready.gate in
    let within = gate.within in
    let longer = writes.no_shorter in
    let here : place < length other = omega (arith, within, longer) in
    let rests = law place 1 image other writes in
    let least : min place (length image) ≡ place = omega (arith, within) in
    let front : take place other ≡ gate.front = ap (λ (n : ℕ). take n other) (sym least) ∙ rests.0 ∙ gate.same in
    ⊎_elim
    (λ opens. (bodies ++ more, with_links gate.front tail ready.rest bodies more other place gate.is_front are here front opens (rests.1 ∙ ready.after), inr refl))
    (λ closed. (bodies, with_front gate.front bodies other place gate.is_front here front closed, inl refl))
    (cases_eq (slice_index other place) 1)

opens_at : (image : List ℕ) (place : ℕ) → place ≤ length image → slice_index (written image place (1 ∷ [])) place ≡ 1
opens_at image place low =
    let begin = length-take place image in
    ap (λ (xs : List ℕ). slice_index xs place) (append_assoc (take place image) (1 ∷ []) (drop (place + 1) image))
    ∙ get_or_at (take place image) 1 (drop (place + 1) image) 0 place (omega (arith, begin, low))

after_at : (image : List ℕ) (place : ℕ) → place ≤ length image → drop (place + 1) (written image place (1 ∷ [])) ≡ drop (place + 1) image
after_at image place low =
    let begin = length-take place image in
    let front = length-append (take place image) (1 ∷ []) in
    drop_at (take place image ++ 1 ∷ []) (drop (place + 1) image) (place + 1) (omega (arith, begin, front, low))

-- the gate open
pub opened : (image : List ℕ) (bodies more : List (List ℕ)) (place : ℕ) (tail : List ℕ) → Ready image bodies place tail → AreAfter tail more
    → IsImageOf (written image place (1 ∷ [])) (bodies ++ more)
opened image bodies more place tail ready are =
    let gate = ready.gate in
    let within = gate.within in
    let low : place ≤ length image = omega (arith, within) in
    let other = written image place (1 ∷ []) in
    let long = length-written image place (1 ∷ []) low in
    with_links gate.front tail ready.rest bodies more other place gate.is_front are (omega (arith, long))
    (take-written image place (1 ∷ []) low ∙ gate.same)
    (opens_at image place low)
    (after_at image place low ∙ ready.after)

module _ {D : Type 0} (words : DiskWords D) where
  -- while the tail is written
  pub tail_run : WritesLeaveTheRest → (old new : D) (image : List ℕ) (bodies more : List (List ℕ)) (place count : ℕ) → Gate image bodies place
      → AtEachMoment words old new (Writes (place + 1) count image)
      → AtEachMoment words old new (HasBodies (IsBeforeOrWithAll bodies more))
  tail_run law old new image bodies more place count gate =
      weakened words old new (Writes (place + 1) count image) (HasBodies (IsBeforeOrWithAll bodies more))
      (λ other writes. (bodies, after_the_gate law image other bodies place count gate writes, inl refl))

  -- while the gate is written
  pub gate_run : WritesLeaveTheRest → (old new : D) (image : List ℕ) (bodies more : List (List ℕ)) (place : ℕ) (tail : List ℕ) → Ready image bodies place tail → AreAfter tail more
      → AtEachMoment words old new (Writes place 1 image)
      → AtEachMoment words old new (HasBodies (IsBeforeOrWithAll bodies more))
  gate_run law old new image bodies more place tail ready are =
      weakened words old new (Writes place 1 image) (HasBodies (IsBeforeOrWithAll bodies more))
      (λ other writes. at_the_gate law image other bodies more place tail ready are writes)

  -- a write after the head keeps it
  pub head_run : WritesLeaveTheRest → (old new : D) (image : List ℕ) (place count : ℕ) → 17 ≤ place → 17 ≤ length image
      → AtEachMoment words old new (Writes place count image) → AtEachMoment words old new (KeepsHead image)
  head_run law old new image place count low long =
      weakened words old new (Writes place count image) (KeepsHead image) (λ other writes. writes_keep_head law image other place count low long writes)

  -- and so does another one after it
  pub head_runs : WritesLeaveTheRest → (old mid new : D) (place count : ℕ) → 17 ≤ place → place < length (words.seen old) → words.may_leave mid (words.seen mid)
      → AtEachMoment words old mid (Writes (place + 1) count (words.seen old)) → AtEachMoment words mid new (Writes place 1 (words.seen mid))
      → AtEachMoment words old new (KeepsHead (words.seen old))
  head_runs law old mid new place count low within sees one two =
      let longer = (one.now (words.seen mid) sees).no_shorter in
      let first = head_run law old mid (words.seen old) (place + 1) count (omega (arith, low)) (omega (arith, low, within)) one in
      let same = first.now (words.seen mid) sees in
      joined words old mid new (KeepsHead (words.seen old)) first
      (weakened words mid new (KeepsHead (words.seen mid)) (KeepsHead (words.seen old)) (λ other keeps. keeps ∙ same)
      (head_run law mid new (words.seen mid) place 1 low (omega (arith, low, within, longer)) two))

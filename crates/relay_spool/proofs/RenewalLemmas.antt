-- What a stop leaves of a disk that is written anew, and which of two disks is taken then.
use Rattle.std.proofs.Common.{◌≡◌, ◌≢◌, ◌⊎◌, ℕ, suc, ◌<◌, ◌≤◌, min, List, [], ◌∷◌, ◌++◌, length, take, drop, slice_index, refl, sym, subst, ap, ◌∙◌, inl, inr, ⊎_elim, arith, append_assoc, append-nil, length-append, length-take, take_at, take-take, drop_of_length-le, get_or-take}
use Rattle.std.proofs.lemmas.Bool.{cases_eq}
use Rattle.relay_disk.specs.Device.{DiskWords, AddsNoImage, IsSettled, Steps, written, Writes, Cuts, WritesLeaveTheRest}
use Rattle.relay_spool.specs.Image.{signature, IsImageOf}
use Rattle.relay_spool.specs.Run.{AtEachMoment}
use Rattle.relay_spool.proofs.RunLemmas.{OnlyNow, started, goes_on, joined, weakened}
use Rattle.relay_spool.specs.Head.{generation_in, generation_of, HasOpenHead, IsRenewal, HasHeadGate, IsFilled, IsNotOpen, IsClosedOr, IsOldOrNew, renewed}
use Rattle.relay_spool.proofs.ImageLemmas.{cut_at, zero_is_not_one}
use Rattle.relay_spool.proofs.LinkLemmas.{take-written, drop-written, length-written}

-- an image of which the head gate alone was written, and stands open
pub opened_head : WritesLeaveTheRest → (image other : List ℕ) → 9 ≤ length image → Writes 8 1 image other → slice_index other 8 ≡ 1
    → other ≡ take 8 image ++ 1 ∷ drop 9 image
opened_head law image other long writes opens =
    let rests = law 8 1 image other writes in
    let longer = writes.no_shorter in
    let least : min 8 (length image) ≡ 8 = omega (arith, long) in
    cut_at other 8 (omega (arith, long, longer))
    ∙ ap (λ (xs : List ℕ). xs ++ slice_index other 8 ∷ drop 9 other) (ap (λ (n : ℕ). take n other) (sym least) ∙ rests.0)
    ∙ ap (λ (gate : ℕ). take 8 image ++ gate ∷ drop 9 other) opens
    ∙ ap (λ (xs : List ℕ). take 8 image ++ 1 ∷ xs) rests.1

-- An open head gate written: it isn't open, or nothing has changed.
closing : WritesLeaveTheRest → (image other : List ℕ) → 9 ≤ length image → slice_index image 8 ≡ 1 → Writes 8 1 image other → slice_index other 8 ≡ 1
    → other ≡ image
closing law image other long was writes opens =
    opened_head law image other long writes opens
    ∙ ap (λ (gate : ℕ). take 8 image ++ gate ∷ drop 9 image) (sym was)
    ∙ sym (cut_at image 8 (omega (arith, long)))

pub closed_or_same : WritesLeaveTheRest → (image other : List ℕ) → 9 ≤ length image → slice_index image 8 ≡ 1 → Writes 8 1 image other
    → IsNotOpen other ⊎ (other ≡ image)
closed_or_same law image other long was writes =
    ⊎_elim
    (λ opens. inr (closing law image other long was writes opens))
    (λ closed. inl (λ is. closed is.gate))
    (cases_eq (slice_index other 8) 1)

-- a head gate that isn't open
pub record HasClosedGate (image : List ℕ) : Type 0 where
  pub long : 9 ≤ length image
  pub closed : slice_index image 8 ≢ 1

pub not_open : (image : List ℕ) → HasClosedGate image → IsNotOpen image
not_open image has = λ is. has.closed is.gate

-- a cut after it opens none
pub cutting : (size : ℕ) → 9 ≤ size → (image other : List ℕ) → HasClosedGate image → Cuts size image other → HasClosedGate other
cutting size after image other has cuts =
    let long = has.long in
    let least = cuts.no_shorter in
    record { long = omega (arith, after, long, least); closed = λ e. has.closed (sym (cuts.stays 8 (omega (arith, after, long, least))) ∙ e) }

-- nor does a write after it
pub filling : (image other : List ℕ) (count : ℕ) → HasClosedGate image → Writes 9 count image other → HasClosedGate other
filling image other count has writes =
    let long = has.long in
    let longer = writes.no_shorter in
    record { long = omega (arith, long, longer); closed = λ e. has.closed (sym (writes.stays 8 (omega (arith, long)) (inl (omega arith))) ∙ e) }

pub take_less : (n m : ℕ) (xs ys : List ℕ) → n ≤ m → take m xs ≡ take m ys → take n xs ≡ take n ys
take_less n m xs ys few same = sym (take-take n m xs few) ∙ ap (λ (zs : List ℕ). take n zs) same ∙ take-take n m ys few

pub index_less : (n m : ℕ) (xs ys : List ℕ) → n < m → take m xs ≡ take m ys → slice_index xs n ≡ slice_index ys n
index_less n m xs ys few same = sym (get_or-take m xs n 0 few) ∙ ap (λ (zs : List ℕ). slice_index zs n) same ∙ get_or-take m ys n 0 few

filled_cut : (image octets : List ℕ) → HasHeadGate image → slice_index image 8 ≢ 1 → IsFilled (written (take 9 image) 9 octets) octets
filled_cut image octets has closed =
    let enough = has.long in
    let all = length-take 9 image in
    let cut_long : length (take 9 image) ≡ 9 = omega (arith, all, enough) in
    let low : 9 ≤ length (take 9 image) = omega (arith, cut_long) in
    let more = length-written (take 9 image) 9 octets low in
    let nine : take 9 (written (take 9 image) 9 octets) ≡ take 9 image = take-written (take 9 image) 9 octets low ∙ take-take 9 9 image (omega arith) in
    record {
      long = omega (arith, more);
      signed = take_less 8 9 (written (take 9 image) 9 octets) image (omega arith) nine ∙ has.signed;
      closed = λ e. closed (sym (index_less 8 9 (written (take 9 image) 9 octets) image (omega arith) nine) ∙ e);
      after = drop-written (take 9 image) 9 octets low
          ∙ ap (λ (xs : List ℕ). octets ++ xs) (drop_of_length-le (take 9 image) (omega (arith, cut_long)))
          ∙ append-nil octets;
    }

pub filled : (image cut new octets : List ℕ) → HasHeadGate image → slice_index image 8 ≢ 1 → cut ≡ take 9 image → new ≡ written cut 9 octets → IsFilled new octets
filled image cut new octets has closed cut_is new_is =
    subst (λ (xs : List ℕ). IsFilled xs octets) (sym (new_is ∙ ap (λ (xs : List ℕ). written xs 9 octets) cut_is)) (filled_cut image octets has closed)

-- Its gate written: it isn't open, or is the new image.
opening : WritesLeaveTheRest → (image other octets : List ℕ) → IsFilled image octets → Writes 8 1 image other → slice_index other 8 ≡ 1 → other ≡ renewed octets
opening law image other octets is writes opens =
    opened_head law image other is.long writes opens
    ∙ ap (λ (xs : List ℕ). xs ++ 1 ∷ drop 9 image) is.signed
    ∙ ap (λ (xs : List ℕ). signature ++ 1 ∷ xs) is.after

pub closed_or_new : WritesLeaveTheRest → (image other octets : List ℕ) → IsFilled image octets → Writes 8 1 image other → IsClosedOr (renewed octets) other
closed_or_new law image other octets is writes =
    ⊎_elim
    (λ opens. inr (opening law image other octets is writes opens))
    (λ closed. inl (λ has. closed has.gate))
    (cases_eq (slice_index other 8) 1)

-- the new image has the one body
tail_is : (number size body octets link : List ℕ) → octets ≡ number ++ link → link ≡ 1 ∷ (size ++ body ++ 0 ∷ [])
    → renewed octets ≡ (signature ++ 1 ∷ number) ++ (1 ∷ (size ++ body)) ++ 0 ∷ []
tail_is number size body octets link is link_is =
    ap (λ (xs : List ℕ). signature ++ 1 ∷ xs) (is ∙ ap (λ (xs : List ℕ). number ++ xs) link_is)
    ∙ ap (λ (xs : List ℕ). signature ++ 1 ∷ xs) (sym (append_assoc number (1 ∷ (size ++ body)) (0 ∷ [])))

pub renewed_has : (octets body : List ℕ) (generation : ℕ) → IsRenewal octets generation body → IsImageOf (renewed octets) (body ∷ [])
renewed_has octets body generation is =
    let link = is.is_addition in
    record {
      front = (signature ++ 1 ∷ is.number) ++ (1 ∷ (link.size ++ body));
      gate = 0;
      after = [];
      is_front = record {
        head = signature ++ 1 ∷ is.number;
        chain = 1 ∷ (link.size ++ body);
        is_head = record { generation = is.number; width = is.width; text = refl };
        is_chain = (1 ∷ (link.size ++ body), [], record { size = link.size; width = link.width; number = link.number; text = refl }, refl, sym (append-nil (1 ∷ (link.size ++ body))));
        text = refl;
      };
      closed = λ e. absurd (zero_is_not_one e);
      text = tail_is is.number link.size body octets is.link is.text link.text;
    }

-- its head is open, and it has the generation
pub renewed_open : (octets body : List ℕ) (generation : ℕ) → IsRenewal octets generation body → HasOpenHead (renewed octets)
renewed_open octets body generation is =
    let all = ap length is.text ∙ length-append is.number is.link in
    let link : length is.link ≡ suc (length (is.is_addition.size ++ body ++ 0 ∷ [])) = ap length is.is_addition.text in
    let width = is.width in
    record { long = omega (arith, all, link, width); signed = refl; gate = refl }

pub renewed_generation : (octets body : List ℕ) (generation : ℕ) → IsRenewal octets generation body → generation_of (renewed octets) ≡ generation
renewed_generation octets body generation is =
    ap (λ (xs : List ℕ). generation_in (take 8 xs)) is.text
    ∙ ap (λ (xs : List ℕ). generation_in xs) (take_at is.number is.link 8 is.width)
    ∙ is.number_is

module _ {D : Type 0} (words : DiskWords D) where
  -- a run with P, and one call more that keeps P
  pub stepped : (old mid new : D) (P : List ℕ → Type 0) (step : List ℕ → List ℕ → Type 0) → ((before image : List ℕ) → P before → step before image → P image)
      → AtEachMoment words old mid P → Steps words step mid new → AtEachMoment words old new P
  stepped old mid new P step keeps run steps =
      goes_on words old mid new P run steps.time
      (λ image left. let before = steps.images image left in keeps before.0 image (run.now before.0 before.1) before.2)

  pub still : (old mid new : D) (P : List ℕ → Type 0) → AtEachMoment words old mid P → AddsNoImage words mid new → AtEachMoment words old new P
  still old mid new P run stays = goes_on words old mid new P run stays.time (λ image left. run.now image (stays.images image left))

  -- a disk that is cut after its closed gate, and filled
  cut_run : (old mid : D) → OnlyNow words old → IsSettled words old → HasClosedGate (words.seen old) → Steps words (Cuts 9) old mid
      → AtEachMoment words old mid HasClosedGate
  cut_run old mid now only has steps =
      stepped old old mid HasClosedGate (Cuts 9) (cutting 9 (omega arith))
      (started words old HasClosedGate now (λ image left. subst HasClosedGate (sym (only image left)) has)) steps

  pub cut_short : (old new : D) → OnlyNow words old → IsSettled words old → HasClosedGate (words.seen old) → Steps words (Cuts 9) old new
      → AtEachMoment words old new IsNotOpen
  cut_short old new now only has cuts = weakened words old new HasClosedGate IsNotOpen not_open (cut_run old new now only has cuts)

  pub fill_run : (old cut new : D) (count : ℕ) → OnlyNow words old → IsSettled words old → HasClosedGate (words.seen old) → Steps words (Cuts 9) old cut
      → Steps words (Writes 9 count) cut new → AtEachMoment words old new IsNotOpen
  fill_run old cut new count now only has cuts writes =
      weakened words old new HasClosedGate IsNotOpen not_open
      (stepped old cut new HasClosedGate (Writes 9 count) (λ before image. filling before image count) (cut_run old cut now only has cuts) writes)

  pub sync_run : (old mid new : D) → AtEachMoment words old mid IsNotOpen → AddsNoImage words mid new → AtEachMoment words old new IsNotOpen
  sync_run old mid new run stays = still old mid new IsNotOpen run stays

  -- the gate after it
  pub open_run : WritesLeaveTheRest → (old mid new : D) (octets : List ℕ) → IsFilled (words.seen mid) octets → AtEachMoment words old mid IsNotOpen
      → AtEachMoment words mid new (Writes 8 1 (words.seen mid)) → AtEachMoment words old new (IsClosedOr (renewed octets))
  open_run law old mid new octets is run gate =
      joined words old mid new (IsClosedOr (renewed octets))
      (weakened words old mid IsNotOpen (IsClosedOr (renewed octets)) (λ image closed. inl closed) run)
      (weakened words mid new (Writes 8 1 (words.seen mid)) (IsClosedOr (renewed octets)) (λ image writes. closed_or_new law (words.seen mid) image octets is writes) gate)

  pub close_run : WritesLeaveTheRest → (old new : D) → HasHeadGate (words.seen old) → slice_index (words.seen old) 8 ≡ 1
      → AtEachMoment words old new (Writes 8 1 (words.seen old)) → AtEachMoment words old new (IsClosedOr (words.seen old))
  close_run law old new has was run =
      weakened words old new (Writes 8 1 (words.seen old)) (IsClosedOr (words.seen old))
      (λ image writes. closed_or_same law (words.seen old) image has.long was writes) run

  -- both
  pub closing_run : (old mid : D) (octets : List ℕ) → AtEachMoment words old mid (IsClosedOr (words.seen old))
      → AtEachMoment words old mid (IsOldOrNew (words.seen old) (renewed octets))
  closing_run old mid octets run =
      weakened words old mid (IsClosedOr (words.seen old)) (IsOldOrNew (words.seen old) (renewed octets))
      (λ image. ⊎_elim (λ closed. inr (inl closed)) (λ same. inl same)) run

  pub renewal_run : (old new : D) (octets : List ℕ) → AtEachMoment words old new (IsClosedOr (renewed octets))
      → AtEachMoment words old new (IsOldOrNew (words.seen old) (renewed octets))
  renewal_run old new octets run =
      weakened words old new (IsClosedOr (renewed octets)) (IsOldOrNew (words.seen old) (renewed octets)) (λ image is. inr is) run

  pub both_runs : (old mid new : D) (octets : List ℕ) → AtEachMoment words old mid (IsClosedOr (words.seen old))
      → AtEachMoment words mid new (IsClosedOr (renewed octets)) → AtEachMoment words old new (IsOldOrNew (words.seen old) (renewed octets))
  both_runs old mid new octets one two =
      joined words old mid new (IsOldOrNew (words.seen old) (renewed octets)) (closing_run old mid octets one)
      (weakened words mid new (IsClosedOr (renewed octets)) (IsOldOrNew (words.seen old) (renewed octets)) (λ image is. inr is) two)

-- The images of two disks: which is taken, and what a stop leaves of both.
use Rattle.std.proofs.Common.{◌≡◌, ℕ, ◌+◌, ◌<◌, List, [], ◌∷◌, take, Option, refl, sym, subst, ap, ◌∙◌, inl, inr, ⊎_elim, arith}
use Rattle.std.proofs.lemmas.Bool.{cases_lt}
use Rattle.relay_disk.specs.declared.disks.Disks.{Disks}
use Rattle.relay_disk.specs.declared.disks.Side.{Side}
use Rattle.relay_disk.specs.declared.disks.Side.TheVariants.{First, Second}
use Rattle.relay_disk.specs.Device.{DiskWords, IsSettled}
use Rattle.relay_disk.specs.Disks.{Images, mine, other, seen_of, turned}
use Rattle.relay_spool.specs.declared.taken.HeadGate.{HeadGate}
use Rattle.relay_spool.specs.Image.{IsDamagedAt as IsDiskDamagedAt, IsImageOf as IsDiskImageOf, HasBodies as HasDiskBodies, Reading}
use Rattle.relay_spool.specs.Image.Reading.{Bodies, NoSpool, DamagedAt}
use Rattle.relay_spool.specs.Head.{HasOpenHead, IsGateOf, IsOldOrNew, IsRenewal, KeepsHead, generation_of, renewed}
use Rattle.relay_spool.specs.Pair.{Describes, EachReads, HasBodies, HasNoBody, IsNewer, IsNoSpool, IsTaken, OneListOfBodies, OneReading, Reads, renewed_taken}
use Rattle.relay_spool.specs.Run.{AtEachMoment as AtEachDiskMoment, EachOnlyReads, EachStaysShort, IsShort, Rests as DiskRests}
use Rattle.relay_spool.specs.Spool.{AtEachMoment, IsBeforeOrOne, IsBeforeOrWithAll, OnlyReads, Rests}
use Rattle.relay_spool.proofs.HeadLemmas.{image_is_open, no_body, open_gate_of, open_is_spool, same_generation}
use Rattle.relay_spool.proofs.ReadingLemmas.{head_or_none, not_both, one_list_of_bodies as one_list_of_an_image, one_place, open_reads}
use Rattle.relay_spool.proofs.RenewalLemmas.{renewed_generation, renewed_has, renewed_open}
use Rattle.relay_spool.proofs.SpoolLemmas.{same_images}
use Rattle.relay_spool.proofs.TurnLemmas.{Unmoved, pair_run}

-- Of two disks one is taken.
pub one_side : (images : Images) (first second : Side) → IsTaken first images → IsTaken second images → first ≡ second
one_side images First First one two = refl
one_side images First Second one two =
    let no_less = one.newest two.head in
    let less = two.newest one.head in
    absurd (omega (arith, no_less, less))
one_side images Second First one two =
    let no_less = two.newest one.head in
    let less = one.newest two.head in
    absurd (omega (arith, no_less, less))
one_side images Second Second one two = refl

-- what one side shows the other shows
at_side : (P : List ℕ → Type 0) (images : Images) (first second : Side) → IsTaken first images → IsTaken second images → P (mine second images) → P (mine first images)
at_side P images first second one two has = subst (λ (side : Side). P (mine side images)) (one_side images second first two one) has

pub one_list_of_bodies : OneListOfBodies
one_list_of_bodies images one two first second =
    let here = at_side (λ image. IsDiskImageOf image two) images first.0 second.0 first.1 second.1 second.2 in
    one_list_of_an_image (mine first.0 images) one two first.2 here

taken_is_spool : (images : Images) (side : Side) → HasOpenHead (mine side images) → IsNoSpool images → ⊥
taken_is_spool images First head none = open_is_spool images.first head none.0
taken_is_spool images Second head none = open_is_spool images.second head none.1

pub one_reading : OneReading
one_reading images (Bodies one) (Bodies two) first second = ap (λ (bodies : List (List ℕ)). Bodies bodies) (one_list_of_bodies images one two first second)
one_reading images (Bodies one) NoSpool first second = absurd (taken_is_spool images first.0 first.1.head second)
one_reading images (Bodies one) (DamagedAt two) first second =
    let here = at_side (λ image. IsDiskImageOf image one) images second.0 first.0 second.1 first.1 first.2 in
    absurd (not_both (mine second.0 images) one two here second.2)
one_reading images NoSpool (Bodies two) first second = absurd (taken_is_spool images second.0 second.1.head first)
one_reading images NoSpool NoSpool first second = refl
one_reading images NoSpool (DamagedAt two) first second = absurd (taken_is_spool images second.0 second.1.head first)
one_reading images (DamagedAt one) (Bodies two) first second =
    let here = at_side (λ image. IsDiskImageOf image two) images first.0 second.0 first.1 second.1 second.2 in
    absurd (not_both (mine first.0 images) two one here first.2)
one_reading images (DamagedAt one) NoSpool first second = absurd (taken_is_spool images first.0 first.1.head second)
one_reading images (DamagedAt one) (DamagedAt two) first second =
    let here = at_side (λ image. IsDiskDamagedAt image two) images first.0 second.0 first.1 second.1 second.2 in
    ap (λ (place : ℕ). DamagedAt place) (one_place (mine first.0 images) one two first.2 here)

-- the disk that is taken reads as something
taken_reads : (images : Images) (side : Side) → IsTaken side images → (reading : Reading) × Reads images reading
taken_reads images side taken =
    ⊎_elim
    (λ has. (Bodies has.0, (side, taken, has.1)))
    (λ damaged. (DamagedAt damaged.0, (side, taken, damaged.1)))
    (open_reads (mine side images) taken.head)

pub each_reads : EachReads
each_reads images =
    ⊎_elim
    (λ first. ⊎_elim
    (λ second. ⊎_elim
    (λ less. taken_reads images Second (record { head = second; newest = λ _. less }))
    (λ no_less. taken_reads images First (record { head = first; newest = λ _. no_less }))
    (cases_lt (generation_of images.first) (generation_of images.second)))
    (λ none. taken_reads images First (record { head = first; newest = λ is. absurd (open_is_spool images.second is none) }))
    (head_or_none images.second))
    (λ none. ⊎_elim
    (λ second. taken_reads images Second (record { head = second; newest = λ is. absurd (open_is_spool images.first is none) }))
    (λ neither. (NoSpool, (none, neither)))
    (head_or_none images.second))
    (head_or_none images.first)

-- two short images have no body
pub no_bodies : (images : Images) → IsShort images.first → IsShort images.second → HasNoBody images
no_bodies images one two bodies (First, taken, is) = no_body images.first bodies one is
no_bodies images one two bodies (Second, taken, is) = no_body images.second bodies two is

-- A disk stays the one taken where its head stays and the other's octets do.
pub still_taken : (side : Side) (seen images : Images) → IsTaken side seen → HasOpenHead (mine side images) → KeepsHead (mine side seen) (mine side images) → other side images ≡ other side seen
    → IsTaken side images
still_taken side seen images taken head keeps same = record {
  head = head;
  newest = λ is.
      let before = taken.newest (subst HasOpenHead same is) in
      let P : ℕ → ℕ → Type 0 = IsNewer side in
      subst (λ (g : ℕ). P g (generation_of (other side images))) (sym (same_generation (mine side seen) (mine side images) keeps))
      (subst (λ (xs : List ℕ). P (generation_of (mine side seen)) (generation_of xs)) (sym same) before);
}

-- while bodies are added
append_shows : (side : Side) (seen images : Images) (before more : List (List ℕ)) → IsTaken side seen → HasDiskBodies (IsBeforeOrWithAll before more) (mine side images)
    → KeepsHead (mine side seen) (mine side images) → other side images ≡ other side seen → HasBodies (IsBeforeOrWithAll before more) images
append_shows side seen images before more taken has keeps same =
    (has.0, (side, still_taken side seen images taken (image_is_open (mine side images) has.0 has.1) keeps same, has.1), has.2)

-- Of two generations the new one is the newer.
newer : (side : Side) (mine other : ℕ) → other < mine → IsNewer side mine other
newer First mine other less = omega (arith, less)
newer Second mine other less = less

new_taken : (side : Side) (images : Images) (octets body : List ℕ) (generation : ℕ) → mine side images ≡ renewed octets → IsRenewal octets (generation + 1) body
    → generation_of (other side images) ≡ generation → IsTaken side images
new_taken side images octets body generation is renewal old = record {
  head = subst HasOpenHead (sym is) (renewed_open octets body (generation + 1) renewal);
  newest = λ _.
      let new = ap generation_of is ∙ renewed_generation octets body (generation + 1) renewal in
      newer side (generation_of (mine side images)) (generation_of (other side images)) (omega (arith, new, old));
}

pub closed_taken : (side : Side) (images : Images) → HasOpenHead (mine side images) → (HasOpenHead (other side images) → ⊥) → IsTaken side images
closed_taken side images head closed = record { head = head; newest = λ is. absurd (closed is) }

-- while the other disk is written anew
compact_shows : (side : Side) (seen images : Images) (before : List (List ℕ)) (body octets : List ℕ) (generation : ℕ) → IsTaken side seen → IsDiskImageOf (mine side seen) before
    → generation_of (mine side seen) ≡ generation → IsRenewal octets (generation + 1) body → mine side images ≡ mine side seen
    → IsOldOrNew (other side seen) (renewed octets) (other side images) → HasBodies (IsBeforeOrOne before body) images
compact_shows side seen images before body octets generation taken is generation_is renewal same (inl stays) =
    (before, (side, still_taken side seen images taken (subst HasOpenHead (sym same) taken.head) (ap (λ (xs : List ℕ). take 17 xs) same) stays, subst (λ (xs : List ℕ). IsDiskImageOf xs before) (sym same) is), inl refl)
compact_shows side seen images before body octets generation taken is generation_is renewal same (inr (inl closed)) =
    (before, (side, closed_taken side images (subst HasOpenHead (sym same) taken.head) closed, subst (λ (xs : List ℕ). IsDiskImageOf xs before) (sym same) is), inl refl)
compact_shows First seen images before body octets generation taken is generation_is renewal same (inr (inr new)) =
    (body ∷ [], (Second, new_taken Second images octets body generation new renewal (ap generation_of same ∙ generation_is), subst (λ (xs : List ℕ). IsDiskImageOf xs (body ∷ [])) (sym new) (renewed_has octets body (generation + 1) renewal)), inr refl)
compact_shows Second seen images before body octets generation taken is generation_is renewal same (inr (inr new)) =
    (body ∷ [], (First, new_taken First images octets body generation new renewal (ap generation_of same ∙ generation_is), subst (λ (xs : List ℕ). IsDiskImageOf xs (body ∷ [])) (sym new) (renewed_has octets body (generation + 1) renewal)), inr refl)

module _ {D : Type 0} (words : DiskWords D) where
  -- bodies added: the disk that is taken grows, and the other stays
  pub append_run : (side : Side) (old new : Disks D) (before more : List (List ℕ)) → IsTaken side (seen_of words old)
      → AtEachDiskMoment words (mine side old) (mine side new) (HasDiskBodies (IsBeforeOrWithAll before more))
      → AtEachDiskMoment words (mine side old) (mine side new) (KeepsHead (words.seen (mine side old)))
      → Unmoved words (other side old) (other side new) → AtEachMoment words old new (HasBodies (IsBeforeOrWithAll before more))
  append_run First old new before more taken grows keeps still = record {
    since = λ images first second. append_shows First (seen_of words old) images before more taken (grows.since.each images.first first) (keeps.since.each images.first first) (still.each images.second second);
    now = λ images left. append_shows First (seen_of words old) images before more taken (grows.now images.first left.0) (keeps.now images.first left.0) (still.now images.second left.1);
  }
  append_run Second old new before more taken grows keeps still = record {
    since = λ images first second. append_shows Second (seen_of words old) images before more taken (grows.since.each images.second second) (keeps.since.each images.second second) (still.each images.first first);
    now = λ images left. append_shows Second (seen_of words old) images before more taken (grows.now images.second left.1) (keeps.now images.second left.1) (still.now images.first left.0);
  }

  -- what it leaves
  pub append_rests : (side : Side) (generation : ℕ) (gate : Option HeadGate) (old new : Disks D) (bodies : List (List ℕ))
      → Describes (record { side = side; generation = generation; other = gate }) (seen_of words old)
      → DiskRests words (mine side new) bodies → KeepsHead (words.seen (mine side old)) (words.seen (mine side new)) → Unmoved words (other side old) (other side new)
      → Rests words new (record { side = side; generation = generation; other = gate }) bodies
  append_rests First generation gate old new bodies described rests keeps still = record {
    image = rests.image;
    described = record {
      is_taken = still_taken First (seen_of words old) (seen_of words new) described.is_taken (image_is_open (words.seen new.first) bodies rests.image) keeps still.seen;
      generation_is = same_generation (words.seen old.first) (words.seen new.first) keeps ∙ described.generation_is;
      other_gate = subst (λ (xs : List ℕ). IsGateOf xs gate) (sym still.seen) described.other_gate;
    };
    only = (rests.only, still.only);
  }
  append_rests Second generation gate old new bodies described rests keeps still = record {
    image = rests.image;
    described = record {
      is_taken = still_taken Second (seen_of words old) (seen_of words new) described.is_taken (image_is_open (words.seen new.second) bodies rests.image) keeps still.seen;
      generation_is = same_generation (words.seen old.second) (words.seen new.second) keeps ∙ described.generation_is;
      other_gate = subst (λ (xs : List ℕ). IsGateOf xs gate) (sym still.seen) described.other_gate;
    };
    only = (still.only, rests.only);
  }

  -- the other disk written anew
  pub compact_run : (side : Side) (old new : Disks D) (before : List (List ℕ)) (body octets : List ℕ) (generation : ℕ) → IsTaken side (seen_of words old)
      → IsDiskImageOf (words.seen (mine side old)) before → generation_of (words.seen (mine side old)) ≡ generation → IsRenewal octets (generation + 1) body
      → AtEachDiskMoment words (mine (turned side) old) (mine (turned side) new) (IsOldOrNew (words.seen (mine (turned side) old)) (renewed octets))
      → Unmoved words (other (turned side) old) (other (turned side) new) → AtEachMoment words old new (HasBodies (IsBeforeOrOne before body))
  compact_run First old new before body octets generation taken is generation_is renewal run still =
      pair_run words Second old new (IsOldOrNew (words.seen old.second) (renewed octets)) (HasBodies (IsBeforeOrOne before body)) run still
      (λ images has same. compact_shows First (seen_of words old) images before body octets generation taken is generation_is renewal same has)
  compact_run Second old new before body octets generation taken is generation_is renewal run still =
      pair_run words First old new (IsOldOrNew (words.seen old.first) (renewed octets)) (HasBodies (IsBeforeOrOne before body)) run still
      (λ images has same. compact_shows Second (seen_of words old) images before body octets generation taken is generation_is renewal same has)

  -- what it leaves
  pub compact_rests : (side : Side) (generation : ℕ) (gate : Option HeadGate) (old new : Disks D) (body octets : List ℕ)
      → Describes (record { side = side; generation = generation; other = gate }) (seen_of words old) → IsRenewal octets (generation + 1) body
      → words.seen (mine (turned side) new) ≡ renewed octets → IsSettled words (mine (turned side) new) → Unmoved words (other (turned side) old) (other (turned side) new)
      → Rests words new (renewed_taken (record { side = side; generation = generation; other = gate })) (body ∷ [])
  compact_rests First generation gate old new body octets described renewal is only still = record {
    image = subst (λ (xs : List ℕ). IsDiskImageOf xs (body ∷ [])) (sym is) (renewed_has octets body (generation + 1) renewal);
    described = record {
      is_taken = new_taken Second (seen_of words new) octets body generation is renewal (ap generation_of still.seen ∙ described.generation_is);
      generation_is = ap generation_of is ∙ renewed_generation octets body (generation + 1) renewal;
      other_gate = open_gate_of (words.seen new.first) (subst HasOpenHead (sym still.seen) described.is_taken.head);
    };
    only = (still.only, only);
  }
  compact_rests Second generation gate old new body octets described renewal is only still = record {
    image = subst (λ (xs : List ℕ). IsDiskImageOf xs (body ∷ [])) (sym is) (renewed_has octets body (generation + 1) renewal);
    described = record {
      is_taken = new_taken First (seen_of words new) octets body generation is renewal (ap generation_of still.seen ∙ described.generation_is);
      generation_is = ap generation_of is ∙ renewed_generation octets body (generation + 1) renewal;
      other_gate = open_gate_of (words.seen new.second) (subst HasOpenHead (sym still.seen) described.is_taken.head);
    };
    only = (only, still.only);
  }

  -- while both are only read
  pub both_read : (old new : Disks D) → EachOnlyReads words old new → OnlyReads words old new
  both_read old new keeps = record {
    reads = same_images (seen_of words new) (seen_of words old) keeps.0.reads keeps.1.reads;
    stop = record {
      since = λ images first second. (keeps.0.stop.since.each images.first first, keeps.1.stop.since.each images.second second);
      now = λ images left. (keeps.0.stop.now images.first left.0, keeps.1.stop.now images.second left.1);
    };
  }

  -- while both are short
  pub both_short : (old new : Disks D) → EachStaysShort words old new → AtEachMoment words old new HasNoBody
  both_short old new short = record {
    since = λ images first second. no_bodies images (short.0.since.each images.first first) (short.1.since.each images.second second);
    now = λ images left. no_bodies images (short.0.now images.first left.0) (short.1.now images.second left.1);
  }

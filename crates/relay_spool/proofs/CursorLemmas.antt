-- A spool that is read body by body.
use Rattle.std.proofs.Common.{◌≡◌, ℕ, ◌+◌, ◌^◌, ◌≤◌, List, [], ◌∷◌, ◌++◌, None, Some, Result, Ok, Err, IfErr, refl, sym, subst, ◌∙◌, arith}
use Rattle.relay_pieces.specs.Pieces.{InPieces, text_of}
use Rattle.relay_disk.specs.declared.disks.Disks.{Disks}
use Rattle.relay_disk.specs.declared.disks.Side.{Side}
use Rattle.relay_disk.specs.declared.disks.Side.TheVariants.{First, Second}
use Rattle.relay_disk.specs.Device.{DiskWords}
use Rattle.relay_disk.specs.Disks.{Images, mine, seen_of}
use Rattle.relay_spool.specs.declared.fault.SpoolFault.{SpoolFault}
use Rattle.relay_spool.specs.declared.fault.SpoolFault.TheVariants.{Device, NotASpool, Damaged, NoMemory, NotEmpty, Full, NoSecond}
use Rattle.relay_spool.specs.declared.heads.Choice.{Choice}
use Rattle.relay_spool.specs.Blocks.{GoesTo, PassesGate}
use Rattle.relay_spool.specs.Cursor.{HasRead, HasReadOne, IsReadOne}
use Rattle.relay_spool.specs.Image.{IsDamagedAt as IsDiskDamagedAt, IsImageOf as IsDiskImageOf}
use Rattle.relay_spool.specs.Opening.{Chooses}
use Rattle.relay_spool.specs.Run.{EachOnlyReads, RefusesToRead}
use Rattle.relay_spool.specs.Spool.{RefusesToOpen}
use Rattle.relay_spool.proofs.ChainLemmas.{front_start, front_more, front_ends}
use Rattle.relay_spool.proofs.HeadLemmas.{head_of_open}
use Rattle.relay_spool.proofs.ImageLemmas.{size_of-push}
use Rattle.relay_spool.proofs.RunLemmas.{kept_on}

-- nothing was read yet
pub started : (images : Images) (choice : Choice) (place : ℕ) → Chooses images (Some choice) → place ≡ 17 → HasRead images choice.taken.side place []
started images choice place chosen is =
    let image = mine choice.taken.side images in
    record {
      is_taken = chosen.0.is_taken;
      has = subst (λ (n : ℕ). HasReadOne image n []) (sym is)
          (record { front = front_start image (head_of_open image chosen.0.is_taken.head); place_is = refl });
    }

-- one body more was read
pub read_more : (image : List ℕ) (size from to : ℕ) (bodies : List (List ℕ)) (body : InPieces) → HasReadOne image from bodies → PassesGate image from to (Some body)
    → GoesTo size from to (Some body) → HasReadOne image to (bodies ++ text_of body ∷ [])
read_more image size from to bodies body has link goes =
    let more = size_of-push bodies (text_of body) in
    let at = has.place_is in
    let way = goes.0 in
    record {
      front = front_more image link.0 (text_of body) from to bodies has.front link.1 link.2;
      place_is = omega (arith, more, at, way);
    }

-- none follows
pub read_end : (image : List ℕ) (size from to : ℕ) (bodies : List (List ℕ)) → HasReadOne image from bodies → PassesGate image from to None → GoesTo size from to None
    → to ≤ 2 ^ 40 → IsReadOne image to bodies
read_end image size from to bodies has link goes few =
    let at = has.place_is in
    record {
      is_image = front_ends image link.0 from to bodies has.front link.1 link.2;
      size_is = goes ∙ at;
      few = few;
    }

-- what the disk of a side shows when it was brought to the front
pub shown : {D : Type 0} (honest : Type 0) (words : DiskWords D) (side : Side) (old : Disks D) (turned : D) → (honest → words.seen turned ≡ words.seen (mine side old))
    → honest → words.seen turned ≡ mine side (seen_of words old)
shown honest words First old turned same = same
shown honest words Second old turned same = same

-- why two disks aren't read on, if one of them isn't
refuses_pair : (honest : Type 0) (images : Images) (image : List ℕ) (side : Side) (place : ℕ) (bodies : List (List ℕ)) (fault : SpoolFault) → (honest → image ≡ mine side images)
    → (honest → HasRead images side place bodies) → RefusesToRead honest image fault → RefusesToOpen honest images fault
refuses_pair honest images image side place bodies Device same has refused = refused
refuses_pair honest images image side place bodies NotASpool same has refused = absurd refused
refuses_pair honest images image side place bodies (Damaged gate) same has refused =
    λ h. (side, (has h).is_taken, subst (λ (octets : List ℕ). IsDiskDamagedAt octets gate) (same h) (refused h))
refuses_pair honest images image side place bodies NoMemory same has refused = refused
refuses_pair honest images image side place bodies NotEmpty same has refused = refused
refuses_pair honest images image side place bodies Full same has refused =
    λ h.
    let large = refused h in
    (large.0, (side, (has h).is_taken, subst (λ (octets : List ℕ). IsDiskImageOf octets large.0) (same h) large.1), large.2)
refuses_pair honest images image side place bodies NoSecond same has refused = refused

pub refuses : {T : Type 0} (honest : Type 0) (result : Result T SpoolFault) (images : Images) (image : List ℕ) (side : Side) (place : ℕ) (bodies : List (List ℕ))
    → (honest → image ≡ mine side images) → (honest → HasRead images side place bodies) → IfErr result (RefusesToRead honest image) → IfErr result (RefusesToOpen honest images)
refuses honest (Ok body) images image side place bodies same has refused = tt
refuses honest (Err fault) images image side place bodies same has refused = refuses_pair honest images image side place bodies fault same has refused

-- two disks that are only read on
pub each_kept_on : {D : Type 0} (words : DiskWords D) (old mid new : Disks D) → EachOnlyReads words old mid → EachOnlyReads words mid new → EachOnlyReads words old new
each_kept_on words old mid new one two = (kept_on words old.first mid.first new.first one.0 two.0, kept_on words old.second mid.second new.second one.1 two.1)

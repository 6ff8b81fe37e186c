-- The first body, read block by block.
use Rattle.std.proofs.Common.{◌≡◌, ℕ, ◌+◌, ◌≤◌, ◌<◌, true, List, [], ◌∷◌, ◌++◌, sym, subst, arith}
use Rattle.relay_disk.specs.declared.disks.Side.{Side}
use Rattle.relay_disk.specs.Device.{DiskWords}
use Rattle.relay_disk.specs.Disks.{Images, seen_of}
use Rattle.relay_spool.specs.Cursor.{AtGate, HasRead}
use Rattle.relay_spool.specs.Part.{HasPart, IsNoPart}
use Rattle.relay_spool.specs.Spool.{RefusesToOpen}
use Rattle.relay_spool.specs.declared.fault.SpoolFault.{SpoolFault}
use Rattle.relay_spool.specs.declared.fault.SpoolFault.TheVariants.{Device, NotASpool, Damaged, NoMemory, NotEmpty}
use Rattle.relay_spool.specs.declared.fault.SpoolFault.TheVariants.{Full, NoSecond}
use Rattle.relay_spool.proofs.Theorems.{whole_is_read}
use Rattle.relay_book.specs.declared.book.first_outline.FirstOutline.{FirstOutline}
use Rattle.relay_book.specs.FirstOutline.{HasReadOctets}
use Rattle.relay_outlines.specs.Reading.{ReadsBlocks}
use Rattle.relay_outlines.proofs.CursorLemmas.{Goes, goes_nowhere, seen_alike}

-- so many octets of the body are left, and those before were read
pub record Blocks {D : Type 0} (honest : Type 0) (words : DiskWords D) (old now : AtGate D) (count left : ℕ)
    (first : FirstOutline) : Type 0 where
  pub goes : Goes honest words old now
  pub octets : List ℕ
  pub read : HasReadOctets first octets
  pub within : now.place + left < now.size
  pub moves : old.place ≤ now.place
  pub has : honest → (bodies : List (List ℕ)) → HasPart (seen_of words old.disk) old.side old.place count bodies []
      → HasPart (seen_of words old.disk) old.side now.place left bodies octets

pub blocks_none : {D : Type 0} (honest : Type 0) (words : DiskWords D) (old : AtGate D) (count : ℕ)
    (first : FirstOutline)
    → (honest → (disk : D) (image : List ℕ) → words.left_since disk (words.moment disk) image
    → words.may_leave disk image)
    → old.live ≡ true → old.place + count < old.size → HasReadOctets first []
    → Blocks honest words old old count count first
blocks_none honest words old count first only live within read = record {
  goes = goes_nowhere honest words old only live;
  octets = [];
  read = read;
  within = within;
  moves = omega arith;
  has = λ h bodies has. has;
}

-- a part of a body, by another name of its images and side
part_as : (images others : Images) (side other : Side) (place left : ℕ) (bodies : List (List ℕ)) (part : List ℕ)
    → others ≡ images → other ≡ side → HasPart images side place left bodies part
    → HasPart others other place left bodies part
part_as images others side other place left bodies part same alike has =
    subst (λ (i : Images). HasPart i other place left bodies part) (sym same)
    (subst (λ (s : Side). HasPart images s place left bodies part) (sym alike) has)

pub blocks_more : {D : Type 0} (honest : Type 0) (words : DiskWords D) (old mid new : AtGate D)
    (count left fewer taken : ℕ) (before after : FirstOutline) (block : List ℕ)
    → (so_far : Blocks honest words old mid count left before) → Goes honest words old new
    → left ≡ taken + fewer → new.place ≡ mid.place + taken → new.size ≡ mid.size
    → ((octets : List ℕ) → HasReadOctets before octets → HasReadOctets after (octets ++ block))
    → (honest → (rest : ℕ) (bodies : List (List ℕ)) (part : List ℕ)
    → HasPart (seen_of words mid.disk) mid.side mid.place (taken + rest) bodies part
    → HasPart (seen_of words mid.disk) mid.side new.place rest bodies (part ++ block))
    → Blocks honest words old new count fewer after
blocks_more honest words old mid new count left fewer taken before after block so_far goes left_is place_is size_is
    reads part =
    let within = so_far.within in
    let moves = so_far.moves in
    record {
      goes = goes;
      octets = so_far.octets ++ block;
      read = reads so_far.octets so_far.read;
      within = omega (arith, within, left_is, place_is, size_is);
      moves = omega (arith, moves, place_is);
      has = λ h bodies has.
          let images = seen_of words old.disk in
          let others = seen_of words mid.disk in
          let same = seen_alike words old.disk mid.disk (so_far.goes.kept h) in
          let side = so_far.goes.side in
          let there = subst (λ (n : ℕ). HasPart images old.side mid.place n bodies so_far.octets) left_is
          (so_far.has h bodies has) in
          let here = part_as images others old.side mid.side mid.place (taken + fewer) bodies so_far.octets
          same side there in
          let next = part h fewer bodies so_far.octets here in
          part_as others images mid.side old.side new.place fewer bodies (so_far.octets ++ block)
          (sym same) (sym side) next;
    }

pub blocks_end : {D : Type 0} (honest : Type 0) (words : DiskWords D) (old now : AtGate D) (count left : ℕ)
    (first : FirstOutline) → Blocks honest words old now count left first → left ≡ 0
    → ReadsBlocks honest (seen_of words old.disk) old.side count old.place now.place first
blocks_end honest words old now count left first so_far none = record {
  octets = so_far.octets;
  read = so_far.read;
  has = λ h bodies has.
      whole_is_read (seen_of words old.disk) old.side now.place bodies so_far.octets
      (subst (λ (n : ℕ). HasPart (seen_of words old.disk) old.side now.place n bodies so_far.octets) none
      (so_far.has h bodies has));
}

-- where a body was begun and read, it stands first
pub first_stands : {D : Type 0} (honest : Type 0) (words : DiskWords D) (old mid : AtGate D) (count to : ℕ)
    (first : FirstOutline) → Goes honest words old mid
    → (honest → HasPart (seen_of words old.disk) old.side mid.place count [] [])
    → (reads : ReadsBlocks honest (seen_of words mid.disk) mid.side count mid.place to first)
    → honest → HasRead (seen_of words old.disk) old.side to (reads.octets ∷ [])
first_stands honest words old mid count to first goes begun reads h =
    let same = seen_alike words old.disk mid.disk (goes.kept h) in
    let here = part_as (seen_of words old.disk) (seen_of words mid.disk) old.side mid.side mid.place count [] [] same
    goes.side (begun h) in
    subst (λ (i : Images). HasRead i old.side to (reads.octets ∷ [])) same
    (subst (λ (s : Side). HasRead (seen_of words mid.disk) s to (reads.octets ∷ [])) goes.side (reads.has h [] here))

-- a device that failed, or memory that ran out, refuses any images
pub no_part_refuses : (honest : Type 0) (images : Images) (fault : SpoolFault) → IsNoPart fault
    → RefusesToOpen honest images fault
no_part_refuses honest images Device is = is
no_part_refuses honest images NoMemory is = is
no_part_refuses honest images NotASpool is = absurd is
no_part_refuses honest images (Damaged place) is = absurd is
no_part_refuses honest images NotEmpty is = absurd is
no_part_refuses honest images Full is = absurd is
no_part_refuses honest images NoSecond is = absurd is

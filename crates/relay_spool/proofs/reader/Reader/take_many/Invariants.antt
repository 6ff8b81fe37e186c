use Rattle.std.proofs.Common.{◌≡◌, ◌+◌, ℕ, length}
use Rattle.relay_pieces.specs.Pieces.{text_of}
use Rattle.relay_spool.specs.Blocks.{IsAt, Lies}
use Rattle.relay_spool.specs.Run.{OnlyReads, PassesAny}
use Rattle.relay_spool.proofs.reader.Reader.take_many.Given as goal

pub record TakingMany (honest at lies keeps passes : Type 0) (place start size all given left count failed before : ℕ) : Type 0 where
  pub stands : honest → at
  pub octets : honest → lies
  pub kept : honest → keeps
  pub place_is : place ≡ start + given
  pub given_is : given + left ≡ count
  pub size_is : size ≡ all
  pub failures : failed ≡ before
  pub calls : passes

abbrev pub invariant-loop-left : goal.invariant-loop-left
invariant-loop-left g l = TakingMany g.D.Disk.honest
    (IsAt (g.D.Disk.words.seen l.fn.disk) l.self)
    (Lies (g.D.Disk.words.seen l.fn.disk) l.fn.self.place l.self.place (text_of l.pieces))
    (OnlyReads g.D.Disk.words l.fn.disk l.disk) (PassesAny g.D.Disk.words l.fn.disk l.disk)
    l.self.place l.fn.self.place l.self.size l.fn.self.size (length (text_of l.pieces)) l.left l.count (g.D.Disk.words.failed l.disk) (g.D.Disk.words.failed l.fn.disk)

abbrev pub decreases-loop-left : goal.decreases-loop-left
decreases-loop-left g l = l.left

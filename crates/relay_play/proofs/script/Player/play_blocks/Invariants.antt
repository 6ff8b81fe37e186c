use Rattle.std.proofs.Common.{◌<◌, ◌++◌, List, ℕ, length}
use Rattle.relay_disk.specs.Memory.{memory_words}
use Rattle.relay_play.specs.declared.state.PlayState.{PlayState as State}
use Rattle.relay_play.specs.Script.{HasPlayed, IsRead}
use Rattle.relay_play.proofs.script.Player.play_blocks.Given as goal

abbrev pub invariant-loop : goal.invariant-loop
invariant-loop g l =
    (0 < length l.block)
    × ((first : State) (front : List ℕ) → HasPlayed (Unit {0}) memory_words first front l.fn.self.begun.items l.fn.self.play
    → IsRead (g.R.Read.remaining l.fn.reader) (g.R.Read.remaining l.reader)
    (λ octets. HasPlayed (Unit {0}) memory_words first (front ++ octets) l.self.begun.items l.self.play))

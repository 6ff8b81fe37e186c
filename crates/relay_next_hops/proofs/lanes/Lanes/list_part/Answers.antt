-- What was listed before stays so.
use Rattle.std.proofs.Common.{ap, ◌∙◌, ℕ, List, ◌≡◌, drop}
use Rattle.std.specs.Prelude.{slice_get}
use Rattle.relay_lanes.specs.Numbers.{Walk}
use Rattle.relay_next_hops.proofs.ListingLemmas.{kept_then}
use Rattle.relay_next_hops.proofs.KnownLemmas.{known_same}
use Rattle.relay_next_hops.proofs.lanes.Lanes.list_part.Goals as goal

pub returns-clause-part : goal.returns-clause-part
returns-clause-part g c =
    let left : c.let_go.new.self.queued.left ≡ c.args.self.now.queued.left = ap (λ (walk : Walk). walk.left) c.let_go.ensures.walk in
    let part = c.list_next.ensures.part in
    record {
      kept = kept_then c.args.self.now c.let_go.new.self c.list_next.new.self c.let_go.ensures.kept part.kept;
      size = part.size;
      walk = part.walk ∙ ap (drop part.size) left;
      whole = part.whole;
      listed = λ step number low there. part.listed step number low (ap (λ (left : List ℕ). slice_get left step) left ∙ there);
    }

pub returns-clause-known : goal.returns-clause-known
returns-clause-known g c = λ next before.
    c.list_next.ensures.known next (known_same c.args.relay.now.node next c.args.self.now c.let_go.new.self c.let_go.ensures.walk c.let_go.ensures.numbers.all before)

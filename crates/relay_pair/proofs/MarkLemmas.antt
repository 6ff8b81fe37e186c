-- The held places of nodes, node by node.
use Rattle.std.proofs.Common.{◌≡◌, ◌<◌, ◌≤◌, ◌+◌, ℕ, zero, suc, List, [], ◌∷◌, ◌++◌, length, map, drop, Some, refl, sym, ap, ◌∙◌, arith, append-nil}
use Rattle.std.specs.Prelude.{slice_get, slice_index_or}
use Rattle.std.proofs.lemmas.List.{append_assoc}
use Rattle.std.proofs.Math.Numerals.{add-one}
use Rattle.relay_disk.specs.Device.{DiskWords}
use Rattle.relay_routes.specs.declared.config.Config.{Config}
use Rattle.relay_book.specs.declared.change.Change.{Change}
use Rattle.relay_world.specs.Bound.{StateKeeps}
use Rattle.relay_world.specs.World.{Down, HostState, Host, Up, World}
use Rattle.relay_events.specs.Relays.{AreBound}
use Rattle.relay_events.proofs.Theorems.{there_too}
use Rattle.relay_pair.specs.Marks.{mark_of, marks_from}
use Rattle.relay_hosts.specs.Work.{KnowsIfUp, marks_in}

-- what is left of a row from a place on
drop_there : {A : Type 0} (xs : List A) (place : ℕ) (x : A) → place < length xs → x ≡ slice_index_or xs place x
    → drop place xs ≡ x ∷ drop (suc place) xs
drop_there [] place x within there = absurd (omega (arith, within))
drop_there (y ∷ xs) zero x within there = ap (λ z. z ∷ xs) (sym there)
drop_there (y ∷ xs) (suc place) x within there = drop_there xs place x (omega (arith, within)) there

-- the places of nodes of which there is a first
first_marks : {D : Type 0} (node : ℕ) (host : Host D) (hosts : List (Host D))
    → marks_from node (host ∷ hosts) ≡ map (mark_of node) (marks_in host.state) ++ marks_from (node + 1) hosts
first_marks node host hosts = refl

-- the places of one node more
pub one_more : {D : Type 0} (hosts : List (Host D)) (node : ℕ) (host : Host D) (before now : List (ℕ × ℕ × ℕ)) (held : List (ℕ × ℕ))
    (all : List (ℕ × ℕ × ℕ)) → node < length hosts → host ≡ slice_index_or hosts node host → held ≡ marks_in host.state
    → now ≡ before ++ map (mark_of node) held → before ++ marks_from node (drop node hosts) ≡ all
    → now ++ marks_from (node + 1) (drop (node + 1) hosts) ≡ all
one_more {D = D} hosts node host before now held all within there its added so_far =
    let rest = marks_from (node + 1) (drop (node + 1) hosts) in
    let mine = map (mark_of node) (marks_in host.state) in
    ap (λ l. l ++ rest) (added ∙ ap (λ (h : List (ℕ × ℕ)). before ++ map (mark_of node) h) its)
    ∙ append_assoc before mine rest
    ∙ ap (λ n. before ++ (mine ++ marks_from (node + 1) (drop n hosts))) (add-one node)
    ∙ ap (λ l. before ++ l) (sym (first_marks node host (drop (suc node) hosts)))
    ∙ ap (λ (l : List (Host D)). before ++ marks_from node l) (sym (drop_there hosts node host within there))
    ∙ so_far

-- nothing is left of a row after its end
none_after : {A : Type 0} (xs : List A) (place : ℕ) → length xs ≤ place → drop place xs ≡ []
none_after [] zero past = refl
none_after [] (suc place) past = refl
none_after (x ∷ xs) zero past = absurd (omega (arith, past))
none_after (x ∷ xs) (suc place) past = none_after xs place (omega (arith, past))

-- and after the last node the places so far are all
pub all_marked : {D : Type 0} (hosts : List (Host D)) (node : ℕ) (marks all : List (ℕ × ℕ × ℕ)) → length hosts ≤ node
    → marks ++ marks_from node (drop node hosts) ≡ all → marks ≡ all
all_marked {D = D} hosts node marks all past so_far =
    sym (append-nil marks)
    ∙ ap (λ (l : List (Host D)). marks ++ marks_from node l) (sym (none_after hosts node past))
    ∙ so_far

module _ {D : Type 0} (honest : Type 0) (words : DiskWords D) where
  held_if_up : (config : Config) (state : HostState D) (changes : List Change) → StateKeeps honest words config state changes
      → KnowsIfUp honest words state
  held_if_up config (Up node) changes keeps = record { changes = changes; keeps = keeps.keeps }
  held_if_up config (Down disk undecided) changes keeps = tt

  -- each host that is up keeps a list of changes
  pub knows_if_up : (world : World D) (node : ℕ) (host : Host D) → AreBound honest words world
      → slice_get world.hosts node ≡ Some host → KnowsIfUp honest words host.state
  knows_if_up world node host bound host_at =
      let list = there_too bound.lists world.hosts node host bound.bound.even host_at in
      let keeps = bound.bound.hosts node host list.0 (record { host_at = host_at; list_at = list.1 }) in
      held_if_up host.config host.state list.0 keeps.holds

-- Mail that is dropped, a line that is forgotten, and a link that leads elsewhere break the invariant.
use Rattle.std.proofs.Common.{◌≡◌, ℕ, List, [], ◌∷◌, ◌++◌, length, Some, refl, sym, subst, ap, ◌∙◌, arith}
use Rattle.std.specs.Prelude.{slice_get}
use Rattle.std.proofs.lemmas.List.{append_cancel_left, length-append}
use Rattle.std.proofs.lemmas.List.Concat.{flat_map-append}
use Rattle.relay_disk.specs.Device.{DiskWords}
use Rattle.relay_book.specs.declared.change.Change.{Change}
use Rattle.relay_book.specs.Marks.{Held}
use Rattle.relay_world.specs.declared.line.Line.{Line}
use Rattle.relay_world.specs.Bound.{IsBound}
use Rattle.relay_world.specs.Forbidden.{DroppingBreaks, DropsMail, ForgetsLine, ForgettingBreaks, LeadingElsewhereBreaks}
use Rattle.relay_world.specs.Ledger.{Step, if_of_node, steps_in, steps_of}
use Rattle.relay_world.specs.World.{Host, Up, World}
use Rattle.relay_world.proofs.ClaimLemmas.{there_too}
use Rattle.relay_world.proofs.CustodyLemmas.{custody_is_kept}
use Rattle.relay_world.proofs.GrowLemmas.{one_list}
use Rattle.relay_world.proofs.OpenLemmas.{list_there}

-- a line whose loss leaves a node's steps as they were tells of none
none_lost : (node : ℕ) (front : List Line) (line : Line) (rest : List Line)
    → steps_in node (front ++ rest) ≡ steps_in node (front ++ line ∷ rest) → if_of_node node line ≡ []
none_lost node front line rest same =
    let without = flat_map-append (if_of_node node) front rest in
    let with_it = flat_map-append (if_of_node node) front (line ∷ rest) in
    let cut : steps_in node rest ≡ if_of_node node line ++ steps_in node rest =
    append_cancel_left (steps_in node front) (steps_in node rest) (if_of_node node line ++ steps_in node rest)
    (sym without ∙ same ∙ with_it) in
    no_more (if_of_node node line) (steps_in node rest) cut
  where
    no_more : (xs ys : List Step) → ys ≡ xs ++ ys → xs ≡ []
    no_more [] ys same = refl
    no_more (x ∷ xs) ys same =
        let lengths : length ys ≡ length (x ∷ xs ++ ys) = ap length same in
        absurd (omega (arith, lengths, length-append xs ys))

module _ {D : Type 0} (honest : Type 0) (words : DiskWords D) (old new : World D) (lists later : List (List Change))
    (node : ℕ) (bound : IsBound honest words old lists) (now : IsBound honest words new later) where
  -- a node with the records that it had has the list that it had
  same_list : (host moved : Host D) (at : slice_get old.hosts node ≡ Some host) (there : slice_get new.hosts node ≡ Some moved)
      → moved.records ≡ host.records
      → (there_too new.hosts later node moved (sym now.even) there).0 ≡ (list_there old.hosts lists node host bound.even at).0
  same_list host moved at there same =
      let was = list_there old.hosts lists node host bound.even at in
      let is = there_too new.hosts later node moved (sym now.even) there in
      one_list host.records moved.records was.0 is.0
      (bound.hosts node host was.0 (record { host_at = at; list_at = was.1 })).list
      (now.hosts node moved is.0 (record { host_at = there; list_at = is.1 })).list same

  pub dropped : (number place : ℕ) → DropsMail honest words old new node number place → ⊥
  dropped number place drops =
      let moved : Host D = record drops.host { state = Up drops.after } in
      let was = list_there old.hosts lists node drops.host bound.even drops.host_at in
      let is = there_too new.hosts later node moved (sym now.even) drops.hosts.at in
      let kept = bound.hosts node drops.host was.0 (record { host_at = drops.host_at; list_at = was.1 }) in
      let custody =
      custody_is_kept honest words new later now node moved is.0 (record { host_at = drops.hosts.at; list_at = is.1 }) in
      let same = same_list drops.host moved drops.host_at drops.hosts.at refl in
      let held = subst (λ l. Held l number place) (sym same) (drops.held was.0 kept) in
      drops.gone ((custody.held drops.after refl number place).1 held)

  pub forgotten : ForgetsLine old new node → ⊥
  forgotten forgets =
      let there = ap (λ l. slice_get l node) forgets.hosts ∙ forgets.host_at in
      let was = list_there old.hosts lists node forgets.host bound.even forgets.host_at in
      let is = there_too new.hosts later node forgets.host (sym now.even) there in
      let same : is.0 ≡ was.0 = same_list forgets.host forgets.host forgets.host_at there refl in
      let one_ledger : steps_in node new.ledger ≡ steps_in node old.ledger =
      now.ledger node is.0 is.1 ∙ ap (λ l. steps_of l) same ∙ sym (bound.ledger node was.0 was.1) in
      forgets.of_node (none_lost node forgets.front forgets.line forgets.rest
      (ap (λ l. steps_in node l) (sym forgets.is) ∙ one_ledger ∙ ap (λ l. steps_in node l) forgets.was))

pub dropping_breaks : {D : Type 0} (honest : Type 0) (words : DiskWords D) → DroppingBreaks honest words
dropping_breaks honest words old new lists later node number place bound drops now =
    dropped honest words old new lists later node bound now number place drops

pub forgetting_breaks : {D : Type 0} (honest : Type 0) (words : DiskWords D) → ForgettingBreaks honest words
forgetting_breaks honest words old new lists later node bound forgets now =
    forgotten honest words old new lists later node bound now forgets

pub leading_elsewhere_breaks : (D : Type 0) → LeadingElsewhereBreaks D
leading_elsewhere_breaks D world leads linked =
    let its = linked leads.at leads.attempt leads.is_there in
    let to = its.to_node leads.node leads.host leads.host_at leads.named in
    leads.elsewhere its.link to.end its.its_link to.serves to.its_node

-- What comes of offers, one answer after another.
use Rattle.std.proofs.Common.{◌≡◌, ℕ, suc, ◌+◌, List, [], ◌∷◌, ◌++◌, length, refl, subst, arith}
use Rattle.relay_server.specs.declared.offer.Answer.{Answer}
use Rattle.relay_server.specs.declared.offer.Answer.TheVariants.{Queued, Full}
use Rattle.relay_server.specs.Dialogue.{Offered}
use Rattle.relay_book.specs.declared.change.Change.{Change}
use Rattle.std.specs.List.{AllByRecursion}
use Rattle.relay_node.specs.Room.{Overfills, refusals}
use Rattle.relay_links.specs.Accepted.{Accepts, IsAccepted, Rule}

none_more : (count : ℕ) → count + 0 ≡ count
none_more count = omega arith

one_more : (count rest : ℕ) → count + suc rest ≡ suc count + rest
one_more count rest = omega arith

module _ (rule : Rule) where
  -- what came of some offers, and then of more
  pub come_on : (count size middle new_size : ℕ) (answers others : List Answer) (offers more : List Offered) (changes added : List Change) → Accepts rule count size answers offers changes middle → Accepts rule (count + length changes) middle others more added new_size → Accepts rule count size (answers ++ others) (offers ++ more) (changes ++ added) new_size
  come_on count size middle new_size [] others [] more [] added before now =
      subst (λ s. Accepts rule count s others more added new_size) before (subst (λ n. Accepts rule n middle others more added new_size) (none_more count) now)
  come_on count size middle new_size [] others [] more (change ∷ changes) added before now = absurd before
  come_on count size middle new_size [] others (offer ∷ offers) more changes added before now = absurd before
  come_on count size middle new_size (answer ∷ answers) others [] more changes added before now = absurd before
  come_on count size middle new_size (Full ∷ answers) others (offer ∷ offers) more changes added before now =
      (before.0, come_on count size middle new_size answers others offers more changes added before.1 now)
  come_on count size middle new_size (Queued number ∷ answers) others (offer ∷ offers) more [] added before now = absurd before
  come_on count size middle new_size (Queued number ∷ answers) others (offer ∷ offers) more (change ∷ changes) added before now = (
    before.0,
    (
      before.1.0,
      before.1.1,
      come_on (suc count) before.1.0 middle new_size answers others offers more changes added before.1.2
          (subst (λ n. Accepts rule n middle others more added new_size) (one_more count (length changes)) now),
    ),
  )

  -- nothing comes of refused offers
  pub none_come : (count size : ℕ) (refused : List Offered) → AllByRecursion (Overfills (rule.acceptance (suc count)) rule.limit size) refused → Accepts rule count size (refusals refused ++ []) (refused ++ []) [] size
  none_come count size [] none = refl
  none_come count size (offer ∷ refused) none = (none.0, none_come count size refused none.1)

  -- after refused offers one was queued
  pub one_comes : (count size new_size : ℕ) (refused : List Offered) (number : ℕ) (offer : Offered) (change : Change) → AllByRecursion (Overfills (rule.acceptance (suc count)) rule.limit size) refused → number ≡ suc count → IsAccepted (rule.acceptance number) rule.limit size offer change new_size → Accepts rule count size (refusals refused ++ (Queued number ∷ [])) (refused ++ (offer ∷ [])) (change ∷ []) new_size
  one_comes count size new_size [] number offer change none is accepted = (is, (new_size, accepted, refl))
  one_comes count size new_size (other ∷ refused) number offer change none is accepted = (none.0, one_comes count size new_size refused number offer change none.1 is accepted)

-- Offers that were accepted stay so while changes are added.
use Rattle.std.proofs.Common.{◌≡◌, ◌<◌, ℕ, zero, suc, ◌+◌, List, [], ◌∷◌, ◌++◌, length, Some, refl, sym, ◌∙◌, ap, subst, slice_get, slice_index_or, append-nil, arith}
use Rattle.std.proofs.lemmas.Option.{slice_get_within}
use Rattle.relay_routes.specs.declared.config.Config.{Config}
use Rattle.relay_server.specs.Dialogue.{Offered, Said}
use Rattle.relay_book.specs.declared.change.Change.{Change}
use Rattle.relay_book.specs.Marks.{change_at}
use Rattle.relay_node.specs.Queued.{queued_in}
use Rattle.relay_loop.specs.Accepted.{AreAccepted, AreAcceptedAs, IsAcceptedAs}

get_left : {A : Type 0} (xs ys : List A) (n : ℕ) → n < length xs → slice_get (xs ++ ys) n ≡ slice_get xs n
get_left [] ys n below = absurd (omega (arith, below))
get_left (x ∷ xs) ys zero below = refl
get_left (x ∷ xs) ys (suc n) below = get_left xs ys n (omega (arith, below))

get_last : {A : Type 0} (xs : List A) (x : A) → slice_get (xs ++ x ∷ []) (length xs) ≡ Some x
get_last [] x = refl
get_last (y ∷ xs) x = get_last xs x

-- a change stays while more are added
pub change_stays : (changes added : List Change) (number : ℕ) (change : Change) → change_at changes number ≡ Some change → change_at (changes ++ added) number ≡ Some change
change_stays changes added zero change is = absurd cc
change_stays changes added (suc n) change is = get_left changes added n (slice_get_within changes n change is) ∙ is

-- the last change
pub change_last : (changes : List Change) (change : Change) (number : ℕ) → number ≡ length changes + 1 → change_at (changes ++ change ∷ []) number ≡ Some change
change_last changes change number is = ap (change_at (changes ++ change ∷ [])) (is ∙ plus_one (length changes)) ∙ get_last changes change
  where
    plus_one : (n : ℕ) → n + 1 ≡ suc n
    plus_one n = omega arith

module _ (config : Config) (peer : List ℕ) where
  accepted_as_stays : (changes added : List Change) (queued : List (ℕ × Offered)) → AreAcceptedAs config peer changes queued → AreAcceptedAs config peer (changes ++ added) queued
  accepted_as_stays changes added [] each = tt
  accepted_as_stays changes added (one ∷ queued) each = (
    record { at = each.0.at; accept = each.0.accept; is_accept = each.0.is_accept; change_is = change_stays changes added one.0 _ each.0.change_is },
    accepted_as_stays changes added queued each.1,
  )

  -- one of those that are accepted
  pub one_of : (changes : List Change) (queued : List (ℕ × Offered)) (k number : ℕ) (offer : Offered) → AreAcceptedAs config peer changes queued → k < length queued → slice_index_or queued k (number, offer) ≡ (number, offer) → IsAcceptedAs config peer changes number offer
  one_of changes [] k number offer each low is = absurd (omega (arith, low))
  one_of changes (one ∷ queued) zero number offer each low is = subst (λ (x : ℕ × Offered). IsAcceptedAs config peer changes x.0 x.1) is each.0
  one_of changes (one ∷ queued) (suc k) number offer each low is = one_of changes queued k number offer each.1 (omega (arith, low)) is

  pub accepted_stays : (changes added : List Change) (said : Said) → AreAccepted config peer changes said → AreAccepted config peer (changes ++ added) said
  accepted_stays changes added said each = accepted_as_stays changes added (queued_in said) each

  -- one offer more is accepted
  one_more : (changes : List Change) (queued : List (ℕ × Offered)) (number : ℕ) (offer : Offered) → AreAcceptedAs config peer changes queued → IsAcceptedAs config peer changes number offer → AreAcceptedAs config peer changes (queued ++ (number, offer) ∷ [])
  one_more changes [] number offer each one = (one, tt)
  one_more changes (first ∷ queued) number offer each one = (each.0, one_more changes queued number offer each.1 one)

  -- nothing more was queued
  pub accepted_alike : (changes : List Change) (said later : Said) → queued_in later ≡ queued_in said ++ [] → AreAccepted config peer changes said → AreAccepted config peer changes later
  accepted_alike changes said later grown each = subst (λ (l : List (ℕ × Offered)). AreAcceptedAs config peer changes l) (sym (grown ∙ append-nil (queued_in said))) each

  -- one offer more was queued, and is accepted by the change that was added
  pub accepted_more : (changes : List Change) (change : Change) (said later : Said) (number : ℕ) (offer : Offered) → queued_in later ≡ queued_in said ++ (number, offer) ∷ [] → IsAcceptedAs config peer (changes ++ change ∷ []) number offer → AreAccepted config peer changes said → AreAccepted config peer (changes ++ change ∷ []) later
  accepted_more changes change said later number offer grown one each =
      subst (λ (l : List (ℕ × Offered)). AreAcceptedAs config peer (changes ++ change ∷ []) l) (sym grown)
      (one_more (changes ++ change ∷ []) (queued_in said) number offer (accepted_stays changes (change ∷ []) said each) one)

-- Rows of lanes, one after another.
use Rattle.std.proofs.Common.{◌≡◌, ℕ, List, [], ◌∷◌, ◌++◌, Option, Result, refl, sym, ap, ◌∙◌, subst, append_assoc, append-nil}
use Rattle.relay_routes.specs.declared.config.Config.{Config}
use Rattle.relay_server.specs.declared.offer.Answer.{Answer}
use Rattle.relay_server.specs.Dialogue.{Offered}
use Rattle.relay_links.specs.declared.fault.LinkFault.{LinkFault}
use Rattle.relay_hub.specs.declared.receipt.Receipt.{Receipt}
use Rattle.relay_rounds.specs.declared.served.Link.{Link}
use Rattle.relay_rounds.specs.declared.served.Served.{Served}
use Rattle.relay_rounds.specs.declared.lane.Lane.{Lane}
use Rattle.relay_rounds.specs.Round.{AreApart, AreTogether, EndsBy, HasComeOut, HaveComeOut, IsLaneOf, IsRestOf, IsServed, IsWith, receipts_of}
use Rattle.relay_rounds.specs.Row.{EachIs}

-- the passes so far, each with the rest of its lane
abbrev pub AreTogetherSoFar : {R W : Type 0} → List (List Receipt) → List (Served R W) → List (Served R W) → List (Served R W) → Type 0
AreTogetherSoFar {R} {W} passes rests left served = (front : List (Served R W)) × (rests ≡ front ++ left) × AreTogether passes front served

module _ {R W : Type 0} where
  together_more : (passes : List (List Receipt)) (front served : List (Served R W)) (pass : List Receipt) (rest one : Served R W) → AreTogether passes front served → IsWith pass rest one → AreTogether (passes ++ pass ∷ []) (front ++ rest ∷ []) (served ++ one ∷ [])
  together_more [] [] [] pass rest one all is = (is, tt)
  together_more [] [] (first ∷ served) pass rest one all is = absurd all
  together_more [] (first ∷ front) served pass rest one all is = absurd all
  together_more (first ∷ passes) [] served pass rest one all is = absurd all
  together_more (first ∷ passes) (other ∷ front) [] pass rest one all is = absurd all
  together_more (first ∷ passes) (other ∷ front) (third ∷ served) pass rest one all is = (all.0, together_more passes front served pass rest one all.1 is)

  -- one pass more
  pub together_on : (passes : List (List Receipt)) (rests left new_left served : List (Served R W)) (pass : List Receipt) (rest one : Served R W) → AreTogetherSoFar passes rests left served → left ≡ rest ∷ new_left → IsWith pass rest one
      → AreTogetherSoFar (passes ++ pass ∷ []) rests new_left (served ++ one ∷ [])
  together_on passes rests left new_left served pass rest one all next is = (
    all.0 ++ rest ∷ [],
    all.1 ∙ ap (λ (l : List (Served R W)). all.0 ++ l) next ∙ sym (append_assoc all.0 (rest ∷ []) new_left),
    together_more passes all.0 served pass rest one all.2 is,
  )

  -- no rest is left
  pub all_together : (passes : List (List Receipt)) (rests served left : List (Served R W)) → AreTogetherSoFar passes rests left served → left ≡ [] → AreTogether passes rests served
  all_together passes rests served left all none =
      subst (λ (l : List (Served R W)). AreTogether passes l served) (sym (all.1 ∙ ap (λ (l : List (Served R W)). all.0 ++ l) none ∙ append-nil all.0)) all.2

  pub receipts_are : (passes : List (List Receipt)) (rests served : List (Served R W)) → AreTogether passes rests served → receipts_of served ≡ passes
  receipts_are [] [] [] all = refl
  receipts_are [] [] (one ∷ served) all = absurd all
  receipts_are [] (rest ∷ rests) served all = absurd all
  receipts_are (pass ∷ passes) [] served all = absurd all
  receipts_are (pass ∷ passes) (rest ∷ rests) [] all = absurd all
  receipts_are (pass ∷ passes) (rest ∷ rests) (one ∷ served) all =
      ap (λ (r : List Receipt). r ∷ receipts_of served) all.0.receipts ∙ ap (λ (l : List (List Receipt)). pass ∷ l) (receipts_are passes rests served all.1)

module _ {R W : Type 0} (has_answered : List ℕ → ℕ → Offered → Answer → Type 0) (remaining : R → Option (List ℕ)) (contents : W → Option (List ℕ)) (config : Config) (at : ℕ) where
  -- the same link, told by other words
  moved : (peer peer' : List ℕ) (reader reader' : R) (writer writer' : W) (before before' : List Receipt) (last last' : R) (held held' : W) (receipts receipts' : List Receipt) (ended ended' : Option (Result (Unit {0}) LinkFault))
      → peer ≡ peer' → reader ≡ reader' → writer ≡ writer' → before ≡ before' → last ≡ last' → held ≡ held' → receipts ≡ receipts' → ended ≡ ended'
      → EndsBy has_answered remaining contents config at peer reader writer before last held receipts ended → EndsBy has_answered remaining contents config at peer' reader' writer' before' last' held' receipts' ended'
  moved peer peer' reader reader' writer writer' before before' last last' held held' receipts receipts' ended ended' a b c d e f g h ends =
      subst (λ (x : List ℕ). EndsBy has_answered remaining contents config at x reader' writer' before' last' held' receipts' ended') a
      (subst (λ (x : R). EndsBy has_answered remaining contents config at peer x writer' before' last' held' receipts' ended') b
      (subst (λ (x : W). EndsBy has_answered remaining contents config at peer reader x before' last' held' receipts' ended') c
      (subst (λ (x : List Receipt). EndsBy has_answered remaining contents config at peer reader writer x last' held' receipts' ended') d
      (subst (λ (x : R). EndsBy has_answered remaining contents config at peer reader writer before x held' receipts' ended') e
      (subst (λ (x : W). EndsBy has_answered remaining contents config at peer reader writer before last x receipts' ended') f
      (subst (λ (x : List Receipt). EndsBy has_answered remaining contents config at peer reader writer before last held x ended') g
      (subst (λ (x : Option (Result (Unit {0}) LinkFault)). EndsBy has_answered remaining contents config at peer reader writer before last held receipts x) h ends)))))))

module _ {J R W : Type 0} where
  pub apart_on : (lanes : List (Lane J R W)) (passes : List (List Receipt)) (rests : List (Served R W)) (lane : Lane J R W) (pass : List Receipt) (rest : Served R W) → AreApart lanes passes rests → pass ≡ lane.pass → IsRestOf lane rest
      → AreApart (lanes ++ lane ∷ []) (passes ++ pass ∷ []) (rests ++ rest ∷ [])
  apart_on [] [] [] lane pass rest all same is = (same, is, tt)
  apart_on [] [] (first ∷ rests) lane pass rest all same is = absurd all
  apart_on [] (first ∷ passes) rests lane pass rest all same is = absurd all
  apart_on (first ∷ lanes) [] rests lane pass rest all same is = absurd all
  apart_on (first ∷ lanes) (other ∷ passes) [] lane pass rest all same is = absurd all
  apart_on (first ∷ lanes) (other ∷ passes) (third ∷ rests) lane pass rest all same is = (all.0, all.1, apart_on lanes passes rests lane pass rest all.2 same is)

module _ {J R W : Type 0} (has_answered : List ℕ → ℕ → Offered → Answer → Type 0) (remaining : R → Option (List ℕ)) (contents : W → Option (List ℕ)) where
  module _ (config : Config) (at : ℕ) where
    one_comes_out : (link : Link R W) (lane new : Lane J R W) (pass : List Receipt) (rest one : Served R W) → IsLaneOf link lane → IsServed has_answered remaining contents config at lane new → pass ≡ new.pass → IsRestOf new rest → IsWith pass rest one → HasComeOut has_answered remaining contents config at link one
    one_comes_out link lane new pass rest one of served same rest_of with = record {
      peer = with.peer ∙ rest_of.peer ∙ served.peer ∙ of.peer;
      ends =
          moved has_answered remaining contents config at lane.peer link.peer lane.reader link.reader lane.writer link.writer lane.pass [] new.reader one.reader new.writer one.writer new.pass one.receipts.items new.ended one.ended
          of.peer of.reader of.writer of.pass (sym (with.reader ∙ rest_of.reader)) (sym (with.writer ∙ rest_of.writer)) (sym (with.receipts ∙ same)) (sym (with.ended ∙ rest_of.ended)) served.ends;
    }

    -- what the links of a round have come to
    pub come_out : (links : List (Link R W)) (lanes news : List (Lane J R W)) (passes : List (List Receipt)) (rests served : List (Served R W)) → EachIs (λ link lane. IsLaneOf link lane) links lanes → EachIs (λ lane new. IsServed has_answered remaining contents config at lane new) lanes news → AreApart news passes rests → AreTogether passes rests served
        → HaveComeOut has_answered remaining contents config at links served
    come_out [] [] [] [] [] [] of are apart together = tt
    come_out [] [] [] [] [] (one ∷ served) of are apart together = absurd together
    come_out [] [] [] [] (rest ∷ rests) served of are apart together = absurd apart
    come_out [] [] [] (pass ∷ passes) rests served of are apart together = absurd apart
    come_out [] [] (new ∷ news) passes rests served of are apart together = absurd are
    come_out [] (lane ∷ lanes) news passes rests served of are apart together = absurd of
    come_out (link ∷ links) [] news passes rests served of are apart together = absurd of
    come_out (link ∷ links) (lane ∷ lanes) [] passes rests served of are apart together = absurd are
    come_out (link ∷ links) (lane ∷ lanes) (new ∷ news) [] rests served of are apart together = absurd apart
    come_out (link ∷ links) (lane ∷ lanes) (new ∷ news) (pass ∷ passes) [] served of are apart together = absurd apart
    come_out (link ∷ links) (lane ∷ lanes) (new ∷ news) (pass ∷ passes) (rest ∷ rests) [] of are apart together = absurd together
    come_out (link ∷ links) (lane ∷ lanes) (new ∷ news) (pass ∷ passes) (rest ∷ rests) (one ∷ served) of are apart together =
        (one_comes_out link lane new pass rest one of.0 are.0 apart.0 apart.1 together.0, come_out links lanes news passes rests served of.1 are.1 apart.2 together.1)

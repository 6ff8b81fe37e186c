-- The bodies of a chain in memory.
use Rattle.std.proofs.Common.{◌≡◌, ℕ, ◌<◌, List, [], ◌∷◌, ◌++◌, length, refl, sym, subst, ap, arith}
use Rattle.relay_spool.specs.Image.{IsChain, IsLink}
use Rattle.relay_spool.specs.Row.{bodies_of_chain}
use Rattle.relay_spool.proofs.ImageLemmas.{IsChain-push, zero_is_not_one}
use Rattle.relay_spool.proofs.WalkLemmas.{bodies_in-chain, closed_gate, many_fit}

-- the function finds the bodies of a chain
pub bodies_of_chain-is : (chain : List ℕ) (bodies : List (List ℕ)) → IsChain chain bodies → bodies_of_chain chain ≡ bodies
unfolding bodies_of_chain
bodies_of_chain-is chain bodies is =
    bodies_in-chain (length chain) chain (0 ∷ []) bodies is (many_fit chain bodies is) (omega arith) (closed_gate 0 [] (λ e. zero_is_not_one e))

-- a link after a chain
pub record Pushed (old new body : List ℕ) : Type 0 where
  pub link : List ℕ
  pub is_link : IsLink link body
  pub text : new ≡ old ++ link

pub pushed_chain : (old new body : List ℕ) (bodies : List (List ℕ)) → IsChain old bodies → Pushed old new body → IsChain new (bodies ++ body ∷ [])
pushed_chain old new body bodies is pushed =
    subst (λ (xs : List ℕ). IsChain xs (bodies ++ body ∷ [])) (sym pushed.text) (IsChain-push old pushed.link bodies body is pushed.is_link)

-- a chain is one of the bodies that are found
pub chain_found : (chain : List ℕ) (bodies : List (List ℕ)) → IsChain chain bodies → IsChain chain (bodies_of_chain chain)
chain_found chain bodies is = subst (λ (found : List (List ℕ)). IsChain chain found) (sym (bodies_of_chain-is chain bodies is)) is

-- a chain is empty where it has no bodies
pub no_bodies : (chain : List ℕ) (bodies : List (List ℕ)) → IsChain chain bodies → chain ≡ [] → bodies ≡ []
no_bodies chain [] is none = refl
no_bodies chain (body ∷ bodies) is none =
    let fit = many_fit chain (body ∷ bodies) is in
    let all = ap length none in
    absurd (omega (arith, fit, all))

pub no_chain : (chain : List ℕ) (bodies : List (List ℕ)) → IsChain chain bodies → bodies ≡ [] → chain ≡ []
no_chain chain bodies is none = subst (λ (others : List (List ℕ)). IsChain chain others) none is

pub some_chain : (chain : List ℕ) (bodies : List (List ℕ)) → IsChain chain bodies → (bodies ≡ [] → ⊥) → 0 < length chain
some_chain chain [] is some = absurd (some refl)
some_chain chain (body ∷ bodies) is some = let fit = many_fit chain (body ∷ bodies) is in omega (arith, fit)

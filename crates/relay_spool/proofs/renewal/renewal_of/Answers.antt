use Rattle.std.proofs.Common.{◌≡◌, ℕ, ◌+◌, ◌-◌, ◌<◌, ◌^◌, List, [], ◌∷◌, ◌++◌, length, take, drop, w32, w64, refl, sym, ap, subst, ◌∙◌, arith, rules, append_assoc, take_at, drop_at, length-append}
use Rattle.std.specs.Int.{to_be_bytes}
use Rattle.std.proofs.lemmas.Nat.{from_be_bytes-to_be_bytes_4, from_be_bytes-to_be_bytes_8}
use Rattle.relay_spool.specs.Image.{number_of}
use Rattle.relay_spool.specs.Head.{generation_in, IsRenewal}
use Rattle.relay_spool.proofs.renewal.renewal_of.Goals as goal

-- what is written, by its parts
renewal : (body : List ℕ) (generation : ℕ) → generation < 2 ^ 64 → length body < 2 ^ 32
    → IsRenewal (to_be_bytes w64 generation ++ 1 ∷ (to_be_bytes w32 (length body) ++ body ++ 0 ∷ [])) generation body
unfolding generation_in number_of
renewal body generation fits short = record {
  number = to_be_bytes w64 generation;
  width = refl;
  number_is = from_be_bytes-to_be_bytes_8 generation fits;
  link = 1 ∷ (to_be_bytes w32 (length body) ++ body ++ 0 ∷ []);
  is_addition = record {
    size = to_be_bytes w32 (length body);
    width = refl;
    number = from_be_bytes-to_be_bytes_4 (length body) short;
    text = refl;
  };
  text = refl;
}

-- the parts pushed after the body, and those in front of it brought there
turned : (body front all new : List ℕ) → length front ≡ 13 → all ≡ (body ++ 0 ∷ []) ++ front
    → new ≡ drop (length all - 13) all ++ take (length all - 13) all → new ≡ front ++ (body ++ 0 ∷ [])
turned body front all new width is new_is =
    let whole : length all ≡ length (body ++ 0 ∷ []) + length front = ap length is ∙ length-append (body ++ 0 ∷ []) front in
    let place : length (body ++ 0 ∷ []) ≡ length all - 13 = omega (arith, whole, width) in
    new_is
    ∙ ap (λ (xs : List ℕ). drop (length all - 13) xs ++ take (length all - 13) xs) is
    ∙ ap (λ (xs : List ℕ). xs ++ take (length all - 13) ((body ++ 0 ∷ []) ++ front)) (drop_at (body ++ 0 ∷ []) front (length all - 13) place)
    ∙ ap (λ (xs : List ℕ). front ++ xs) (take_at (body ++ 0 ∷ []) front (length all - 13) place)

pushed : (body number size all : List ℕ) → all ≡ (((body ++ 0 ∷ []) ++ number) ++ 1 ∷ []) ++ size → all ≡ (body ++ 0 ∷ []) ++ (number ++ 1 ∷ size)
pushed body number size all is =
    is ∙ ap (λ (xs : List ℕ). xs ++ size) (append_assoc (body ++ 0 ∷ []) number (1 ∷ []))
    ∙ append_assoc (body ++ 0 ∷ []) (number ++ 1 ∷ []) size
    ∙ ap (λ (xs : List ℕ). (body ++ 0 ∷ []) ++ xs) (append_assoc number (1 ∷ []) size)

parts : (number size body : List ℕ) → (number ++ 1 ∷ size) ++ (body ++ 0 ∷ []) ≡ number ++ (1 ∷ ((size ++ body) ++ 0 ∷ []))
parts number size body = append_assoc number (1 ∷ size) (body ++ 0 ∷ []) ∙ ap (λ (xs : List ℕ). number ++ 1 ∷ xs) (sym (append_assoc size body (0 ∷ [])))

whole : (body all new : List ℕ) (generation : ℕ) → generation < 2 ^ 64 → length body < 2 ^ 32
    → all ≡ (((body ++ 0 ∷ []) ++ to_be_bytes w64 generation) ++ 1 ∷ []) ++ to_be_bytes w32 (length body)
    → new ≡ drop (length all - 13) all ++ take (length all - 13) all → IsRenewal new generation body
whole body all new generation fits short is new_is =
    let number = to_be_bytes w64 generation in
    let size = to_be_bytes w32 (length body) in
    let one : new ≡ (number ++ 1 ∷ size) ++ (body ++ 0 ∷ []) = turned body (number ++ 1 ∷ size) all new refl (pushed body number size all is) new_is in
    subst (λ (xs : List ℕ). IsRenewal xs generation body) (sym (one ∙ parts number size body)) (renewal body generation fits short)

pub returns-clause-renewal : goal.returns-clause-renewal
returns-clause-renewal c = whole c.args.body.items c.extend_from_slice-2.new.self.items _ c.args.generation (search rules) c.requires (search rules) (search rules)

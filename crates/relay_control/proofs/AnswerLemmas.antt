-- An answer has one last line.
use Rattle.std.proofs.Common.{◌≡◌, ℕ, inl, inr, List, [], ◌∷◌, ◌++◌, drop, sym, ap, subst, ◌∙◌, append_assoc}
use Rattle.std.proofs.lemmas.List.{append_cancel_right}
use Rattle.relay_control.specs.Answer.{EndsInNoLf, HasNoAnswer, IsEnd, IsNoEnd, IsWhole}
use Rattle.relay_control.specs.Request.{HasNo}
use Rattle.relay_control.proofs.RequestLemmas.{has_stop}

-- what follows the last LF is one
after_last_lf : (front other last more : List ℕ) → HasNo 10 last → HasNo 10 more → front ++ 10 ∷ last ≡ other ++ 10 ∷ more → last ≡ more
after_last_lf [] [] last more p q same = ap (drop 1) same
after_last_lf [] (octet ∷ other) last more p q same =
    absurd (has_stop 10 other more (subst (λ (t : List ℕ). HasNo 10 t) (ap (drop 1) same) p))
after_last_lf (octet ∷ front) [] last more p q same =
    absurd (has_stop 10 front last (subst (λ (t : List ℕ). HasNo 10 t) (sym (ap (drop 1) same)) q))
after_last_lf (octet ∷ front) (next ∷ other) last more p q same = after_last_lf front other last more p q (ap (drop 1) same)

with_lf : (lines front last : List ℕ) → lines ≡ front ++ 10 ∷ [] → lines ++ last ≡ front ++ 10 ∷ last
with_lf lines front last is = ap (λ (l : List ℕ). l ++ last) is ∙ append_assoc front (10 ∷ []) last

pub last_is_one : (lines other last more : List ℕ) → IsWhole lines → IsWhole other → HasNo 10 last → HasNo 10 more → lines ++ last ≡ other ++ more → last ≡ more
last_is_one lines other last more (inl none) (inl nil) p q same =
    sym (ap (λ (l : List ℕ). l ++ last) none) ∙ same ∙ ap (λ (l : List ℕ). l ++ more) nil
last_is_one lines other last more (inl none) (inr (front, is)) p q same =
    absurd (has_stop 10 front more (subst (λ (t : List ℕ). HasNo 10 t) (sym (ap (λ (l : List ℕ). l ++ last) none) ∙ same ∙ with_lf other front more is) p))
last_is_one lines other last more (inr (front, is)) (inl nil) p q same =
    absurd (has_stop 10 front last (subst (λ (t : List ℕ). HasNo 10 t) (sym (ap (λ (l : List ℕ). l ++ more) nil) ∙ sym same ∙ with_lf lines front last is) q))
last_is_one lines other last more (inr (front, is)) (inr (back, are)) p q same =
    after_last_lf front back last more p q (sym (with_lf lines front last is) ∙ same ∙ with_lf other back more are)

-- the octets without their last LF
body_is_one : (octets body lines last : List ℕ) → octets ≡ body ++ 10 ∷ [] → octets ≡ lines ++ last ++ 10 ∷ [] → body ≡ lines ++ last
body_is_one octets body lines last is are =
    append_cancel_right body (lines ++ last) (10 ∷ []) (sym is ∙ are)

pub no_answer : (octets body lines last : List ℕ) → octets ≡ body ++ 10 ∷ [] → body ≡ lines ++ last → IsWhole lines → HasNo 10 last → IsNoEnd last → HasNoAnswer octets
no_answer octets body lines last is parts whole line none = record {
  none = λ reply p.
      let same = sym parts ∙ body_is_one octets body reply.lines.now p.last is p.octets_are in
      let lasts : last ≡ p.last = last_is_one lines reply.lines.now last p.last whole p.whole line p.last_is_line same in
      none reply.end (subst (λ (l : List ℕ). IsEnd l reply.end) (sym lasts) p.is_end);
}

pub no_lf : (octets : List ℕ) → EndsInNoLf octets → HasNoAnswer octets
no_lf octets none = record {
  none = λ reply p. none (reply.lines.now ++ p.last) p.octets_are;
}

pub is_answer : (octets body lines last : List ℕ) → octets ≡ body ++ 10 ∷ [] → body ≡ lines ++ last → octets ≡ lines ++ last ++ 10 ∷ []
is_answer octets body lines last is parts =
    is ∙ ap (λ (b : List ℕ). b ++ 10 ∷ []) parts

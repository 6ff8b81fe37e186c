-- Fields in pieces.
use Rattle.std.proofs.Common.{◌≡◌, ℕ, List, ◌++◌, append_assoc, ◌∙◌, ap}
use Rattle.relay_octets.specs.Line.{crlf}
use Rattle.relay_report.specs.StatusFields.{field, field_front, typed, typed_front}

joins : (old name kind text : List ℕ) → ((old ++ typed_front name kind) ++ text) ++ crlf ≡ old ++ field name (typed kind text)
unfolding field typed typed_front
joins old name kind text = simp append_assoc

-- a field whose body has a type is its front, the text and the line's end
pub typed_joins : (old name kind text front more new : List ℕ) → front ≡ old ++ typed_front name kind → more ≡ front ++ text → new ≡ more ++ crlf
    → new ≡ old ++ field name (typed kind text)
typed_joins old name kind text front more new a b c = c ∙ ap (λ l. l ++ crlf) (b ∙ ap (λ l. l ++ text) a) ∙ joins old name kind text

whole : (old name body : List ℕ) → ((old ++ field_front name) ++ body) ++ crlf ≡ old ++ field name body
unfolding field field_front
whole old name body = simp append_assoc

-- a field is its front, its body and the line's end
pub field_joins : (old name body front more new : List ℕ) → front ≡ old ++ field_front name → more ≡ front ++ body → new ≡ more ++ crlf
    → new ≡ old ++ field name body
field_joins old name body front more new a b c = c ∙ ap (λ l. l ++ crlf) (b ∙ ap (λ l. l ++ body) a) ∙ whole old name body

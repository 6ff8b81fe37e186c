-- Pieces that are added one after another.
use Rattle.std.proofs.Common.{◌≡◌, ℕ, ◌+◌, ◌<◌, ◌≤◌, List, ◌∷◌, ◌++◌, length, get_or, drop, Result, Ok, Err, OnOk, cond, append_assoc, append-nil, ◌∙◌, sym, ap, subst}
use Rattle.std.specs.List.{flat_map}
use Rattle.std.proofs.lemmas.List.{drop_all, drop_more}
use Rattle.std.specs.Result.{is_ok}

two_more : (old a b c : List ℕ) → ((old ++ a) ++ b) ++ c ≡ old ++ (a ++ b ++ c)
two_more old a b c = simp append_assoc

pub joins_2 : (old a b x new : List ℕ) → x ≡ old ++ a → new ≡ x ++ b → new ≡ old ++ (a ++ b)
joins_2 old a b x new e f = f ∙ ap (λ l. l ++ b) e ∙ append_assoc old a b

pub joins_3 : (old a b c x y new : List ℕ) → x ≡ old ++ a → y ≡ x ++ b → new ≡ y ++ c → new ≡ old ++ (a ++ b ++ c)
joins_3 old a b c x y new e f g = g ∙ ap (λ l. l ++ c) (f ∙ ap (λ l. l ++ b) e) ∙ two_more old a b c

pub joins_4 : (old a b c d x y z new : List ℕ) → x ≡ old ++ a → y ≡ x ++ b → z ≡ y ++ c → new ≡ z ++ d → new ≡ old ++ (a ++ b ++ c ++ d)
joins_4 old a b c d x y z new e f g h = h ∙ ap (λ l. l ++ d) (joins_3 old a b c x y z e f g) ∙ append_assoc old (a ++ b ++ c) d

pub joins_5 : (old a b c d f v x y z new : List ℕ) → v ≡ old ++ a → x ≡ v ++ b → y ≡ x ++ c → z ≡ y ++ d → new ≡ z ++ f → new ≡ old ++ (a ++ b ++ c ++ d ++ f)
joins_5 old a b c d f v x y z new e g h i j = j ∙ ap (λ l. l ++ f) (joins_4 old a b c d v x y z e g h i) ∙ append_assoc old (a ++ b ++ c ++ d) f

pub joins_6 : (old a b c d f g u v x y z new : List ℕ) → u ≡ old ++ a → v ≡ u ++ b → x ≡ v ++ c → y ≡ x ++ d → z ≡ y ++ f → new ≡ z ++ g
    → new ≡ old ++ (a ++ b ++ c ++ d ++ f ++ g)
joins_6 old a b c d f g u v x y z new e h i j k m = m ∙ ap (λ l. l ++ g) (joins_5 old a b c d f u v x y z e h i j k) ∙ append_assoc old (a ++ b ++ c ++ d ++ f) g

-- where the last call adds a piece, all are added
pub ends_by : {E : Type 0} (r : Result (Unit {0}) E) (new piece text : List ℕ) → piece ≡ text → OnOk r (new ≡ piece) → OnOk r (new ≡ text)
ends_by r new piece text same added = subst (λ l. OnOk r (new ≡ l)) same added

-- the same where that call adds octets
pub ends_by_octets : {E : Type 0} (r : Result (Unit {0}) E) (old octets new text : List ℕ) → old ++ octets ≡ text
    → new ≡ cond (is_ok r) (old ++ octets) old → OnOk r (new ≡ text)
ends_by_octets (Ok value) old octets new text same added = added ∙ same
ends_by_octets (Err fault) old octets new text same added = tt

-- one piece more of a row is written
pub written_more : {A : Type 0} (text : A → List ℕ) (row : List A) (index : ℕ) (one : A) (old new whole : List ℕ) → index < length row
    → one ≡ get_or row index one → new ≡ old ++ text one → old ++ flat_map text (drop index row) ≡ whole
    → new ++ flat_map text (drop (index + 1) row) ≡ whole
written_more text row index one old new whole within is added so_far =
    ap (λ l. l ++ flat_map text (drop (index + 1) row)) added ∙ append_assoc old (text one) (flat_map text (drop (index + 1) row))
    ∙ ap (λ l. old ++ flat_map text l) (ap (λ first. first ∷ drop (index + 1) row) is ∙ sym (drop_more row index one within)) ∙ so_far

-- the whole row is written
pub all_written : {A : Type 0} (text : A → List ℕ) (row : List A) (index : ℕ) (old whole : List ℕ) → length row ≤ index
    → old ++ flat_map text (drop index row) ≡ whole → old ≡ whole
all_written text row index old whole end so_far =
    sym (append-nil old) ∙ ap (λ l. old ++ flat_map text l) (sym (drop_all index row end)) ∙ so_far

-- What stands at the front of what is held of a text stands at the front of the text.
use Rattle.std.proofs.Common.{◌≡◌, ◌⊎◌, inl, inr, ℕ, suc, ◌-◌, ◌<◌, ◌≤◌, List, [], ◌∷◌, ◌++◌, length, take, drop, refl, sym, subst, ap, ◌∙◌, arith, append_assoc, append-nil, length-append, take-append-drop}
use Rattle.std.proofs.lemmas.Bool.{cases_lt}
use Rattle.std.proofs.lemmas.List.{drop_at, take-append-le, take_at}
use Rattle.relay_pieces.specs.Pieces.{InPieces, text_of}
use Rattle.relay_book.specs.declared.version.SnapshotVersion.{SnapshotVersion}
use Rattle.relay_book.specs.Fields.{HasNone}
use Rattle.relay_book.specs.Record.{octets_4, octets_8}
use Rattle.relay_book.specs.Snapshot.{snapshot_kind}
use Rattle.relay_book.specs.SnapshotFields.{SpellsNoSnapshot, SpellsSnapshot, is_of_snapshot}
use Rattle.relay_book.proofs.LengthLemmas.{length_8}

-- what follows a first part is not longer than the text
pub after_first : (front first rest : List ℕ) → front ≡ first ++ rest → length rest ≤ length front
after_first front first rest is =
    let all = ap length is in
    let parts = length-append first rest in
    omega (arith, all, parts)

-- what is left when a first part is let go
pub rest_is : (front first rest : List ℕ) → front ≡ first ++ rest → drop (length front - length rest) front ≡ rest
rest_is front first rest is =
    let all = ap length is in
    let parts = length-append first rest in
    let long : length first ≡ length front - length rest = omega (arith, all, parts) in
    ap (drop (length front - length rest)) is ∙ drop_at first rest (length front - length rest) long

-- a first part of what is held, which is let go, is a first part of the text
pub first_after : (old new : InPieces) (first rest : List ℕ) → old.front ≡ first ++ rest → new.front ≡ drop (length old.front - length rest) old.front → new.after ≡ old.after
    → text_of old ≡ first ++ text_of new
first_after old new first rest is left stays =
    ap (λ (l : List ℕ). l ++ old.after) is ∙ append_assoc first rest old.after
    ∙ (λ i. first ++ (sym (left ∙ rest_is old.front first rest is) i ++ sym stays i))

-- the text is what is held, where nothing stands after that
pub text_is_front : (pieces : InPieces) → pieces.after ≡ [] → text_of pieces ≡ pieces.front
text_is_front pieces none = ap (λ (l : List ℕ). pieces.front ++ l) none ∙ append-nil pieces.front

-- no value begins the text, where none begins what is held and that is all
pub none_in_all : {A : Type 0} (Valid : A → Type 0) (octets_of : A → List ℕ) (text : List ℕ) (pieces : InPieces) → HasNone Valid octets_of pieces.front → pieces.after ≡ []
    → text_of pieces ≡ text → HasNone Valid octets_of text
none_in_all Valid octets_of text pieces out none same = subst (HasNone Valid octets_of) (sym (text_is_front pieces none) ∙ same) out

-- what stands before the messages of a snapshot
head : SnapshotVersion → ℕ → ℕ → List ℕ
head version next count = snapshot_kind version ∷ (octets_8 next ++ octets_4 count)

length_4 : (n : ℕ) → length (octets_4 n) ≡ 4
unfolding octets_4
length_4 n = refl

head_long : (version : SnapshotVersion) (next count : ℕ) → length (head version next count) ≡ 13
unfolding head
head_long version next count =
    let all : length (snapshot_kind version ∷ (octets_8 next ++ octets_4 count)) ≡ suc (length (octets_8 next ++ octets_4 count)) = refl in
    let parts = length-append (octets_8 next) (octets_4 count) in
    let eight = length_8 next in
    let four = length_4 count in
    omega (arith, all, parts, eight, four)

head_and_rest : (version : SnapshotVersion) (next count : ℕ) (rest : List ℕ) → snapshot_kind version ∷ (octets_8 next ++ (octets_4 count ++ rest)) ≡ head version next count ++ rest
unfolding head
head_and_rest version next count rest = λ i. snapshot_kind version ∷ sym (append_assoc (octets_8 next) (octets_4 count) rest) i

pub head_after : (version : SnapshotVersion) (front : List ℕ) (next count : ℕ) (rest : List ℕ) → SpellsSnapshot version front next count rest → length rest ≤ length front
head_after version front next count rest spelled =
    after_first front (head version next count) rest (spelled.octets_are ∙ head_and_rest version next count rest)

-- the head that stands at the front of what is held is that of the text
pub head_in_all : (version : SnapshotVersion) (text : List ℕ) (old new : InPieces) (next count : ℕ) (rest : List ℕ) → SpellsSnapshot version old.front next count rest → text_of old ≡ text
    → new.front ≡ drop (length old.front - length rest) old.front → new.after ≡ old.after → SpellsSnapshot version text next count (text_of new)
head_in_all version text old new next count rest spelled same left stays = record {
  octets_are = sym same ∙ first_after old new (head version next count) rest (spelled.octets_are ∙ head_and_rest version next count rest) left stays
      ∙ sym (head_and_rest version next count (text_of new));
  next_fits = spelled.next_fits;
  count_fits = spelled.count_fits;
}

-- a first part that isn't longer than what is held is a first part of that
within_front : (front after first rest : List ℕ) → length first ≤ length front → front ++ after ≡ first ++ rest → front ≡ first ++ drop (length first) front
within_front front after first rest fits is =
    let begins : take (length first) front ≡ first = sym (take-append-le (length first) front after fits) ∙ ap (take (length first)) is ∙ take_at first rest (length first) refl in
    sym (take-append-drop (length first) front) ∙ ap (λ (l : List ℕ). l ++ drop (length first) front) begins

-- no head begins the text, where none begins what is held, and that is 13 octets or all
pub no_head_in_all : (text : List ℕ) (pieces : InPieces) → SpellsNoSnapshot pieces.front → (length pieces.front < 13 → pieces.after ≡ []) → text_of pieces ≡ text → SpellsNoSnapshot text
no_head_in_all text pieces out short same = subst SpellsNoSnapshot same (by (cases_lt (length pieces.front) 13))
  where
    by : (length pieces.front < 13) ⊎ (13 ≤ length pieces.front) → SpellsNoSnapshot (text_of pieces)
    by (inl less) = subst SpellsNoSnapshot (sym (text_is_front pieces (short less))) out
    by (inr enough) = record {
      none = λ version next count rest spelled.
          let first = head version next count in
          let long = head_long version next count in
          out.none version next count (drop (length first) pieces.front) (record {
            octets_are = within_front pieces.front pieces.after first rest (omega (arith, enough, long)) (spelled.octets_are ∙ head_and_rest version next count rest)
                ∙ sym (head_and_rest version next count (drop (length first) pieces.front));
            next_fits = spelled.next_fits;
            count_fits = spelled.count_fits;
          });
    }

-- the first octet of what is held is that of the text
pub kind_in_all : (pieces : InPieces) → (length pieces.front < 1 → pieces.after ≡ []) → is_of_snapshot pieces.front ≡ is_of_snapshot (text_of pieces)
kind_in_all pieces held = by pieces.front pieces.after held
  where
    by : (front after : List ℕ) → (length front < 1 → after ≡ []) → is_of_snapshot front ≡ is_of_snapshot (front ++ after)
    by [] after held = ap is_of_snapshot (sym (held (omega arith)))
    by (octet ∷ front) after held = refl

-- the head of a snapshot in pieces
pub ruleset heads_in_pieces = (head_in_all, no_head_in_all, head_after)

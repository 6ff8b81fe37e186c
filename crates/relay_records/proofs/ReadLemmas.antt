-- Bodies that are read one by one.
use Rattle.std.proofs.Common.{◌≡◌, ℕ, zero, suc, ◌+◌, List, [], ◌∷◌, ◌++◌, length, map, refl, sym, ap, ◌∙◌, subst}
use Rattle.std.specs.Iterator.{Yields}
use Rattle.std.proofs.lemmas.List.{map-append}
use Rattle.std.specs.Vec.Iter.{into_iter_items, into_iter_steps}
use Rattle.std.specs.declared.vec.IntoIter.{IntoIter}
use Rattle.relay_pieces.specs.Pieces.{InPieces, text_of}
use Rattle.relay_book.specs.Queue.{Queue, empty_queue}
use Rattle.relay_book.specs.Snapshot.{IsQueue}
use Rattle.relay_book.specs.StandsFor.{ReadsAll, ReadsBody, ReadsFirst, ReadsNoBody, ReadsNoFirst, ReadsQueue}
use Rattle.relay_book.proofs.Theorems.{bodies_leave_one, one_more_read, read_is_queue}
use Rattle.relay_records.specs.Open.{IsBadRecord}
use Rattle.relay_records.specs.Reading.{ReadsAt, ReadsNoneAt}

-- the first body, and each other one
pub first_at : (before : ℕ) (queue : Queue) (body : List ℕ) (left : Queue) → before ≡ 0 → ReadsFirst body left → ReadsAt before queue body left
first_at before queue body left is reads = subst (λ (n : ℕ). ReadsAt n queue body left) (sym is) reads

pub next_at : (before : ℕ) (queue : Queue) (body : List ℕ) (left : Queue) → (before ≡ 0 → ⊥) → ReadsBody queue body left → ReadsAt before queue body left
next_at zero queue body left some reads = absurd (some refl)
next_at (suc before) queue body left some reads = reads

pub none_first : (before : ℕ) (queue : Queue) (body : List ℕ) → before ≡ 0 → ReadsNoFirst body → ReadsNoneAt before queue body
none_first before queue body is out = subst (λ (n : ℕ). ReadsNoneAt n queue body) (sym is) (record { none = out.none })

pub none_next : (before : ℕ) (queue : Queue) (body : List ℕ) → (before ≡ 0 → ⊥) → ReadsNoBody queue body → ReadsNoneAt before queue body
none_next zero queue body some out = absurd (some refl)
none_next (suc before) queue body some out = record { none = out.none }

-- one body more was read
pub all_more : (front : List (List ℕ)) (body : List ℕ) (old new : Queue) → ReadsAll front old → ReadsAt (length front) old body new → ReadsAll (front ++ body ∷ []) new
all_more [] body old new reads at = (new, at, refl)
all_more (first ∷ front) body old new reads at = one_more_read (first ∷ front) old body new reads at

-- the last of bodies that were read
rest_last : (queue : Queue) (bodies : List (List ℕ)) (body : List ℕ) (left : Queue) → ReadsQueue queue (bodies ++ body ∷ []) left
    → (mid : Queue) × ReadsQueue queue bodies mid × ReadsBody mid body left
rest_last queue [] body left reads = (queue, refl, subst (ReadsBody queue body) (sym reads.2) reads.1)
rest_last queue (first ∷ bodies) body left reads =
    let after = rest_last reads.0 bodies body left reads.2 in
    (after.0, (reads.0, reads.1, after.1), after.2)

all_last : (front : List (List ℕ)) (body : List ℕ) (left : Queue) → ReadsAll (front ++ body ∷ []) left
    → (mid : Queue) × ReadsAll front mid × ReadsAt (length front) mid body left
all_last [] body left reads = (empty_queue, refl, subst (ReadsFirst body) (sym reads.2) reads.1)
all_last (first ∷ front) body left reads =
    let after = rest_last reads.0 front body left reads.2 in
    (after.0, (reads.0, reads.1, after.1), after.2)

-- what was read may be stored
pub read_queue : (bodies : List (List ℕ)) (left : Queue) → ReadsAll bodies left → IsQueue left
read_queue bodies left reads = read_is_queue bodies left reads

-- a body was not read
pub is_bad : (front : List (List ℕ)) (body : List ℕ) (rest bodies : List (List ℕ)) (number : ℕ) (queue : Queue) → ReadsAll front queue
    → bodies ≡ front ++ body ∷ rest → number ≡ length front + 1 → ReadsNoneAt (length front) queue body → IsBadRecord number bodies
is_bad front body rest bodies number queue reads are is out = record {
  front = front;
  body = body;
  rest = rest;
  bodies_are = are;
  number_is = is;
  queue = queue;
  reads = reads;
  none = λ left more.
      let last = all_last front body left more in
      let same = bodies_leave_one front last.0 queue last.1 reads in
      out.none left (subst (λ (q : Queue). ReadsAt (length front) q body left) same last.2);
}

-- what the iterator of a vector has given is a front of its items
taken_front : {X A : Type 0} (s : IntoIter X A) (xs : List X) (t : IntoIter X A) → Yields into_iter_steps s xs t → into_iter_items s ≡ xs ++ into_iter_items t
taken_front s [] t y = ap into_iter_items y
taken_front s (x ∷ xs) t y = y.1.0 ∙ ap (λ ys. x ∷ ys) (taken_front y.0 xs t y.2)

-- the texts of what was given, of the one that is given now, and of the others
pub texts_around : {A : Type 0} (rows : List InPieces) (s t u : IntoIter InPieces A) (given : List InPieces) (row : InPieces)
    → into_iter_items s ≡ rows → Yields into_iter_steps s given t → into_iter_items t ≡ row ∷ into_iter_items u
    → map text_of rows
    ≡ map text_of given ++ text_of row ∷ map text_of (into_iter_items u)
texts_around rows s t u given row is yielded next =
    ap (map text_of) (sym is ∙ taken_front s given t yielded ∙ ap (λ rest. given ++ rest) next)
    ∙ map-append text_of given (row ∷ into_iter_items u)

-- a body that is read as the first one or as one of the others, or refused
pub ruleset read_by_place = (first_at, next_at, none_first, none_next)

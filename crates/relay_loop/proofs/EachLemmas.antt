-- Pieces that are answered one after another, and a piece more.
use Rattle.std.proofs.Common.{◌≡◌, ◌≢◌, ◌⊎◌, ◌≤◌, ◌^◌, inl, inr, ℕ, ◌+◌, true, List, [], ◌∷◌, ◌++◌, length, take, Option, None, Result, refl, sym, ap, ◌∙◌, subst, length-append, arith}
use Rattle.std.proofs.lemmas.Bool.{cases_eq}
use Rattle.std.proofs.lemmas.List.{take_all}
use Rattle.std.specs.List.{AllByRecursion}
use Rattle.relay_disk.specs.Device.{DiskWords}
use Rattle.relay_slots.specs.Slots.{OthersStay, slot_at}
use Rattle.relay_spool.specs.Image.{room_of}
use Rattle.relay_book.specs.declared.change.Change.{Change}
use Rattle.relay_records.specs.Staged.{Awaits, Row}
use Rattle.relay_records.specs.declared.fault.NodeFault.{NodeFault}
use Rattle.relay_loop.specs.declared.clients.Heard.{Heard}
use Rattle.relay_loop.specs.declared.group.Piece.{Piece}
use Rattle.relay_loop.specs.GroupCalls.{HearsPiece, HearsPieces}
use Rattle.relay_loop.specs.GroupPieces.{AnswersEach, AnswersOne, IsUndone}
use Rattle.relay_loop.specs.Groups.{OnlyTheirs}
use Rattle.relay_loop.specs.Relay.{OnlyClient, RelayState}
use Rattle.relay_loop.proofs.GroupCallLemmas.{hears_more}
use Rattle.relay_loop.proofs.GroupLemmas.{each_more}

-- what a list of pieces has after its end
abbrev pub no_piece : Piece
no_piece = record { session = 0; octets = record { ref_ptr = (0, 0); now = [] } }

-- what is so of a row of things is so of those in front, and of the last
pub all_split : {A : Type 0} (P : A → Type 0) (xs : List A) (x : A) → AllByRecursion P (xs ++ x ∷ []) → AllByRecursion P xs × P x
all_split P [] x all = (tt, all.0)
all_split P (first ∷ xs) x all = let rest = all_split P xs x all.1 in ((all.0, rest.0), rest.1)

-- and the other way
pub all_join : {A : Type 0} (P : A → Type 0) (xs : List A) (x : A) → AllByRecursion P xs → P x → AllByRecursion P (xs ++ x ∷ [])
all_join P [] x all last = (last, tt)
all_join P (first ∷ xs) x all last = (all.0, all_join P xs x all.1 last)

-- a piece more leaves the others
only_more : {D : Type 0} (first mid new : RelayState D) (pieces : List Piece) (piece : Piece) → OnlyTheirs first mid pieces [] → OnlyClient mid new piece.session → OnlyTheirs first new (pieces ++ piece ∷ []) []
only_more first mid new pieces piece before only = record {
  sessions = λ session all.
      let parts = all_split (λ (p : Piece). session ≢ p.session) pieces piece all in
      let same = before.sessions session parts.0 in
      (only.seats session parts.1 ∙ same.0, only.clients session parts.1 ∙ same.1);
  attempts = λ attempt all.
      let same = before.attempts attempt all in
      (ap (λ l. slot_at l attempt) only.attempts ∙ same.0, ap (λ l. slot_at l attempt) only.hops ∙ same.1);
  config = only.config ∙ before.config;
}

-- connections that are gone stay so
stays_gone : {X : Type 0} (number_of : X → ℕ) (old new : List (Option (List ℕ))) (xs : List X) (number : ℕ)
    → AllByRecursion (λ x. slot_at old (number_of x) ≡ None) xs → slot_at new number ≡ None → OthersStay old new number
    → AllByRecursion (λ x. slot_at new (number_of x) ≡ None) xs
stays_gone number_of old new [] number gone one others = tt
stays_gone {X = X} number_of old new (x ∷ xs) number gone one others =
    (still (cases_eq (number_of x) number), stays_gone number_of old new xs number gone.1 one others)
  where
    still : (number_of x ≡ number) ⊎ (number_of x ≡ number → ⊥) → slot_at new (number_of x) ≡ None
    still (inl same) = ap (slot_at new) same ∙ one
    still (inr other) = others (number_of x) other ∙ gone.0

-- the connections of these numbers are gone, and no others
pub record AreDropped {X : Type 0} (number_of : X → ℕ) (old new : List (Option (List ℕ))) (xs : List X) : Type 0 where
  pub gone : AllByRecursion (λ x. slot_at new (number_of x) ≡ None) xs
  pub others : (number : ℕ) → AllByRecursion (λ x. number ≢ number_of x) xs → slot_at new number ≡ slot_at old number

pub dropped_more : {X : Type 0} (number_of : X → ℕ) (old mid new : List (Option (List ℕ))) (xs : List X) (x : X)
    → AreDropped number_of old mid xs → slot_at new (number_of x) ≡ None → OthersStay mid new (number_of x)
    → AreDropped number_of old new (xs ++ x ∷ [])
dropped_more {X = X} number_of old mid new xs x so one others = record {
  gone =
      all_join (λ (y : X). slot_at new (number_of y) ≡ None) xs x (stays_gone number_of mid new xs (number_of x) so.gone one others) one;
  others = λ number all.
      let parts = all_split (λ (y : X). number ≢ number_of y) xs x all in
      others number parts.1 ∙ so.others number parts.0;
}

-- a row that had room has it still where no call went to a device
pub room_after : {D : Type 0} (mid new : RelayState D) (row between left : Row) → IsUndone mid new
    → (between ≡ row) ⊎ (mid.node.records.spool.size + room_of between.bodies ≤ 2 ^ 40)
    → (left ≡ between) ⊎ (new.node.records.spool.size + room_of left.bodies ≤ 2 ^ 40)
    → (left ≡ row) ⊎ (new.node.records.spool.size + room_of left.bodies ≤ 2 ^ 40)
room_after mid new row between left undone before (inr within) = inr within
room_after mid new row between left undone (inl same) (inl unmoved) = inl (unmoved ∙ same)
room_after mid new row between left undone (inr within) (inl unmoved) =
    let size = ap (λ s. s.size) undone.spool in
    let bodies = ap (λ (r : Row). room_of r.bodies) unmoved in
    inr (omega (arith, size, bodies, within))

-- so many pieces are answered, from this relay and row to those
module _ {D : Type 0} (honest : Type 0) (words : DiskWords D) (at : ℕ) (first : RelayState D) (row : Row) where
  -- what was pending grows
  abbrev pub HasEach : List Piece → List (Result Heard NodeFault) → RelayState D → Row → Type 0
  HasEach pieces answers mid between =
      (changes pending : List Change) → Awaits honest words first.node.records changes pending row
      → (all : List Change) × AnswersEach honest words changes at pieces answers pending first row mid between all × Awaits honest words mid.node.records changes all between

  pub record Goes (pieces : List Piece) (answers : List (Result Heard NodeFault)) (mid : RelayState D) (between : Row) : Type 0 where
    pub live : mid.node.records.spool.live ≡ true
    pub undone : IsUndone first mid
    pub room : (between ≡ row) ⊎ (mid.node.records.spool.size + room_of between.bodies ≤ 2 ^ 40)
    pub only : OnlyTheirs first mid pieces []
    pub lengths : length answers ≡ length pieces
    pub each : HasEach pieces answers mid between
    pub hears : HearsPieces honest words at pieces answers first row mid between

  pub goes_nowhere : first.node.records.spool.live ≡ true → (answers : List (Result Heard NodeFault)) → answers ≡ [] → Goes [] answers first row
  goes_nowhere live answers none = record {
    live = live;
    undone = record { spool = refl; noted = refl };
    room = inl refl;
    only = record { sessions = λ session all. (refl, refl); attempts = λ attempt all. (refl, refl); config = refl };
    lengths = ap length none;
    each = λ changes pending awaits. (pending, (none, refl, refl, refl), awaits);
    hears = (none, refl, refl);
  }

  -- all are
  pub all_pieces : (pieces : List Piece) (index : ℕ) (answers : List (Result Heard NodeFault)) (mid : RelayState D) (between : Row) → length pieces ≤ index → Goes (take index pieces) answers mid between → Goes pieces answers mid between
  all_pieces pieces index answers mid between long goes = subst (λ (l : List Piece). Goes l answers mid between) (take_all index pieces long) goes

  module _ (mid new : RelayState D) (between left : Row) (piece : Piece) (answer : Result Heard NodeFault)
      (answers_one : (changes pending : List Change) → Awaits honest words mid.node.records changes pending between → (more : List Change) × AnswersOne honest words changes at pending piece mid between new left more answer)
      (hears_one : HearsPiece honest words at mid between new left piece answer) (only : OnlyClient mid new piece.session) (undone : IsUndone mid new) (room : (left ≡ between) ⊎ (new.node.records.spool.size + room_of left.bodies ≤ 2 ^ 40)) where
    pub goes_on : (pieces : List Piece) (answers : List (Result Heard NodeFault)) → Goes pieces answers mid between → Goes (pieces ++ piece ∷ []) (answers ++ answer ∷ []) new left
    goes_on pieces answers so = record {
      live = ap (λ s. s.live) undone.spool ∙ so.live;
      undone = record { spool = undone.spool ∙ so.undone.spool; noted = undone.noted ∙ so.undone.noted };
      room = room_after mid new row between left undone so.room room;
      only = only_more first mid new pieces piece so.only only;
      lengths = length-append answers (answer ∷ []) ∙ ap (λ n. n + 1) so.lengths ∙ sym (length-append pieces (piece ∷ []));
      each = λ changes pending awaits.
          let before = so.each changes pending awaits in
          let one = answers_one changes before.0 before.2 in
          (before.0 ++ one.0, each_more honest words changes at pieces answers pending before.0 one.0 first mid new row between left piece answer before.1 one.1, one.1.awaits);
      hears = hears_more honest words at pieces answers first mid new row between left piece answer so.hears hears_one;
    }

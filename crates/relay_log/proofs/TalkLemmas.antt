-- What a talk keeps of the replies that it hears.
use Rattle.std.proofs.Common.{◌≡◌, ◌==◌, ◌≤◌, ℕ, ◌+◌, ◌-◌, Bool, true, false, List, [], ◌∷◌, ◌++◌, length, map, min}
use Rattle.std.proofs.Common.{take, drop, Option, Some, None, MatchOption, ◌⊎◌, inl, inr, refl, sym, ap, ◌∙◌, subst}
use Rattle.std.proofs.Common.{arith, if◌then◌else◌, is_some}
use Rattle.std.specs.Prelude.{option_map, slice_get}
use Rattle.std.proofs.lemmas.List.{append_assoc, drop-take, length-map, map-append, take-append-drop, take-take}
use Rattle.std.proofs.lemmas.List.{take_all, take_min, take_rest}
use Rattle.std.proofs.lemmas.Simd.{map-map}
use Rattle.std.proofs.lemmas.Option.{MatchOption-at_none, MatchOption-at_some}
use Rattle.relay_lines.specs.Reply.{Reply, last_text}
use Rattle.relay_lines.specs.ReplySteps.{HasRead}
use Rattle.relay_lines.specs.declared.reply_reader.ReplyReader.{ReplyReader}
use Rattle.relay_lines.proofs.Theorems.{cut_goes_on}
use Rattle.relay_course.specs.VerdictTable.{kind_of}
use Rattle.relay_course.specs.Settling.{settling_position}
use Rattle.relay_log.specs.Settling.{closing_reply, if_closing, if_closing_told, kinds_of, one_or, told_as, told_text}
use Rattle.relay_log.specs.Talk.{HasHeard, HasKept, KeepsNone, KeepsReply}
use Rattle.relay_log.specs.declared.talk.Talk.{Talk}
use Rattle.relay_course.specs.declared.reply_kind.ReplyKind.{ReplyKind}

-- a talk that keeps the same replies has heard the same
pub kept_same : (old new : Talk) (octets : List ℕ) (replies : List Reply) → KeepsNone old new
    → new.reader ≡ old.reader → new.listens ≡ old.listens → HasKept old octets replies → HasKept new octets replies
kept_same old new octets replies none reader listens kept = record {
  rest = kept.rest;
  cut = kept.cut;
  codes = none.codes ∙ kept.codes;
  texts = none.texts ∙ kept.texts;
  all = λ yes.
      subst (λ (r : ReplyReader). HasRead r octets replies kept.rest) (sym reader) (kept.all (sym listens ∙ yes));
}

-- one that doesn't listen keeps none of the octets that follow
pub deaf : (old new : Talk) (octets more : List ℕ) → KeepsNone old new → new.listens ≡ false → HasHeard old octets
    → HasHeard new (octets ++ more)
deaf old new octets more none listens (replies, kept) = (
  replies,
  record {
    rest = kept.rest ++ more;
    cut = cut_goes_on octets kept.rest more replies kept.cut;
    codes = none.codes ∙ kept.codes;
    texts = none.texts ∙ kept.texts;
    all = λ yes. absurd (cc);
  },
)

-- one whose reader has used octets that end no reply
pub read_on : (old new : Talk) (octets piece : List ℕ) (cut : Option Reply) (used : ℕ) (P Q : Reply → Type 0)
    → KeepsNone old new → old.listens ≡ true → cut ≡ None → MatchOption cut (used ≡ length piece) P
    → ((before : List ℕ) (replies : List Reply) (rest : List ℕ) → HasRead old.reader before replies rest
    → MatchOption cut (HasRead new.reader (before ++ piece) replies (rest ++ piece))
    (λ reply. HasRead new.reader (before ++ take used piece) (replies ++ reply ∷ []) []))
    → HasHeard old octets → HasHeard new (octets ++ take used piece)
read_on old new octets piece cut used P Q none listens is whole reads (replies, kept) =
    let size : used ≡ length piece = MatchOption-at_none (used ≡ length piece) P is whole in
    let all : take used piece ≡ piece = take_all used piece (omega (arith, size)) in
    let read : HasRead new.reader (octets ++ piece) replies (kept.rest ++ piece) =
    MatchOption-at_none (HasRead new.reader (octets ++ piece) replies (kept.rest ++ piece))
    (λ reply. HasRead new.reader (octets ++ take used piece) (replies ++ reply ∷ []) []) is
    (reads octets replies kept.rest (kept.all listens)) in
    subst (λ (more : List ℕ). HasHeard new (octets ++ more)) (sym all) (
      replies,
      record {
        rest = kept.rest ++ piece;
        cut = cut_goes_on octets kept.rest piece replies kept.cut;
        codes = none.codes ∙ kept.codes;
        texts = none.texts ∙ kept.texts;
        all = λ yes. read;
      },
    )

-- one whose reader has used octets up to the end of a reply, which is kept
one_kept : (old middle new : Talk) (octets more : List ℕ) (reply : Reply) → middle.codes.items ≡ old.codes.items
    → middle.texts.items ≡ old.texts.items → KeepsReply middle new reply
    → (replies : List Reply) (kept : HasKept old octets replies)
    → HasRead new.reader (octets ++ more) (replies ++ reply ∷ []) [] → HasHeard new (octets ++ more)
one_kept old middle new octets more reply codes texts keeps replies kept read = (
  replies ++ reply ∷ [],
  record {
    rest = [];
    cut = read.cut;
    codes = keeps.codes ∙ ap (λ (c : List ℕ). c ++ reply.code ∷ []) (codes ∙ kept.codes)
        ∙ sym (map-append (λ (one : Reply). one.code) replies (reply ∷ []));
    texts = keeps.texts ∙ ap (λ (t : List (List ℕ)). t ++ told_text reply ∷ []) (texts ∙ kept.texts)
        ∙ sym (map-append told_text replies (reply ∷ []));
    all = λ yes. read;
  },
)

-- one whose reader has used octets up to the end of a reply, which is kept if the talk listens on
pub one_more : (old middle new : Talk) (octets piece : List ℕ) (cut : Option Reply) (used : ℕ) (reply given : Reply)
    → old.listens ≡ true → cut ≡ Some reply → given ≡ reply
    → ((before : List ℕ) (replies : List Reply) (rest : List ℕ) → HasRead old.reader before replies rest
    → MatchOption cut (HasRead middle.reader (before ++ piece) replies (rest ++ piece))
    (λ reply. HasRead middle.reader (before ++ take used piece) (replies ++ reply ∷ []) []))
    → middle.codes.items ≡ old.codes.items → middle.texts.items ≡ old.texts.items → new.reader ≡ middle.reader
    → ((KeepsReply middle new given × (new.listens ≡ middle.listens)) ⊎ (KeepsNone middle new × (new.listens ≡ false)))
    → HasHeard old octets → HasHeard new (octets ++ take used piece)
one_more old middle new octets piece cut used reply given listens is same reads codes texts reader keeps
    (replies, kept) =
    let read : HasRead middle.reader (octets ++ take used piece) (replies ++ reply ∷ []) [] =
    MatchOption-at_some (HasRead middle.reader (octets ++ piece) replies (kept.rest ++ piece))
    (λ reply. HasRead middle.reader (octets ++ take used piece) (replies ++ reply ∷ []) []) reply is
    (reads octets replies kept.rest (kept.all listens)) in
    elim keeps [
      | inl one ↦ one_kept old middle new octets (take used piece) reply codes texts
          (subst (λ (r : Reply). KeepsReply middle new r) same one.0) replies kept
          (subst (λ (r : ReplyReader). HasRead r (octets ++ take used piece) (replies ++ reply ∷ []) []) (sym reader)
          read)
      | inr none ↦ deaf old new octets (take used piece)
          (record { codes = none.0.codes ∙ codes; texts = none.0.texts ∙ texts }) none.1 (replies, kept)
    ]

-- octets up to a place, and then some of what follows
take-more : (piece : List ℕ) (used more : ℕ)
    → take used piece ++ take more (take (length piece - used) (drop used piece)) ≡ take (used + more) piece
take-more piece used more =
    let le : used ≤ used + more = omega arith in
    ap (λ (r : List ℕ). take used piece ++ take more r) (take_rest piece used)
    ∙ ap (λ (r : List ℕ). take used piece ++ r) (sym (drop-take used more piece))
    ∙ ap (λ (r : List ℕ). r ++ drop used (take (used + more) piece)) (sym (take-take used (used + more) piece le))
    ∙ take-append-drop used (take (used + more) piece)

pub heard_on : (talk : Talk) (before piece : List ℕ) (used more : ℕ)
    → HasHeard talk ((before ++ take used piece) ++ take more (take (length piece - used) (drop used piece)))
    → HasHeard talk (before ++ take (used + more) piece)
heard_on talk before piece used more heard =
    subst (λ (octets : List ℕ). HasHeard talk octets)
    (append_assoc before (take used piece) (take more (take (length piece - used) (drop used piece)))
    ∙ ap (λ (octets : List ℕ). before ++ octets) (take-more piece used more)) heard

-- all octets of a piece
pub heard_all : (talk : Talk) (before piece : List ℕ) (used : ℕ) → length piece ≤ used
    → HasHeard talk (before ++ take used piece) → HasHeard talk (before ++ piece)
heard_all talk before piece used le heard =
    subst (λ (octets : List ℕ). HasHeard talk (before ++ octets)) (take_all used piece le) heard

-- the octets of a piece that follow, which a talk that doesn't listen keeps none of
pub heard_enough : (talk : Talk) (before piece : List ℕ) (used : ℕ) → talk.listens ≡ false
    → HasHeard talk (before ++ take used piece) → HasHeard talk (before ++ piece)
heard_enough talk before piece used listens heard =
    subst (λ (octets : List ℕ). HasHeard talk octets)
    (append_assoc before (take used piece) (drop used piece)
    ∙ ap (λ (octets : List ℕ). before ++ octets) (take-append-drop used piece))
    (deaf talk talk (before ++ take used piece) (drop used piece) (record { codes = refl; texts = refl }) listens heard)

-- what is kept of a reply's text
pub told_is : (reply : Reply)
    → take (min 200 (length (last_text reply.lines))) (last_text reply.lines) ≡ told_text reply
told_is reply = take_min 200 (last_text reply.lines)

-- the position that the codes of the replies give
pub settled_at : (codes : List ℕ) (replies : List Reply) (by_data : Bool) (count index position : ℕ)
    → codes ≡ map (λ reply. reply.code) replies → position ≡ settling_position by_data (map kind_of codes) count index
    → position ≡ settling_position by_data (kinds_of replies) count index
settled_at codes replies by_data count index position are e =
    e ∙ ap (λ (kinds : List ReplyKind). settling_position by_data kinds count index)
    (ap (map kind_of) are ∙ map-map kind_of (λ (reply : Reply). reply.code) replies)

-- the first of two, if it is told, or else the second
pub one_told : {T : Type 0} (f : T → ℕ × List ℕ) (told : Option T) (one other : Option Reply)
    → option_map f told ≡ told_as one → is_some told ≡ true → option_map f told ≡ told_as (one_or one other)
one_told f None one other e some = absurd (cc)
one_told f (Some t) None other e some = absurd (cc)
one_told f (Some t) (Some reply) other e some = e

pub other_told : {T : Type 0} (f : T → ℕ × List ℕ) (told : Option T) (one other : Option Reply)
    → option_map f told ≡ told_as one → is_some told ≡ false → told_as other ≡ told_as (one_or one other)
other_told f (Some t) one other e none = absurd (cc)
other_told f None (Some reply) other e none = absurd (cc)
other_told f None None other e none = refl

-- the last reply as it is told, if the next hop closed the connection by it
closing_told : (found : Option Reply) → if_closing_told (told_as found) ≡ told_as (if_closing found)
closing_told None = refl
closing_told (Some reply) = by (reply.code == 421)
  where
    by : (test : Bool) → (if test then told_as (Some reply) else None) ≡ told_as (if test then Some reply else None)
    by true = refl
    by false = refl

pub last_told : (codes : List ℕ) (replies : List Reply) (last : ℕ) (told closing : Option (ℕ × List ℕ))
    → codes ≡ map (λ reply. reply.code) replies → last ≡ length codes - 1 → told ≡ told_as (slice_get replies last)
    → closing ≡ if_closing_told told → closing ≡ told_as (closing_reply replies)
last_told codes replies last told closing are is e closes =
    let same : last ≡ length replies - 1 =
    is ∙ ap (λ (n : ℕ). n - 1) (ap length are ∙ length-map replies (λ (reply : Reply). reply.code)) in
    closes ∙ ap if_closing_told (e ∙ ap (λ (n : ℕ). told_as (slice_get replies n)) same)
    ∙ closing_told (slice_get replies (length replies - 1))

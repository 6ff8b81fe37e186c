-- What is told as the reply that settled a place is the reply that did.
use Rattle.std.proofs.Common.{◌≡◌, ◌≢◌, ◌⊎◌, ℕ, Bool, true, List, [], ◌∷◌, ◌++◌, length, map, Option, Some, None}
use Rattle.std.proofs.Common.{MatchOption, refl, sym, ap, ◌∙◌, subst, inl, inr}
use Rattle.std.specs.Prelude.{option_map, slice_get}
use Rattle.std.proofs.lemmas.List.{append-nil, map-append}
use Rattle.std.proofs.lemmas.Option.{same_Some, slice_get-map}
use Rattle.relay_lines.specs.Reply.{Reply}
use Rattle.relay_lines.specs.ReplyReading.{CutsReplies}
use Rattle.relay_lines.proofs.Theorems.{cut_goes_on, cut_stays, no_reply_begins_another, read_is_cut}
use Rattle.relay_book.specs.declared.change.Verdict.{Verdict}
use Rattle.relay_course.specs.declared.reply_kind.ReplyKind.{ReplyKind}
use Rattle.relay_course.specs.Progress.{Answered}
use Rattle.relay_course.specs.VerdictTable.{kind_of}
use Rattle.relay_course.specs.Settling.{SettlesAt, settling_position}
use Rattle.relay_course.specs.Settling.{kinds_of as kinds_answered}
use Rattle.relay_log.specs.Settling.{kinds_of, settling_reply}
use Rattle.relay_log.specs.Talk.{HasSettled, ToldHasSettled}
use Rattle.relay_log.proofs.PositionLemmas.{get_front, position_stays}

-- the replies that answered something
abbrev replies_of : List Answered → List Reply
replies_of answered = map (λ one. one.reply) answered

kinds_same : (answered : List Answered) → kinds_answered answered ≡ kinds_of (replies_of answered)
kinds_same [] = refl
kinds_same (one ∷ answered) = ap (λ (kinds : List ReplyKind). kind_of one.reply.code ∷ kinds) (kinds_same answered)

reply_there : (answered : List Answered) (position : ℕ) (one : Answered) → slice_get answered position ≡ Some one
    → slice_get (replies_of answered) position ≡ Some one.reply
reply_there answered position one e =
    slice_get-map (λ (a : Answered). a.reply) answered position ∙ ap (option_map (λ (a : Answered). a.reply)) e

kind_there : (replies : List Reply) (position : ℕ) (reply : Reply) → slice_get replies position ≡ Some reply
    → slice_get (kinds_of replies) position ≡ Some (kind_of reply.code)
kind_there replies position reply e =
    slice_get-map (λ (r : Reply). kind_of r.code) replies position ∙ ap (option_map (λ (r : Reply). kind_of r.code)) e

-- the replies that settle a place, by those that answered something and any that follow
abbrev Settles : Bool → Bool → List Answered → ℕ → ℕ → ℕ → List Verdict → Type 0
Settles by_data dsn answered count index place verdicts =
    (more : List ReplyKind)
    → SettlesAt dsn answered (settling_position by_data (kinds_answered answered ++ more) count index) index place
    verdicts

-- this reply is told, and has settled the place
record Tells (told : Option Reply) (index place : ℕ) (verdicts : List Verdict) : Type 0 where
  pub reply : Reply
  pub is : told ≡ Some reply
  pub has : HasSettled index place verdicts reply

has_settled : (dsn : Bool) (answered : List Answered) (position index place : ℕ) (verdicts : List Verdict)
    → (s : SettlesAt dsn answered position index place verdicts) → HasSettled index place verdicts s.one.reply
has_settled dsn answered position index place verdicts s = record {
  waited = s.one.waited;
  dsn = dsn;
  concerns = s.concerns;
  says = s.says;
}

-- where all that answered something is kept, and more
whole : (by_data dsn : Bool) (answered : List Answered) (later : List Reply) (count index place : ℕ)
    (verdicts : List Verdict) → Settles by_data dsn answered count index place verdicts
    → Tells (settling_reply by_data (replies_of answered ++ later) count index) index place verdicts
whole by_data dsn answered later count index place verdicts settles =
    let kinds : kinds_answered answered ++ kinds_of later ≡ kinds_of (replies_of answered ++ later) =
    ap (λ (k : List ReplyKind). k ++ kinds_of later) (kinds_same answered)
    ∙ sym (map-append (λ (r : Reply). kind_of r.code) (replies_of answered) later) in
    let position : ℕ = settling_position by_data (kinds_of (replies_of answered ++ later)) count index in
    let s : SettlesAt dsn answered position index place verdicts =
    subst (λ (k : List ReplyKind). SettlesAt dsn answered (settling_position by_data k count index) index place
    verdicts)
    kinds (settles (kinds_of later)) in
    record {
      reply = s.one.reply;
      is = get_front (replies_of answered) later position s.one.reply (reply_there answered position s.one s.there);
      has = has_settled dsn answered position index place verdicts s;
    }

-- where a part of it is kept
part : (by_data dsn : Bool) (answered : List Answered) (replies later : List Reply) (count index place : ℕ)
    (verdicts : List Verdict) (reply : Reply) → replies_of answered ≡ replies ++ later
    → Settles by_data dsn answered count index place verdicts
    → settling_reply by_data replies count index ≡ Some reply → HasSettled index place verdicts reply
part by_data dsn answered replies later count index place verdicts reply are settles e =
    let position : ℕ = settling_position by_data (kinds_of replies) count index in
    let kinds : kinds_answered answered ++ [] ≡ kinds_of replies ++ kinds_of later =
    append-nil (kinds_answered answered) ∙ kinds_same answered ∙ ap kinds_of are
    ∙ map-append (λ (r : Reply). kind_of r.code) replies later in
    let stays : settling_position by_data (kinds_answered answered ++ []) count index ≡ position =
    ap (λ (k : List ReplyKind). settling_position by_data k count index) kinds
    ∙ position_stays by_data (kinds_of replies) (kinds_of later) count index (kind_of reply.code)
    (kind_there replies position reply e) in
    let s : SettlesAt dsn answered position index place verdicts =
    subst (λ (p : ℕ). SettlesAt dsn answered p index place verdicts) stays (settles []) in
    let one : slice_get (replies ++ later) position ≡ Some s.one.reply =
    subst (λ (r : List Reply). slice_get r position ≡ Some s.one.reply) are
    (reply_there answered position s.one s.there) in
    let same : s.one.reply ≡ reply =
    same_Some s.one.reply reply (sym one ∙ get_front replies later position reply e) in
    subst (λ (r : Reply). HasSettled index place verdicts r) same
    (has_settled dsn answered position index place verdicts s)

-- of two rows of replies that were cut from the same octets, one begins the other
one_begins : (octets rest more : List ℕ) (replies others : List Reply) → CutsReplies octets replies rest
    → CutsReplies octets others more
    → ((later : List Reply) × (others ≡ replies ++ later)) ⊎ ((later : List Reply) × (replies ≡ others ++ later))
one_begins octets rest more [] others one other = inl (others, refl)
one_begins octets rest more (reply ∷ replies) [] one other = inr (reply ∷ replies, refl)
one_begins octets rest more (reply ∷ replies) (second ∷ others) (text, after, reads, is, cut)
    (another, next, reads_too, is_too, cut_too) =
    let same = no_reply_begins_another text another after next reply second reads reads_too (sym is ∙ is_too) in
    let first : reply ≡ second = same.2 in
    elim (one_begins after rest more replies others cut
    (subst (λ (o : List ℕ). CutsReplies o others more) (sym same.1) cut_too)) [
      | inl (later, e) ↦ inl (
        later,
        subst (λ (r : Reply). second ∷ others ≡ r ∷ (replies ++ later)) (sym first)
            (ap (λ (r : List Reply). second ∷ r) e),
      )
      | inr (later, e) ↦ inr (
        later,
        subst (λ (r : Reply). r ∷ replies ≡ second ∷ (others ++ later)) (sym first)
            (ap (λ (r : List Reply). second ∷ r) e),
      )
    ]

pub told_has_settled : ToldHasSettled
told_has_settled talk text places input more verdicts replies each kept sent index place there =
    elim (each.each index place there) [
      | inl cant ↦ inl cant.1
      | inr settles ↦ inr (by (subst (λ (by_data : Bool).
          Settles by_data each.dsn each.answered (length places) index place verdicts) (sym sent) settles)
          (settling_reply talk.by_data replies (length places) index) refl)
    ]
  where
    cut_all : CutsReplies (input ++ more) (replies_of each.answered) more
    cut_all = cut_goes_on input [] more (replies_of each.answered) each.cut

    by : Settles talk.by_data each.dsn each.answered (length places) index place verdicts
        → (told : Option Reply) → settling_reply talk.by_data replies (length places) index ≡ told
        → MatchOption told (talk.listens ≢ true) (HasSettled index place verdicts)
    by settles None is = λ listens.
        let later = cut_stays input [] more kept.rest (replies_of each.answered) replies each.cut
        (read_is_cut talk.reader (input ++ more) kept.rest replies (kept.all listens)) in
        let t = whole talk.by_data each.dsn each.answered later.0 (length places) index place verdicts settles in
        let e : settling_reply talk.by_data replies (length places) index ≡ Some t.reply =
        subst (λ (r : List Reply). settling_reply talk.by_data r (length places) index ≡ Some t.reply)
        (sym later.1) t.is in
        absurd (cc)
    by settles (Some reply) is =
        elim (one_begins (input ++ more) more kept.rest (replies_of each.answered) replies cut_all kept.cut) [
          | inl (later, e) ↦
              let t = whole talk.by_data each.dsn each.answered later (length places) index place verdicts settles in
              let told : settling_reply talk.by_data replies (length places) index ≡ Some t.reply =
              subst (λ (r : List Reply). settling_reply talk.by_data r (length places) index ≡ Some t.reply)
              (sym e) t.is
              in subst (λ (r : Reply). HasSettled index place verdicts r)
              (same_Some t.reply reply (sym told ∙ is)) t.has
          | inr (later, e) ↦
              part talk.by_data each.dsn each.answered replies later (length places) index place verdicts reply e
              settles is
        ]

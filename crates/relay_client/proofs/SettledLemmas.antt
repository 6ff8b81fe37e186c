-- What was settled of places, and their verdicts.
use Rattle.std.proofs.Common.{◌≡◌, ◌<◌, ◌≤◌, ℕ, zero, suc, ◌+◌, Bool, true, false, nat_lt, List, [], ◌∷◌, ◌++◌, length, map, take, drop, min, Option, Some, None, refl, sym, ap, ◌∙◌, cond, arith}
use Rattle.std.specs.Prelude.{slice_get, slice_index_or, unwrap_or}
use Rattle.std.proofs.lemmas.List.{append_assoc, drop-append-le, length-append, length-drop, length-map, length-take, map_more, take-append-le, take_all}
use Rattle.relay_lines.specs.Reply.{Reply, last_text}
use Rattle.relay_lines.specs.Word.{shown}
use Rattle.relay_book.specs.declared.change.Verdict.{Verdict}
use Rattle.relay_book.specs.declared.change.Verdict.TheVariants.{Later, Refused}
use Rattle.relay_course.specs.declared.reply_kind.ReplyKind.TheVariants.{Completion, Intermediate, Transient, Permanent}
use Rattle.relay_course.specs.VerdictTable.{all_later, rcpt_verdict, rcpt_verdict_by, refusal, some_accepted, verdicts_of}
use Rattle.relay_client.specs.declared.settled.Said.{Said}
use Rattle.relay_client.specs.declared.settled.Said.TheVariants.{Accepted, Delayed, Rejected}
use Rattle.relay_client.specs.Conversation.{has_open, verdicts_from}
use Rattle.relay_client.specs.Settled.{has_accepted, settled_by, settled_of, size_by, text_size, text_sizes, verdict_by}

pub take_short : (text : List ℕ) → length text < 200 → text ≡ take 200 text
take_short text lt = sym (take_all 200 text (omega (arith, lt)))

pub kept_is_short : (text kept all : List ℕ) → kept ≡ take 200 text → all ≡ map shown kept → length all ≤ 200
kept_is_short text kept all e f =
    let size : length all ≡ length kept = ap length f ∙ length-map kept shown in
    let short : length kept ≡ min 200 (length text) = ap length e ∙ length-take 200 text in
    omega (arith, size, short)

pub later_more : (places : List ℕ) (i : ℕ) → i < length places
    → all_later (take i places) ++ Later ∷ [] ≡ all_later (take (i + 1) places)
later_more places i lt = sym (map_more (λ (place : ℕ). Later) places i 0 lt)

pub accepted_more : (said : List Said) (texts : List ℕ)
    → settled_of (said ++ Accepted ∷ []) texts ≡ settled_of said texts ++ None ∷ []
accepted_more [] texts = refl
accepted_more (one ∷ said) texts =
    ap (λ (v : List (Option Verdict)). settled_by one texts ∷ v) (accepted_more said (drop (text_size one) texts))

pub delayed_more : (said : List Said) (texts : List ℕ)
    → settled_of (said ++ Delayed ∷ []) texts ≡ settled_of said texts ++ Some Later ∷ []
delayed_more [] texts = refl
delayed_more (one ∷ said) texts =
    ap (λ (v : List (Option Verdict)). settled_by one texts ∷ v) (delayed_more said (drop (text_size one) texts))

pub sizes_more : (said : List Said) (one : Said) → text_sizes (said ++ one ∷ []) ≡ text_sizes said + text_size one
sizes_more [] one = omega arith
sizes_more (first ∷ said) one = omega (arith, sizes_more said one)

pub sizes_stay : (said new : List Said) (one : Said) (texts : List ℕ) → text_size one ≡ 0 → length texts ≡ text_sizes said
    → new ≡ said ++ one ∷ [] → length texts ≡ text_sizes new
sizes_stay said new one texts none fits is =
    let more = sizes_more said one in
    let all = ap text_sizes is in
    omega (arith, none, fits, more, all)

-- what one verdict needs of the texts stays, whatever comes after them
settled_stays : (one : Said) (texts more : List ℕ) → text_size one ≤ length texts
    → settled_by one (texts ++ more) ≡ settled_by one texts
settled_stays Accepted texts more le = refl
settled_stays Delayed texts more le = refl
settled_stays (Rejected code size) texts more le =
    ap (λ (t : List ℕ). Some (Refused code t)) (take-append-le size texts more le)

-- one more refusal, with its text after the others
pub rejected_more : (said : List Said) (texts text : List ℕ) (code : ℕ) → length texts ≡ text_sizes said
    → settled_of (said ++ Rejected code (length text) ∷ []) (texts ++ text)
    ≡ settled_of said texts ++ Some (Refused code text) ∷ []
rejected_more [] [] text code e = ap (λ (t : List ℕ). Some (Refused code t) ∷ []) (take_all (length text) text (omega arith))
rejected_more [] (octet ∷ texts) text code e = absurd (omega (arith, e))
rejected_more (one ∷ said) texts text code e =
    let le : text_size one ≤ length texts = omega (arith, e) in
    let size : length (drop (text_size one) texts) ≡ text_sizes said = omega (arith, e, length-drop (text_size one) texts) in
    ap (λ (v : Option Verdict). v
    ∷ settled_of (said ++ Rejected code (length text) ∷ []) (drop (text_size one) (texts ++ text)))
    (settled_stays one texts text le)
    ∙ ap (λ (t : List ℕ). settled_by one texts ∷ settled_of (said ++ Rejected code (length text) ∷ []) t)
    (drop-append-le (text_size one) texts text le)
    ∙ ap (λ (v : List (Option Verdict)). settled_by one texts ∷ v)
    (rejected_more said (drop (text_size one) texts) text code size)

pub rejected_fits : (said old more : List Said) (texts text after : List ℕ) (code size : ℕ)
    → length texts ≡ text_sizes said → old ≡ said → more ≡ old ++ Rejected code size ∷ [] → after ≡ texts ++ text
    → size ≡ length text → length after ≡ text_sizes more
rejected_fits said old more texts text after code size e stay push join is =
    let one : text_sizes more ≡ text_sizes said + size =
    ap text_sizes push ∙ ap (λ (s : List Said). text_sizes (s ++ Rejected code size ∷ [])) stay
    ∙ sizes_more said (Rejected code size) in
    let two : length after ≡ length texts + length text = ap length join ∙ length-append texts text in
    omega (arith, one, two, e, is)

pub rejected_is : (said old more : List Said) (texts text after : List ℕ) (code size : ℕ) (reply : Reply)
    (whole : List (Option Verdict))
    → length texts ≡ text_sizes said → old ≡ said → more ≡ old ++ Rejected code size ∷ [] → after ≡ texts ++ text
    → size ≡ length text → settled_of said texts ≡ whole
    → code ≡ reply.code → text ≡ map shown (take 200 (last_text reply.lines))
    → settled_of more after ≡ whole ++ Some (refusal reply) ∷ []
rejected_is said old more texts text after code size reply whole e stay push join is so_far by kept =
    ap (λ (s : List Said). settled_of s after) push
    ∙ ap (λ (s : List Said). settled_of (s ++ Rejected code size ∷ []) after) stay
    ∙ ap (λ (n : ℕ). settled_of (said ++ Rejected code n ∷ []) after) is
    ∙ ap (λ (t : List ℕ). settled_of (said ++ Rejected code (length text) ∷ []) t) join
    ∙ rejected_more said texts text code e
    ∙ ap (λ (w : List (Option Verdict)). w ++ Some (Refused code text) ∷ []) so_far
    ∙ ap (λ (n : ℕ). whole ++ Some (Refused n text) ∷ []) by
    ∙ ap (λ (t : List ℕ). whole ++ Some (Refused reply.code t) ∷ []) kept

pub open_accepted : (said : List Said) (texts : List ℕ) → has_open (settled_of said texts) ≡ has_accepted said
open_accepted [] texts = refl
open_accepted (Accepted ∷ said) texts = refl
open_accepted (Delayed ∷ said) texts = open_accepted said texts
open_accepted (Rejected code size ∷ said) texts = open_accepted said (drop size texts)

pub said_within : (said : List Said) (i : ℕ) (one : Said) → i < length said
    → Some (slice_index_or said i one) ≡ slice_get said i
said_within [] i one lt = absurd (omega (arith, lt))
said_within (first ∷ said) zero one lt = refl
said_within (first ∷ said) (suc i) one lt = said_within said i one (omega (arith, lt))

pub said_past : (said : List Said) (i : ℕ) → length said ≤ i → None ≡ slice_get said i
said_past [] i le = refl
said_past (first ∷ said) zero le = absurd (omega (arith, le))
said_past (first ∷ said) (suc i) le = said_past said i (omega (arith, le))

verdicts-none : (places : List ℕ) (last : Verdict) (i : ℕ) → i < length places
    → verdicts_from (drop i places) [] last ≡ last ∷ verdicts_from (drop (suc i) places) [] last
verdicts-none [] last i lt = absurd (omega (arith, lt))
verdicts-none (place ∷ places) last zero lt = refl
verdicts-none (place ∷ places) last (suc i) lt = verdicts-none places last i (omega (arith, lt))

verdicts-suc : (places : List ℕ) (said : List Said) (texts : List ℕ) (last : Verdict) (i : ℕ) → i < length places
    → verdicts_from (drop i places) (settled_of (drop i said) texts) last
    ≡ verdict_by (slice_get said i) texts last
    ∷ verdicts_from (drop (suc i) places) (settled_of (drop (suc i) said) (drop (size_by (slice_get said i)) texts)) last
verdicts-suc [] said texts last i lt = absurd (omega (arith, lt))
verdicts-suc (place ∷ places) [] texts last zero lt = refl
verdicts-suc (place ∷ places) (one ∷ said) texts last zero lt = refl
verdicts-suc (place ∷ places) [] texts last (suc i) lt = verdicts-none places last i (omega (arith, lt))
verdicts-suc (place ∷ places) (one ∷ said) texts last (suc i) lt = verdicts-suc places said texts last i (omega (arith, lt))

-- the verdict of the next place
pub verdicts_step : (verdicts : List Verdict) (verdict : Verdict) (places : List ℕ) (said : List Said) (texts : List ℕ)
    (one : Option Said) (last : Verdict) (whole : List Verdict) (i : ℕ) → i < length places
    → one ≡ slice_get said i
    → verdict ≡ verdict_by one texts last
    → verdicts ++ verdicts_from (drop i places) (settled_of (drop i said) texts) last ≡ whole
    → (verdicts ++ verdict ∷ [])
    ++ verdicts_from (drop (i + 1) places) (settled_of (drop (i + 1) said) (drop (size_by one) texts)) last ≡ whole
verdicts_step verdicts verdict places said texts one last whole i lt is e f =
    let on : i + 1 ≡ suc i = omega arith in
    append_assoc verdicts (verdict ∷ [])
    (verdicts_from (drop (i + 1) places) (settled_of (drop (i + 1) said) (drop (size_by one) texts)) last)
    ∙ ap (λ (n : ℕ). verdicts ++ verdict
    ∷ verdicts_from (drop n places) (settled_of (drop n said) (drop (size_by one) texts)) last) on
    ∙ ap (λ (v : Verdict). verdicts ++ v
    ∷ verdicts_from (drop (suc i) places) (settled_of (drop (suc i) said) (drop (size_by one) texts)) last) e
    ∙ ap (λ (o : Option Said). verdicts ++ verdict_by o texts last
    ∷ verdicts_from (drop (suc i) places) (settled_of (drop (suc i) said) (drop (size_by o) texts)) last) is
    ∙ ap (λ (v : List Verdict). verdicts ++ v) (sym (verdicts-suc places said texts last i lt)) ∙ f

-- verdicts by what was settled are those by the replies
pub verdicts_are : (places : List ℕ) (replies : List Reply) (last : Verdict)
    → verdicts_from places (map rcpt_verdict replies) last ≡ verdicts_of places replies last
verdicts_are [] replies last = refl
verdicts_are (place ∷ places) [] last = ap (λ (v : List Verdict). last ∷ v) (verdicts_are places [] last)
verdicts_are (place ∷ places) (reply ∷ replies) last =
    ap (λ (v : List Verdict). unwrap_or (rcpt_verdict reply) last ∷ v) (verdicts_are places replies last)

open_some : (test : Bool) (one two : Verdict) (more : List (Option Verdict))
    → has_open (cond test (Some one) (Some two) ∷ more) ≡ has_open more
open_some true one two more = refl
open_some false one two more = refl

open_step : (low middle high : Bool) (reply : Reply) (more : List (Option Verdict))
    → has_open (rcpt_verdict_by (cond low Completion (cond middle Intermediate (cond high Transient Permanent))) reply ∷ more)
    ≡ cond low true (has_open more)
open_step true middle high reply more = refl
open_step false true high reply more = refl
open_step false false true reply more = refl
open_step false false false reply more = open_some _ _ _ more

-- a place is left where a RCPT was accepted
pub open_is : (replies : List Reply) → has_open (map rcpt_verdict replies) ≡ some_accepted replies
open_is [] = refl
open_is (reply ∷ replies) =
    open_step (nat_lt reply.code 300) (nat_lt reply.code 400) (nat_lt reply.code 500) reply (map rcpt_verdict replies)
    ∙ ap (λ (b : Bool). cond (nat_lt reply.code 300) true b) (open_is replies)

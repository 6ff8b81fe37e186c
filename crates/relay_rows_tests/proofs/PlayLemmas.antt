-- What octets in pieces come to, piece by piece.
use Rattle.std.proofs.Common.{◌≡◌, ℕ, ◌+◌, ◌-◌, ◌<◌, ◌≤◌, ◌≢◌, Option, None, Some, MatchOption, nat_lt, false, cond, List, [], ◌∷◌, ◌++◌, codes, decimal, length, take, drop, inl, inr, refl, sym, ap, subst, ◌∙◌, arith, append_assoc, length-append}
use Rattle.std.proofs.lemmas.Grind.{flat_map-append}
use Rattle.std.proofs.lemmas.List.{append-nil, length-take, length-take-le, take-take, take_all, take-append-drop, take_rest}
use Rattle.relay_octets.specs.Line.{crlf, HasNoCrlf, ReadsLine}
use Rattle.relay_octets.proofs.Theorems.{first_line_stays}
use Rattle.relay_lines.specs.HeldLine.{HeldLine, Holds, EndsLine}
use Rattle.relay_lines.specs.Reply.{Reply, reply_text, written_replies}
use Rattle.relay_lines.specs.ReplyReading.{CutsReplies, HasFault}
use Rattle.relay_lines.specs.ReplySteps.{HasFailed, HasRead}
use Rattle.relay_lines.specs.declared.reply_reader.ReplyFault.{ReplyFault}
use Rattle.relay_lines.specs.declared.reply_reader.ReplyFault.TheVariants.{NoMemory}
use Rattle.relay_lines.specs.declared.reply_reader.ReplyReader.{ReplyReader}
use Rattle.relay_lines.proofs.Theorems.{cut_goes_on, fault_stays, held_is_unfinished}
use Rattle.relay_rows_tests.specs.PlayOutcome.{IsLineOutcome, IsRepliesOutcome, ended_text, held_of, held_text, kept_text, open_text, reply_fault_word}
use Rattle.relay_rows_tests.specs.Steps.{FindsFault, HoldsSoFar, ReadsSoFar, ReadsSome}

-- what is used of a piece is used of what is left
front_of : (rest piece : List ℕ) (n used : ℕ) → piece ≡ take n rest → used ≤ length piece
    → take used piece ≡ take used rest
front_of rest piece n used is within =
    let few = ap length is ∙ length-take n rest in
    ap (take used) is ∙ take-take used n rest (omega (arith, few, within))

-- what is left falls into what is used and what is left then
left_in_two : (rest : List ℕ) (used : ℕ)
    → rest ≡ take used rest ++ take (length rest - used) (drop used rest)
left_in_two rest used =
    sym (take-append-drop used rest) ∙ ap (λ l. take used rest ++ l) (sym (take_rest rest used))

-- octets whose front has come fall into all that has come and what is left
after_used : (octets used rest piece : List ℕ) (n count : ℕ) → octets ≡ used ++ rest
    → piece ≡ take n rest
    → count ≤ length piece
    → octets ≡ (used ++ take count piece) ++ take (length rest - count) (drop count rest)
after_used octets used rest piece n count octets_are is within =
    let left = take (length rest - count) (drop count rest) in
    octets_are ∙ ap (λ r. used ++ r) (left_in_two rest count)
    ∙ ap (λ t. used ++ (t ++ left)) (sym (front_of rest piece n count is within))
    ∙ sym (append_assoc used (take count piece) left)

-- what is held of octets is shown as they say
shown : (held : HeldLine) (limit : ℕ) (octets : List ℕ) → held.kept ≡ take 2048 octets
    → held.is_long ≡ nat_lt limit (length octets) → held_text held ≡ held_text (held_of limit octets false)
shown held limit octets kept long =
    ap (λ b. cond b (codes "long " ++ kept_text held.kept) (kept_text held.kept)) long
    ∙ ap (λ k. cond (nat_lt limit (length octets)) (codes "long " ++ kept_text k) (kept_text k)) kept

pub line_starts : (octets : List ℕ) (held : HeldLine) → Holds held []
    → HoldsSoFar octets octets 0 held
line_starts octets held holds = record { used = []; octets_are = refl; come_is = refl; holds = holds }

pub line_goes_on : (octets rest piece : List ℕ) (n come : ℕ) (old new : HeldLine)
    → HoldsSoFar octets rest come old → piece ≡ take n rest
    → ((line : List ℕ) → Holds old line → Holds new (line ++ piece))
    → HoldsSoFar octets (take (length rest - length piece) (drop (length piece) rest)) (come + length piece) new
line_goes_on octets rest piece n come old new so_far is more =
    let whole = take_all (length piece) piece (omega arith) in
    let left = take (length rest - length piece) (drop (length piece) rest) in
    record {
      used = so_far.used ++ piece;
      octets_are =
          after_used octets so_far.used rest piece n (length piece) so_far.octets_are is (omega arith)
          ∙ ap (λ p. (so_far.used ++ p) ++ left) whole;
      come_is = ap (λ m. m + length piece) so_far.come_is ∙ sym (length-append so_far.used piece);
      holds = more so_far.used so_far.holds;
    }

pub line_ends : (octets rest piece outcome : List ℕ) (n come count : ℕ) (old new : HeldLine)
    → HoldsSoFar octets rest come old → piece ≡ take n rest → count ≤ length piece
    → ((line : List ℕ) → Holds old line → EndsLine line (take count piece) new)
    → outcome ≡ ended_text (come + count) new → IsLineOutcome octets outcome
line_ends octets rest piece outcome n come count old new so_far is within ends text =
    let ended = ends so_far.used so_far.holds in
    let line = ended.0 in
    let left = take (length rest - count) (drop count rest) in
    let come_now = so_far.used ++ take count piece in
    let reads = first_line_stays come_now line [] left ended.1 in
    let all = after_used octets so_far.used rest piece n count so_far.octets_are is within in
    let P : List ℕ → Type 0 = λ o. ReadsLine o line left in
    let whole = ap length ended.1.text ∙ length-append (line ++ crlf) [] in
    let end = length-append line crlf in
    let many = length-append so_far.used (take count piece) in
    let used = length-take-le count piece within in
    let come_is = so_far.come_is in
    let count_is : come + count ≡ length line + 2 = omega (arith, whole, end, many, used, come_is) in
    inr (
      line,
      left,
      subst P (sym all) reads,
      text ∙ ap (λ c. ended_text c new) count_is
          ∙ ap (λ t. codes "used " ++ decimal (length line + 2) ++ codes ": " ++ t)
          (shown new 2046 line ended.2.kept ended.2.is_long),
    )

pub line_stays_open : (octets rest outcome : List ℕ) (come : ℕ) (held : HeldLine)
    → HoldsSoFar octets rest come held → rest ≡ [] → outcome ≡ open_text held → IsLineOutcome octets outcome
line_stays_open octets rest outcome come held so_far none text =
    let all = so_far.octets_are ∙ ap (λ r. so_far.used ++ r) none ∙ append-nil so_far.used in
    let P : List ℕ → Type 0 = λ o. HasNoCrlf o × (outcome ≡ open_text (held_of 2048 o false)) in
    inl (subst P (sym all) (
      so_far.holds.unended,
      text
          ∙ ap (λ t. codes "open: " ++ t)
          (shown held 2048 so_far.used so_far.holds.kept so_far.holds.is_long),
    ))

pub replies_start : (octets out : List ℕ) (reader : ReplyReader) → HasRead reader [] [] []
    → out ≡ []
    → ReadsSoFar octets octets out reader
replies_start octets out reader reads none = record {
  used = [];
  replies = [];
  part = [];
  octets_are = refl;
  reads = reads;
  out_is = none;
}

pub replies_go_on : (octets rest piece out out_now : List ℕ) (n count : ℕ) (old new : ReplyReader)
    → ReadsSoFar octets rest out old → piece ≡ take n rest → count ≤ length piece
    → ReadsSome old new out out_now (take count piece)
    → ReadsSoFar octets (take (length rest - count) (drop count rest)) out_now new
replies_go_on octets rest piece out out_now n count old new so_far is within reads =
    let some = reads so_far.used so_far.replies so_far.part so_far.reads in
    record {
      used = so_far.used ++ take count piece;
      replies = so_far.replies ++ some.0;
      part = some.1;
      octets_are = after_used octets so_far.used rest piece n count so_far.octets_are is within;
      reads = some.2;
      out_is =
          some.3 ∙ ap (λ o. o ++ written_replies some.0) so_far.out_is
          ∙ sym (flat_map-append reply_text so_far.replies some.0);
    }

-- what has been read is cut, with what is left after it
cut_so_far : (octets rest out : List ℕ) (reader : ReplyReader)
    (so_far : ReadsSoFar octets rest out reader)
    → CutsReplies octets so_far.replies (so_far.part ++ rest)
cut_so_far octets rest out reader so_far =
    let P : List ℕ → Type 0 = λ o. CutsReplies o so_far.replies (so_far.part ++ rest) in
    subst P (sym so_far.octets_are) (cut_goes_on so_far.used so_far.part rest so_far.replies so_far.reads.cut)

pub replies_end : (octets rest out outcome : List ℕ) (reader : ReplyReader)
    → ReadsSoFar octets rest out reader
    → rest ≡ [] → outcome ≡ out ++ codes "more" → IsRepliesOutcome octets outcome
replies_end octets rest out outcome reader so_far none text =
    let P : List ℕ → Type 0 = λ r. CutsReplies octets so_far.replies r in
    let part = ap (λ r. so_far.part ++ r) none ∙ append-nil so_far.part in (
      so_far.replies,
      so_far.part,
      subst P part (cut_so_far octets rest out reader so_far),
      inl
          (held_is_unfinished reader so_far.part so_far.reads.holds, text ∙ ap (λ o. o ++ codes "more") so_far.out_is),
    )

pub replies_fail : (octets rest piece out outcome : List ℕ) (n : ℕ) (reader : ReplyReader)
    (fault : ReplyFault)
    → (so_far : ReadsSoFar octets rest out reader) → piece ≡ take n rest
    → HasFault (so_far.part ++ piece) fault
    → outcome ≡ out ++ reply_fault_word fault ++ codes ", " ++ codes "BadLine"
    → IsRepliesOutcome octets outcome
replies_fail octets rest piece out outcome n reader fault so_far is has text =
    let P : List ℕ → Type 0 = λ o. HasFault o fault in
    let all : (so_far.part ++ piece) ++ drop n rest ≡ so_far.part ++ rest =
    append_assoc so_far.part piece (drop n rest) ∙ ap (λ p. so_far.part ++ (p ++ drop n rest)) is
    ∙ ap (λ r. so_far.part ++ r) (take-append-drop n rest) in (
      so_far.replies,
      so_far.part ++ rest,
      cut_so_far octets rest out reader so_far,
      inr (
        fault,
        subst P all (fault_stays (so_far.part ++ piece) (drop n rest) fault has),
        text ∙ ap (λ o. o ++ reply_fault_word fault ++ codes ", " ++ codes "BadLine") so_far.out_is,
      ),
    )

pub replies_fail_by : (octets rest piece out out_now outcome : List ℕ) (n : ℕ)
    (reader new : ReplyReader) (fault : ReplyFault)
    → ReadsSoFar octets rest out reader → piece ≡ take n rest → FindsFault reader new piece fault
    → fault ≢ NoMemory
    → (HasFailed new → outcome ≡ out_now ++ reply_fault_word fault ++ codes ", " ++ codes "BadLine")
    → out_now ≡ out
    → IsRepliesOutcome octets outcome
replies_fail_by octets rest piece out out_now outcome n reader new fault so_far is (inl memory) other words stays =
    absurd (other memory)
replies_fail_by octets rest piece out out_now outcome n reader new fault so_far is (inr found) other words stays =
    elim (found.1 so_far.used so_far.replies so_far.part so_far.reads) [
      | inl memory ↦ absurd (other memory)
      | inr has ↦
          replies_fail octets rest piece out outcome n reader fault so_far is has
          (words found.0 ∙ ap (λ o. o ++ reply_fault_word fault ++ codes ", " ++ codes "BadLine") stays)
    ]

-- a feed that gives no reply reads the piece to its end
pub none_more : (new : ReplyReader) (used part piece out : List ℕ) (replies : List Reply)
    (count : ℕ) (reply : Option Reply)
    → reply ≡ None → MatchOption reply (count ≡ length piece) (λ _. (0 < count) × (count ≤ length piece))
    → MatchOption reply (HasRead new (used ++ piece) replies (part ++ piece))
    (λ made. HasRead new (used ++ take count piece) (replies ++ made ∷ []) [])
    → (more : List Reply) × (rest : List ℕ) × HasRead new (used ++ take count piece) (replies ++ more) rest
    × (out ≡ out ++ written_replies more)
none_more new used part piece out replies count None none whole reads =
    let all : take count piece ≡ piece = take_all count piece (omega (arith, whole)) in
    let P : List ℕ → Type 0 = λ o. HasRead new (used ++ o) replies (part ++ piece) in
    let Q : List Reply → Type 0 = λ rs. HasRead new (used ++ take count piece) rs (part ++ piece) in (
      [],
      part ++ piece,
      subst Q (sym (append-nil replies)) (subst P (sym all) reads),
      sym (append-nil out),
    )
none_more new used part piece out replies count (Some made) none whole reads = absurd (cc)

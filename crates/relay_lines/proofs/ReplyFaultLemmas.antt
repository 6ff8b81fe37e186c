-- Replies in octets: a fault is none where a reply stands or goes on.
use Rattle.std.proofs.Common.{◌≡◌, ℕ, ◌+◌, ◌-◌, ◌<◌, ◌≤◌, ◌⊎◌, true, false, List, [], ◌∷◌, ◌++◌, length, take, inl, inr, refl, sym, ap, ◌∙◌, subst, arith, append_assoc}
use Rattle.std.specs.List.{AllByRecursion}
use Rattle.std.proofs.Math.Bool.{and-false}
use Rattle.std.proofs.lemmas.List.{append-nil, length-append, take_at}
use Rattle.std.proofs.Math.Seq.{take-append-add}
use Rattle.relay_octets.specs.Line.{crlf, HasNoCrlf, ReadsLine, ends_in_cr}
use Rattle.relay_octets.proofs.Theorems.{no_crlf_joined, no_crlf_front, no_crlf_one, first_line_is_one, first_line_stays}
use Rattle.relay_lines.specs.Reply.{Reply, IsReplyLine, IsCode, ReadsReply, IsAfterCode, code_digits, followed_lines, middle_line}
use Rattle.relay_lines.specs.ReplyReading.{Breaks, HasFault, IsLineOf, IsUnfinished, ShowsLine}
use Rattle.relay_lines.specs.ReplyLaws.{BeginningIsUnfinished, FaultIsOne, FaultStays, HeldIsUnfinished, ReplyHasNoFault, UnfinishedHasNoFault, UnfinishedHasNoReply}
use Rattle.relay_lines.specs.declared.reply_reader.ReplyFault.{ReplyFault}
use Rattle.relay_lines.specs.declared.reply_reader.ReplyFault.TheVariants.{BadLine, MixedCodes, TooLong, NoMemory}
use Rattle.relay_lines.proofs.ReplyLawLemmas.{middle_has_none, digits_are_one, first_of_followed, GoesFurther, Agree, agree, reply_parts, last_reads, reply_split, ends_there, further_line}

-- where a short line ends, no other shows
short_shows : (octets line other rest : List ℕ) → ShowsLine octets line
    → ReadsLine octets other rest → length other ≤ 2046 → line ≡ other
short_shows octets line other rest (inl shows) reads short =
    let same = first_line_is_one octets line shows.0 other rest shows.1 reads in
    same.0
short_shows octets line other rest (inr shows) reads short =
    let size = length-append other crlf in
    let room = 2048 - length (other ++ crlf) in
    let n : 2048 ≡ length (other ++ crlf) + room = omega (arith, size) in
    let whole : line ≡ (other ++ crlf) ++ take room rest =
    sym (take_at line shows.0 2048 shows.3) ∙ ap (take 2048) (sym shows.1 ∙ reads.text)
    ∙ ap (λ m. take m ((other ++ crlf) ++ rest)) n ∙ take-append-add (other ++ crlf) rest room in
    absurd (shows.2.nowhere other (take room rest) whole)

-- a line that another follows, and a last line, are lines of their code, and short enough
middle_is_line : (code : ℕ) (text : List ℕ) → IsCode code
    → IsLineOf (code_digits code ++ 45 ∷ text) code
middle_is_line code text is = record {
  is_last = false;
  text = text;
  spells = record { after = 45 ∷ text; code_is = is; after_is = refl; line_is = refl };
}

after_is_short : (text after : List ℕ) → IsAfterCode true text after
    → length after ≤ length text + 1
after_is_short text after (inl is) = let size = ap length is in omega arith
after_is_short text after (inr is) = let size = ap length is.0 in omega arith

last_is_short : (octets : List ℕ) (reply : Reply) (reads : ReadsReply octets reply)
    → length reads.line ≤ 2046
last_is_short octets reply reads =
    let parts = reply_parts octets reply reads in
    let short = parts.1.short in
    let size = ap length reads.last_is.line_is in
    let after = after_is_short reads.last reads.last_is.after reads.last_is.after_is in
    omega arith

-- two codes of one line are one
line_has_one_code : (line : List ℕ) (code other : ℕ) → IsLineOf line code → IsLineOf line other
    → code ≡ other
line_has_one_code line code other is is_other =
    let one = is.spells in
    let two = is_other.spells in
    let same =
    digits_are_one code other one.after two.after one.code_is two.code_is
    (sym one.line_is ∙ two.line_is) in
    same.0

-- a line that may stand after these breaks no rule
breaks_none : (fault : ReplyFault) (c d : ℕ) (lines : List (List ℕ)) (line : List ℕ)
    → IsLineOf line d → length line ≤ 2046 → (0 < length lines → c ≡ d) → length lines < 100
    → Breaks fault c lines line → ⊥
breaks_none BadLine c d lines line is short same few breaks =
    let spells = is.spells in breaks.none d is.is_last is.text spells
breaks_none MixedCodes c d lines line is short same few breaks =
    breaks.3 (line_has_one_code line breaks.0 d breaks.1 is ∙ sym (same breaks.2))
breaks_none TooLong c d lines line is short same few breaks =
    elim breaks.3 [ inl long ↦ omega arith | inr many ↦ omega arith ]
breaks_none NoMemory c d lines line is short same few breaks = breaks

-- the same of the line that shows
shows_none : (fault : ReplyFault) (c d : ℕ) (lines : List (List ℕ))
    (octets line other rest : List ℕ)
    → ShowsLine octets line → ReadsLine octets other rest → IsLineOf other d → length other ≤ 2046
    → (0 < length lines → c ≡ d) → length lines < 100 → Breaks fault c lines line → ⊥
shows_none fault c d lines octets line other rest shows reads is short same few breaks =
    let P : List ℕ → Type 0 = λ l. Breaks fault c lines l in
    breaks_none fault c d lines other is short same few
    (subst P (short_shows octets line other rest shows reads short) breaks)

-- where lines go further, the next one breaks no rule
further_none : (fault : ReplyFault) (c d : ℕ) (lines others : List (List ℕ))
    (rest more line : List ℕ) (further : GoesFurther c d lines others rest more)
    → IsCode d → AllByRecursion IsReplyLine others → length others ≤ 100 → ShowsLine rest line
    → Breaks fault c lines line → ⊥
further_none fault c d lines others rest more line further is each few shows breaks =
    let one = further_line c d lines others rest more further each in
    let short = one.short in
    let P : List ℕ → Type 0 =
    λ l. ReadsLine l (code_digits d ++ 45 ∷ further.text) (followed_lines d further.later ++ more) in
    let reads = subst P (sym further.rest_is) (first_of_followed d further.text further.later more one) in
    let count = ap length further.others_are ∙ length-append lines (further.text ∷ further.later) in
    shows_none fault c d lines rest line (code_digits d ++ 45 ∷ further.text)
    (followed_lines d further.later ++ more) shows reads (middle_is_line d further.text is)
    (omega arith) further.code_is (omega arith) breaks

-- where lines go further, a line ends
further_ends : (c d : ℕ) (lines others : List (List ℕ)) (part more : List ℕ)
    (further : GoesFurther c d lines others part more)
    → AllByRecursion IsReplyLine others → HasNoCrlf part → ⊥
further_ends c d lines others part more further each none =
    let one = further_line c d lines others part more further each in
    let reads = first_of_followed d further.text further.later more one in
    none.nowhere (code_digits d ++ 45 ∷ further.text) (followed_lines d further.later ++ more)
    (further.rest_is ∙ reads.text)

-- how many lines of a reply others follow
few_middle : (octets : List ℕ) (reply : Reply) (reads : ReadsReply octets reply)
    → length reads.middle < 100
few_middle octets reply reads =
    let few = reads.is_reply.few_lines in
    let count = ap length reads.lines_are ∙ length-append reads.middle (reads.last ∷ []) in
    omega arith

reply_none : (text rest : List ℕ) (reply : Reply) (fault : ReplyFault)
    (reads : ReadsReply text reply) (has : HasFault (text ++ rest) fault)
    → Agree has.code reply.code has.lines reads.middle has.rest ((reads.line ++ crlf) ++ rest) → ⊥
reply_none text rest reply fault reads has (inl same) =
    let P : List ℕ → Type 0 = λ l. ReadsLine l reads.line rest in
    let few = few_middle text reply reads in
    let count = ap length same.lines_are in
    let line : IsLineOf reads.line reply.code =
    record { is_last = true; text = reads.last; spells = reads.last_is } in
    shows_none fault has.code reply.code has.lines has.rest has.line reads.line rest has.shows
    (subst P (sym same.rest_is) (last_reads text rest reply reads)) line
    (last_is_short text reply reads) same.code_is (omega arith) has.breaks
reply_none text rest reply fault reads has (inr (inl further)) =
    let parts = reply_parts text reply reads in
    let few = few_middle text reply reads in
    further_none fault has.code reply.code has.lines reads.middle has.rest
    ((reads.line ++ crlf) ++ rest) has.line further reads.last_is.code_is parts.0
    (omega arith) has.shows has.breaks
reply_none text rest reply fault reads has (inr (inr further)) =
    ends_there text rest has.rest reply has.code further.text further.later reads has.followed.code_is
    (further_line reply.code has.code reads.middle has.lines ((reads.line ++ crlf) ++ rest) has.rest further has.followed.each) further.rest_is

-- octets that begin with a reply have no fault
pub reply_has_no_fault : ReplyHasNoFault
reply_has_no_fault text rest reply fault reads has =
    let parts = reply_parts text reply reads in
    reply_none text rest reply fault reads has
    (agree has.code reply.code has.lines reads.middle has.rest ((reads.line ++ crlf) ++ rest) has.followed.code_is reads.last_is.code_is has.followed.each parts.0 (sym has.octets_are ∙ reply_split text rest reply reads))

unfinished_none : (octets : List ℕ) (fault : ReplyFault) (rests : IsUnfinished octets)
    (has : HasFault octets fault)
    → Agree has.code rests.code has.lines rests.lines has.rest rests.part → ⊥
unfinished_none octets fault rests has (inl same) = elim has.shows [
  | inl whole ↦ rests.unended.nowhere has.line whole.0 (sym same.rest_is ∙ whole.1.text)
  | inr long ↦
      let size = ap length (sym same.rest_is ∙ long.1) ∙ length-append has.line long.0 in
      let short = rests.short in
      let full = long.3 in
      omega arith
]
unfinished_none octets fault rests has (inr (inl further)) =
    further_none fault has.code rests.code has.lines rests.lines has.rest rests.part has.line further rests.followed.code_is rests.followed.each rests.followed.few has.shows has.breaks
unfinished_none octets fault rests has (inr (inr further)) =
    further_ends rests.code has.code rests.lines has.lines rests.part has.rest further has.followed.each rests.unended

-- a rest that isn't whole has no fault
pub unfinished_has_no_fault : UnfinishedHasNoFault
unfinished_has_no_fault octets fault rests has =
    unfinished_none octets fault rests has
    (agree has.code rests.code has.lines rests.lines has.rest rests.part has.followed.code_is rests.followed.code_is has.followed.each rests.followed.each (sym has.octets_are ∙ rests.octets_are))

unfinished_no_reply : (text rest : List ℕ) (reply : Reply) (reads : ReadsReply text reply)
    (rests : IsUnfinished (text ++ rest))
    → Agree reply.code rests.code reads.middle rests.lines ((reads.line ++ crlf) ++ rest) rests.part
    → ⊥
unfinished_no_reply text rest reply reads rests (inl same) =
    rests.unended.nowhere reads.line rest (sym same.rest_is)
unfinished_no_reply text rest reply reads rests (inr (inl further)) =
    ends_there text rest rests.part reply rests.code further.text further.later reads rests.followed.code_is
    (further_line reply.code rests.code reads.middle rests.lines ((reads.line ++ crlf) ++ rest) rests.part further rests.followed.each) further.rest_is
unfinished_no_reply text rest reply reads rests (inr (inr further)) =
    let parts = reply_parts text reply reads in
    further_ends rests.code reply.code rests.lines reads.middle rests.part
    ((reads.line ++ crlf) ++ rest) further parts.0 rests.unended

-- a rest that isn't whole begins with no reply
pub unfinished_has_no_reply : UnfinishedHasNoReply
unfinished_has_no_reply text rest reply reads rests =
    let parts = reply_parts text reply reads in
    unfinished_no_reply text rest reply reads rests
    (agree reply.code rests.code reads.middle rests.lines ((reads.line ++ crlf) ++ rest) rests.part reads.last_is.code_is rests.followed.code_is parts.0 rests.followed.each (sym (reply_split text rest reply reads) ∙ rests.octets_are))

shows_more : (octets line more : List ℕ) → ShowsLine octets line → ShowsLine (octets ++ more) line
shows_more octets line more (inl shows) =
    inl (shows.0 ++ more, first_line_stays octets line shows.0 more shows.1, shows.2)
shows_more octets line more (inr shows) = inr (
  shows.0 ++ more,
  ap (λ l. l ++ more) shows.1 ∙ append_assoc line shows.0 more,
  shows.2,
  shows.3,
)

-- a fault stays one
pub fault_stays : FaultStays
fault_stays octets more fault has = record {
  code = has.code;
  lines = has.lines;
  line = has.line;
  rest = has.rest ++ more;
  followed = has.followed;
  octets_are =
      ap (λ l. l ++ more) has.octets_are
      ∙ append_assoc (followed_lines has.code has.lines) has.rest more;
  shows = shows_more has.rest has.line more has.shows;
  breaks = has.breaks;
}

-- what shows is one line
one_shows : (octets line other : List ℕ) → ShowsLine octets line → ShowsLine octets other
    → line ≡ other
one_shows octets line other shows (inl two) = short_shows octets line other two.0 shows two.1 two.2
one_shows octets line other (inl one) (inr two) =
    sym (short_shows octets other line one.0 (inr two) one.1 one.2)
one_shows octets line other (inr one) (inr two) =
    sym (take_at line one.0 2048 one.3) ∙ ap (take 2048) (sym one.1 ∙ two.1) ∙ take_at other two.0 2048 two.3

-- a line breaks one rule
one_breaks : (fault other : ReplyFault) (c d : ℕ) (lines : List (List ℕ)) (line : List ℕ)
    → (0 < length lines → c ≡ d) → Breaks fault c lines line → Breaks other d lines line
    → fault ≡ other
one_breaks BadLine BadLine c d lines line same one two = refl
one_breaks BadLine MixedCodes c d lines line same one two =
    let is = two.1 in absurd (one.none two.0 is.is_last is.text is.spells)
one_breaks BadLine TooLong c d lines line same one two =
    let is = two.1 in absurd (one.none two.0 is.is_last is.text is.spells)
one_breaks MixedCodes BadLine c d lines line same one two =
    let is = one.1 in absurd (two.none one.0 is.is_last is.text is.spells)
one_breaks MixedCodes MixedCodes c d lines line same one two = refl
one_breaks MixedCodes TooLong c d lines line same one two =
    absurd (one.3 (line_has_one_code line one.0 two.0 one.1 two.1 ∙ two.2 one.2 ∙ sym (same one.2)))
one_breaks TooLong BadLine c d lines line same one two =
    let is = one.1 in absurd (two.none one.0 is.is_last is.text is.spells)
one_breaks TooLong MixedCodes c d lines line same one two =
    absurd (two.3 (line_has_one_code line two.0 one.0 two.1 one.1 ∙ one.2 two.2 ∙ same two.2))
one_breaks TooLong TooLong c d lines line same one two = refl
one_breaks NoMemory other c d lines line same one two = absurd one
one_breaks fault NoMemory c d lines line same one two = absurd two

one_fault : (octets : List ℕ) (fault other : ReplyFault) (has : HasFault octets fault)
    (second : HasFault octets other)
    → Agree has.code second.code has.lines second.lines has.rest second.rest → fault ≡ other
one_fault octets fault other has second (inl same) =
    let P : List ℕ → Type 0 = λ l. ShowsLine l has.line in
    let Q : List ℕ → Type 0 = λ l. Breaks fault has.code second.lines l in
    let R : List (List ℕ) → Type 0 = λ ls. Breaks fault has.code ls has.line in
    let S : List (List ℕ) → Type 0 = λ ls. 0 < length ls → has.code ≡ second.code in
    let line = one_shows second.rest has.line second.line (subst P same.rest_is has.shows) second.shows in
    one_breaks fault other has.code second.code second.lines second.line
    (subst S same.lines_are same.code_is)
    (subst Q line (subst R same.lines_are has.breaks)) second.breaks
one_fault octets fault other has second (inr (inl further)) =
    absurd
    (further_none fault has.code second.code has.lines second.lines has.rest second.rest has.line further second.followed.code_is second.followed.each second.followed.few has.shows has.breaks)
one_fault octets fault other has second (inr (inr further)) =
    absurd
    (further_none other second.code has.code second.lines has.lines second.rest has.rest second.line further has.followed.code_is has.followed.each has.followed.few second.shows second.breaks)

-- octets have one fault
pub fault_is_one : FaultIsOne
fault_is_one octets fault other has second =
    one_fault octets fault other has second
    (agree has.code second.code has.lines second.lines has.rest second.rest has.followed.code_is second.followed.code_is has.followed.each second.followed.each (sym has.octets_are ∙ second.octets_are))

-- what a reader holds isn't whole
pub held_is_unfinished : HeldIsUnfinished
held_is_unfinished reader rest held = record {
  code = reader.code;
  lines = reader.lines.items;
  part = held.part;
  followed = held.followed;
  unended = held.holds.unended;
  short = held.short;
  octets_are = held.rest_is;
}

is_nothing : (octets : List ℕ) → length octets ≡ 0 → octets ≡ []
is_nothing [] none = refl
is_nothing (octet ∷ octets) none = absurd (omega arith)

-- of two fronts of octets one begins the other: the first is shorter, or goes at least as far
record IsShorter (front other : List ℕ) : Type 0 where
  gap : List ℕ
  other_is : other ≡ front ++ gap
  some : 0 < length gap

record GoesAsFar (front back other rest : List ℕ) : Type 0 where
  gap : List ℕ
  front_is : front ≡ other ++ gap
  rest_is : rest ≡ gap ++ back

fronts : (front back other rest : List ℕ) → front ++ back ≡ other ++ rest
    → IsShorter front other ⊎ GoesAsFar front back other rest
fronts front back [] rest e = inr record { gap = front; front_is = refl; rest_is = sym e }
fronts [] back (octet ∷ other) rest e =
    inl record { gap = octet ∷ other; other_is = refl; some = omega arith }
fronts (first ∷ front) back (octet ∷ other) rest e =
    let head : first ≡ octet = cc in
    let tail : front ++ back ≡ other ++ rest = cc in
    elim (fronts front back other rest tail) [
      | inl shorter ↦ inl record {
        gap = shorter.gap;
        other_is = ap (λ o. o ∷ other) (sym head) ∙ ap (λ l. first ∷ l) shorter.other_is;
        some = shorter.some;
      }
      | inr far ↦ inr record {
        gap = far.gap;
        front_is = ap (λ l. first ∷ l) far.front_is ∙ ap (λ o. o ∷ (other ++ far.gap)) head;
        rest_is = far.rest_is;
      }
    ]

-- what is shorter than a line with its CR LF has no CR LF
front_of_line : (part line gap : List ℕ) → HasNoCrlf line → line ++ crlf ≡ part ++ gap
    → 0 < length gap → HasNoCrlf part
front_of_line part line gap none e some =
    let with_cr = no_crlf_joined line (13 ∷ []) none (no_crlf_one 13) (and-false (ends_in_cr line)) in
    let all : part ++ gap ≡ (line ++ 13 ∷ []) ++ 10 ∷ [] =
    sym e ∙ sym (append_assoc line (13 ∷ []) (10 ∷ [])) in
    elim (fronts part gap (line ++ 13 ∷ []) (10 ∷ []) all) [
      | inl shorter ↦ no_crlf_front part shorter.gap (subst HasNoCrlf shorter.other_is with_cr)
      | inr far ↦
          let one = ap length far.rest_is ∙ length-append far.gap gap in
          let same =
          far.front_is ∙ ap (λ l. (line ++ 13 ∷ []) ++ l) (is_nothing far.gap (omega arith))
          ∙ append-nil (line ++ 13 ∷ []) in
          subst HasNoCrlf (sym same) with_cr
    ]

-- lines that another follows, and a part of the next
record Parts (code : ℕ) (count : ℕ) (octets : List ℕ) : Type 0 where
  lines : List (List ℕ)
  part : List ℕ
  each : AllByRecursion IsReplyLine lines
  few : length lines ≤ count
  unended : HasNoCrlf part
  short : length part < 2048
  octets_are : octets ≡ followed_lines code lines ++ part

-- a front of a line with its CR LF is a part
part_alone : (code count : ℕ) (octets line gap : List ℕ) → HasNoCrlf line → length line ≤ 2046
    → line ++ crlf ≡ octets ++ gap → 0 < length gap → Parts code count octets
part_alone code count octets line gap none short e some =
    let size = ap length e ∙ length-append octets gap in
    let all = length-append line crlf in
    record {
      lines = [];
      part = octets;
      each = tt;
      few = omega arith;
      unended = front_of_line octets line gap none e some;
      short = omega arith;
      octets_are = refl;
    }

-- a front of lines and a last line, shorter than these, is such lines and a part
front_parts : (code : ℕ) (middle : List (List ℕ)) (octets more line : List ℕ)
    → AllByRecursion IsReplyLine middle → HasNoCrlf line → length line ≤ 2046
    → octets ++ more ≡ followed_lines code middle ++ (line ++ crlf) → 0 < length more
    → Parts code (length middle) octets
front_parts code [] octets more line each none short e some =
    part_alone code 0 octets line more none short (sym e) some
front_parts code (text ∷ middle) octets more line each none short e some =
    let first = middle_line code text in
    let rest = followed_lines code middle ++ (line ++ crlf) in
    let all : octets ++ more ≡ first ++ rest =
    e ∙ append_assoc first (followed_lines code middle) (line ++ crlf) in
    let text_line = each.0 in
    let long = text_line.short in
    elim (fronts octets more first rest all) [
      | inl shorter ↦
          part_alone code (length (text ∷ middle)) octets
          (code_digits code ++ 45 ∷ text) shorter.gap (middle_has_none code text text_line.line)
          (omega arith) shorter.other_is shorter.some
      | inr far ↦
          let later = front_parts code middle far.gap more line each.1 none short (sym far.rest_is) some in
          let few = later.few in
          record {
            lines = text ∷ later.lines;
            part = later.part;
            each = (each.0, later.each);
            few = omega arith;
            unended = later.unended;
            short = later.short;
            octets_are =
                far.front_is ∙ ap (λ l. first ++ l) later.octets_are
                ∙ sym (append_assoc first (followed_lines code later.lines) later.part);
          }
    ]

-- a beginning of a reply isn't whole
pub beginning_is_unfinished : BeginningIsUnfinished
beginning_is_unfinished octets more reply reads some =
    let parts = reply_parts (octets ++ more) reply reads in
    let last = last_reads (octets ++ more) [] reply reads in
    let found =
    front_parts reply.code reads.middle octets more reads.line parts.0 last.first
    (last_is_short (octets ++ more) reply reads) reads.octets_are some in
    let count = few_middle (octets ++ more) reply reads in
    let few = found.few in
    record {
      code = reply.code;
      lines = found.lines;
      part = found.part;
      followed = record { code_is = reads.last_is.code_is; few = omega arith; each = found.each };
      unended = found.unended;
      short = found.short;
      octets_are = found.octets_are;
    }

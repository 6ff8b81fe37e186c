-- What a reader of replies holds, line by line.
use Rattle.std.proofs.Common.{◌≡◌, ℕ, suc, ◌+◌, ◌&&◌, ◌<◌, ◌≤◌, Bool, true, false, List, [], ◌∷◌, ◌++◌, length, take, drop, Option, None, Some, inl, inr, refl, sym, ap, ◌∙◌, subst, arith, append_assoc}
use Rattle.std.specs.Prelude.{MatchOption, is_some}
use Rattle.std.proofs.ByRecursion.{All-push}
use Rattle.std.proofs.Math.Bool.{and-false}
use Rattle.std.proofs.lemmas.List.{append-nil, flat_map_more, length-take, length-drop, length-append, length-take-le, take_all, take_at, take-append-drop}
use Rattle.std.proofs.lemmas.Bool.{cases_lt, false≢true}
use Rattle.relay_octets.specs.Line.{crlf, HasNoCrlf, ReadsLine, ends_in_cr}
use Rattle.relay_octets.proofs.Theorems.{no_crlf_back, no_crlf_front, no_crlf_joined, no_crlf_one, first_line_stays}
use Rattle.relay_lines.specs.HeldLine.{HeldLine, Holds, EndsLine}
use Rattle.relay_lines.specs.Reply.{Reply, IsReply, IsReplyLine, IsCode, IsAfterCode, SpellsLine, ReadsReply, code_digits, followed_lines, made_of, middle_line}
use Rattle.relay_lines.specs.ReplyReading.{AreFollowed, Breaks, HasFault, IsLineOf, ShowsLine}
use Rattle.relay_lines.specs.ReplySteps.{GivesLines, HasMade, HoldsEnded, HoldsRest, IsNextLine, KeepsLine}
use Rattle.relay_lines.specs.declared.reply_reader.ReplyFault.{ReplyFault}
use Rattle.relay_lines.specs.declared.reply_reader.ReplyFault.TheVariants.{BadLine, MixedCodes, TooLong, NoMemory}
use Rattle.relay_lines.specs.declared.reply_reader.ReplyReader.{ReplyReader}

pub followed_lines-more : (code : ℕ) (lines : List (List ℕ)) (text : List ℕ)
    → followed_lines code lines ++ middle_line code text ≡ followed_lines code (lines ++ text ∷ [])
followed_lines-more code lines text = flat_map_more (middle_line code) [] lines text

-- of no lines the code doesn't matter
pub followed_lines-code : (code other : ℕ) (lines : List (List ℕ))
    → (0 < length lines → other ≡ code) → followed_lines code lines ≡ followed_lines other lines
followed_lines-code code other [] same = refl
followed_lines-code code other (text ∷ lines) same =
    ap (λ n. followed_lines n (text ∷ lines)) (sym (same (omega arith)))

-- what is kept of a line that is short enough is the line
kept_whole : (kept line : List ℕ) → kept ≡ take 2048 line → length kept ≤ 2046 → kept ≡ line
kept_whole kept line is short =
    let size = ap length is ∙ length-take 2048 line in
    is ∙ take_all 2048 line (omega (arith, size))

-- the text of a line may stand in a reply
text_is_line : (line : List ℕ) → HasNoCrlf line → length line ≤ 2046 → IsReplyLine (drop 4 line)
text_is_line line none short = record {
  line = no_crlf_back (take 4 line) (drop 4 line) (subst HasNoCrlf (sym (take-append-drop 4 line)) none);
  short = omega (arith, length-drop 4 line);
}

-- the lines with the one that has ended
followed_more : (code line_code : ℕ) (is_last : Bool) (lines : List (List ℕ)) (line : List ℕ)
    → AreFollowed code lines → HasNoCrlf line → IsNextLine code lines line line_code is_last
    → AreFollowed line_code (lines ++ drop 4 line ∷ [])
followed_more code line_code is_last lines line followed none next = record {
  code_is = next.spells.code_is;
  few = let all = length-append lines (drop 4 line ∷ []) in let few = next.few in omega arith;
  each = All-push IsReplyLine lines (drop 4 line) followed.each (text_is_line line none next.short);
}

-- a line that another follows, with its CR LF
middle_is : (line : List ℕ) (code : ℕ) (text : List ℕ) → SpellsLine line code false text
    → line ++ crlf ≡ middle_line code text
middle_is line code text spells =
    ap (λ l. l ++ crlf) (spells.line_is ∙ ap (λ b. code_digits code ++ b) spells.after_is)

-- what is kept of an ended line that breaks no rule is that line
next_whole : (old : ReplyReader) (line : List ℕ) (code : ℕ) (is_last : Bool) → HoldsEnded old line
    → IsNextLine old.code old.lines.items old.line.kept code is_last → old.line.kept ≡ line
next_whole old line code is_last ended next = kept_whole old.line.kept line ended.holds.kept next.short

next_line_is : (old : ReplyReader) (line : List ℕ) (code : ℕ) (is_last : Bool) → HoldsEnded old line
    → IsNextLine old.code old.lines.items old.line.kept code is_last
    → IsNextLine old.code old.lines.items line code is_last
next_line_is old line code is_last ended next =
    let P : List ℕ → Type 0 = λ l. IsNextLine old.code old.lines.items l code is_last in
    subst P (next_whole old line code is_last ended next) next

-- a line that another follows is held
pub next_followed : (old new : ReplyReader) (line : List ℕ) (code : ℕ) → HoldsEnded old line
    → IsNextLine old.code old.lines.items old.line.kept code false → KeepsLine old new code
    → HoldsRest new (followed_lines old.code old.lines.items ++ (line ++ crlf))
next_followed old new line code ended next keeps =
    let whole = next_whole old line code false ended next in
    let here = next_line_is old line code false ended next in
    let lines : new.lines.items ≡ old.lines.items ++ drop 4 line ∷ [] =
    keeps.lines_are ∙ ap (λ l. old.lines.items ++ drop 4 l ∷ []) whole in
    let more = followed_more old.code code false old.lines.items line ended.followed ended.unbroken here in
    let P : ℕ → Type 0 = λ n. AreFollowed n (old.lines.items ++ drop 4 line ∷ []) in
    let Q : List (List ℕ) → Type 0 = λ ls. AreFollowed new.code ls in
    record {
      part = [];
      is_open = keeps.is_open ∙ ended.is_open;
      followed = subst Q (sym lines) (subst P (sym keeps.code_is) more);
      holds = keeps.holds;
      short = omega arith;
      rest_is =
          ap (λ t. t ++ (line ++ crlf)) (followed_lines-code old.code code old.lines.items here.same_code)
          ∙ ap (λ t. followed_lines code old.lines.items ++ t) (middle_is line code (drop 4 line) here.spells)
          ∙ followed_lines-more code old.lines.items (drop 4 line)
          ∙ ap (λ n. followed_lines n (old.lines.items ++ drop 4 line ∷ [])) (sym keeps.code_is)
          ∙ ap (λ ls. followed_lines new.code ls) (sym lines)
          ∙ sym (append-nil (followed_lines new.code new.lines.items));
    }

-- the lines with the last one are a reply
is_reply_of : (code : ℕ) (lines : List (List ℕ)) (text : List ℕ)
    → AreFollowed code (lines ++ text ∷ []) → IsReply (made_of code (lines ++ text ∷ []))
is_reply_of code lines text followed = record {
  code_is = followed.code_is;
  some_line = omega (arith, length-append lines (text ∷ []));
  few_lines = followed.few;
  each = followed.each;
}

-- the reply of the lines that were kept, and the line that has ended
pub next_is_reply : (old mid : ReplyReader) (line : List ℕ) (code : ℕ) → HoldsEnded old line
    → IsNextLine old.code old.lines.items old.line.kept code true → KeepsLine old mid code
    → IsReply (made_of mid.code mid.lines.items)
next_is_reply old mid line code ended next keeps =
    let whole = next_whole old line code true ended next in
    let here = next_line_is old line code true ended next in
    let lines : mid.lines.items ≡ old.lines.items ++ drop 4 line ∷ [] =
    keeps.lines_are ∙ ap (λ l. old.lines.items ++ drop 4 l ∷ []) whole in
    let more = followed_more old.code code true old.lines.items line ended.followed ended.unbroken here in
    let P : ℕ → Type 0 = λ n. IsReply (made_of n (old.lines.items ++ drop 4 line ∷ [])) in
    let Q : List (List ℕ) → Type 0 = λ ls. IsReply (made_of mid.code ls) in
    subst Q (sym lines) (subst P (sym keeps.code_is) (is_reply_of code old.lines.items (drop 4 line) more))

-- what was held and the last line are the reply
ends_reply : (old mid : ReplyReader) (line : List ℕ) (code : ℕ) → HoldsEnded old line
    → IsNextLine old.code old.lines.items old.line.kept code true → KeepsLine old mid code
    → ReadsReply (followed_lines old.code old.lines.items ++ (line ++ crlf))
    (made_of mid.code mid.lines.items)
ends_reply old mid line code ended next keeps =
    let whole = next_whole old line code true ended next in
    let here = next_line_is old line code true ended next in
    let P : ℕ → Type 0 = λ n. SpellsLine line n true (drop 4 line) in
    record {
      middle = old.lines.items;
      last = drop 4 line;
      line = line;
      is_reply = next_is_reply old mid line code ended next keeps;
      lines_are = keeps.lines_are ∙ ap (λ l. old.lines.items ++ drop 4 l ∷ []) whole;
      last_is = subst P (sym keeps.code_is) here.spells;
      octets_are =
          ap (λ t. t ++ (line ++ crlf))
          (followed_lines-code old.code code old.lines.items here.same_code ∙ ap (λ n. followed_lines n old.lines.items) (sym keeps.code_is));
    }

-- a reader that has given its lines away holds nothing
holds_nothing : (old mid new : ReplyReader) (line : List ℕ) (code : ℕ) → HoldsEnded old line
    → IsCode code → KeepsLine old mid code → GivesLines mid new → HoldsRest new []
holds_nothing old mid new line code ended code_is keeps gives =
    let P : ℕ → Type 0 = λ n. AreFollowed n [] in
    let Q : List (List ℕ) → Type 0 = λ ls. AreFollowed new.code ls in
    let R : HeldLine → Type 0 = λ h. Holds h [] in
    let none : AreFollowed code [] = record { code_is = code_is; few = omega arith; each = tt } in
    record {
      part = [];
      is_open = gives.is_open ∙ keeps.is_open ∙ ended.is_open;
      followed = subst Q (sym gives.lines_are) (subst P (sym (gives.code_is ∙ keeps.code_is)) none);
      holds = subst R (sym gives.line_is) keeps.holds;
      short = omega arith;
      rest_is = ap (λ ls. followed_lines new.code ls ++ []) (sym gives.lines_are);
    }

-- the last line makes the reply
pub next_made : (old mid new : ReplyReader) (reply : Option Reply) (line : List ℕ) (code : ℕ)
    → HoldsEnded old line → IsNextLine old.code old.lines.items old.line.kept code true
    → KeepsLine old mid code → GivesLines mid new → is_some reply ≡ true
    → MatchOption reply (¬ IsReply (made_of mid.code mid.lines.items))
    (λ made. made ≡ made_of mid.code mid.lines.items)
    → HasMade new reply (followed_lines old.code old.lines.items ++ (line ++ crlf))
next_made old mid new None line code ended next keeps gives some made = absurd (false≢true some)
next_made old mid new (Some reply) line code ended next keeps gives some made =
    let P : Reply → Type 0 = λ r. ReadsReply (followed_lines old.code old.lines.items ++ (line ++ crlf)) r in (
      subst P (sym made) (ends_reply old mid line code ended next keeps),
      holds_nothing old mid new line code ended next.spells.code_is keeps gives,
    )

-- where no reply was made, the parts are none
pub parts_are_none : (reply : Option Reply) (parts : Reply) → is_some reply ≡ false
    → MatchOption reply (¬ IsReply parts) (λ made. made ≡ parts) → ¬ IsReply parts
parts_are_none None parts none refused = refused
parts_are_none (Some reply) parts none made = absurd (false≢true (sym none))

-- what is held and the next octets of a line are held, where that line may still be short enough
pub part_is_held : (old : ReplyReader) (new : ReplyReader) (octets rest : List ℕ)
    → HoldsRest old rest → new.code ≡ old.code → new.lines.items ≡ old.lines.items
    → new.has_failed ≡ old.has_failed
    → ((part : List ℕ) → Holds old.line part → Holds new.line (part ++ octets))
    → length new.line.kept < 2048 → HoldsRest new (rest ++ octets)
part_is_held old new octets rest held code lines open_still more short =
    let holds = more held.part held.holds in
    let size = ap length holds.kept ∙ length-take 2048 (held.part ++ octets) in
    let P : ℕ → Type 0 = λ n. AreFollowed n old.lines.items in
    let Q : List (List ℕ) → Type 0 = λ ls. AreFollowed new.code ls in
    record {
      part = held.part ++ octets;
      is_open = open_still ∙ held.is_open;
      followed = subst Q (sym lines) (subst P (sym code) held.followed);
      holds = holds;
      short = omega (arith, size);
      rest_is =
          ap (λ l. l ++ octets) held.rest_is
          ∙ append_assoc (followed_lines old.code old.lines.items) held.part octets
          ∙ ap (λ n. followed_lines n old.lines.items ++ (held.part ++ octets)) (sym code)
          ∙ ap (λ ls. followed_lines new.code ls ++ (held.part ++ octets)) (sym lines);
    }

-- the octets after the lines that are held have this fault
fault_after : (old : ReplyReader) (octets rest line : List ℕ) (fault : ReplyFault)
    (held : HoldsRest old rest)
    → ShowsLine (held.part ++ octets) line → Breaks fault old.code old.lines.items line
    → HasFault (rest ++ octets) fault
fault_after old octets rest line fault held shows breaks = record {
  code = old.code;
  lines = old.lines.items;
  line = line;
  rest = held.part ++ octets;
  followed = held.followed;
  octets_are =
      ap (λ l. l ++ octets) held.rest_is
      ∙ append_assoc (followed_lines old.code old.lines.items) held.part octets;
  shows = shows;
  breaks = breaks;
}

-- a line that has too many octets and no end shows
pub part_has_fault : (old : ReplyReader) (new : HeldLine) (octets rest : List ℕ)
    (fault : ReplyFault)
    → HoldsRest old rest → ((part : List ℕ) → Holds old.line part → Holds new (part ++ octets))
    → 2048 ≤ length new.kept → Breaks fault old.code old.lines.items new.kept
    → HasFault (rest ++ octets) fault
part_has_fault old new octets rest fault held more long breaks =
    let all = held.part ++ octets in
    let holds = more held.part held.holds in
    let size = ap length holds.kept ∙ length-take 2048 all in
    let whole : all ≡ new.kept ++ drop 2048 all =
    sym (take-append-drop 2048 all) ∙ ap (λ l. l ++ drop 2048 all) (sym holds.kept) in
    let none = no_crlf_front new.kept (drop 2048 all) (subst HasNoCrlf whole holds.unended) in
    fault_after old octets rest new.kept fault held
    (inr (drop 2048 all, whole, none, omega (arith, size))) breaks

-- a line of a reply stays one with an octet more, and without its last octet, where it has a text
after_more : (is_last : Bool) (text after : List ℕ) (octet : ℕ) → 0 < length after
    → IsAfterCode is_last text after
    → IsAfterCode is_last (text ++ octet ∷ []) (after ++ octet ∷ [])
after_more true text after octet some (inl is) = inl (ap (λ l. l ++ octet ∷ []) is)
after_more true text after octet some (inr is) = let none = ap length is.0 in absurd (omega arith)
after_more false text after octet some is = ap (λ l. l ++ octet ∷ []) is

line_of_more : (line : List ℕ) (code octet : ℕ) → 3 < length line → IsLineOf line code
    → IsLineOf (line ++ octet ∷ []) code
line_of_more line code octet long is =
    let spells = is.spells in
    let size = ap length spells.line_is in
    record {
      is_last = is.is_last;
      text = is.text ++ octet ∷ [];
      spells = record {
        after = spells.after ++ octet ∷ [];
        code_is = spells.code_is;
        after_is = after_more is.is_last is.text spells.after octet (omega arith) spells.after_is;
        line_is = ap (λ l. l ++ octet ∷ []) spells.line_is;
      };
    }

after_less : (is_last : Bool) (text after : List ℕ) (n : ℕ) → 0 < length after
    → IsAfterCode is_last text after → IsAfterCode is_last (take n text) (take (suc n) after)
after_less true text after n some (inl is) = inl (ap (take (suc n)) is)
after_less true text after n some (inr is) = let none = ap length is.0 in absurd (omega arith)
after_less false text after n some is = ap (take (suc n)) is

line_of_less : (line : List ℕ) (code octet : ℕ) → length line ≡ 2047
    → IsLineOf (line ++ octet ∷ []) code → IsLineOf line code
line_of_less line code octet long is =
    let spells = is.spells in
    let size = ap length spells.line_is in
    let all = length-append line (octet ∷ []) in
    record {
      is_last = is.is_last;
      text = take 2043 is.text;
      spells = record {
        after = take 2044 spells.after;
        code_is = spells.code_is;
        after_is = after_less is.is_last is.text spells.after 2043 (omega arith) spells.after_is;
        line_is = sym (take_at line (octet ∷ []) 2047 long) ∙ ap (take 2047) spells.line_is;
      };
    }

-- what breaks a rule breaks it with an octet more, where it is too long already
breaks_more : (fault : ReplyFault) (code : ℕ) (lines : List (List ℕ)) (line : List ℕ) (octet : ℕ)
    → length line ≡ 2047 → Breaks fault code lines line
    → Breaks fault code lines (line ++ octet ∷ [])
breaks_more BadLine code lines line octet long breaks = record {
  none = λ other is_last text spells.
      let less =
      line_of_less line other octet long
      (record { is_last = is_last; text = text; spells = spells }) in
      breaks.none other less.is_last less.text less.spells;
}
breaks_more MixedCodes code lines line octet long breaks = (
  breaks.0,
  line_of_more line breaks.0 octet (omega arith) breaks.1,
  breaks.2,
  breaks.3,
)
breaks_more TooLong code lines line octet long breaks = (
  breaks.0,
  line_of_more line breaks.0 octet (omega arith) breaks.1,
  breaks.2,
  inl (omega (arith, length-append line (octet ∷ []))),
)
breaks_more NoMemory code lines line octet long breaks = absurd breaks

-- what shows of a line that has ended, and is judged by what is kept of it
record ShowsBroken (octets : List ℕ) (fault : ReplyFault) (code : ℕ) (lines : List (List ℕ)) : Type 0 where
  line : List ℕ
  shows : ShowsLine octets line
  breaks : Breaks fault code lines line

long_shows : (octets line rest : List ℕ) (fault : ReplyFault) (code : ℕ) (lines : List (List ℕ))
    → ReadsLine octets line rest → 2048 ≤ length line → Breaks fault code lines (take 2048 line)
    → ShowsBroken octets fault code lines
long_shows octets line rest fault code lines reads long breaks =
    let first = take 2048 line in
    let after = drop 2048 line ++ (crlf ++ rest) in
    let split : octets ≡ first ++ after =
    reads.text ∙ append_assoc line crlf rest
    ∙ ap (λ l. l ++ (crlf ++ rest)) (sym (take-append-drop 2048 line))
    ∙ append_assoc first (drop 2048 line) (crlf ++ rest) in
    let none =
    no_crlf_front first (drop 2048 line)
    (subst HasNoCrlf (sym (take-append-drop 2048 line)) reads.first) in
    record {
      line = first;
      shows = inr (after, split, none, length-take-le 2048 line long);
      breaks = breaks;
    }

-- a line and its CR are 2,048 octets and hold no CR LF
with_cr_shows : (octets line rest : List ℕ) (fault : ReplyFault) (code : ℕ) (lines : List (List ℕ))
    → ReadsLine octets line rest → length line ≡ 2047 → Breaks fault code lines line
    → ShowsBroken octets fault code lines
with_cr_shows octets line rest fault code lines reads long breaks =
    let apart : ends_in_cr line && false ≡ false = and-false (ends_in_cr line) in
    record {
      line = line ++ 13 ∷ [];
      shows = inr (
        10 ∷ rest,
        reads.text ∙ append_assoc line crlf rest ∙ sym (append_assoc line (13 ∷ []) (10 ∷ rest)),
        no_crlf_joined line (13 ∷ []) reads.first (no_crlf_one 13) apart,
        length-append line (13 ∷ []) ∙ ap (λ n. n + 1) long,
      );
      breaks = breaks_more fault code lines line 13 long breaks;
    }

ended_shows : (octets line rest : List ℕ) (fault : ReplyFault) (code : ℕ) (lines : List (List ℕ))
    → ReadsLine octets line rest → Breaks fault code lines (take 2048 line)
    → ShowsBroken octets fault code lines
ended_shows octets line rest fault code lines reads breaks =
    let P : List ℕ → Type 0 = λ l. Breaks fault code lines l in
    elim (cases_lt 2047 (length line)) [
      | inl long ↦ long_shows octets line rest fault code lines reads (omega arith) breaks
      | inr short ↦
          let whole = subst P (take_all 2048 line (omega arith)) breaks in
          elim (cases_lt 2046 (length line)) [
            | inl just ↦ with_cr_shows octets line rest fault code lines reads (omega arith) whole
            | inr within ↦ record { line = line; shows = inl (rest, reads, within); breaks = whole }
          ]
    ]

-- a line that has ended and breaks a rule shows
pub ended_has_fault : (old : ReplyReader) (new : HeldLine) (octets rest : List ℕ) (used : ℕ)
    (fault : ReplyFault) (held : HoldsRest old rest)
    (ends : EndsLine held.part (take used octets) new)
    → Breaks fault old.code old.lines.items new.kept → HasFault (rest ++ octets) fault
ended_has_fault old new octets rest used fault held ends breaks =
    let P : List ℕ → Type 0 = λ l. ReadsLine l ends.0 (drop used octets) in
    let Q : List ℕ → Type 0 = λ l. Breaks fault old.code old.lines.items l in
    let all : (held.part ++ take used octets) ++ drop used octets ≡ held.part ++ octets =
    append_assoc held.part (take used octets) (drop used octets)
    ∙ ap (λ l. held.part ++ l) (take-append-drop used octets) in
    let reads =
    subst P all
    (first_line_stays (held.part ++ take used octets) ends.0 [] (drop used octets) ends.1) in
    let broken =
    ended_shows (held.part ++ octets) ends.0 (drop used octets) fault old.code old.lines.items reads
    (subst Q ends.2.kept breaks) in
    fault_after old octets rest broken.line fault held broken.shows broken.breaks

-- the line has ended after the lines that are held
pub ended_after : (old mid : ReplyReader) (rest octets : List ℕ) (held : HoldsRest old rest)
    → EndsLine held.part octets mid.line → mid.code ≡ old.code → mid.lines.items ≡ old.lines.items
    → mid.has_failed ≡ old.has_failed
    → (line : List ℕ) × HoldsEnded mid line ×
    (rest ++ octets ≡ followed_lines mid.code mid.lines.items ++ (line ++ crlf))
ended_after old mid rest octets held ends code lines open_still =
    let P : ℕ → Type 0 = λ n. AreFollowed n old.lines.items in
    let Q : List (List ℕ) → Type 0 = λ ls. AreFollowed mid.code ls in
    let line = ends.0 in (
      line,
      record {
        is_open = open_still ∙ held.is_open;
        followed = subst Q (sym lines) (subst P (sym code) held.followed);
        holds = ends.2;
        unbroken = ends.1.first;
      },
      ap (λ l. l ++ octets) held.rest_is
          ∙ append_assoc (followed_lines old.code old.lines.items) held.part octets
          ∙ ap (λ l. followed_lines old.code old.lines.items ++ l) (ends.1.text ∙ append-nil (line ++ crlf))
          ∙ ap (λ n. followed_lines n old.lines.items ++ (line ++ crlf)) (sym code)
          ∙ ap (λ ls. followed_lines mid.code ls ++ (line ++ crlf)) (sym lines),
    )

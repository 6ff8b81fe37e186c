-- Replies: each is read in one way, none begins another, and what is written is read.
use Rattle.std.proofs.Common.{◌≡◌, ◌≢◌, ℕ, ◌+◌, ◌/◌, ◌%◌, ◌<◌, ◌⊎◌, ◌&&◌, Bool, true, false, List, [], ◌∷◌, ◌++◌, length, drop, inl, inr, refl, sym, ap, ◌∙◌, subst, arith, append_assoc}
use Rattle.std.specs.List.{AllByRecursion}
use Rattle.std.proofs.lemmas.Bool.{ne_eqb}
use Rattle.relay_octets.specs.Line.{crlf, HasNoCrlf, ReadsLine, begins_with_lf}
use Rattle.relay_octets.proofs.Theorems.{no_crlf_joined, no_crlf_one, no_crlf_nil, first_line_is_one}
use Rattle.relay_lines.proofs.ReplyLemmas.{lines_of_reply-append}
use Rattle.relay_lines.specs.Reply.{Reply, IsReplyLine, IsCode, SpellsLine, ReadsReply, IsAfterCode, code_digits, followed_lines, last_line, lines_of_reply, made_of, middle_line}
use Rattle.relay_lines.specs.ReplyLaws.{NoReplyBeginsAnother, WrittenIsRead}

-- an octet other than a CR, before octets without a CR LF
no_crlf_cons : (octet : ℕ) (octets : List ℕ) → octet ≢ 13 → HasNoCrlf octets
    → HasNoCrlf (octet ∷ octets)
no_crlf_cons octet octets other none =
    no_crlf_joined (octet ∷ []) octets (no_crlf_one octet) none
    (ap (λ b. b && begins_with_lf octets) (ne_eqb octet 13 other))

-- a code before octets without a CR LF
digits_cons : (code : ℕ) (after : List ℕ) → HasNoCrlf after
    → HasNoCrlf (code_digits code ++ after)
digits_cons code after none =
    let high : 48 + code / 100 ≢ 13 = omega arith in
    let mid : 48 + code / 10 % 10 ≢ 13 = omega arith in
    let low : 48 + code % 10 ≢ 13 = omega arith in
    no_crlf_cons (48 + code / 100) ((48 + code / 10 % 10) ∷ (48 + code % 10) ∷ after) high
    (no_crlf_cons (48 + code / 10 % 10) ((48 + code % 10) ∷ after) mid (no_crlf_cons (48 + code % 10) after low none))

-- a line of a reply is a line
pub middle_has_none : (code : ℕ) (text : List ℕ) → HasNoCrlf text
    → HasNoCrlf (code_digits code ++ 45 ∷ text)
middle_has_none code text none =
    let other : ◌≢◌ {A = ℕ} 45 13 = omega arith in
    digits_cons code (45 ∷ text) (no_crlf_cons 45 text other none)

after_has_none : (is_last : Bool) (text after : List ℕ)
    (spells : IsAfterCode is_last text after)
    → HasNoCrlf text → HasNoCrlf after
after_has_none true text after (inl is) none =
    let other : ◌≢◌ {A = ℕ} 32 13 = omega arith in subst HasNoCrlf (sym is) (no_crlf_cons 32 text other none)
after_has_none true text after (inr is) none = subst HasNoCrlf (sym is.0) no_crlf_nil
after_has_none false text after is none =
    let other : ◌≢◌ {A = ℕ} 45 13 = omega arith in subst HasNoCrlf (sym is) (no_crlf_cons 45 text other none)

line_has_none : (line : List ℕ) (code : ℕ) (is_last : Bool) (text : List ℕ)
    → SpellsLine line code is_last text → HasNoCrlf text → HasNoCrlf line
line_has_none line code is_last text spells none =
    subst HasNoCrlf (sym spells.line_is)
    (digits_cons code spells.after (after_has_none is_last text spells.after spells.after_is none))

-- a code is told by its digits
code_is_one : (code other : ℕ) → IsCode code → IsCode other → 48 + code / 100 ≡ 48 + other / 100
    → 48 + code / 10 % 10 ≡ 48 + other / 10 % 10 → 48 + code % 10 ≡ 48 + other % 10 → code ≡ other
code_is_one code other is is_other high mid low =
    let low_end = is.high in let other_end = is_other.high in omega arith

pub digits_are_one : (code other : ℕ) (after more : List ℕ) → IsCode code → IsCode other
    → code_digits code ++ after ≡ code_digits other ++ more → (code ≡ other) × (after ≡ more)
digits_are_one code other after more is is_other e =
    let high : 48 + code / 100 ≡ 48 + other / 100 = cc in
    let mid : 48 + code / 10 % 10 ≡ 48 + other / 10 % 10 = cc in
    let low : 48 + code % 10 ≡ 48 + other % 10 = cc in
    (code_is_one code other is is_other high mid low, ap (drop 3) e)

-- the last line isn't one that another follows
last_is_not_middle : (line : List ℕ) (code other : ℕ) (text follows : List ℕ) → IsCode other
    → SpellsLine line code true text → line ≡ code_digits other ++ 45 ∷ follows → ⊥
last_is_not_middle line code other text follows is spells e =
    let same =
    digits_are_one code other spells.after (45 ∷ follows) spells.code_is is
    (sym spells.line_is ∙ e) in
    elim spells.after_is [
      | inl space ↦ let no : ◌≡◌ {A = ℕ} 45 32 = cc in absurd (omega arith)
      | inr nothing ↦ let no : [] ≡ 45 ∷ follows = sym nothing.0 ∙ same.1 in cc
    ]

-- the first of lines that others follow
pub first_of_followed : (code : ℕ) (text : List ℕ) (lines : List (List ℕ)) (rest : List ℕ)
    → IsReplyLine text
    → ReadsLine (followed_lines code (text ∷ lines) ++ rest) (code_digits code ++ 45 ∷ text)
    (followed_lines code lines ++ rest)
first_of_followed code text lines rest is = record {
  text = append_assoc (middle_line code text) (followed_lines code lines) rest;
  first = middle_has_none code text is.line;
}

-- the first line of equal octets
same_first : (octets line rest stream other more : List ℕ) → octets ≡ stream
    → ReadsLine octets line rest → ReadsLine stream other more → (line ≡ other) × (rest ≡ more)
same_first octets line rest stream other more e one two =
    let P : List ℕ → Type 0 = λ l. ReadsLine l line rest in
    first_line_is_one stream line rest other more (subst P e one) two

-- both have the same lines that others follow, and the same octets after them
pub record SameLines (c d : ℕ) (lines others : List (List ℕ)) (rest more : List ℕ) : Type 0 where
  pub lines_are : lines ≡ others
  pub rest_is : rest ≡ more
  pub code_is : 0 < length lines → c ≡ d

-- the others go on where the lines end
pub record GoesFurther (c d : ℕ) (lines others : List (List ℕ)) (rest more : List ℕ) : Type 0 where
  pub text : List ℕ
  pub later : List (List ℕ)
  pub others_are : others ≡ lines ++ text ∷ later
  pub rest_is : rest ≡ followed_lines d (text ∷ later) ++ more
  pub code_is : 0 < length lines → c ≡ d

-- of two readings of octets one goes further, or they are the same
abbrev pub Agree : ℕ → ℕ → List (List ℕ) → List (List ℕ) → List ℕ → List ℕ → Type 0
Agree c d lines others rest more =
    SameLines c d lines others rest more ⊎ (GoesFurther c d lines others rest more ⊎ GoesFurther d c others lines more rest)

agree_after : (c d : ℕ) (text other : List ℕ) (lines others : List (List ℕ)) (rest more : List ℕ)
    → c ≡ d → text ≡ other → Agree c d lines others rest more
    → Agree c d (text ∷ lines) (other ∷ others) rest more
agree_after c d text other lines others rest more codes texts (inl same) = inl record {
  lines_are = ap (λ t. t ∷ lines) texts ∙ ap (λ ls. other ∷ ls) same.lines_are;
  rest_is = same.rest_is;
  code_is = λ _. codes;
}
agree_after c d text other lines others rest more codes texts (inr (inl further)) = inr (inl record {
  text = further.text;
  later = further.later;
  others_are = ap (λ t. t ∷ others) (sym texts) ∙ ap (λ ls. text ∷ ls) further.others_are;
  rest_is = further.rest_is;
  code_is = λ _. codes;
})
agree_after c d text other lines others rest more codes texts (inr (inr further)) = inr (inr record {
  text = further.text;
  later = further.later;
  others_are = ap (λ t. t ∷ lines) texts ∙ ap (λ ls. other ∷ ls) further.others_are;
  rest_is = further.rest_is;
  code_is = λ _. sym codes;
})

pub agree : (c d : ℕ) (lines others : List (List ℕ)) (rest more : List ℕ) → IsCode c → IsCode d
    → AllByRecursion IsReplyLine lines → AllByRecursion IsReplyLine others
    → followed_lines c lines ++ rest ≡ followed_lines d others ++ more
    → Agree c d lines others rest more
agree c d [] [] rest more is is_other each each_other e = inl record {
  lines_are = refl;
  rest_is = e;
  code_is = λ some. absurd (omega arith);
}
agree c d [] (other ∷ others) rest more is is_other each each_other e = inr (inl record {
  text = other;
  later = others;
  others_are = refl;
  rest_is = e;
  code_is = λ some. absurd (omega arith);
})
agree c d (text ∷ lines) [] rest more is is_other each each_other e = inr (inr record {
  text = text;
  later = lines;
  others_are = refl;
  rest_is = sym e;
  code_is = λ some. absurd (omega arith);
})
agree c d (text ∷ lines) (other ∷ others) rest more is is_other each each_other e =
    let same =
    same_first (followed_lines c (text ∷ lines) ++ rest) (code_digits c ++ 45 ∷ text)
    (followed_lines c lines ++ rest) (followed_lines d (other ∷ others) ++ more)
    (code_digits d ++ 45 ∷ other) (followed_lines d others ++ more) e
    (first_of_followed c text lines rest each.0)
    (first_of_followed d other others more each_other.0) in
    let codes = digits_are_one c d (45 ∷ text) (45 ∷ other) is is_other same.0 in
    agree_after c d text other lines others rest more codes.0 (ap (drop 1) codes.1)
    (agree c d lines others rest more is is_other each.1 each_other.1 same.1)

-- the lines of a reply, and the last one
each_parts : (middle : List (List ℕ)) (last : List ℕ)
    → AllByRecursion IsReplyLine (middle ++ last ∷ [])
    → AllByRecursion IsReplyLine middle × IsReplyLine last
each_parts [] last each = (tt, each.0)
each_parts (text ∷ middle) last each = let more = each_parts middle last each.1 in ((each.0, more.0), more.1)

pub reply_parts : (octets : List ℕ) (reply : Reply) (reads : ReadsReply octets reply)
    → AllByRecursion IsReplyLine reads.middle × IsReplyLine reads.last
reply_parts octets reply reads =
    let P : List (List ℕ) → Type 0 = λ ls. AllByRecursion IsReplyLine ls in
    each_parts reads.middle reads.last (subst P reads.lines_are reads.is_reply.each)

-- the first line after those of a reply that others follow
pub last_reads : (octets after : List ℕ) (reply : Reply) (reads : ReadsReply octets reply)
    → ReadsLine ((reads.line ++ crlf) ++ after) reads.line after
last_reads octets after reply reads =
    let parts = reply_parts octets reply reads in
    record {
      text = refl;
      first = line_has_none reads.line reply.code true reads.last reads.last_is parts.1.line;
    }

-- a reply and what is after it
pub reply_split : (octets after : List ℕ) (reply : Reply) (reads : ReadsReply octets reply)
    → octets ++ after ≡ followed_lines reply.code reads.middle ++ ((reads.line ++ crlf) ++ after)
reply_split octets after reply reads =
    ap (λ l. l ++ after) reads.octets_are
    ∙ append_assoc (followed_lines reply.code reads.middle) (reads.line ++ crlf) after

-- a reply's last line isn't one that another follows
pub ends_there : (octets after rest : List ℕ) (reply : Reply) (code : ℕ) (text : List ℕ)
    (later : List (List ℕ)) (reads : ReadsReply octets reply)
    → IsCode code → IsReplyLine text
    → (reads.line ++ crlf) ++ after ≡ followed_lines code (text ∷ later) ++ rest → ⊥
ends_there octets after rest reply code text later reads is is_line e =
    let same =
    same_first ((reads.line ++ crlf) ++ after) reads.line after
    (followed_lines code (text ∷ later) ++ rest) (code_digits code ++ 45 ∷ text)
    (followed_lines code later ++ rest) e (last_reads octets after reply reads)
    (first_of_followed code text later rest is_line) in
    last_is_not_middle reads.line reply.code code reads.last text is reads.last_is same.0

-- one of the lines that go further
each_further : (lines : List (List ℕ)) (text : List ℕ) (later : List (List ℕ))
    → AllByRecursion IsReplyLine (lines ++ text ∷ later) → IsReplyLine text
each_further [] text later each = each.0
each_further (line ∷ lines) text later each = each_further lines text later each.1

pub further_line : (c d : ℕ) (lines others : List (List ℕ)) (rest more : List ℕ)
    (further : GoesFurther c d lines others rest more)
    → AllByRecursion IsReplyLine others → IsReplyLine further.text
further_line c d lines others rest more further each =
    let P : List (List ℕ) → Type 0 = λ ls. AllByRecursion IsReplyLine ls in
    each_further lines further.text further.later (subst P further.others_are each)

-- the text after a code is told by what follows the code
text_is_one : (after text other : List ℕ) → IsAfterCode true text after
    → IsAfterCode true other after → text ≡ other
text_is_one after text other (inl one) (inl two) = ap (drop 1) (sym one ∙ two)
text_is_one after text other (inl one) (inr two) = let no : 32 ∷ text ≡ [] = sym one ∙ two.0 in cc
text_is_one after text other (inr one) (inl two) = let no : [] ≡ 32 ∷ other = sym one.0 ∙ two in cc
text_is_one after text other (inr one) (inr two) = one.1 ∙ sym two.1

same_reply : (reply second : Reply) → reply.code ≡ second.code → reply.lines ≡ second.lines
    → reply ≡ second
same_reply reply second codes lines =
    ap (λ n. made_of n reply.lines) codes ∙ ap (λ ls. made_of second.code ls) lines

one_reply : (text other after rest : List ℕ) (reply second : Reply) (one : ReadsReply text reply)
    (two : ReadsReply other second)
    → Agree reply.code second.code one.middle two.middle ((one.line ++ crlf) ++ after)
    ((two.line ++ crlf) ++ rest)
    → (text ≡ other) × (after ≡ rest) × (reply ≡ second)
one_reply text other after rest reply second one two (inl same) =
    let first =
    same_first ((one.line ++ crlf) ++ after) one.line after
    ((two.line ++ crlf) ++ rest) two.line rest same.rest_is (last_reads text after reply one)
    (last_reads other rest second two) in
    let codes =
    digits_are_one reply.code second.code one.last_is.after two.last_is.after one.last_is.code_is two.last_is.code_is
    (sym one.last_is.line_is ∙ first.0 ∙ two.last_is.line_is) in
    let P : List ℕ → Type 0 = λ l. IsAfterCode true one.last l in
    let last =
    text_is_one two.last_is.after one.last two.last
    (subst P codes.1 one.last_is.after_is) two.last_is.after_is in
    let lines =
    one.lines_are ∙ ap (λ ls. ls ++ one.last ∷ []) same.lines_are
    ∙ ap (λ t. two.middle ++ t ∷ []) last ∙ sym two.lines_are in (
      one.octets_are ∙ ap (λ n. followed_lines n one.middle ++ (one.line ++ crlf)) codes.0
          ∙ ap (λ ls. followed_lines second.code ls ++ (one.line ++ crlf)) same.lines_are
          ∙ ap (λ l. followed_lines second.code two.middle ++ (l ++ crlf)) first.0 ∙ sym two.octets_are,
      first.1,
      same_reply reply second codes.0 lines,
    )
one_reply text other after rest reply second one two (inr (inl further)) =
    let parts = reply_parts other second two in
    absurd
    (ends_there text after ((two.line ++ crlf) ++ rest) reply second.code further.text further.later one two.last_is.code_is (further_line reply.code second.code one.middle two.middle ((one.line ++ crlf) ++ after) ((two.line ++ crlf) ++ rest) further parts.0) further.rest_is)
one_reply text other after rest reply second one two (inr (inr further)) =
    let parts = reply_parts text reply one in
    absurd
    (ends_there other rest ((one.line ++ crlf) ++ after) second reply.code further.text further.later two one.last_is.code_is (further_line second.code reply.code two.middle one.middle ((two.line ++ crlf) ++ rest) ((one.line ++ crlf) ++ after) further parts.0) further.rest_is)

-- no reply begins another
pub no_reply_begins_another : NoReplyBeginsAnother
no_reply_begins_another text other after rest reply second one two e =
    let one_parts = reply_parts text reply one in
    let two_parts = reply_parts other second two in
    one_reply text other after rest reply second one two
    (agree reply.code second.code one.middle two.middle ((one.line ++ crlf) ++ after) ((two.line ++ crlf) ++ rest) one.last_is.code_is two.last_is.code_is one_parts.0 two_parts.0 (sym (reply_split text after reply one) ∙ e ∙ reply_split other rest second two))

-- the last of some lines, and those before it
split_last : (lines : List (List ℕ)) → 0 < length lines
    → (middle : List (List ℕ)) × (last : List ℕ) × (lines ≡ middle ++ last ∷ [])
split_last [] some = absurd (omega arith)
split_last (text ∷ []) some = ([], text, refl)
split_last (text ∷ next ∷ more) some =
    let split = split_last (next ∷ more) (omega arith) in
    (text ∷ split.0, split.1, ap (λ ls. text ∷ ls) split.2)

-- the last line, as it is written
written_last : (code : ℕ) (last : List ℕ) → IsCode code
    → (line : List ℕ) × SpellsLine line code true last × (last_line code last ≡ line ++ crlf)
written_last code [] is =
    (code_digits code, record { after = []; code_is = is; after_is = inr (refl, refl); line_is = refl }, refl)
written_last code (octet ∷ text) is = (
  code_digits code ++ 32 ∷ octet ∷ text,
  record { after = 32 ∷ octet ∷ text; code_is = is; after_is = inl refl; line_is = refl },
  refl,
)

-- what is written is read
pub written_is_read : WrittenIsRead
written_is_read reply is =
    let split = split_last reply.lines is.some_line in
    let last = written_last reply.code split.1 is.code_is in
    record {
      middle = split.0;
      last = split.1;
      line = last.0;
      is_reply = is;
      lines_are = split.2;
      last_is = last.1;
      octets_are =
          ap (λ ls. lines_of_reply reply.code ls) split.2
          ∙ lines_of_reply-append reply.code split.0 split.1
          ∙ ap (λ l. followed_lines reply.code split.0 ++ l) last.2;
    }

-- What is read of octets that begin as each line does.
use Rattle.std.proofs.Common.{◌≡◌, ◌≢◌, ℕ, ◌+◌, ◌-◌, ◌<◌, ◌≤◌, List, [], ◌∷◌, ◌++◌, codes, length, get_or, take, drop, min, suc, refl, sym, ap, subst, ◌∙◌, arith, inl, inr, append_assoc, length-append}
use Rattle.std.proofs.lemmas.List.{length-take, take-take, take_at, take-append-drop, append-nil}
use Rattle.std.proofs.Math.Seq.{take-append-add}
use Rattle.relay_octets.specs.Beginning.{Begins}
use Rattle.relay_octets.specs.Line.{HasNoCrlf, ReadsLine, crlf}
use Rattle.relay_octets.proofs.Theorems.{first_line_is_one, no_crlf_by_test, no_crlf_front}
use Rattle.relay_proxy.specs.HeaderLine.{HasNoSource, IsHeaderLine, SaysOfLine, line_limit, line_word}
use Rattle.relay_proxy.specs.Block.{IsBlock, signature}
use Rattle.relay_proxy.specs.Header.{IsBegun, IsFound, IsHeader, IsNone, IsUnfinished, least_left, at_word, at_line, at_signature, at_fields, at_rest}
use Rattle.relay_proxy.specs.declared.source.Source.{Source}
use Rattle.relay_proxy.proofs.ClientLemmas.{line_begins, line_is_long}

-- octets that begin as each line does don't begin as each block does
apart : (octets rest more : List ℕ) → octets ≡ codes "PROXY " ++ rest → octets ≡ signature ++ more → ⊥
apart octets rest more is other =
    let same : ◌≡◌ {A = ℕ} 80 13 = ap (λ (l : List ℕ). get_or l 0 0) (sym is ∙ other) in
    absurd (omega arith)

-- a header begins so
pub header_line_begins : (header : List ℕ) (source : Source) → IsHeaderLine header source → Begins line_word header
header_line_begins header source h =
    let (rest, is) = line_begins h.line source h.says in
    (rest ++ crlf, h.header_is ∙ ap (λ (l : List ℕ). l ++ crlf) is)

pub block_begins : (header : List ℕ) (source : Source) → IsBlock header source → Begins signature header
block_begins header source b = (b.command ∷ b.family ∷ b.high ∷ b.low ∷ b.rest, b.header_is)

pub begins_joined : (front header rest octets : List ℕ) → Begins front header → octets ≡ header ++ rest → Begins front octets
begins_joined front header rest octets (more, is) whole =
    (more ++ rest, whole ∙ ap (λ (l : List ℕ). l ++ rest) is ∙ append_assoc front more rest)

pub no_block : (octets header rest : List ℕ) (source : Source) → Begins line_word octets → octets ≡ header ++ rest → IsBlock header source → ⊥
no_block octets header rest source (more, is) whole b =
    let (other, begins) = begins_joined signature header rest octets (block_begins header source b) whole in
    apart octets more other is begins

pub no_line : (octets header rest : List ℕ) (source : Source) → Begins signature octets → octets ≡ header ++ rest → IsHeaderLine header source → ⊥
no_line octets header rest source (more, is) whole h =
    let (other, begins) = begins_joined line_word header rest octets (header_line_begins header source h) whole in
    apart octets other more begins is

-- each header has more than 12 octets
pub header_is_long : (header : List ℕ) (source : Source) → IsHeader header source → 13 ≤ length header
header_is_long header source (inl h) =
    let long = line_is_long h.line source h.says in
    let is = ap length h.header_is in
    omega (arith, long, is, length-append h.line crlf)
header_is_long header source (inr b) =
    let is : length header ≡ suc (suc (suc (suc (suc (suc (suc (suc (suc (suc (suc (suc (suc (suc (suc (suc (length b.rest)))))))))))))))) = ap length b.header_is in
    omega arith

-- the octets up to a limit
seen_rest : (octets seen : List ℕ) (count : ℕ) → seen ≡ take count octets → octets ≡ seen ++ drop count octets
seen_rest octets seen count is = sym (take-append-drop count octets) ∙ ap (λ (l : List ℕ). l ++ drop count octets) (sym is)

-- a line stands at the beginning of all octets as at that of those that were seen
line_seen : (octets seen text rest : List ℕ) (count : ℕ) → seen ≡ take count octets → ReadsLine seen text rest
    → ReadsLine octets text (rest ++ drop count octets)
line_seen octets seen text rest count is reads = record {
  text = seen_rest octets seen count is ∙ ap (λ (l : List ℕ). l ++ drop count octets) reads.text ∙ append_assoc (text ++ crlf) rest (drop count octets);
  first = reads.first;
}

-- a line with its CR LF is found at its place
front_of_line : (seen rest : List ℕ) (place : ℕ) → place + 2 ≤ length seen → ReadsLine seen (take place seen) rest
    → take (place + 2) seen ≡ take place seen ++ crlf
front_of_line seen rest place within reads =
    let size : length (take place seen ++ crlf) ≡ place + 2 = length-append (take place seen) crlf ∙ ap (λ (n : ℕ). n + 2) (shorter seen place (omega arith)) in
    ap (λ (l : List ℕ). take (place + 2) l) reads.text ∙ take_at (take place seen ++ crlf) rest (place + 2) size
  where
    shorter : (l : List ℕ) (n : ℕ) → n ≤ length l → length (take n l) ≡ n
    shorter l n h = omega (arith, length-take n l)

pub found_line : (octets seen rest : List ℕ) (place count : ℕ) (source : Source) → seen ≡ take count octets → count ≤ line_limit → place + 2 ≤ length seen
    → ReadsLine seen (take place seen) rest → SaysOfLine (take place seen) source
    → IsFound octets (record { source = source; length = place + 2 })
found_line octets seen rest place count source is few within reads says =
    let size : length seen ≡ min count (length octets) = ap length is ∙ length-take count octets in
    let front : take (place + 2) octets ≡ take (place + 2) seen = sym (ap (λ (l : List ℕ). take (place + 2) l) is ∙ take-take (place + 2) count octets (omega arith)) in
    let header_is = front ∙ front_of_line seen rest place within reads in
    record {
      within = omega arith;
      is = inl (record {
        line = take place seen;
        header_is = header_is;
        one_line = reads.first;
        short = omega (arith, length-take (place + 2) octets);
        says = says;
      });
    }

-- no CR LF stands in the word of a line, and so in no beginning of it
no_crlf_in_word : HasNoCrlf line_word
no_crlf_in_word = no_crlf_by_test line_word refl

no_crlf_begun : (octets : List ℕ) → Begins octets line_word → HasNoCrlf octets
no_crlf_begun octets (rest, is) = no_crlf_front octets rest (subst (λ (l : List ℕ). HasNoCrlf l) is no_crlf_in_word)

-- octets that begin as a line are waited for where no CR LF stands in them, and they are few
pub waits_for_line : (octets : List ℕ) → Begins line_word octets → IsUnfinished octets → HasNoCrlf octets × (length octets < line_limit)
waits_for_line octets (more, is) (at_word begun) =
    let (rest, whole) = begun in
    let sizes : 6 ≡ length octets + length rest = ap length whole ∙ length-append octets rest in
    (no_crlf_begun octets begun, omega arith)
waits_for_line octets begins (at_line other none few) = (none, few)
waits_for_line octets (more, is) (at_signature (rest, whole)) =
    let same : ◌≡◌ {A = ℕ} 13 80 = ap (λ (l : List ℕ). get_or l 0 0) (whole ∙ ap (λ (l : List ℕ). l ++ rest) is) in
    absurd (omega arith)
waits_for_line octets (more, is) (at_fields rest other few) = absurd (apart octets more rest is other)
waits_for_line octets (more, is) (at_rest command family high low rest other few small) = absurd (apart octets more _ is other)

-- an ended line that says nothing
pub line_without_source : (octets seen rest : List ℕ) (place count : ℕ) → Begins line_word octets → seen ≡ take count octets
    → ReadsLine seen (take place seen) rest → HasNoSource (take place seen) → IsNone octets
line_without_source octets seen rest place count begins is reads lacks =
    let whole = line_seen octets seen (take place seen) rest count is reads in
    record { none = none whole; ended = λ waits. ended whole (waits_for_line octets begins waits).0 }
  where
    ended : ReadsLine octets (take place seen) (rest ++ drop count octets) → HasNoCrlf octets → ⊥
    ended whole none = none.nowhere (take place seen) (rest ++ drop count octets) whole.text

    none : ReadsLine octets (take place seen) (rest ++ drop count octets) → (header : List ℕ) (source : Source) → IsHeader header source → Begins header octets → ⊥
    none whole header source (inl h) (more, at) =
        let other : ReadsLine octets h.line more = record { text = at ∙ ap (λ (l : List ℕ). l ++ more) h.header_is; first = h.one_line } in
        let (lines, rests) = first_line_is_one octets (take place seen) (rest ++ drop count octets) h.line more whole other in
        lacks.none source (subst (λ (l : List ℕ). SaysOfLine l source) (sym lines) h.says)
    none whole header source (inr b) (more, at) = no_block octets header more source begins at b

-- a header without a CR LF is none
no_header_line : (octets header rest : List ℕ) (source : Source) → HasNoCrlf octets → octets ≡ header ++ rest → IsHeaderLine header source → ⊥
no_header_line octets header rest source none at h =
    none.nowhere h.line rest (at ∙ ap (λ (l : List ℕ). l ++ rest) h.header_is)

pub least_of : (octets more : List ℕ) → 13 ≤ length octets + length more → more ≢ [] → least_left (length octets) ≤ length more
least_of octets [] long some = absurd (some refl)
least_of octets (octet ∷ more) long some = omega arith

-- a line that hasn't ended
pub line_begun : (octets : List ℕ) → Begins line_word octets → HasNoCrlf octets → length octets < line_limit → IsBegun octets (least_left (length octets))
line_begun octets begins none few = record {
  unfinished = at_line begins none few;
  some = omega arith;
  least = λ more source header.
      let long = header_is_long (octets ++ more) source header in
      least_of octets more (omega (arith, long, length-append octets more)) (λ nothing. by source (subst (λ (l : List ℕ). IsHeader l source) (ap (λ (l : List ℕ). octets ++ l) nothing ∙ append-nil octets) header));
}
  where
    by : (source : Source) → IsHeader octets source → ⊥
    by source (inl h) = no_header_line octets octets [] source none (sym (append-nil octets)) h
    by source (inr b) = no_block octets octets [] source begins (sym (append-nil octets)) b

take_past : (header rest : List ℕ) (count : ℕ) → length header ≤ count → take count (header ++ rest) ≡ header ++ take (count - length header) rest
take_past header rest count few =
    let sum : count ≡ length header + (count - length header) = omega arith in
    ap (λ (n : ℕ). take n (header ++ rest)) sum ∙ take-append-add header rest (count - length header)

-- a line that has no end within its limit
pub line_too_long : (octets : List ℕ) → Begins line_word octets → HasNoCrlf (take line_limit octets) → line_limit ≤ length octets → IsNone octets
line_too_long octets begins none many = record {
  none = by;
  ended = λ waits. let few = (waits_for_line octets begins waits).1 in absurd (omega arith);
}
  where
    by : (header : List ℕ) (source : Source) → IsHeader header source → Begins header octets → ⊥
    by header source (inl h) (rest, at) =
        let short = h.short in
        let front : take line_limit octets ≡ header ++ take (line_limit - length header) rest = ap (λ (l : List ℕ). take line_limit l) at ∙ take_past header rest line_limit (omega arith) in
        no_header_line (take line_limit octets) header (take (line_limit - length header) rest) source none front h
    by header source (inr b) (rest, at) = no_block octets header rest source begins at b

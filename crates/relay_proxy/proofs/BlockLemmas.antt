-- What is read of octets that begin as each block does.
use Rattle.std.proofs.Common.{◌≡◌, ℕ, ◌+◌, ◌-◌, ◌<◌, ◌≤◌, List, [], ◌∷◌, ◌++◌, codes, length, get_or, take, drop, refl, sym, ap, subst, ◌∙◌, arith, inl, inr, ◌⊎◌, length-append}
use Rattle.std.proofs.lemmas.List.{append-nil, append_cancel_left, length-take-le, take_at, take-append-drop}
use Rattle.relay_octets.specs.Beginning.{Begins}
use Rattle.relay_proxy.specs.Block.{HasNoMeaning, IsBlock, SaysOfBlock, rest_limit, signature, two_octets}
use Rattle.relay_proxy.specs.Header.{IsBegun, IsFound, IsHeader, IsNone, IsUnfinished, at_word, at_line, at_signature, at_fields, at_rest}
use Rattle.relay_proxy.specs.declared.source.Source.{Source}
use Rattle.relay_proxy.proofs.LineLemmas.{no_line}

-- octets after the signature: command, family, two of the length, and the rest
abbrev pub fields : ℕ → ℕ → ℕ → ℕ → List ℕ → List ℕ
fields command family high low rest = command ∷ family ∷ high ∷ low ∷ rest

pub fields_of : (octets : List ℕ) → 4 ≤ length octets
    → octets ≡ fields (get_or octets 0 0) (get_or octets 1 0) (get_or octets 2 0) (get_or octets 3 0) (drop 4 octets)
fields_of [] some = absurd (omega arith)
fields_of (a ∷ []) some = absurd (omega arith)
fields_of (a ∷ b ∷ []) some = absurd (omega arith)
fields_of (a ∷ b ∷ c ∷ []) some = absurd (omega arith)
fields_of (a ∷ b ∷ c ∷ d ∷ rest) some = refl

begins_signed : (octets : List ℕ) → Begins signature (signature ++ octets)
begins_signed octets = (octets, refl)

signed_length : (octets : List ℕ) → length (signature ++ octets) ≡ 12 + length octets
signed_length octets = length-append signature octets

-- the size that a block says, and what it says, are fixed by its octets
pub record IsSame (command family high low : ℕ) (rest more : List ℕ) (header : List ℕ) (source : Source) (b : IsBlock header source) : Type 0 where
  pub size_is : length b.rest ≡ two_octets high low
  pub rest_is : rest ≡ b.rest ++ more
  pub says : SaysOfBlock command family b.rest source

pub same_block : (command family high low : ℕ) (rest more header : List ℕ) (source : Source) (b : IsBlock header source)
    → signature ++ fields command family high low rest ≡ header ++ more → IsSame command family high low rest more header source b
same_block command family high low rest more header source b at =
    let whole : signature ++ fields command family high low rest ≡ signature ++ fields b.command b.family b.high b.low (b.rest ++ more) = at ∙ ap (λ (l : List ℕ). l ++ more) b.header_is in
    let same : fields command family high low rest ≡ fields b.command b.family b.high b.low (b.rest ++ more) = append_cancel_left signature _ _ whole in
    let commands : b.command ≡ command = cc same in
    let families : b.family ≡ family = cc same in
    let highs : b.high ≡ high = cc same in
    let lows : b.low ≡ low = cc same in
    let rests : rest ≡ b.rest ++ more = cc same in
    record {
      size_is = b.whole ∙ ap (λ (h : ℕ). two_octets h b.low) highs ∙ ap (λ (l : ℕ). two_octets high l) lows;
      rest_is = rests;
      says = subst (λ (f : ℕ). SaysOfBlock command f b.rest source) families (subst (λ (c : ℕ). SaysOfBlock c b.family b.rest source) commands b.says);
    }

-- of octets that begin as a block does more are waited for where their length isn't there, or is more than there are
abbrev pub LacksRest : List ℕ → Type 0
LacksRest octets =
    (length octets < 4)
    ⊎ ((command family high low : ℕ) × (rest : List ℕ) × (octets ≡ fields command family high low rest) × (length rest < two_octets high low)
    × (two_octets high low ≤ rest_limit))

no_word : (octets rest : List ℕ) → codes "PROXY " ≡ (signature ++ octets) ++ rest → ⊥
no_word octets rest is =
    let same : ◌≡◌ {A = ℕ} 80 13 = ap (λ (l : List ℕ). get_or l 0 0) is in
    absurd (omega arith)

no_line_word : (octets rest : List ℕ) → signature ++ octets ≡ codes "PROXY " ++ rest → ⊥
no_line_word octets rest is =
    let same : ◌≡◌ {A = ℕ} 13 80 = ap (λ (l : List ℕ). get_or l 0 0) is in
    absurd (omega arith)

pub waits_for_block : (octets : List ℕ) → IsUnfinished (signature ++ octets) → LacksRest octets
waits_for_block octets (at_word (rest, is)) = absurd (no_word octets rest is)
waits_for_block octets (at_line (rest, is) none few) = absurd (no_line_word octets rest is)
waits_for_block octets (at_signature (rest, is)) =
    let sizes : 12 ≡ length (signature ++ octets) + length rest = ap length is ∙ length-append (signature ++ octets) rest in
    inl (omega (arith, sizes, signed_length octets))
waits_for_block octets (at_fields rest is few) =
    let same : octets ≡ rest = append_cancel_left signature octets rest is in
    inl (omega (arith, ap length same, few))
waits_for_block octets (at_rest command family high low rest is few small) =
    inr (command, family, high, low, rest, append_cancel_left signature octets (fields command family high low rest) is, few, small)

-- a whole block
front_of_block : (command family high low size : ℕ) (rest : List ℕ) → size ≤ length rest
    → take (12 + 4 + size) (signature ++ fields command family high low rest) ≡ signature ++ fields command family high low (take size rest)
front_of_block command family high low size rest within =
    let front = signature ++ fields command family high low (take size rest) in
    let whole : signature ++ fields command family high low rest ≡ front ++ drop size rest = ap (λ (l : List ℕ). signature ++ fields command family high low l) (sym (take-append-drop size rest)) in
    let count : length front ≡ 12 + 4 + size = omega (arith, length-take-le size rest within, length-append signature (fields command family high low (take size rest))) in
    ap (λ (l : List ℕ). take (12 + 4 + size) l) whole ∙ take_at front (drop size rest) (12 + 4 + size) count

pub found_block : (octets rest : List ℕ) (command family high low size : ℕ) (source : Source) → octets ≡ fields command family high low rest
    → size ≡ two_octets high low → size ≤ rest_limit → size ≤ length rest → SaysOfBlock command family (take size rest) source
    → IsFound (signature ++ octets) (record { source = source; length = 12 + 4 + size })
found_block octets rest command family high low size source is size_is small within says =
    let count : length octets ≡ 4 + length rest = ap length is ∙ length-append (command ∷ family ∷ high ∷ low ∷ []) rest in
    let taken = length-take-le size rest within in
    record {
      within = omega (arith, count, signed_length octets);
      is = inr (record {
        command = command;
        family = family;
        high = high;
        low = low;
        rest = take size rest;
        header_is = ap (λ (l : List ℕ). take (12 + 4 + size) (signature ++ l)) is ∙ front_of_block command family high low size rest within;
        whole = taken ∙ size_is;
        short = omega (arith, taken);
        says = says;
      });
    }

-- a block that says nothing
pub no_rest : (octets rest : List ℕ) (command family high low size : ℕ) → octets ≡ fields command family high low rest → size ≡ two_octets high low
    → LacksRest octets → (length rest < size) × (size ≤ rest_limit)
no_rest octets rest command family high low size is size_is (inl few) =
    let count : length octets ≡ 4 + length rest = ap length is ∙ length-append (command ∷ family ∷ high ∷ low ∷ []) rest in
    absurd (omega arith)
no_rest octets rest command family high low size is size_is (inr (c, f, h, l, other, at, few, small)) =
    let same : fields command family high low rest ≡ fields c f h l other = sym is ∙ at in
    let highs : h ≡ high = cc same in
    let lows : l ≡ low = cc same in
    let rests : rest ≡ other = cc same in
    let sizes : two_octets h l ≡ size = ap (λ (n : ℕ). two_octets n l) highs ∙ ap (λ (n : ℕ). two_octets high n) lows ∙ sym size_is in
    (omega (arith, ap length rests, few, sizes), omega (arith, small, sizes))

pub block_without_meaning : (octets rest : List ℕ) (command family high low size : ℕ) → octets ≡ fields command family high low rest
    → size ≡ two_octets high low → size ≤ length rest → HasNoMeaning command family (take size rest) → IsNone (signature ++ octets)
block_without_meaning octets rest command family high low size is size_is within lacks = record {
  none = by;
  ended = λ waits. let few = (no_rest octets rest command family high low size is size_is (waits_for_block octets waits)).0 in absurd (omega arith);
}
  where
    by : (header : List ℕ) (source : Source) → IsHeader header source → Begins header (signature ++ octets) → ⊥
    by header source (inl h) (more, at) = no_line (signature ++ octets) header more source (begins_signed octets) at h
    by header source (inr b) (more, at) =
        let same = same_block command family high low rest more header source b (ap (λ (l : List ℕ). signature ++ l) (sym is) ∙ at) in
        let front : take size rest ≡ b.rest = ap (λ (l : List ℕ). take size l) same.rest_is ∙ take_at b.rest more size (same.size_is ∙ sym size_is) in
        lacks.none source (subst (λ (l : List ℕ). SaysOfBlock command family l source) (sym front) same.says)

-- a block that is too long
pub block_too_long : (octets rest : List ℕ) (command family high low size : ℕ) → octets ≡ fields command family high low rest
    → size ≡ two_octets high low → rest_limit < size → IsNone (signature ++ octets)
block_too_long octets rest command family high low size is size_is many = record {
  none = by;
  ended = λ waits. let few = (no_rest octets rest command family high low size is size_is (waits_for_block octets waits)).1 in absurd (omega arith);
}
  where
    by : (header : List ℕ) (source : Source) → IsHeader header source → Begins header (signature ++ octets) → ⊥
    by header source (inl h) (more, at) = no_line (signature ++ octets) header more source (begins_signed octets) at h
    by header source (inr b) (more, at) =
        let same = same_block command family high low rest more header source b (ap (λ (l : List ℕ). signature ++ l) (sym is) ∙ at) in
        let sized = same.size_is in
        let short = b.short in
        absurd (omega arith)

-- a block whose rest isn't all there
pub block_begun : (octets rest : List ℕ) (command family high low size : ℕ) → octets ≡ fields command family high low rest
    → size ≡ two_octets high low → size ≤ rest_limit → length rest < size → IsBegun (signature ++ octets) (size - length rest)
block_begun octets rest command family high low size is size_is small few = record {
  unfinished = at_rest command family high low rest (ap (λ (l : List ℕ). signature ++ l) is) (omega arith) (omega arith);
  some = omega arith;
  least = by;
}
  where
    by : (more : List ℕ) (source : Source) → IsHeader ((signature ++ octets) ++ more) source → size - length rest ≤ length more
    by more source (inl h) =
        absurd (no_line ((signature ++ octets) ++ more) ((signature ++ octets) ++ more) [] source (octets ++ more, refl) (sym (append-nil _)) h)
    by more source (inr b) =
        let whole : signature ++ fields command family high low (rest ++ more) ≡ ((signature ++ octets) ++ more) ++ [] = ap (λ (l : List ℕ). signature ++ (l ++ more)) (sym is) ∙ sym (append-nil ((signature ++ octets) ++ more)) in
        let same = same_block command family high low (rest ++ more) [] ((signature ++ octets) ++ more) source b whole in
        let sizes = ap length (same.rest_is ∙ append-nil b.rest) in
        let sized = same.size_is in
        omega (arith, sizes, length-append rest more)

-- a block whose length isn't there
pub fields_begun : (octets : List ℕ) → length octets < 4 → IsBegun (signature ++ octets) (4 - length octets)
fields_begun octets few = record {
  unfinished = at_fields octets refl few;
  some = omega arith;
  least = by;
}
  where
    by : (more : List ℕ) (source : Source) → IsHeader ((signature ++ octets) ++ more) source → 4 - length octets ≤ length more
    by more source (inl h) =
        absurd (no_line ((signature ++ octets) ++ more) ((signature ++ octets) ++ more) [] source (octets ++ more, refl) (sym (append-nil _)) h)
    by more source (inr b) =
        let same : octets ++ more ≡ fields b.command b.family b.high b.low b.rest = append_cancel_left signature (octets ++ more) _ b.header_is in
        let sizes : length octets + length more ≡ 4 + length b.rest = sym (length-append octets more) ∙ ap length same ∙ length-append (b.command ∷ b.family ∷ b.high ∷ b.low ∷ []) b.rest in
        omega arith

-- What octets begin with, and headers that follow one another.
use Rattle.std.proofs.Common.{ℕ, ◌≤◌, List, ◌++◌, length, ap, arith, inl, inr, ◌⊎◌, length-append}
use Rattle.relay_octets.specs.Beginning.{Begins}
use Rattle.relay_proxy.specs.HeaderLine.{line_word}
use Rattle.relay_proxy.specs.Block.{signature}
use Rattle.relay_proxy.specs.Header.{IsBegun, IsHeader, IsNone, IsUnfinished, least_left, at_word, at_line, at_signature, at_fields, at_rest}
use Rattle.relay_proxy.specs.declared.source.Source.{Source}
use Rattle.relay_proxy.proofs.LineLemmas.{begins_joined, block_begins, header_is_long, header_line_begins, least_of}

-- a beginning of that with which each line or block begins
shorter : (octets front : List ℕ) → Begins octets front → length octets ≤ length front
shorter octets front (rest, is) = omega (arith, ap length is, length-append octets rest)

pub word_begun : (octets : List ℕ) → Begins octets line_word ⊎ Begins octets signature → IsBegun octets (least_left (length octets))
word_begun octets begun = record {
  unfinished = unfinished begun;
  some = omega arith;
  least = λ more source header.
      let long = header_is_long (octets ++ more) source header in
      let few = short begun in
      let sizes = length-append octets more in
      least_of octets more (omega (arith, long, sizes)) (λ nothing. let none = ap length nothing in absurd (omega (arith, long, sizes, none, few)));
}
  where
    unfinished : Begins octets line_word ⊎ Begins octets signature → IsUnfinished octets
    unfinished (inl h) = at_word h
    unfinished (inr h) = at_signature h

    short : Begins octets line_word ⊎ Begins octets signature → length octets ≤ 12
    short (inl h) = let few : length octets ≤ 6 = shorter octets line_word h in omega arith
    short (inr h) = let few : length octets ≤ 12 = shorter octets signature h in few

pub begins_as_none : (octets : List ℕ) → ¬ Begins signature octets → ¬ Begins line_word octets
    → ¬ (Begins octets line_word ⊎ Begins octets signature) → IsNone octets
begins_as_none octets no_signature no_word no_front = record { none = none; ended = ended }
  where
    none : (header : List ℕ) (source : Source) → IsHeader header source → Begins header octets → ⊥
    none header source (inl h) (rest, at) = no_word (begins_joined line_word header rest octets (header_line_begins header source h) at)
    none header source (inr b) (rest, at) = no_signature (begins_joined signature header rest octets (block_begins header source b) at)

    ended : IsUnfinished octets → ⊥
    ended (at_word h) = no_front (inl h)
    ended (at_line h none few) = no_word h
    ended (at_signature h) = no_front (inr h)
    ended (at_fields rest is few) = no_signature (rest, is)
    ended (at_rest command family high low rest is few small) = no_signature (_, is)

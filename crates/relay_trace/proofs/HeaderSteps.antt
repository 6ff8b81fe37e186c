-- Single steps over a header section: what the loops of this crate keep.
use Rattle.std.proofs.Common.{◌≡◌, ◌≢◌, ℕ, ◌+◌, ◌≤◌, Bool, true, false, cond, List, length, take, drop, ap, arith}
use Rattle.std.proofs.lemmas.List.{length-take, length-drop}
use Rattle.relay_octets.specs.Line.{HasNoCrlf, ReadsLine}
use Rattle.relay_trace.specs.HeaderSection.{is_received, received_count_of}
use Rattle.relay_trace.proofs.HeaderLemmas.{one_if_received, received_count_of-line, received_count_of-empty, received_count_of-last}

-- the count so far, with that of the rest, is the count of the text
pub record CountsSoFar (text rest : List ℕ) (count : ℕ) : Type 0 where
  pub counted : count + received_count_of rest ≡ received_count_of text
  pub room : count + length rest ≤ length text

-- a line that isn't empty
pub counts_line : (text rest : List ℕ) (count place : ℕ) (test : Bool) → CountsSoFar text rest count
    → place ≢ 0 → place + 2 ≤ length rest → ReadsLine rest (take place rest) (drop (place + 2) rest)
    → test ≡ is_received (take place rest)
    → CountsSoFar text (drop (place + 2) rest) (count + cond test 1 0)
counts_line text rest count place test so_far some fits reads tested =
    let long : length (take place rest) ≡ place = omega (arith, length-take place rest) in
    let step = received_count_of-line rest (take place rest) (drop (place + 2) rest) (omega arith) reads in
    let one : cond test 1 0 ≡ one_if_received (take place rest) = ap (λ b. cond b 1 0) tested in
    let small : cond test 1 0 ≤ 1 =
    elim test as (λ b. cond b 1 0 ≤ 1) [ true ↦ omega arith | false ↦ omega arith ] in
    let left = length-drop (place + 2) rest in
    record {
      counted = omega (arith, so_far.counted);
      room = omega (arith, so_far.room);
    }

-- an empty line ends the count
pub counts_empty : (text rest : List ℕ) (count place : ℕ) → CountsSoFar text rest count → place ≡ 0
    → ReadsLine rest (take place rest) (drop (place + 2) rest) → count ≡ received_count_of text
counts_empty text rest count place so_far none reads =
    let no_octet : length (take place rest) ≡ 0 = omega (arith, length-take place rest) in
    let step = received_count_of-empty rest (take place rest) (drop (place + 2) rest) no_octet reads in
    omega (arith, so_far.counted)

-- and the line after the last CR LF is the last
pub counts_last : (text rest : List ℕ) (count : ℕ) (test : Bool) → CountsSoFar text rest count
    → HasNoCrlf rest → test ≡ is_received rest → count + cond test 1 0 ≡ received_count_of text
counts_last text rest count test so_far none tested =
    let step = received_count_of-last rest none in
    let one : cond test 1 0 ≡ one_if_received rest = ap (λ b. cond b 1 0) tested in
    omega (arith, so_far.counted)

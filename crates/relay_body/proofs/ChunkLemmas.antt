-- Chunks: what has come of them fixes them and their reader, however it was cut.
use Rattle.std.proofs.Common.{◌≡◌, ℕ, ◌+◌, ◌<◌, ◌≤◌, List, [], ◌∷◌, ◌++◌, length, map, take, Option, None, Some, nat_le, replicate, refl, sym, ap, subst, ◌∙◌, arith, append_assoc}
use Rattle.std.proofs.SliceLists.{all_by_recursion_push}
use Rattle.std.proofs.lemmas.List.{append-nil, append_cancel_left, flat_map_more, length-replicate, take_at, take_all}
use Rattle.std.proofs.lemmas.Bool.{cond-true, cond-false, le-leb, lt-leb}
use Rattle.std.proofs.Props.{props}
use Rattle.std.specs.Option.{ForSome}
use Rattle.relay_body.specs.declared.gathered.Gathering.{Gathering}
use Rattle.relay_body.specs.declared.chunk_reader.Stage.{Stage}
use Rattle.relay_body.specs.declared.chunk_reader.Stage.TheVariants.{Awaits, Failed}
use Rattle.relay_body.specs.declared.chunk_reader.ChunkReader.{ChunkReader}
use Rattle.relay_body.specs.Gathering.{kept_of}
use Rattle.relay_body.specs.ChunkText.{Chunk, HasNoMemory, EachReaderWasGivenChunks, IsWhole, octets_of, content_of_chunks, with_octets, IsFed, IsInChunk, joined, ChunksHaveMemory, CuttingSaysNothing, NoMoreThanItsSize, SizesCutOnce, WholeIsBetween, WholeIsOneMore}

pub whole_is_between : WholeIsBetween
whole_is_between reader limit chunks chunk inside = (
  λ between.
      let none : inside.missing ≡ 0 = cc in
      let same : length chunk.octets ≡ chunk.size = omega arith in
      record { length_is = same },
  λ whole.
      let none : inside.missing ≡ 0 = omega arith in
      inside.awaits ∙ ap Awaits none,
)

pub whole_is_one_more : WholeIsOneMore
whole_is_one_more reader limit chunks chunk inside whole = record {
  each = all_by_recursion_push IsWhole chunks chunk inside.each whole;
  between = (whole_is_between reader limit chunks chunk inside).1 whole;
  gathers = rw (flat_map_more octets_of [] chunks chunk) at inside.gathers;
}

pub no_more_than_its_size : NoMoreThanItsSize
no_more_than_its_size reader limit chunks chunk inside = omega arith

-- a chunk is its size and its octets
chunk_is : (chunk other : Chunk) → chunk.size ≡ other.size → chunk.octets ≡ other.octets
    → chunk ≡ other
chunk_is chunk other sizes octets =
    let chunk_of : ℕ → List ℕ → Chunk = λ size octets. record { size = size; octets = octets } in
    ap (λ size. chunk_of size chunk.octets) sizes ∙ ap (λ octets. chunk_of other.size octets) octets

-- octets with as many in front have the same front
same_front : (front other back rest : List ℕ) → length front ≡ length other
    → front ++ back ≡ other ++ rest → front ≡ other
same_front front other back rest long e =
    sym (take_at front back (length front) refl) ∙ ap (take (length front)) e
    ∙ take_at other rest (length front) (sym long)

pub sizes_cut_once : SizesCutOnce
sizes_cut_once [] [] each one sizes contents = refl
sizes_cut_once [] (other ∷ others) each one sizes contents = cc
sizes_cut_once (chunk ∷ chunks) [] each one sizes contents = cc
sizes_cut_once (chunk ∷ chunks) (other ∷ others) each one sizes contents =
    let size : chunk.size ≡ other.size = cc in
    let later : map Chunk.size chunks ≡ map Chunk.size others = cc in
    let front = same_front chunk.octets other.octets (content_of_chunks chunks) (content_of_chunks others)
    (each.0.length_is ∙ size ∙ sym one.0.length_is) contents in
    let back = append_cancel_left other.octets (content_of_chunks chunks) (content_of_chunks others)
    (ap (λ octets. octets ++ content_of_chunks chunks) (sym front) ∙ contents) in
    let rest = sizes_cut_once chunks others each.1 one.1 later back in
    let same = chunk_is chunk other size front in
    ap (λ c. c ∷ chunks) same ∙ ap (λ cs. other ∷ cs) rest

-- pieces that are fed have come of the chunk, however they were cut
fed_has_come : (old new : ChunkReader) (limit : ℕ) (chunks : List Chunk) (chunk : Chunk)
    (pieces : List (List ℕ))
    → IsInChunk old limit chunks chunk → IsFed old pieces new
    → IsInChunk new limit chunks (with_octets chunk (joined pieces))
fed_has_come old new limit chunks chunk [] inside fed =
    let same = chunk_is chunk (with_octets chunk []) refl (sym (append-nil chunk.octets)) in
    subst (λ (reader : ChunkReader). IsInChunk reader limit chunks (with_octets chunk [])) fed
    (subst (λ (c : Chunk). IsInChunk old limit chunks c) same inside)
fed_has_come old new limit chunks chunk (piece ∷ pieces) inside fed =
    let all = take_all fed.1.used piece (omega (arith, fed.3)) in
    let one =
    subst (λ (octets : List ℕ). IsInChunk fed.0 limit chunks (with_octets chunk octets)) all
    (fed.2.uses limit chunks chunk inside) in
    let rest = fed_has_come fed.0 new limit chunks (with_octets chunk piece) pieces one fed.4 in
    let same =
    chunk_is (with_octets (with_octets chunk piece) (joined pieces))
    (with_octets chunk (piece ++ joined pieces)) refl
    (append_assoc chunk.octets piece (joined pieces)) in
    subst (λ (c : Chunk). IsInChunk new limit chunks c) same rest

-- that a content is within the limit has one proof
within_prop : (limit : ℕ) (kept : Option (List ℕ))
    → IsProp (ForSome kept (λ octets. length octets ≤ limit))
within_prop limit kept = hlevel props

-- what has been gathered is its limit and what is kept
gathering_is : (one two : Gathering) → one.limit ≡ two.limit → one.kept ≡ two.kept → one ≡ two
gathering_is one two limits kept =
    let first : (within : ForSome one.kept (λ octets. length octets ≤ one.limit)) → one ≡ record { limit = one.limit; kept = one.kept; within_limit = within } =
    λ within. ap (λ (w : ForSome one.kept (λ octets. length octets ≤ one.limit)). record one { within_limit = w }) (within_prop one.limit one.kept one.within_limit within) in
    let second =
    subst
    (λ (l : ℕ). (within : ForSome one.kept (λ octets. length octets ≤ l)) → one ≡ record { limit = l; kept = one.kept; within_limit = within }) limits first in
    subst
    (λ (k : Option (List ℕ)). (within : ForSome k (λ octets. length octets ≤ two.limit)) → one ≡ record { limit = two.limit; kept = k; within_limit = within }) kept second two.within_limit

-- a reader is fixed by what has come
reader_is_fixed : (reader other : ChunkReader) (limit : ℕ) (chunks : List Chunk) (chunk : Chunk)
    → IsInChunk reader limit chunks chunk → IsInChunk other limit chunks chunk → reader ≡ other
reader_is_fixed reader other limit chunks chunk one two =
    let missing : one.missing ≡ two.missing = omega arith in
    let stages : reader.stage ≡ other.stage = one.awaits ∙ ap Awaits missing ∙ sym two.awaits in
    let gatherings =
    gathering_is reader.gathering other.gathering (one.gathers.limit_is ∙ sym two.gathers.limit_is)
    (one.gathers.kept_is ∙ sym two.gathers.kept_is) in
    ap (λ (s : Stage). record reader { stage = s }) stages
    ∙ ap (λ (g : Gathering). record other { gathering = g }) gatherings

pub cutting_says_nothing : CuttingSaysNothing
cutting_says_nothing old new other limit chunks chunk pieces cuts inside fed again same =
    let one = fed_has_come old new limit chunks chunk pieces inside fed in
    let two = fed_has_come old other limit chunks chunk cuts inside again in
    reader_is_fixed new other limit chunks (with_octets chunk (joined cuts))
    (subst (λ (octets : List ℕ). IsInChunk new limit chunks (with_octets chunk octets)) same one) two

pub chunks_have_memory : ChunksHaveMemory
chunks_have_memory reader limit chunks = (λ has failed. cc, λ chunk inside failed. cc)

-- some content that is kept so
content_kept : (limit : ℕ) (kept : Option (List ℕ)) → ForSome kept (λ octets. length octets ≤ limit)
    → (content : List ℕ) × (kept ≡ kept_of limit content)
content_kept limit None within =
    let long = length-replicate {A = ℕ} (limit + 1) 0 in
    let passes : limit < length (replicate (limit + 1) 0) = omega (arith, long) in
    (replicate {A = ℕ} (limit + 1) 0, sym (cond-false (nat_le (length (replicate (limit + 1) 0)) limit) _ _ (lt-leb _ limit passes)))
content_kept limit (Some octets) within =
    (octets, sym (cond-true (nat_le (length octets) limit) _ _ (le-leb (length octets) limit (within octets refl))))

-- a reader that awaits so many octets is in a chunk
awaits_is_in_chunk : (reader : ChunkReader) (stage : Stage) → reader.stage ≡ stage
    → ¬ HasNoMemory reader
    → (limit : ℕ) × (chunks : List Chunk) × (chunk : Chunk) × IsInChunk reader limit chunks chunk
awaits_is_in_chunk reader Failed is none = absurd (none is)
awaits_is_in_chunk reader (Awaits missing) is none =
    let content = content_kept reader.gathering.limit reader.gathering.kept reader.gathering.within_limit in (
      reader.gathering.limit,
      [],
      record { size = length content.0 + missing; octets = content.0 },
      record {
        missing = missing;
        each = tt;
        size_is = refl;
        awaits = is;
        gathers = record { limit_is = refl; kept_is = content.1 };
      },
    )

pub each_reader_was_given_chunks : EachReaderWasGivenChunks
each_reader_was_given_chunks reader none = awaits_is_in_chunk reader reader.stage refl none

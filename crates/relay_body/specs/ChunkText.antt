-- Chunks (RFC 3030, section 2): after each BDAT come as many octets as it says, and they are
-- content as they are.
use Rattle.std.specs.Prelude.{◌≡◌, ℕ, ◌+◌, ◌≤◌, ◌↔◌, ◌++◌, ◌∷◌, [], List, false, IsSome, IsTrue, length, map, take}
use Rattle.std.specs.Option.{option_map_or}
use Rattle.std.specs.List.{flat_map, AllByRecursion}
use Rattle.relay_body.specs.declared.chunk_reader.Stage.TheVariants.{Awaits, Failed}
use Rattle.relay_body.specs.declared.chunk_reader.ChunkCut.{ChunkCut}
use Rattle.relay_body.specs.declared.chunk_reader.ChunkReader.{ChunkReader}
use Rattle.relay_body.specs.Gathering.{KeepsContent}

-- a chunk as far as it has come: its chunk-size, and its octets
pub record Chunk : Type 0 where
  pub size : ℕ
  pub octets : List ℕ

-- a chunk that has come whole: its octets are as many as its chunk-size says
pub record IsWhole (chunk : Chunk) : Type 0 where
  pub length_is : length chunk.octets ≡ chunk.size

-- each of them has come whole
abbrev pub AreWhole : List Chunk → Type 0
AreWhole chunks = AllByRecursion IsWhole chunks

-- the octets of a chunk
abbrev pub octets_of : Chunk → List ℕ
octets_of chunk = chunk.octets

-- the content of chunks: their octets, joined without transparency
abbrev pub content_of_chunks : List Chunk → List ℕ
content_of_chunks chunks = flat_map octets_of chunks

-- a chunk of which nothing has come
abbrev pub new_chunk : ℕ → Chunk
new_chunk size = record { size = size; octets = [] }

-- a chunk of which these octets have come too
abbrev pub with_octets : Chunk → List ℕ → Chunk
with_octets chunk more = record { size = chunk.size; octets = chunk.octets ++ more }

-- the content has come so far, and is kept up to the limit
abbrev pub Gathers : ChunkReader → ℕ → List ℕ → Type 0
Gathers reader limit content = KeepsContent reader.gathering limit content

-- all of the content that has come is kept
abbrev pub KeepsAll : ChunkReader → Type 0
KeepsAll reader = IsSome reader.gathering.kept

-- each chunk that was begun has come whole
abbrev pub IsBetweenChunks : ChunkReader → Type 0
IsBetweenChunks reader = reader.stage ≡ Awaits 0

-- memory ran out, and each further feed answers that
abbrev pub HasNoMemory : ChunkReader → Type 0
HasNoMemory reader = reader.stage ≡ Failed

-- the reader was given these chunks whole, and is after them
pub record HasChunks (reader : ChunkReader) (limit : ℕ) (chunks : List Chunk) : Type 0 where
  pub each : AreWhole chunks
  pub between : IsBetweenChunks reader
  pub gathers : Gathers reader limit (content_of_chunks chunks)

-- the reader was given these chunks whole, and a part of a further chunk
pub record IsInChunk (reader : ChunkReader) (limit : ℕ) (chunks : List Chunk) (chunk : Chunk) : Type 0 where
  pub missing : ℕ
  pub each : AreWhole chunks
  pub size_is : chunk.size ≡ length chunk.octets + missing
  pub awaits : reader.stage ≡ Awaits missing
  pub gathers : Gathers reader limit (content_of_chunks chunks ++ chunk.octets)

-- whatever chunks the reader was given before, a chunk of this size has begun after them
pub record BeginsChunk (old new : ChunkReader) (size : ℕ) : Type 0 where
  pub begins : (limit : ℕ) (chunks : List Chunk) → HasChunks old limit chunks
      → IsInChunk new limit chunks (new_chunk size)

-- an answered feed: the chunk has these octets too, which are all of the piece up to the chunk's
-- end
pub record FeedsChunk (old new : ChunkReader) (piece : List ℕ) (cut : ChunkCut) : Type 0 where
  pub uses : (limit : ℕ) (chunks : List Chunk) (chunk : Chunk) → IsInChunk old limit chunks chunk
      → IsInChunk new limit chunks (with_octets chunk (take cut.used piece))
  pub all : cut.done ≡ false → cut.used ≡ length piece
  pub done : IsTrue cut.done ↔ IsBetweenChunks new

-- the greatest length of a content that is kept
abbrev pub chunk_limit_of : ChunkReader → ℕ
chunk_limit_of reader = reader.gathering.limit

-- how many octets of content the reader holds
abbrev pub chunks_held_by : ChunkReader → ℕ
chunks_held_by reader = option_map_or length reader.gathering.kept 0

-- pieces are fed one after the other, and each is used whole
abbrev pub IsFed : ChunkReader → List (List ℕ) → ChunkReader → Type 0
IsFed old [] new = old ≡ new
IsFed old (piece ∷ pieces) new =
    (between : ChunkReader) × (cut : ChunkCut) × FeedsChunk old between piece cut × (cut.used ≡ length piece)
    × IsFed between pieces new

-- the octets of pieces, joined
abbrev pub joined : List (List ℕ) → List ℕ
joined pieces = flat_map (λ piece. piece) pieces

-- A chunk in hand has come whole exactly if its reader is between chunks.
abbrev pub WholeIsBetween : Type 0
WholeIsBetween =
    (reader : ChunkReader) (limit : ℕ) (chunks : List Chunk)
    (chunk : Chunk) → IsInChunk reader limit chunks chunk
    → IsBetweenChunks reader ↔ IsWhole chunk

-- A chunk that has come whole is one more of the chunks.
abbrev pub WholeIsOneMore : Type 0
WholeIsOneMore =
    (reader : ChunkReader) (limit : ℕ) (chunks : List Chunk)
    (chunk : Chunk) → IsInChunk reader limit chunks chunk
    → IsWhole chunk → HasChunks reader limit (chunks ++ chunk ∷ [])

-- Of a chunk no more comes than its size says.
abbrev pub NoMoreThanItsSize : Type 0
NoMoreThanItsSize =
    (reader : ChunkReader) (limit : ℕ) (chunks : List Chunk)
    (chunk : Chunk) → IsInChunk reader limit chunks chunk
    → length chunk.octets ≤ chunk.size

-- Octets fall in one way into whole chunks of these sizes.
abbrev pub SizesCutOnce : Type 0
SizesCutOnce =
    (chunks others : List Chunk) → AreWhole chunks → AreWhole others
    → map Chunk.size chunks ≡ map Chunk.size others → content_of_chunks chunks ≡ content_of_chunks others
    → chunks ≡ others

-- The same octets, cut into any pieces, leave the same reader after, with the same content.
abbrev pub CuttingSaysNothing : Type 0
CuttingSaysNothing =
    (old new other : ChunkReader) (limit : ℕ) (chunks : List Chunk) (chunk : Chunk)
    (pieces cuts : List (List ℕ))
    → IsInChunk old limit chunks chunk → IsFed old pieces new → IsFed old cuts other
    → joined pieces ≡ joined cuts
    → new ≡ other

-- A reader holds no more octets of content than its limit, whatever it has answered.
abbrev pub ChunksWithinLimit : Type 0
ChunksWithinLimit = (reader : ChunkReader) → chunks_held_by reader ≤ chunk_limit_of reader

-- A reader of chunks has met no lack of memory.
abbrev pub ChunksHaveMemory : Type 0
ChunksHaveMemory =
    (reader : ChunkReader) (limit : ℕ) (chunks : List Chunk)
    → (HasChunks reader limit chunks → ¬ HasNoMemory reader)
    × ((chunk : Chunk) → IsInChunk reader limit chunks chunk → ¬ HasNoMemory reader)

-- Each reader that has met no lack of memory was given chunks, so that what is promised of them is promised of it.
abbrev pub EachReaderWasGivenChunks : Type 0
EachReaderWasGivenChunks =
    (reader : ChunkReader) → ¬ HasNoMemory reader
    → (limit : ℕ) × (chunks : List Chunk) × (chunk : Chunk) × IsInChunk reader limit chunks chunk

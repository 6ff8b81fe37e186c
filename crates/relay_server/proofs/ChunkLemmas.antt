-- Chunks: what a line announces, what is missing of a chunk, and the course of one that has come whole.
use Rattle.std.proofs.Common.{◌≡◌, ◌≤◌, ◌<◌, ◌+◌, ◌-◌, min, ℕ, Bool, true, false, nat_le, nat_lt, take, List, [], ◌∷◌, ◌++◌, length, Ok, inr, refl, sym, subst, ap, ◌∙◌, arith, append_assoc, append-nil, length-append}
use Rattle.std.proofs.lemmas.Bool.{cond-true, cond-false, le-leb}
use Rattle.std.proofs.lemmas.Bool.Decides.{nat_tests}
use Rattle.std.proofs.lemmas.Grind.{flat_map-append}
use Rattle.std.proofs.lemmas.List.{length-take}
use Rattle.relay_octets.specs.Line.{crlf}
use Rattle.relay_body.specs.ChunkText.{Chunk as ChunkText, Gathers, HasChunks, IsBetweenChunks, IsInChunk, content_of_chunks, octets_of, with_octets}
use Rattle.relay_body.specs.declared.chunk_reader.ChunkReader.{ChunkReader}
use Rattle.relay_body.specs.declared.chunk_reader.Stage.TheVariants.{Awaits}
use Rattle.relay_body.proofs.Theorems.{whole_is_between, whole_is_one_more}
use Rattle.relay_lines.specs.Command as line
use Rattle.relay_lines.specs.Command.{reading_of}
use Rattle.relay_lines.specs.declared.chunk_argument.BdatArgument.{BdatArgument}
use Rattle.relay_server.specs.declared.reply_table.Row.{Row}
use Rattle.relay_server.specs.declared.reply_table.Row.TheVariants.{ChunkOk}
use Rattle.relay_server.specs.declared.stage.Chunk.{Chunk}
use Rattle.relay_server.specs.declared.state.CommandState.{CommandState as Held}
use Rattle.relay_server.specs.declared.state.Transaction.{Transaction}
use Rattle.relay_server.specs.Dialogue.{Comes}
use Rattle.relay_envelope.specs.declared.envelope.Envelope.{Envelope}
use Rattle.relay_server.specs.declared.client.Client.{Client}
use Rattle.relay_server.specs.ReplyTable.{Course, Replies, course_of_bdat, course_of_chunks, course_of_text, unless_refused}
use Rattle.relay_server.specs.Machine.{AnnouncesChunk, GathersChunk, RefusesChunk}
use Rattle.relay_server.specs.Setup.{Setup}
use Rattle.relay_server.specs.State.{CommandState, Gathering, State, Command}
use Rattle.relay_server.specs.Unit.{AsksBy, Bdat, announced_by, announced_of}
use Rattle.relay_server.specs.Values.{command_state_of, content_in, kept_content}

-- a line of BDAT announces as many octets as it says
pub announced : (text : List ℕ) (argument : BdatArgument) → length text ≤ 2046 → reading_of text ≡ Ok (line.Bdat argument) → announced_of text ≡ argument.size
announced text argument short reads =
    cond-true (nat_le (length text) 2046) (announced_by (reading_of text)) 0 (le-leb (length text) 2046 short) ∙ ap announced_by reads

above : (n m : ℕ) → m < n → nat_le n m ≡ false
above n m h = grind (arith, nat_tests)

-- a line that is too long announces none
pub long_announces_none : (text : List ℕ) → 2046 < length text → announced_of text ≡ 0
long_announces_none text long =
    cond-false (nat_le (length text) 2046) (announced_by (reading_of text)) 0 (above (length text) 2046 long)

positive_by : (n : ℕ) → (n ≡ 0 → ⊥) → 0 < n
positive_by n some = omega (arith, some)

-- of a chunk that is read some octet is missing
pub chunk_missing : (chunk : Chunk) (limit : ℕ) (state : State) (octets : List ℕ) → (kept : GathersChunk limit chunk.transaction chunk.reader chunk.is_last state octets) → 0 < kept.chunk_is.missing
chunk_missing chunk limit state octets kept =
    positive_by kept.chunk_is.missing (λ none. chunk.reading (kept.chunk_is.awaits ∙ ap Awaits none))

-- more of a chunk
pub more_of_chunk : (octets part more : List ℕ) (argument : BdatArgument) → AnnouncesChunk octets argument part → AnnouncesChunk (octets ++ more) argument (part ++ more)
more_of_chunk octets part more argument begins = record {
  text = begins.text;
  octets_are = ap (λ o. o ++ more) begins.octets_are ∙ append_assoc (begins.text ++ crlf) part more;
  line = begins.line;
  short = begins.short;
  reads = begins.reads;
}

-- a chunk that has come whole has this course
pub chunk_comes : (setup : Setup) (state : State) (old : CommandState) (octets part : List ℕ) (argument : BdatArgument) (course : Course) → state ≡ Command old → AnnouncesChunk octets argument part → length part ≡ argument.size → course_of_bdat setup.max_content part argument.last old ≡ course → Comes setup state octets (unless_refused setup.bare_newlines course)
chunk_comes setup state old octets part argument course state_is begins whole course_is =
    let text = begins.text in
    let here : Comes setup (Command old) octets (unless_refused setup.bare_newlines course) = record {
      text = text;
      octets = part;
      what = Bdat part argument.last;
      is_unit = record { unit_is = begins.octets_are; line = begins.line; counted = whole ∙ sym (announced text argument begins.short begins.reads) };
      asks = inr (begins.short, subst (λ reading. AsksBy reading part (Bdat part argument.last)) (sym begins.reads) refl);
      course_is = ap (unless_refused setup.bare_newlines) (sym course_is);
    } in
    subst (λ (s : State). Comes setup s octets (unless_refused setup.bare_newlines course)) (sym state_is) here

-- chunks, with one more after them
content_more : (chunks : List ChunkText) (chunk : ChunkText) → content_of_chunks (chunks ++ chunk ∷ []) ≡ content_of_chunks chunks ++ chunk.octets
content_more chunks chunk =
    flat_map-append octets_of chunks (chunk ∷ []) ∙ ap (λ l. content_of_chunks chunks ++ l) (append-nil chunk.octets)

-- what comes of a chunk that has ended: its chunks, and its course
pub record EndedChunk (setup : Setup) (transaction : Transaction) (reader : ChunkReader) (is_last : Bool) (state : State) (octets : List ℕ) : Type 0 where
  pub chunks : List ChunkText
  pub has : HasChunks reader setup.max_content chunks
  pub comes : Comes setup state octets
      (unless_refused setup.bare_newlines (course_of_chunks setup.max_content transaction.client transaction.envelope (content_of_chunks chunks) is_last))

-- a chunk ends where its reader stands between chunks
pub chunk_ends : (setup : Setup) (transaction : Transaction) (reader : ChunkReader) (is_last : Bool) (state : State) (octets : List ℕ) → GathersChunk setup.max_content transaction reader is_last state octets → IsBetweenChunks reader → EndedChunk setup transaction reader is_last state octets
chunk_ends setup transaction reader is_last state octets kept between =
    let limit = setup.max_content in
    let argument = kept.argument in
    let chunk : ChunkText = record { size = argument.size; octets = kept.part } in
    let whole = (whole_is_between reader limit kept.chunks chunk kept.chunk_is).0 between in
    let content = content_more kept.chunks chunk in
    record {
      chunks = kept.chunks ++ chunk ∷ [];
      has = whole_is_one_more reader limit kept.chunks chunk kept.chunk_is whole;
      comes = chunk_comes setup state kept.old octets kept.part argument
          (course_of_chunks limit transaction.client transaction.envelope (content_of_chunks (kept.chunks ++ chunk ∷ [])) is_last) kept.state_is kept.begins whole.length_is
          (kept.course_is kept.part
          ∙ ap (λ c. course_of_chunks limit transaction.client transaction.envelope c argument.last) (sym content)
          ∙ ap (λ l. course_of_chunks limit transaction.client transaction.envelope (content_of_chunks (kept.chunks ++ chunk ∷ [])) l) (sym kept.last_is));
    }

-- further octets of a chunk
pub chunk_goes_on : (limit : ℕ) (transaction : Transaction) (reader new : ChunkReader) (is_last : Bool) (state : State) (octets more : List ℕ) → (kept : GathersChunk limit transaction reader is_last state octets) → IsInChunk new limit kept.chunks (with_octets (record { size = kept.argument.size; octets = kept.part }) more) → GathersChunk limit transaction new is_last state (octets ++ more)
chunk_goes_on limit transaction reader new is_last state octets more kept chunk_is = record {
  old = kept.old;
  state_is = kept.state_is;
  argument = kept.argument;
  part = kept.part ++ more;
  begins = more_of_chunk octets kept.part more kept.argument kept.begins;
  last_is = kept.last_is;
  chunks = kept.chunks;
  chunk_is = chunk_is;
  course_is = kept.course_is;
}

-- further octets of a chunk that is refused
pub refused_goes_on : (limit : ℕ) (row : Row) (after : Held) (missing left : ℕ) (state : State) (octets more : List ℕ) → RefusesChunk limit row after missing state octets → missing ≡ length more + left → RefusesChunk limit row after left state (octets ++ more)
refused_goes_on limit row after missing left state octets more kept e = record {
  old = kept.old;
  state_is = kept.state_is;
  argument = kept.argument;
  part = kept.part ++ more;
  begins = more_of_chunk octets kept.part more kept.argument kept.begins;
  size_is = let sum = length-append kept.part more in let size = kept.size_is in omega (arith, sum, size, e);
  course_is = kept.course_is;
}

-- a chunk that is refused ends where nothing is missing
pub refused_comes : (setup : Setup) (row : Row) (after : Held) (state : State) (octets : List ℕ) → RefusesChunk setup.max_content row after 0 state octets → Comes setup state octets (Replies row (Command (command_state_of after)))
refused_comes setup row after state octets kept =
    let size = kept.size_is in
    chunk_comes setup state kept.old octets kept.part kept.argument (Replies row (Command (command_state_of after))) kept.state_is kept.begins (omega (arith, size)) (kept.course_is kept.part)

-- the last chunk ends the content as mail data ends, where it is within the limit
pub last_chunk : (limit : ℕ) (client : Client) (envelope : Envelope) (content : List ℕ) (large last : Bool) → last ≡ true → large ≡ false → large ≡ nat_lt limit (length content) → course_of_text limit client envelope content ≡ course_of_chunks limit client envelope content last
last_chunk limit client envelope content large last is small large_is =
    let within : length content ≤ limit = grind (arith, nat_tests) in
    let fits = le-leb (length content) limit within in
    cond-true (nat_le (length content) limit) _ _ fits ∙ sym (cond-true (nat_le (length content) limit) _ _ fits ∙ cond-true last _ _ is)

-- a chunk that isn't the last is one more, where the content is within the limit
pub next_chunk : (limit : ℕ) (client : Client) (envelope : Envelope) (reader : ChunkReader) (content : List ℕ) (large last : Bool) → last ≡ false → large ≡ false → large ≡ nat_lt limit (length content) → Gathers reader limit content → course_of_chunks limit client envelope content last ≡ Replies ChunkOk (Command (Gathering client envelope (content_in reader)))
next_chunk limit client envelope reader content large last goes_on small large_is gathers =
    let within : length content ≤ limit = grind (arith, nat_tests) in
    let fits = le-leb (length content) limit within in
    let kept : content_in reader ≡ content = ap kept_content (gathers.kept_is ∙ cond-true (nat_le (length content) limit) _ _ fits) in
    cond-true (nat_le (length content) limit) _ _ fits ∙ cond-false last _ _ goes_on
    ∙ ap (λ (c : List ℕ). Replies ChunkOk (Command (Gathering client envelope c))) (sym kept)

-- where nothing is missing after the octets of a chunk that is refused, it has ended
pub refused_ends : (setup : Setup) (row : Row) (after : Held) (missing used : ℕ) (state : State) (octets rest : List ℕ) → RefusesChunk setup.max_content row after missing state octets → used ≡ min (length rest) missing → missing - used ≡ 0 → Comes setup state (octets ++ take used rest) (Replies row (Command (command_state_of after)))
refused_ends setup row after missing used state octets rest kept used_is none =
    let many = length-take used rest in
    let all : missing ≡ length (take used rest) + 0 = omega (arith, many, used_is, none) in
    refused_comes setup row after state (octets ++ take used rest) (refused_goes_on setup.max_content row after missing 0 state octets (take used rest) kept all)

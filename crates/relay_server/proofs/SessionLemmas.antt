-- What a session keeps of its dialogue, over values alone.
use Rattle.std.proofs.Common.{◌≡◌, ◌≤◌, ◌<◌, arith, ℕ, Bool, cond, nat_le, take, Result, IfOk, List, [], ◌++◌, codes, length, Ok, Err, None, refl, sym, ap, ◌∙◌, subst, inl, inr, append-nil}
use Rattle.std.proofs.lemmas.Bool.{cond-true, le-leb}
use Rattle.std.proofs.Math.Seq.{take-nil, take-take}
use Rattle.relay_octets.specs.Line.{HasNoCrlf, crlf}
use Rattle.relay_body.specs.ChunkText.{chunk_limit_of}
use Rattle.relay_body.specs.declared.chunk_reader.ChunkReader.{ChunkReader}
use Rattle.relay_lines.specs.Command.{reading_of}
use Rattle.relay_server.specs.declared.judge.Judged.TheVariants as judged
use Rattle.relay_server.specs.declared.reply_table.Row.{Row}
use Rattle.relay_server.specs.declared.state.CommandState.{CommandState as Held}
use Rattle.relay_server.specs.declared.state.State.{State as Next}
use Rattle.relay_server.specs.declared.state.Transaction.{Transaction}
use Rattle.relay_server.specs.declared.stage.Stage.{Stage}
use Rattle.relay_server.specs.declared.stage.Stage.TheVariants as stage
use Rattle.relay_server.specs.Bounds.{IsHeld}
use Rattle.relay_server.specs.Dialogue.{Comes}
use Rattle.relay_server.specs.Reply.{reply_of}
use Rattle.relay_server.specs.ReplyTable.{Course, Replies, Offers, course_of, course_of_chunks}
use Rattle.relay_server.specs.Machine.{EndsBy, GathersChunk, GoesOn, Moves, RefusesChunk}
use Rattle.relay_server.specs.Setup.{Setup}
use Rattle.relay_server.specs.State.{CommandState, State, Command}
use Rattle.relay_server.specs.Unit.{Asked, LongLine, Faulty, Asks, asked_of_long, announced_by, announced_of}
use Rattle.relay_lines.specs.ChunkArgument.{begins_with_bdat}
use Rattle.relay_lines.specs.Word.{is_word}
use Rattle.relay_lines.specs.declared.command.LineFault.TheVariants.{BadChunkSize}
use Rattle.relay_server.specs.Values.{IsJudged, IsNextHeld, state_of}
use Rattle.relay_server.proofs.ChunkLemmas.{long_announces_none}

-- a unit that has come whole is replied to, or offered
pub comes_and_ends : (setup : Setup) (old : State) (unit : List ℕ) (course : Course) (new : Stage) (before after : List ℕ) → Comes setup old unit course → EndsBy setup course new before after → Moves setup old new unit before after
comes_and_ends setup old unit (Replies row next) new before after comes ends = inr (record {
  turn = record { asked = unit; reply = reply_of setup.host row; offer = None };
  next = next;
  answers = record { course = Replies row next; comes = comes; takes = (refl, refl, refl) };
  asked_is = refl;
  written = ends.written;
  no_offer = refl;
  nothing_kept = ends.nothing_kept;
  none_unanswered = ends.none_unanswered;
})
comes_and_ends setup old unit (Offers client envelope content) new before after comes ends =
    let transaction = ends.0 in
    let same : Offers transaction.client transaction.envelope content ≡ Offers client envelope content = ap (λ c. Offers c transaction.envelope content) ends.2 ∙ ap (λ v. Offers client v content) ends.3 in
    let goes : GoesOn setup old (stage.Offering transaction content) unit before after = record {
      kept = subst (λ (course : Course). Comes setup old unit course) (sym same) comes;
      nothing_written = ends.4;
    } in
    subst (λ (s : Stage). Moves setup old s unit before after) (sym ends.1) (inl goes)

-- a line that announces nothing, and is no longer than it may be, has its course
short_counted : (text : List ℕ) → length text ≤ 2046 → announced_by (reading_of text) ≡ 0 → announced_of text ≡ 0
short_counted text short none =
    cond-true (nat_le (length text) 2046) (announced_by (reading_of text)) 0 (le-leb (length text) 2046 short) ∙ none

line_comes : (setup : Setup) (state : CommandState) (text : List ℕ) (asked : Asked) (course : Course) → HasNoCrlf text → announced_of text ≡ 0 → Asks text [] asked → course_of setup asked state ≡ course → Comes setup (Command state) (text ++ crlf) course
line_comes setup state text asked course is_line none asks course_is = record {
  text = text;
  octets = [];
  what = asked;
  is_unit = record { unit_is = sym (append-nil (text ++ crlf)); line = is_line; counted = sym none };
  asks = asks;
  course_is = sym course_is;
}

-- a line that is judged has its course
pub judged_line : (setup : Setup) (state : CommandState) (text : List ℕ) (row : Row) (next : Next) (new : Stage) (before after : List ℕ) → HasNoCrlf text → length text ≤ 2046 → IsJudged setup (reading_of text) state (judged.Replied row next) → EndsBy setup (Replies row (state_of next)) new before after → Moves setup (Command state) new (text ++ crlf) before after
judged_line setup state text row next new before after is_line short (inl is) ends =
    comes_and_ends setup (Command state) (text ++ crlf) (Replies row (state_of next)) new before after
    (line_comes setup state text is.asked (Replies row (state_of next)) is_line (short_counted text short is.no_octets) (inr (short, is.asks)) is.replied) ends
judged_line setup state text row next new before after is_line short (inr is) ends = absurd is.2

-- a line that is too long has the course of its beginning
pub long_line : (setup : Setup) (state : CommandState) (text : List ℕ) (new : Stage) (before after : List ℕ) → HasNoCrlf text → 2046 < length text → EndsBy setup (course_of setup (asked_of_long text) state) new before after → Moves setup (Command state) new (text ++ crlf) before after
long_line setup state text new before after is_line long ends =
    comes_and_ends setup (Command state) (text ++ crlf) (course_of setup (asked_of_long text) state) new before after
    (line_comes setup state text (asked_of_long text) (course_of setup (asked_of_long text) state) is_line (long_announces_none text long) (inl (long, refl)) refl) ends

-- a line that announces a chunk begins it
pub gathers_line : (setup : Setup) (state : CommandState) (text : List ℕ) (transaction : Transaction) (reader : ChunkReader) (is_last : Bool) → HasNoCrlf text → length text ≤ 2046 → IsJudged setup (reading_of text) state (judged.Gathers transaction reader is_last) → GathersChunk setup.max_content transaction reader is_last (Command state) (text ++ crlf)
gathers_line setup state text transaction reader is_last is_line short (inl is) = absurd is.replied
gathers_line setup state text transaction reader is_last is_line short (inr is) =
    let limit = setup.max_content in
    let argument = is.0 in
    let begun = is.2.1 in
    record {
      old = state;
      state_is = refl;
      argument = argument;
      part = [];
      begins = record { text = text; octets_are = sym (append-nil (text ++ crlf)); line = is_line; short = short; reads = is.1 };
      last_is = is.2.2;
      chunks = begun.chunks;
      chunk_is = begun.chunk_is;
      course_is = λ rest. is.2.3 rest ∙ ap (λ b. course_of_chunks limit transaction.client transaction.envelope (b ++ rest) argument.last) (sym begun.before_is);
    }

pub refuses_line : (setup : Setup) (state : CommandState) (text : List ℕ) (row : Row) (afterwards : Held) (size : ℕ) → HasNoCrlf text → length text ≤ 2046 → IsJudged setup (reading_of text) state (judged.Refuses row afterwards size) → RefusesChunk setup.max_content row afterwards size (Command state) (text ++ crlf)
refuses_line setup state text row afterwards size is_line short (inl is) = absurd is.replied
refuses_line setup state text row afterwards size is_line short (inr is) = record {
  old = state;
  state_is = refl;
  argument = is.0;
  part = [];
  begins = record { text = text; octets_are = sym (append-nil (text ++ crlf)); line = is_line; short = short; reads = is.1 };
  size_is = let size_is = is.2.0 in omega (arith, size_is);
  course_is = is.2.2;
}

-- nothing is after the line yet
pub nothing_after : (setup : Setup) (old : State) (new : Stage) (unit before after : List ℕ) (used : ℕ) → Moves setup old new (unit ++ take used []) before after → Moves setup old new unit before after
nothing_after setup old new unit before after used moves =
    subst (λ (o : List ℕ). Moves setup old new o before after) (ap (λ l. unit ++ l) (take-nil used) ∙ append-nil unit) moves

-- whether a line is of BDAT is seen from its first octets
pub long_asks : (line : List ℕ) → asked_of_long (take 2048 line) ≡ asked_of_long line
unfolding begins_with_bdat
long_asks line = ap (λ front. cond (is_word front (codes "BDAT ")) (Faulty BadChunkSize) LongLine) (take-take 5 2048 line (omega arith))

-- so is what stands after a judged line
pub judged_held : (setup : Setup) (state : CommandState) (text : List ℕ) (row : Row) (next : Next) → IsJudged setup (reading_of text) state (judged.Replied row next) → IsNextHeld setup.max_content next
judged_held setup state text row next (inl is) = is.held
judged_held setup state text row next (inr is) = absurd is.2

-- a chunk that has begun is gathered up to the limit
pub gathers_limit : (setup : Setup) (state : CommandState) (text : List ℕ) (transaction : Transaction) (reader : ChunkReader) (is_last : Bool) → IsJudged setup (reading_of text) state (judged.Gathers transaction reader is_last) → chunk_limit_of reader ≡ setup.max_content
gathers_limit setup state text transaction reader is_last (inl is) = absurd is.replied
gathers_limit setup state text transaction reader is_last (inr is) = is.2.1.chunk_is.gathers.limit_is

-- so is what stands after a chunk that is refused
pub refuses_held : (setup : Setup) (state : CommandState) (text : List ℕ) (row : Row) (afterwards : Held) (size : ℕ) → IsJudged setup (reading_of text) state (judged.Refuses row afterwards size) → IsHeld setup.max_content afterwards
refuses_held setup state text row afterwards size (inl is) = absurd is.replied
refuses_held setup state text row afterwards size (inr is) = is.2.1

-- what is true of the value is true of what follows from it
pub if_ok : {T E : Type 0} (P Q : T → Type 0) (result : Result T E) → ((value : T) → P value → Q value) → IfOk result P → IfOk result Q
if_ok P Q (Ok value) follows holds = follows value holds
if_ok P Q (Err error) follows holds = tt

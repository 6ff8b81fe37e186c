-- What a command line leads to, by what it asks.
use Rattle.std.proofs.Common.{◌≡◌, ◌↔◌, ℕ, Bool, true, false, IsTrue, IsSome, nat_le, ◌≤◌, Option, Some, None, ◌∙◌, arith, List, [], ◌∷◌, length, Result, Ok, Err, IfOk, inl, refl, sym, subst, append-nil}
use Rattle.std.proofs.lemmas.Bool.{cond-true, eqb-true, le-leb}
use Rattle.std.specs.Option.{ForSome}
use Rattle.std.specs.declared.alloc.AllocError.{AllocError}
use Rattle.relay_body.specs.ChunkText.{Chunk, Gathers, HasChunks, IsBetweenChunks, chunk_limit_of, content_of_chunks}
use Rattle.relay_body.specs.Gathering.{kept_of}
use Rattle.relay_body.specs.declared.chunk_reader.ChunkReader.{ChunkReader}
use Rattle.relay_lines.specs.Command as line
use Rattle.relay_lines.specs.declared.command.LineFault.{LineFault}
use Rattle.relay_server.specs.declared.judge.Judged.{Judged}
use Rattle.relay_server.specs.declared.state.CommandState.TheVariants as held
use Rattle.relay_server.specs.declared.state.Gathering.{Gathering}
use Rattle.relay_server.specs.Bounds.{IsHeld}
use Rattle.relay_server.specs.ReplyTable.{course_of}
use Rattle.relay_server.specs.Setup.{Setup}
use Rattle.relay_server.specs.State.{CommandState}
use Rattle.relay_server.specs.Unit.{Asked, AsksBy, announced_by}
use Rattle.relay_server.specs.Values.{IsJudged, IsReplied, IsReplyHeld, content_in, kept_content}

-- a line that announces no octets is answered by its course
pub answers_by : (setup : Setup) (reading : Result line.Command LineFault) (old : CommandState) (asked : Asked) (result : Result Judged AllocError) → AsksBy reading [] asked → announced_by reading ≡ 0 → IfOk result (IsReplied (course_of setup asked old)) → IfOk result (IsReplyHeld setup.max_content) → IfOk result (IsJudged setup reading old)
answers_by setup reading old asked (Ok judged) asks none replied held =
    inl (record { asked = asked; asks = asks; no_octets = none; replied = replied; held = held })
answers_by setup reading old asked (Err fault) asks none replied held = tt

-- what isn't empty has one at least
pub some_by : {A : Type 0} (xs : List A) (b : Bool) → (IsTrue b ↔ (xs ≡ [])) → b ≡ false → nat_le 1 (length xs) ≡ true
some_by [] b is e =
    let t = is.1 refl in
    let clash = sym e ∙ t in
    absurd (cc)
some_by (x ∷ xs) b is e = le-leb 1 (length (x ∷ xs)) (omega arith)

kept_by : (limit : ℕ) (kept : Option (List ℕ)) → IsSome kept → ForSome kept (λ octets. length octets ≤ limit) → kept ≡ kept_of limit (kept_content kept)
kept_by limit None some within = cc
kept_by limit (Some octets) some within =
    sym (cond-true (nat_le (length octets) limit) _ _ (le-leb (length octets) limit (within octets refl)))

-- what is gathered up to the limit, and is kept, is the content
pub gathers_kept : (limit : ℕ) (gathering : Gathering) → IsHeld limit (held.Gathering gathering) → Gathers gathering.reader limit (content_in gathering.reader)
gathers_kept limit gathering within =
    let limit_is = eqb-true (chunk_limit_of gathering.reader) limit within in
    let kept = gathering.reader.gathering.kept in
    record {
      limit_is = limit_is;
      kept_is = subst (λ n. kept ≡ kept_of n (kept_content kept)) limit_is (kept_by (chunk_limit_of gathering.reader) kept gathering.kept gathering.reader.gathering.within_limit);
    }

-- a content that is held is that of one chunk
pub chunks_of : List ℕ → List Chunk
chunks_of content = record { size = length content; octets = content } ∷ []

pub held_chunks : (reader : ChunkReader) (limit : ℕ) → IsBetweenChunks reader → Gathers reader limit (content_in reader) → HasChunks reader limit (chunks_of (content_in reader))
unfolding chunks_of
held_chunks reader limit between gathers = record {
  each = (record { length_is = refl }, tt);
  between = between;
  gathers = subst (λ (c : List ℕ). Gathers reader limit c) (sym (append-nil (content_in reader))) gathers;
}

pub held_content : (content : List ℕ) → content_of_chunks (chunks_of content) ≡ content
unfolding chunks_of
held_content content = append-nil content

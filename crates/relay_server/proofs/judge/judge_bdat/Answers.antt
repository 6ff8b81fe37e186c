-- A chunk begins after those before.
use Rattle.std.proofs.Common.{nat_le, [], length, refl}
use Rattle.std.proofs.lemmas.Bool.{cond-true}
use Rattle.relay_server.specs.declared.state.CommandState.TheVariants as code
use Rattle.relay_server.specs.Bounds.{IsHeld}
use Rattle.relay_server.specs.Values.{content_in}
use Rattle.relay_server.proofs.JudgeLemmas.{chunks_of, gathers_kept, held_chunks, held_content, some_by}
use Rattle.relay_server.proofs.judge.judge_bdat.Goals as goal

pub returns-else-is_empty : goal.returns-else-is_empty
returns-else-is_empty c =
    let limit = c.args.server.now.max_content in
    let recipients = c.in-Open.transaction.envelope.recipients in
    let some = some_by recipients c.is_empty.result c.is_empty.ensures c.if-is_empty.false in (
      [],
      record { chunks = []; chunk_is = c.begin.ensures.begins.begins limit [] c.new-reader.ensures; before_is = refl },
      refl,
      λ octets. rw c.in-Open.is (cond-true (nat_le 1 (length recipients)) _ _ some),
    )

pub returns-in-Gathering : goal.returns-in-Gathering
returns-in-Gathering c =
    let limit = c.args.server.now.max_content in
    let gathering = c.in-Gathering.gathering in
    let held : IsHeld limit (code.Gathering gathering) = rw c.in-Gathering.is at c.requires in
    let kept = gathers_kept limit gathering held in
    let content = content_in gathering.reader in
    let parts = c.into_parts-transaction.ensures in (
      content,
      record {
        chunks = chunks_of content;
        chunk_is = c.begin-in-Gathering.ensures.begins.begins limit (chunks_of content) (rw parts.1 (held_chunks gathering.reader limit gathering.between kept));
        before_is = held_content content;
      },
      refl,
      λ octets. rw (c.in-Gathering.is, parts.0) refl,
    )

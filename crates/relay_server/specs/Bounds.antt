-- What a session holds of a content is bounded by the limit of its configuration.
use Rattle.std.specs.Prelude.{ℕ, Bool, true, IsTrue, nat_eq, nat_le, length}
use Rattle.relay_body.specs.ChunkText.{chunk_limit_of, chunks_held_by}
use Rattle.relay_body.specs.DotReading.{held_by, limit_of}
use Rattle.relay_server.specs.declared.stage.Stage.{Stage}
use Rattle.relay_server.specs.declared.stage.Stage.TheVariants as stage
use Rattle.relay_server.specs.declared.state.CommandState.{CommandState}
use Rattle.relay_server.specs.declared.state.CommandState.TheVariants as held

-- while a command is awaited, chunks are gathered up to this limit
abbrev pub holds_within : ℕ → CommandState → Bool
holds_within limit held.Fresh = true
holds_within limit (held.Greeted client) = true
holds_within limit (held.Open transaction) = true
holds_within limit (held.Gathering gathering) = nat_eq (chunk_limit_of gathering.reader) limit
holds_within limit (held.Spent client) = true

-- a content on its way is gathered up to this limit, and one that is offered is no longer
abbrev pub stage_within : ℕ → Stage → Bool
stage_within limit (stage.Command state) = holds_within limit state
stage_within limit (stage.Receiving mail) = nat_eq (limit_of mail.reader) limit
stage_within limit (stage.Chunk chunk) = nat_eq (chunk_limit_of chunk.reader) limit
stage_within limit (stage.Skipping skipped) = holds_within limit skipped.state
stage_within limit (stage.Offering transaction content) = nat_le (length content) limit
stage_within limit stage.Closed = true
stage_within limit stage.Failed = true

abbrev pub IsHeld : ℕ → CommandState → Type 0
IsHeld limit state = IsTrue (holds_within limit state)

abbrev pub IsHeldAt : ℕ → Stage → Type 0
IsHeldAt limit now = IsTrue (stage_within limit now)

-- how many octets of content are held while a command is awaited
abbrev pub content_held : CommandState → ℕ
content_held held.Fresh = 0
content_held (held.Greeted client) = 0
content_held (held.Open transaction) = 0
content_held (held.Gathering gathering) = chunks_held_by gathering.reader
content_held (held.Spent client) = 0

-- how many octets of content a stage holds
abbrev pub content_held_at : Stage → ℕ
content_held_at (stage.Command state) = content_held state
content_held_at (stage.Receiving mail) = held_by mail.reader
content_held_at (stage.Chunk chunk) = chunks_held_by chunk.reader
content_held_at (stage.Skipping skipped) = content_held skipped.state
content_held_at (stage.Offering transaction content) = length content
content_held_at stage.Closed = 0
content_held_at stage.Failed = 0

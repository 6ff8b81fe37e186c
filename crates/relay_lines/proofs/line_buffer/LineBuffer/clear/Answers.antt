use Rattle.std.proofs.Common.{refl}
use Rattle.relay_octets.proofs.Theorems.{no_crlf_nil}
use Rattle.relay_lines.proofs.line_buffer.LineBuffer.clear.Goals as goal

pub returns : goal.returns
returns c = record { kept = refl; is_long = refl; after_cr = refl; unended = no_crlf_nil }

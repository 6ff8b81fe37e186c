-- What the relay says where it closes a connection is one reply.
use Rattle.std.proofs.Common.{◌≡◌, ℕ, ◌≤◌, Bool, true, false, List, ◌++◌, length, refl, ap, ◌∙◌, arith, length-append}
use Rattle.std.specs.Prelude.{◌&&◌}
use Rattle.relay_octets.proofs.Theorems.{no_cr_is_no_crlf, no_crlf_by_test, no_crlf_joined}
use Rattle.relay_octets.specs.Line.{begins_with_lf, ends_in_cr, has_crlf}
use Rattle.relay_envelope.specs.HostName.{IsHostName, is_host_octet}
use Rattle.relay_lines.specs.Reply.{IsReply, one_line}
use Rattle.relay_loop.specs.declared.closing.Closing.{Closing}
use Rattle.relay_loop.specs.declared.closing.Closing.TheVariants.{TooMany, Timeout, Stopping}
use Rattle.relay_loop.specs.Closing.{text_of}

and_false : (b : Bool) → (b && false) ≡ false
and_false true = refl
and_false false = refl

-- what stands after the name has no CR LF, doesn't begin with an LF, and is short
text_is_plain : (why : Closing) → has_crlf (text_of why) ≡ false
text_is_plain TooMany = refl
text_is_plain Timeout = refl
text_is_plain Stopping = refl

text_begins : (why : Closing) → begins_with_lf (text_of why) ≡ false
text_begins TooMany = refl
text_begins Timeout = refl
text_begins Stopping = refl

text_is_short : (why : Closing) → length (text_of why) ≤ 40
text_is_short TooMany = omega arith
text_is_short Timeout = omega arith
text_is_short Stopping = omega arith

pub closing_is_reply : (host : List ℕ) (why : Closing) → IsHostName host → IsReply (one_line 421 (host ++ text_of why))
closing_is_reply host why name =
    let front = no_cr_is_no_crlf is_host_octet host refl name.octets in
    let back = no_crlf_by_test (text_of why) (text_is_plain why) in
    let between : (ends_in_cr host && begins_with_lf (text_of why)) ≡ false = ap (λ b. ends_in_cr host && b) (text_begins why) ∙ and_false (ends_in_cr host) in
    let few = name.few_octets in
    let short = text_is_short why in
    let sum = length-append host (text_of why) in
    record {
      code_is = record { low = omega arith; high = omega arith };
      some_line = omega arith;
      few_lines = omega arith;
      each = (record { line = no_crlf_joined host (text_of why) front back between; short = omega arith }, tt);
    }

use Rattle.std.proofs.Common.{◌≡◌, ◌++◌, ◌&&◌, false, take, sym, ap, ◌∙◌, subst}
use Rattle.std.proofs.lemmas.Bool.{and_parts}
use Rattle.relay_octets.proofs.Theorems.{no_crlf_joined}
use Rattle.relay_octets.specs.Line.{ends_in_cr, begins_with_lf}
use Rattle.relay_lines.specs.HeldLine.{Holds}
use Rattle.relay_lines.proofs.HeldLineLemmas.{lf_ends, crlf_ends, holds_on, ends_within}
use Rattle.relay_lines.proofs.line_buffer.LineBuffer.feed.Goals as goal

pub returns-then-is_ended_by-clause-taken : goal.returns-then-is_ended_by-clause-taken
returns-then-is_ended_by-clause-taken c = λ octets holds.
    let parts =
    and_parts c.args.self.now.after_cr (begins_with_lf c.args.piece.now)
    (sym c.if-is_ended_by.ensures) in
    let ended = lf_ends octets c.args.piece.now holds.unended (sym holds.after_cr ∙ parts.0) parts.1 in
    (ended.0, ended.2, c.drop_cr.ensures ended.0 (subst (λ l. Holds c.args.self.now l) ended.1 holds))

pub returns-in-Some-clause-taken : goal.returns-in-Some-clause-taken
returns-in-Some-clause-taken c = λ octets holds.
    let piece = c.args.piece.now in
    let place = c.in-Some.place in
    let apart : ends_in_cr octets && begins_with_lf piece ≡ false =
    ap (λ b. b && begins_with_lf piece) (sym holds.after_cr) ∙ sym c.if-is_ended_by.ensures in (
      octets ++ take place piece,
      crlf_ends octets piece place _ holds.unended apart c.in-Some.ensures.first c.in-Some.ensures.within,
      ends_within c.args.self.now c.push.new.self c.end.new.self octets
          (take place piece) holds c.push.ensures c.end.ensures.kept c.end.ensures.is_long,
    )

pub returns-in-None-clause-taken : goal.returns-in-None-clause-taken
returns-in-None-clause-taken c = λ octets holds.
    let piece = c.args.piece.now in
    let apart : ends_in_cr octets && begins_with_lf piece ≡ false =
    ap (λ b. b && begins_with_lf piece) (sym holds.after_cr) ∙ sym c.if-is_ended_by.ensures in
    holds_on c.args.self.now c.push-in-None.new.self octets piece holds c.push-in-None.ensures
    (no_crlf_joined octets piece holds.unended c.in-None.ensures.first apart)

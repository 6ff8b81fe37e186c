use Rattle.std.proofs.Common.{rules, ap, sym, ◌∙◌, codes}
use Rattle.httparse.specs.Spans.{header_bytes}
use Rattle.relay_lines.specs.Word.{is_word}
use Rattle.relay_page.proofs.RequestLemmas.{two_hosts}
use Rattle.relay_page.proofs.request.only_host.Goals as goal

pub returns-then-is_some : goal.returns-then-is_some
returns-then-is_some c =
    two_hosts (header_bytes c.args.octets.now) c.args.headers.now c.loop-header.header-index _ c.loop-header.found
    (search rules) c.loop-header.invariant (sym c.is_some.ensures ∙ c.if-is_some.true)
    (ap (λ t. is_word t (codes "host")) (sym c.of.ensures) ∙ sym c.is_word.ensures ∙ c.if-is_word.true)

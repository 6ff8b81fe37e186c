-- A text is the mailbox of its own parts alone, so where these are none, it is no mailbox.
use Rattle.std.proofs.Common.{sym, subst, arith}
use Rattle.std.proofs.lemmas.Bool.{iff_false}
use Rattle.relay_envelope.specs.Mailbox.{IsDomain, IsLocalPart}
use Rattle.relay_envelope.proofs.PathLemmas.{parts_are, no_address}
use Rattle.relay_envelope.proofs.path.mailbox.Mailbox.read.Goals as goal
use Rattle.relay_envelope.proofs.path.mailbox.Mailbox.read.Goals.{else-text-le-PATH_LIMIT-via-then-text-le-PATH_LIMIT+then-is_local_part+else-is_domain, else-text-le-PATH_LIMIT-via-then-text-le-PATH_LIMIT+else-is_local_part, else-text-le-PATH_LIMIT-via-else-text-le-PATH_LIMIT}

pub returns-in_err-local : goal.returns-in_err-local
returns-in_err-local c =
    rw c.from_residual-in_err-local.ensures (λ route local domain text_is valid. absurd (no_address c.args.text.now c.in_ok-body.body.now c.in_ok-route.route.now c.in_ok-route.address.now route local domain c.in_ok-body.ensures c.in_ok-route.ensures c.in_err-local.ensures text_is valid))

pub returns-else-text-le-PATH_LIMIT : goal.returns-else-text-le-PATH_LIMIT
returns-else-text-le-PATH_LIMIT c = λ route local domain text_is valid.
    let same = parts_are c.args.text.now c.in_ok-body.body.now c.in_ok-route.route.now c.in_ok-route.address.now c.in_ok-local.local.now c.in_ok-local.domain.now route local domain c.in_ok-body.ensures c.in_ok-route.ensures c.in_ok-local.ensures text_is valid in
    elim c.else-text-le-PATH_LIMIT.branch [
      | else-text-le-PATH_LIMIT-via-then-text-le-PATH_LIMIT+then-is_local_part+else-is_domain w ↦
          absurd (iff_false w.is_domain.ensures w.if-is_domain.false (subst IsDomain (sym same.1) valid.is_domain))
      | else-text-le-PATH_LIMIT-via-then-text-le-PATH_LIMIT+else-is_local_part w ↦
          absurd (iff_false w.is_local_part.ensures w.if-is_local_part.false (subst IsLocalPart (sym same.0) valid.is_local_part))
      | else-text-le-PATH_LIMIT-via-else-text-le-PATH_LIMIT w ↦ omega arith
    ]

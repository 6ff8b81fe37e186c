-- A lane without leaving connections stays as it is.
use Rattle.std.proofs.Common.{◌∙◌, sym, arith}
use Rattle.relay_connections.specs.Leaving.{goes_to, leavers_of}
use Rattle.relay_connections.specs.Table.{count_of_such}
use Rattle.relay_next_hops.proofs.RecountLemmas.{none_recounted, some_recounted}
use Rattle.relay_next_hops.proofs.lanes.Lanes.recount.Goals as goal

pub returns-then-not-has_leaving-clause-paces : goal.returns-then-not-has_leaving-clause-paces
returns-then-not-has_leaving-clause-paces g c =
    none_recounted (count_of_such (goes_to c.args.number) (leavers_of c.args.leaving.now)) c.args.self.now.paces c.args.number c.has_leaving.result c.if-not-has_leaving.true c.has_leaving.ensures

pub returns-clause-paces : goal.returns-clause-paces
returns-clause-paces g c =
    c.note_leaving_of.ensures.paces
    ∙ some_recounted (count_of_such (goes_to c.args.number) (leavers_of c.args.leaving.now)) c.args.self.now.paces c.args.number c.has_leaving.result c.if-not-has_leaving.false c.has_leaving.ensures

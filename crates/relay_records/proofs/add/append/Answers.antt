use Rattle.relay_records.proofs.RecordLemmas.{refused_otherwise}
use Rattle.relay_records.proofs.add.append.Goals as goal

pub returns-in-Err-clause-other : goal.returns-in-Err-clause-other
returns-in-Err-clause-other g c = refused_otherwise g.D.Disk.words _ _ c.in-Err.fault c.in-Err.ensures.refused

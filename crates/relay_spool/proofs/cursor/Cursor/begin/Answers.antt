use Rattle.std.proofs.Common.{ℕ, List, subst}
use Rattle.relay_disk.specs.Disks.{seen_of}
use Rattle.relay_spool.specs.Cursor.{AtGate, HasRead}
use Rattle.relay_spool.specs.Spool.{RefusesToOpen}
use Rattle.relay_spool.proofs.cursor.Cursor.begin.Goals as goal

pub returns-in-Err-clause-refused : goal.returns-in-Err-clause-refused
returns-in-Err-clause-refused g c =
    let words = g.D.Disk.words in
    let honest = g.D.Disk.honest in
    subst
    (λ (s : AtGate g.row.D.Denot). (bodies : List (List ℕ)) → (honest → HasRead (seen_of words s.disk) s.side s.place bodies) → RefusesToOpen honest (seen_of words s.disk) c.in-Err.fault)
    c.self.view_is (λ bodies has. c.in-Err.ensures.refused bodies has)

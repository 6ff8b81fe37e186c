-- The ledger of a round is the blank one, its lists are those that the node keeps, and it has answered what the node gives.
use Rattle.relay_records.specs.Records.{Keeps}
use Rattle.relay_hub.specs.Hub.{Gives}
use Rattle.relay_rounds.proofs.rounds.round.Given as goal

abbrev pub ghosts-round_by-J-Ledger : goal.ghosts-round_by-J-Ledger
ghosts-round_by-J-Ledger g a = record { name = a.blank.name; parts = a.blank.parts }

abbrev pub ghosts-round_by-J-Opening : goal.ghosts-round_by-J-Opening
ghosts-round_by-J-Opening g a = record {
  starts = Keeps g.D.Disk.honest g.D.Disk.words a.node.records;
  has_answered = Gives g.D.Disk.honest g.D.Disk.words (Keeps g.D.Disk.honest g.D.Disk.words a.node.records) a.node.config;
}

-- the answers that were taken leave their clients served, and the others are still to be taken; the rules stay
use Rattle.std.proofs.Common.{◌≡◌, List, length}
use Rattle.std.specs.Iterator.Adapters.{zip_first, zip_second}
use Rattle.std.specs.List.{zip}
use Rattle.std.specs.Vec.Iter.{into_iter_items, into_iter_len}
use Rattle.relay_book.specs.declared.change.Change.{Change}
use Rattle.relay_connections.specs.Carried.{Setting}
use Rattle.relay_connections.specs.Leaving.{ClientsJoin, leavers_of}
use Rattle.relay_connections.specs.Readiness.{clients_of}
use Rattle.relay_connections.specs.Replies.{LeavesMail}
use Rattle.relay_connections.specs.Served.{HaveAnswered}
use Rattle.relay_connections.specs.Renewal.{AllWait}
use Rattle.relay_connections.specs.Welcome.{KeepsFull, KeepsTurn}
use Rattle.relay_connections.proofs.clients.Clients.answer_each.Given as goal

abbrev pub invariant-loop-session : goal.invariant-loop-session
invariant-loop-session g l = record {
  have : (changes : List Change) (setting : Setting) → HaveAnswered g.D.Disk.honest g.D.Disk.words g.S.Stream.remaining g.S.Stream.contents changes setting (clients_of l.fn.self) l.fn.relay (zip l.fn.sessions.items l.fn.heard.items)
      → HaveAnswered g.D.Disk.honest g.D.Disk.words g.S.Stream.remaining g.S.Stream.contents changes setting (clients_of l.self) l.relay (zip (into_iter_items (zip_first l.session-iterator)) (into_iter_items (zip_second l.session-iterator)))
      × ClientsJoin g.S.Stream.remaining g.S.Stream.contents setting (leavers_of l.fn.leaving) (leavers_of l.leaving);
  first : length (into_iter_items (zip_first l.session-iterator)) ≡ into_iter_len (zip_first l.session-iterator);
  second : length (into_iter_items (zip_second l.session-iterator)) ≡ into_iter_len (zip_second l.session-iterator);
  mail : LeavesMail l.fn.relay l.relay;
  turn : KeepsTurn l.fn.self l.self;
  waits : AllWait l.fn.turn.now.now.tick l.fn.self l.self;
  full : KeepsFull l.fn.self l.self;
}

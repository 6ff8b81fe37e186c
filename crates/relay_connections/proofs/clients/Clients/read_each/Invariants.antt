-- so far all are served, clients alone have joined those that leave, the rules stay, those whose sessions may hear
-- something stay so, and those that were read of hear something; free slots stay free
use Rattle.std.proofs.Common.{◌≡◌, ◌≤◌, ℕ, List, None}
use Rattle.relay_slots.specs.Slots.{slot_at}
use Rattle.relay_book.specs.declared.change.Change.{Change}
use Rattle.relay_connections.specs.Carried.{Setting}
use Rattle.relay_connections.specs.Leaving.{ClientsJoin, leavers_of}
use Rattle.relay_connections.specs.Readiness.{clients_of}
use Rattle.relay_connections.specs.Replies.{LeavesMail}
use Rattle.relay_connections.specs.Served.{AreServed}
use Rattle.relay_connections.specs.Renewal.{AllWait}
use Rattle.relay_connections.specs.Welcome.{KeepsTurn}
use Rattle.relay_connections.proofs.HearsLemmas.{AllStay, SeenHear}
use Rattle.relay_connections.proofs.clients.Clients.read_each.Given as goal

abbrev pub invariant-loop-step : goal.invariant-loop-step
invariant-loop-step g l = record {
  served : (changes : List Change) (setting : Setting) → AreServed g.D.Disk.honest g.D.Disk.words g.S.Stream.remaining g.S.Stream.contents changes setting (clients_of l.fn.self) l.fn.relay
      → AreServed g.D.Disk.honest g.D.Disk.words g.S.Stream.remaining g.S.Stream.contents changes setting (clients_of l.self) l.relay × ClientsJoin g.S.Stream.remaining g.S.Stream.contents setting (leavers_of l.fn.leaving) (leavers_of l.leaving);
  mail : LeavesMail l.fn.relay l.relay;
  turn : KeepsTurn l.fn.self l.self;
  waits : AllWait l.fn.turn.now.now.tick l.fn.self l.self;
  stays : AllStay l.fn.relay (clients_of l.fn.self) l.relay (clients_of l.self);
  seen : SeenHear l.count l.first l.step l.fn.relay (clients_of l.fn.self) l.hears (clients_of l.self);
  none : (number : ℕ) → slot_at (clients_of l.fn.self) number ≡ None → slot_at (clients_of l.self) number ≡ None;
  rest : (number : ℕ) → l.count ≤ number → slot_at (clients_of l.fn.self) number ≡ None;
}

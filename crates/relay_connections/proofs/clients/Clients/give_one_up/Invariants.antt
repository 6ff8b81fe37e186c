-- those that are passed over have nothing to hear and stay as they are, and so do the rules
use Rattle.std.proofs.Common.{◌≡◌, ◌≤◌, ℕ, List, None}
use Rattle.relay_slots.specs.Slots.{slot_at}
use Rattle.relay_book.specs.declared.change.Change.{Change}
use Rattle.relay_connections.specs.Carried.{Setting}
use Rattle.relay_connections.specs.Readiness.{clients_of}
use Rattle.relay_connections.specs.Replies.{LeavesMail}
use Rattle.relay_connections.specs.Served.{AreServed}
use Rattle.relay_connections.specs.Welcome.{KeepsFull, KeepsTurn}
use Rattle.relay_connections.proofs.HearsLemmas.{SilentTo}
use Rattle.relay_connections.proofs.clients.Clients.give_one_up.Given as goal

abbrev pub invariant-loop-step : goal.invariant-loop-step
invariant-loop-step g l = record {
  served : (changes : List Change) (setting : Setting) → AreServed g.D.Disk.honest g.D.Disk.words g.S.Stream.remaining g.S.Stream.contents changes setting (clients_of l.fn.self) l.fn.relay
      → AreServed g.D.Disk.honest g.D.Disk.words g.S.Stream.remaining g.S.Stream.contents changes setting (clients_of l.self) l.relay;
  mail : LeavesMail l.fn.relay l.relay;
  turn : KeepsTurn l.fn.self l.self;
  full : KeepsFull l.fn.self l.self;
  same : (number : ℕ) → slot_at (clients_of l.self) number ≡ slot_at (clients_of l.fn.self) number;
  silent : SilentTo l.count l.first l.step (clients_of l.fn.self);
  rest : (number : ℕ) → l.count ≤ number → slot_at (clients_of l.fn.self) number ≡ None;
}

-- The effect of octets that a node has heard on their link, and on the ledger.
use Rattle.std.specs.Prelude.{◌++◌, ℕ, ◌+◌, Bool, true, false, List, [], ◌∷◌, Option, None, Some}
use Rattle.std.specs.Option.{option_map}
use Rattle.relay_node.specs.declared.receive.Received.{Received}
use Rattle.relay_world.specs.declared.line.Line.{Line}
use Rattle.relay_world.specs.declared.line.Line.TheVariants.{Accepted}
use Rattle.relay_world.specs.declared.link.Link.{Link}
use Rattle.relay_world.specs.declared.link.ServerEnd.{ServerEnd}
use Rattle.relay_world.specs.Steps.{unless_broken}
use Rattle.relay_hosts.specs.declared.recorded.Recorded.{Recorded}

-- a server end after a call that may close it
abbrev pub end_after : Bool → ServerEnd → ServerEnd
end_after true end = record end { session = None }
end_after false end = end

-- the link after the node at its server end has heard octets; nothing is written on a broken link
abbrev pub heard_on : Link → Received → Link
heard_on link received = record link {
  server = option_map (end_after received.close) link.server;
  up_read = link.up_read + received.used;
  down = link.down ++ unless_broken link received.out.items;
}

-- the link, broken and without a session at its server end
abbrev pub cut_off : Link → Link
cut_off link = record link { server = option_map (end_after true) link.server; broken = true }

-- the line of an accept, if the node has made one
abbrev pub accept_lines : ℕ → ℕ → Option ℕ → Option Recorded → List Line
accept_lines node number None recorded = []
accept_lines node number (Some change) None = []
accept_lines node number (Some change) (Some recorded) = Accepted node change recorded.accepted number ∷ []

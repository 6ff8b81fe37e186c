-- Opening a link to a node.
use Rattle.std.specs.Prelude.{◌≡◌, ℕ, List, [], ◌∷◌, ◌++◌, length, Result, Ok, Err, Some, slice_get, slice_set}
use Rattle.relay_node.specs.declared.node.Connected.{Connected}
use Rattle.relay_records.specs.declared.fault.NodeFault.{NodeFault}
use Rattle.relay_world.specs.Steps.{opened_link}
use Rattle.relay_world.specs.World.{Host, World}
use Rattle.relay_hosts.specs.Work.{OpensSession, RefusesSession}

-- a node has accepted a client, on a link with the next number, with a greeting of this length
pub record LinksTo {D : Type 0} (old new : World D) (node : ℕ) (peer : List ℕ) (greeting : ℕ) : Type 0 where
  pub was : Host D
  pub was_at : slice_get old.hosts node ≡ Some was
  pub now : Host D
  pub connected : Connected
  pub opens : OpensSession was now peer connected
  pub greeting_is : greeting ≡ length connected.out.items
  pub new_is : new ≡ record old {
    hosts = slice_set old.hosts node now;
    links = old.links ++ opened_link node peer connected ∷ [];
  }

-- a node has refused a client, and nothing has changed
pub record RefusesClient {D : Type 0} (old new : World D) (node : ℕ) (why : NodeFault) : Type 0 where
  pub host : Host D
  pub host_at : slice_get old.hosts node ≡ Some host
  pub refuses : RefusesSession host host why
  pub new_is : new ≡ old

abbrev pub LinksOrNot : {D : Type 0} → World D → World D → ℕ → List ℕ → Result ℕ NodeFault → Type 0
LinksOrNot old new node peer (Ok greeting) = LinksTo old new node peer greeting
LinksOrNot old new node peer (Err why) = RefusesClient old new node why

-- A row of bodies in memory: a chain, which is closed once it is written.
use Rattle.std.specs.Prelude.{ℕ, ◌<◌, List, [], ◌∷◌, ◌++◌, length, Vec, vec_capacity}
use Rattle.std.specs.declared.alloc.Global.{Global}
use Rattle.relay_spool.specs.Walk.{bodies_in}

-- the bodies of a chain, which a closed gate ends
unfoldable pub bodies_of_chain : List ℕ → List (List ℕ)
bodies_of_chain chain = bodies_in (length chain) (chain ++ 0 ∷ [])

-- if there are links, an octet more asks for no memory
abbrev pub HasRoomToClose : Vec ℕ Global → Type 0
HasRoomToClose links = 0 < length links.items → length links.items < vec_capacity links

-- One link and its ends: whether it is whole, what runs at an end, what is unread there, and who hasn't noticed a
-- break.
use Rattle.std.specs.Prelude.{◌≡◌, ℕ, Bool, true, false, not, List, [], ◌∷◌, drop, Option, None, Some, if◌then◌else◌}
use Rattle.std.specs.Prelude.{slice_get}
use Rattle.std.specs.Option.{is_none, is_some}
use Rattle.relay_world.specs.declared.attempt.Attempt.{Attempt}
use Rattle.relay_world.specs.declared.attempt.Fate.{Fate}
use Rattle.relay_world.specs.declared.attempt.Fate.TheVariants.{Running, Replied, Lost, Dropped}
use Rattle.relay_world.specs.declared.link.Link.{Link}
use Rattle.relay_world.specs.declared.link.ServerEnd.{ServerEnd}
use Rattle.relay_world.specs.World.{link_at}

-- the link of a number, unless it is broken
abbrev pub if_whole : Option Link → Option Link
if_whole None = None
if_whole (Some link) = if link.broken then None else Some link

abbrev pub whole_link : List Link → ℕ → Option Link
whole_link links number = if_whole (link_at links number)

-- whether an attempt is running
abbrev pub is_running : Fate → Bool
is_running (Running slot) = true
is_running (Replied number) = false
is_running (Lost number) = false
is_running Dropped = false

abbrev pub runs_there : Option Attempt → Bool
runs_there None = false
runs_there (Some attempt) = is_running attempt.fate

-- whether an end of a link has closed: its session or attempt has ended. An end outside never closes.
abbrev pub server_closed : Option ServerEnd → Bool
server_closed None = false
server_closed (Some end) = is_none end.session

abbrev pub client_closed : List Attempt → Option ℕ → Bool
client_closed attempts None = false
client_closed attempts (Some place) = not (runs_there (slice_get attempts place))

-- whether outside has an end of the link
abbrev pub has_outside : Link → Bool
has_outside link = if is_none link.client then true else is_none link.server

-- a whole link on which outside may write
pub record IsSendable (links : List Link) (number : ℕ) : Type 0 where
  pub link : Link
  pub link_is : link_at links number ≡ Some link
  pub whole : link.broken ≡ false
  pub outside : has_outside link ≡ true

abbrev pub is_nil : List ℕ → Bool
is_nil [] = true
is_nil (octet ∷ octets) = false

-- whether octets are unread at the client end of a link
abbrev pub waits_down : Link → Bool
waits_down link = not (is_nil (drop link.down_read link.down))

-- whether there is nothing to carry to an end of the link: it has closed, or there are no unread octets and the other
-- end hasn't closed
abbrev pub server_idles : List Attempt → Link → Bool
server_idles attempts link =
    if server_closed link.server then true else
    (if is_nil (drop link.up_read link.up) then not (client_closed attempts link.client) else false)

abbrev pub client_idles : List Attempt → Link → Bool
client_idles attempts link =
    if client_closed attempts link.client then true else
    (if is_nil (drop link.down_read link.down) then not (server_closed link.server) else false)

-- whether octets are unread at the server end of a link
abbrev pub waits_up : Link → Bool
waits_up link = not (is_nil (drop link.up_read link.up))

-- whether a session runs at a server end, or an attempt at a client end
abbrev pub hears_on : Option ServerEnd → Bool
hears_on None = false
hears_on (Some end) = is_some end.session

abbrev pub tries_on : List Attempt → Option ℕ → Bool
tries_on attempts None = false
tries_on attempts (Some place) = runs_there (slice_get attempts place)

-- whether a node at an end of the link hasn't noticed yet that it is broken
abbrev pub is_untold : List Attempt → Link → Bool
is_untold attempts link =
    if link.broken then (if hears_on link.server then true else tries_on attempts link.client) else false

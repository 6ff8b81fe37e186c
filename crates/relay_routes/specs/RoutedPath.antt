-- Routed paths: those that name a further host, to which their domain's own host may hand the mail on. A source route
-- does (RFC 5321, sections 3.6.1 and 4.1.2, and appendix F.2). A local part is its own host's to read (section 2.3.11):
-- no standard says what `%` and `!` mean in one, but by custom they part a user from a further host, as `@` in quotes
-- does.
use Rattle.std.specs.Prelude.{◌≡◌, ◌⊎◌, ◌↔◌, ℕ, Bool, true, false, ◌==◌, ◌||◌, List}
use Rattle.std.specs.List.{list_any}
use Rattle.relay_envelope.specs.Mailbox.{IsMailbox, IsSourceRoute}
use Rattle.relay_envelope.specs.Path.{Path, Null, Postmaster, Mailbox}
use Rattle.relay_routes.specs.declared.routed_paths.RoutedPaths.{RoutedPaths}
use Rattle.relay_routes.specs.declared.routed_paths.RoutedPaths.TheVariants.{Pass, Refuse}

-- the octet is `%`, `!` or `@`
abbrev pub is_routing_octet : ℕ → Bool
is_routing_octet octet = octet == 37 || octet == 33 || octet == 64

-- the octets name a further host, in quotes or not
abbrev pub names_host : List ℕ → Bool
names_host octets = list_any is_routing_octet octets

-- a path is routed where its source route, which begins with `@`, or its local part names a further host
abbrev pub is_routed : Path → Bool
is_routed Null = false
is_routed (Postmaster word) = false
is_routed (Mailbox route local domain) = names_host route || names_host local

-- a recipient of this path is refused: it is routed, and the rule refuses that
abbrev pub refuses_path : RoutedPaths → Path → Bool
refuses_path Pass path = false
refuses_path Refuse path = is_routed path

-- A mailbox is routed exactly if it has a source route, or its local part names a further host.
abbrev pub RoutedIsNamed : Type 0
RoutedIsNamed =
    (route local domain : List ℕ) → IsMailbox route local domain
    → (is_routed (Mailbox route local domain) ≡ true) ↔ (IsSourceRoute route ⊎ (names_host local ≡ true))

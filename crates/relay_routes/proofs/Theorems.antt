-- What a crate above may cite of this one: each lemma proves a law that the crate exports, or restates a public clause.
pub use Rattle.relay_routes.proofs.AcceptedLemmas.{accepted_is_routed, all_are_trusted, nobody_is_listed}
pub use Rattle.relay_routes.proofs.HopLemmas.{config_is_named, hop_at_is_hop_of, hop_has_its_place}
pub use Rattle.relay_routes.proofs.ReadingLemmas.{one_reading}
pub use Rattle.relay_routes.proofs.RoutedLemmas.{routed_is_named}

-- What a crate above may cite: what holds of no slot of a table that was passed over one by one, how many of some kind
-- stand in its slots, and what is true of clients that are served.
pub use Rattle.relay_connections.proofs.LeftLemmas.{none_at_all, none_more, same_value, some_there, stands_there}
pub use Rattle.relay_connections.proofs.ServedLemmas.{free_are_served, leaves_then, left_are_served, served_are_matched, served_goes_on}
pub use Rattle.relay_connections.proofs.TableLemmas.{counted_none, counted_one, none_left, same_count}

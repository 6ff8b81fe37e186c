-- A next hop that has a load takes the recipient, and a further one comes last.
use Rattle.std.proofs.Common.{◌≡◌, ℕ, List, bytes_eq, None, Some, sym, subst, ap, ◌∙◌}
use Rattle.std.specs.Map.{lookup, set_value}
use Rattle.indexmap.specs.IndexMap.{insert_entry}
use Rattle.indexmap.proofs.CallerLemmas.{insert_entry-new}
use Rattle.relay_listing.specs.Load.{loads_in, loads_with}
use Rattle.relay_listing.specs.Row.{Queued, said_by}
use Rattle.relay_listing.proofs.LoadLemmas.{counted_last, counted_there, names}
use Rattle.relay_listing.proofs.load.count_row.Goals as goal

pub returns-in-Some : goal.returns-in-Some
returns-in-Some c =
    let queued : Queued = said_by c.args.row.now in
    let found : lookup (names queued) c.args.loads.now.entries ≡ Some c.in-Some.load.now =
    subst (λ (n : List ℕ). lookup (λ key. bytes_eq n key.items) c.args.loads.now.entries ≡ Some c.in-Some.load.now) c.hop_of-name.ensures (sym c.in-Some.ensures.value) in
    let written = (c.get_mut.follows.holds c.with.result).0 in
    ap loads_in written
    ∙ subst (λ (n : List ℕ). loads_in (set_value (λ key. bytes_eq n key.items) c.args.loads.now.entries c.with.result) ≡ loads_with (loads_in c.args.loads.now.entries) queued)
    (sym c.hop_of-name.ensures)
    (rw c.with.ensures (counted_there queued c.in-Some.load.now c.args.loads.now.entries found))

pub returns-in_ok-insert-in-None : goal.returns-in_ok-insert-in-None
returns-in_ok-insert-in-None c =
    let queued : Queued = said_by c.args.row.now in
    let key = c.in_ok-from_slice-in-None.field-0 in
    let same = c.in_ok-from_slice-in-None.ensures.items ∙ c.hop_of-name.ensures in
    let absent : lookup (names queued) c.args.loads.now.entries ≡ None =
    subst (λ (n : List ℕ). lookup (λ key. bytes_eq n key.items) c.args.loads.now.entries ≡ None) c.hop_of-name.ensures (sym c.in-None.ensures.value) in
    let unknown : lookup (λ other. bytes_eq key.items other.items) c.args.loads.now.entries ≡ None =
    subst (λ (n : List ℕ). lookup (λ key. bytes_eq n key.items) c.args.loads.now.entries ≡ None) (sym same) absent in
    let added : c.insert.new.self.entries ≡ insert_entry (λ x y. bytes_eq x.items y.items) c.args.loads.now.entries key c.of.result =
    c.in_ok-insert-in-None.ensures.entries
    ∙ ap (λ m. insert_entry (λ x y. bytes_eq x.items y.items) m.entries key c.of.result) c.get_mut.follows.holds-at-none in
    ap loads_in (added ∙ insert_entry-new _ c.args.loads.now key c.of.result unknown)
    ∙ rw c.of.ensures (counted_last queued key c.args.loads.now.entries same absent)

-- the headings, a line for each next hop, and how full the spool is
use Rattle.std.proofs.Common.{◌≡◌, ℕ, List, ◌++◌, ap, ◌∙◌}
use Rattle.std.specs.List.{flat_map}
use Rattle.relay_listing.specs.Load.{loads_in}
use Rattle.relay_queue.specs.Status.{fill_text, headings_of, load_line}
use Rattle.relay_queue.proofs.status.status_text.Goals as goal

pub returns-clause-fill : goal.returns-clause-fill
returns-clause-fill c = (_, c.in_ok-push_fill.ensures)

pub returns-clause-summary : goal.returns-clause-summary
returns-clause-summary c =
    let loads = loads_in c.args.loads.now.entries in
    let added = c.in_ok-push_hops.ensures in
    let headings : List ℕ = headings_of loads in
    let lines : List ℕ = flat_map (load_line c.args.now) added.0 in
    let fill : List ℕ = fill_text c.args.fill.size c.args.fill.limit in
    let begun : c.push_headings.new.screen ≡ headings = c.in_ok-push_headings.ensures ∙ ap (λ (l : List ℕ). l ++ headings) c.new-screen.ensures in
    record {
      rows = added.0;
      rows_are = added.1;
      text_is =
          c.in_ok-push_fill.ensures
          ∙ ap (λ (l : List ℕ). l ++ fill) (added.2 ∙ ap (λ (l : List ℕ). l ++ lines) begun);
    }

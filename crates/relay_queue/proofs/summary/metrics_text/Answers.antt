-- the gauge of the spool's size is before that of its limit, and both follow those of the next hops
use Rattle.std.proofs.Common.{rules, ◌≡◌, ℕ, List, ◌++◌, ap, ◌∙◌, append_assoc, codes}
use Rattle.relay_listing.specs.Load.{loads_in}
use Rattle.relay_listing.specs.Metrics.{head_of, metrics_by_hop, sample_text}
use Rattle.relay_listing.specs.declared.metrics.Course.TheVariants.{Gauge}
use Rattle.relay_queue.specs.Screen.{shown_lines}
use Rattle.relay_queue.proofs.ShownLemmas.{gauge_shown}
use Rattle.relay_queue.proofs.summary.metrics_text.Goals as goal

pub returns-clause-gauge : goal.returns-clause-gauge
returns-clause-gauge c =
    let front : List ℕ = c.push_loads.new.text.items in
    let head : List ℕ = head_of (codes "relayd_spool_bytes") Gauge (codes "Octets of the spool file in use.") in
    let rest : List ℕ =
    head_of (codes "relayd_spool_limit_bytes") Gauge (codes "Octets that the spool file may take.")
    ++ sample_text (codes "relayd_spool_limit_bytes") c.args.fill.limit
    in
    let size = c.in_ok-push_alone.ensures in
    let limit = c.in_ok-push_alone-2.ensures in (
      shown_lines front ++ shown_lines head,
      shown_lines rest,
      c.in_ok-push_lines.ensures ∙ ap (λ (l : List ℕ). l ++ shown_lines c.as_slice.result.now) c.new-screen.ensures
          ∙ ap shown_lines (c.as_slice.ensures.value ∙ limit ∙ ap (λ (l : List ℕ). l ++ rest) size)
          ∙ gauge_shown front head rest c.args.fill.size,
    )

pub returns-clause-text : goal.returns-clause-text
returns-clause-text c =
    let front : List ℕ = metrics_by_hop c.args.now (loads_in c.args.loads.now.entries) in
    let size : List ℕ =
    head_of (codes "relayd_spool_bytes") Gauge (codes "Octets of the spool file in use.")
    ++ sample_text (codes "relayd_spool_bytes") c.args.fill.size
    in
    let limit : List ℕ =
    head_of (codes "relayd_spool_limit_bytes") Gauge (codes "Octets that the spool file may take.")
    ++ sample_text (codes "relayd_spool_limit_bytes") c.args.fill.limit
    in
    let begun : c.push_loads.new.text.items ≡ front = search rules in
    c.in_ok-push_lines.ensures ∙ ap (λ (l : List ℕ). l ++ shown_lines c.as_slice.result.now) c.new-screen.ensures
    ∙ ap shown_lines
    (c.as_slice.ensures.value ∙ c.in_ok-push_alone-2.ensures ∙ ap (λ (l : List ℕ). l ++ limit) (c.in_ok-push_alone.ensures ∙ ap (λ (l : List ℕ). l ++ size) begun)
    ∙ append_assoc front size limit)

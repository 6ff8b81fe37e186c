-- a line for each key, after the heading and before the sums
use Rattle.std.proofs.Common.{rules, ◌≡◌, ℕ, ◌++◌, ◌<◌, ◌≤◌, List, [], length, refl, sym, ap, subst, ◌∙◌, append-nil}
use Rattle.std.proofs.lemmas.List.{take_all}
use Rattle.relay_queue.specs.Table.{heading_of, row_line, rows_text, totals_text}
use Rattle.relay_queue.specs.declared.table.Totals.{Totals}
use Rattle.relay_queue.specs.declared.table.Widths.{Widths}
use Rattle.relay_queue.proofs.RowLemmas.{rows_more}
use Rattle.relay_queue.proofs.table.table_text.Goals as goal

pub loop-key-init : goal.loop-key-init
loop-key-init c = ([], refl, sym (append-nil _))

pub loop-key-preserved : goal.loop-key-preserved
loop-key-preserved c =
    let more : c.loop-key.key-index < length c.args.keys.now = search rules in
    let pushed = c.in_ok-push_row_at.ensures in
    rows_more (row_line c.widths_of-widths.result c.args.now c.args.table.now c.args.look.now.queue) c.args.keys.now c.loop-key.key-index _ _ c.loop-key.screen _
    pushed.0 more c.loop-key.invariant pushed.1

pub returns : goal.returns
returns c =
    let all : length c.args.keys.now ≤ c.loop-key.key-index = search rules in
    let rows = c.loop-key.invariant in
    let totals : Totals = c.totals_of.result in
    let widths : Widths = c.widths_of-widths.result in
    let text : List ℕ = c.push_totals.new.screen in
    let IsText : Widths → Type 0 =
    λ widths. text ≡ heading_of widths c.args.keys.now ++ rows_text widths c.args.now c.args.table.now c.args.look.now.queue rows.0 ++ totals_text totals
    in
    let heading = c.in_ok-push_heading_of.ensures ∙ ap (λ (l : List ℕ). l ++ heading_of widths c.args.keys.now) c.new-screen.ensures in
    record {
      rows = rows.0;
      totals = totals;
      keys_are = rows.1 ∙ take_all c.loop-key.key-index c.args.keys.now all;
      sums = c.totals_of.ensures;
      text_is =
          subst IsText c.widths_of-widths.ensures
          (c.in_ok-push_totals.ensures ∙ ap (λ (l : List ℕ). l ++ totals_text totals)
          (rows.2 ∙ ap (λ (l : List ℕ). l ++ rows_text widths c.args.now c.args.table.now c.args.look.now.queue rows.0) heading));
    }

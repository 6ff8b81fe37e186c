-- The mail that a selection takes from the queue that was opened.
use Rattle.std.proofs.Common.{◌≡◌, ℕ, List, map, Result, Ok, Err, IfOk, ap, ◌∙◌}
use Rattle.relay_routes.specs.Config.{ReadsConfig}
use Rattle.relay_routes.specs.declared.config.Config.{Config}
use Rattle.relay_outlines.specs.Look.{Seen}
use Rattle.relay_book.specs.Queue.{Queue}
use Rattle.relay_files.specs.Opening.{IsLook}
use Rattle.relay_queue.proofs.BlankLemmas.{preview_of_look, selected_of_look}
use Rattle.relay_queue.specs.declared.fault.QueueFault.{QueueFault}
use Rattle.relay_queue.specs.declared.preview.Taken.{Taken}
use Rattle.relay_queue.specs.declared.selection.Selection.{Selection}
use Rattle.relay_queue.specs.Screen.{AreSafe}
use Rattle.relay_queue.specs.Selection.{IsTaken, group_of, groups_of, preview_text, selected_marks}

pub taken_from : (selection : Selection) (look : Seen) (queue : Queue) (document : List ℕ) (config : Config) (now : ℕ)
    (marks : List (ℕ × ℕ)) (result : Result Taken QueueFault)
    → IsLook look queue → ReadsConfig document (Ok config)
    → marks ≡ selected_marks selection now config.routes look.queue
    → IfOk result (λ taken. map group_of taken.messages.items ≡ groups_of marks)
    → IfOk result (λ taken. taken.preview.items ≡ preview_text config.routes look.queue marks)
    → IfOk result (λ taken. AreSafe taken.preview.items)
    → IfOk result (λ taken. IsTaken selection taken.messages.items taken.preview.items)
taken_from selection look queue document config now marks (Ok taken) opened reads marks_are messages preview safe =
    let blank = opened.shows.blank in
    let same = marks_are ∙ selected_of_look selection now config.routes look.queue queue blank in
    record {
      look = look;
      queue = queue;
      opened = opened;
      document = document;
      config = config;
      reads = reads;
      now = now;
      selected = messages ∙ ap groups_of same;
      preview_is =
          preview ∙ preview_of_look config.routes look.queue queue marks blank ∙ ap (preview_text config.routes queue)
          same;
      safe = safe;
    }
taken_from selection look queue document config now marks (Err fault) opened reads marks_are messages preview safe = tt

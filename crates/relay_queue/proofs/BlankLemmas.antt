-- What is printed of a queue with blank texts is what is printed of the queue.
use Rattle.std.proofs.Common.{◌≡◌, ℕ, zero, suc, ◌==◌, Bool, true, false, List, [], ◌∷◌, ◌++◌, length, map, replicate}
use Rattle.std.proofs.Common.{take, fold, Option, Some, refl, sym, ap, ◌∙◌, subst, if◌then◌else◌}
use Rattle.std.proofs.Math.Path.{fun_ext}
use Rattle.std.specs.List.{filter_map, flat_map}
use Rattle.std.specs.Option.{option_map_or}
use Rattle.std.specs.List.Sorted.{IsPermutation}
use Rattle.relay_routes.specs.Routes.{RouteTable}
use Rattle.relay_book.specs.declared.message.Message.{Message}
use Rattle.relay_book.specs.Queue.{Queue, held_of, message_of}
use Rattle.relay_outlines.specs.Look.{blank, blank_entry, blank_texts}
use Rattle.relay_outlines.proofs.Theorems.{blank_texts_hold}
use Rattle.relay_listing.specs.Load.{loads_if, queue_by_hop}
use Rattle.relay_listing.specs.declared.load.Load.{Load}
use Rattle.relay_listing.specs.Object.{object_line}
use Rattle.relay_listing.specs.Row.{Queued, queued_at}
use Rattle.relay_listing.proofs.Theorems.{blank_texts_show}
use Rattle.relay_queue.specs.declared.calls.ListForm.{ListForm}
use Rattle.relay_queue.specs.declared.calls.ListForm.TheVariants.{Table, Json}
use Rattle.relay_queue.specs.declared.filter.Filter.{Filter}
use Rattle.relay_queue.specs.declared.selection.Selection.{Selection}
use Rattle.relay_queue.specs.declared.table.Widths.{Widths}
use Rattle.relay_queue.specs.declared.table.Totals.{Totals}
use Rattle.relay_queue.specs.Filter.{passes}
use Rattle.relay_queue.specs.Objects.{objects_text}
use Rattle.relay_queue.specs.Picks.{AreListed, keys_if, keys_of}
use Rattle.relay_queue.specs.Printed.{IsList}
use Rattle.relay_queue.specs.Selection.{mark_if, more_line, preview_text, recipient_line, selected_marks}
use Rattle.relay_queue.specs.Selection.{selects, groups_of, sums_line}
use Rattle.relay_queue.specs.Table.{AreTotals, IsTable, heading_of, numbers_of, row_text, size_at, summed, totals_text}
use Rattle.relay_queue.specs.Table.{widths_for}

-- what stands at each place, and where
abbrev Rows : Type 0
Rows = ℕ × ℕ → Option Queued

rows_alike : (table : RouteTable) (queue : Queue) → queued_at table (blank_texts queue) ≡ queued_at table queue
rows_alike table queue = fun_ext (λ mark. blank_texts_show table queue mark)

-- how large the messages are

length-blank : (count : ℕ) → length {A = ℕ} (replicate count 0) ≡ count
length-blank zero = refl
length-blank (suc count) = ap (λ (n : ℕ). suc n) (length-blank count)

abbrev text_length : Message → ℕ
text_length message = length message.accept.stored_text

size_if : (here : Bool) (message : Message) (rest found : Option Message)
    → option_map_or text_length found 0 ≡ option_map_or text_length rest 0
    → option_map_or text_length (if here then Some (blank message) else found) 0 ≡ option_map_or text_length
    (if here then Some message else rest) 0
size_if true message rest found is = length-blank (length message.accept.stored_text)
size_if false message rest found is = is

size_in : (entries : List (ℕ × Message)) (number : ℕ)
    → option_map_or text_length (message_of (map blank_entry entries) number) 0 ≡ option_map_or text_length
    (message_of entries number) 0
size_in [] number = refl
size_in (entry ∷ entries) number =
    size_if (entry.0 == number) entry.1 (message_of entries number) (message_of (map blank_entry entries) number)
    (size_in entries number)

sizes_alike : (queue : Queue) → size_at (blank_texts queue) ≡ size_at queue
sizes_alike queue = fun_ext (λ number. size_in queue.messages number)

-- the recipients that are listed

abbrev keys_by : Filter → ℕ → Rows → List (ℕ × ℕ) → List (ℕ × ℕ × ℕ)
keys_by filter now rows held = flat_map (λ mark. keys_if (passes filter now) (rows mark)) held

keys_alike : (filter : Filter) (now : ℕ) (table : RouteTable) (queue : Queue)
    → keys_of filter now table (blank_texts queue) ≡ keys_of filter now table queue
keys_alike filter now table queue =
    ap (λ (rows : Rows). keys_by filter now rows (held_of (blank_texts queue))) (rows_alike table queue)
    ∙ ap (keys_by filter now (queued_at table queue)) (blank_texts_hold queue)

pub listed_alike : (filter : Filter) (now : ℕ) (table : RouteTable) (seen queue : Queue) (keys : List (ℕ × ℕ × ℕ))
    → seen ≡ blank_texts queue
    → AreListed filter now table seen keys → AreListed filter now table queue keys
listed_alike filter now table seen queue keys is listed = record {
  all =
      subst (λ (all : List (ℕ × ℕ × ℕ)). IsPermutation all keys)
      (ap (keys_of filter now table) is ∙ keys_alike filter now table queue) listed.all;
  sorted = listed.sorted;
}

-- the list in a form

abbrev objects_by : ℕ → List (ℕ × ℕ × ℕ) → Rows → List ℕ
objects_by now keys rows = flat_map (λ key. option_map_or (object_line now) (rows (key.1, key.2)) []) keys

objects_alike : (now : ℕ) (table : RouteTable) (queue : Queue) (keys : List (ℕ × ℕ × ℕ))
    → objects_text now table (blank_texts queue) keys ≡ objects_text now table queue keys
objects_alike now table queue keys = ap (objects_by now keys) (rows_alike table queue)

totals_alike : (now : ℕ) (queue : Queue) (keys : List (ℕ × ℕ × ℕ)) (totals : Totals)
    → AreTotals now (blank_texts queue) keys totals → AreTotals now queue keys totals
totals_alike now queue keys totals are = record {
  messages = are.messages;
  recipients = are.recipients;
  octets = are.octets ∙ ap (λ (sizes : ℕ → ℕ). summed sizes (numbers_of keys)) (sizes_alike queue);
  oldest = are.oldest;
}

abbrev widths_by : Rows → List (ℕ × ℕ × ℕ) → Widths
widths_by rows keys = widths_for (filter_map (λ key. rows (key.1, key.2)) keys)

abbrev lines_by : Rows → ℕ → List (ℕ × ℕ × ℕ) → List ((ℕ × ℕ × ℕ) × List ℕ) → Totals → List ℕ
lines_by rows now keys timed totals =
    heading_of (widths_by rows keys) keys
    ++ flat_map (λ row. option_map_or (row_text (widths_by rows keys) now row.1) (rows (row.0.1, row.0.2)) []) timed
    ++ totals_text totals

table_alike : (now : ℕ) (table : RouteTable) (queue : Queue) (keys : List (ℕ × ℕ × ℕ)) (text : List ℕ)
    → IsTable now table (blank_texts queue) keys text
    → IsTable now table queue keys text
table_alike now table queue keys text is = record {
  rows = is.rows;
  totals = is.totals;
  keys_are = is.keys_are;
  sums = totals_alike now queue keys is.totals is.sums;
  text_is = is.text_is ∙ ap (λ (rows : Rows). lines_by rows now keys is.rows is.totals) (rows_alike table queue);
}

list_alike : (form : ListForm) (now : ℕ) (table : RouteTable) (queue : Queue) (keys : List (ℕ × ℕ × ℕ)) (text : List ℕ)
    → IsList form now table (blank_texts queue) keys text
    → IsList form now table queue keys text
list_alike Table now table queue keys text is = table_alike now table queue keys text is
list_alike Json now table queue keys text is = is ∙ objects_alike now table queue keys

pub list_of_look : (form : ListForm) (now : ℕ) (table : RouteTable) (seen queue : Queue) (keys : List (ℕ × ℕ × ℕ))
    (text : List ℕ) → seen ≡ blank_texts queue
    → IsList form now table seen keys text → IsList form now table queue keys text
list_of_look form now table seen queue keys text is list =
    list_alike form now table queue keys text (subst (λ (q : Queue). IsList form now table q keys text) is list)

-- the queue by next hop

abbrev hops_by : Rows → List (ℕ × ℕ) → List (List ℕ × Load)
hops_by rows held = fold (λ loads mark. loads_if loads (rows mark)) [] held

hops_alike : (table : RouteTable) (queue : Queue)
    → queue_by_hop table (blank_texts queue) ≡ queue_by_hop table queue
hops_alike table queue =
    ap (λ (rows : Rows). hops_by rows (held_of (blank_texts queue))) (rows_alike table queue)
    ∙ ap (hops_by (queued_at table queue)) (blank_texts_hold queue)

pub hops_of_look : (table : RouteTable) (seen queue : Queue) → seen ≡ blank_texts queue
    → queue_by_hop table seen ≡ queue_by_hop table queue
hops_of_look table seen queue is = ap (queue_by_hop table) is ∙ hops_alike table queue

-- what a selection takes

abbrev selected_by : Selection → ℕ → Rows → List (ℕ × ℕ) → List (ℕ × ℕ)
selected_by selection now rows held =
    flat_map (mark_if (λ mark. option_map_or (selects selection now) (rows mark) false)) held

selected_alike : (selection : Selection) (now : ℕ) (table : RouteTable) (queue : Queue)
    → selected_marks selection now table (blank_texts queue) ≡ selected_marks selection now table queue
selected_alike selection now table queue =
    ap (λ (rows : Rows). selected_by selection now rows (held_of (blank_texts queue))) (rows_alike table queue)
    ∙ ap (selected_by selection now (queued_at table queue)) (blank_texts_hold queue)

pub selected_of_look : (selection : Selection) (now : ℕ) (table : RouteTable) (seen queue : Queue)
    → seen ≡ blank_texts queue
    → selected_marks selection now table seen ≡ selected_marks selection now table queue
selected_of_look selection now table seen queue is =
    ap (selected_marks selection now table) is ∙ selected_alike selection now table queue

abbrev preview_by : List (ℕ × ℕ) → Rows → List ℕ
preview_by marks rows =
    flat_map (λ mark. option_map_or recipient_line (rows mark) []) (take 10 marks) ++ more_line (length marks)
    ++ sums_line (length (groups_of marks)) (length marks)

preview_alike : (table : RouteTable) (queue : Queue) (marks : List (ℕ × ℕ))
    → preview_text table (blank_texts queue) marks ≡ preview_text table queue marks
preview_alike table queue marks = ap (preview_by marks) (rows_alike table queue)

pub preview_of_look : (table : RouteTable) (seen queue : Queue) (marks : List (ℕ × ℕ)) → seen ≡ blank_texts queue
    → preview_text table seen marks ≡ preview_text table queue marks
preview_of_look table seen queue marks is =
    ap (λ (q : Queue). preview_text table q marks) is ∙ preview_alike table queue marks

-- the size of the message that was found, or of none
pub size_found : (told : ℕ) (message : Message) (found : Option Message)
    → Some (record message { accept = record message.accept { stored_text = replicate told 0 } }) ≡ found
    → told ≡ option_map_or text_length found 0
size_found told message found is =
    sym (length-blank told) ∙ ap (λ (m : Option Message). option_map_or text_length m 0) is

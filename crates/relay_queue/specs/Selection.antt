-- Which queued mail a postmaster withdraws: the held places that a selection takes, message by message.
use Rattle.std.specs.Prelude.{◌≡◌, ℕ, ◌<◌, ◌==◌, nat_lt, Bool, false, ◌&&◌, ◌||◌, List, [], ◌∷◌, ◌++◌, length, map}
use Rattle.std.specs.Prelude.{take, codes, decimal, is_some, Ok, if◌then◌else◌}
use Rattle.std.specs.List.{flat_map, list_any, slice_split}
use Rattle.std.specs.Option.{option_copied, option_map_or}
use Rattle.relay_lines.specs.Word.{is_word}
use Rattle.relay_routes.specs.Config.{ReadsConfig}
use Rattle.relay_routes.specs.Routes.{RouteTable}
use Rattle.relay_routes.specs.declared.config.Config.{Config}
use Rattle.relay_book.specs.Queue.{Queue, held_of}
use Rattle.relay_outlines.specs.Look.{Seen}
use Rattle.relay_files.specs.Opening.{IsLook}
use Rattle.relay_queue.specs.declared.groups.Selected.{Selected}
use Rattle.relay_queue.specs.declared.selection.Selection.{Selection}
use Rattle.relay_queue.specs.Filter.{passes, passes_if}
use Rattle.relay_listing.specs.Row.{Queued, queued_at}
use Rattle.relay_queue.specs.Screen.{AreSafe, shown}
use Rattle.relay_queue.specs.Table.{counted}

abbrev pub is_comma : ℕ → Bool
is_comma octet = octet == 44

-- one of the parts of a text between commas is this word, in any letter case
abbrev pub has_part : List ℕ → List ℕ → Bool
has_part word text = list_any (λ part. is_word part word) (slice_split is_comma text)

-- the text falls into what is before its first comma, and what follows that
pub record FirstPart (text front back : List ℕ) : Type 0 where
  pub parts : slice_split is_comma text ≡ front ∷ slice_split is_comma back
  pub shorter : length back < length text

-- it has no comma
pub record OnePart (text : List ℕ) : Type 0 where
  pub parts : slice_split is_comma text ≡ text ∷ []

-- the number is among those of a text, in decimal, which has no letter case
abbrev pub is_numbered : List ℕ → ℕ → Bool
is_numbered numbers number = has_part (decimal number) numbers

-- a field of the selection is set
abbrev pub sets_field : Selection → Bool
sets_field selection =
    is_some selection.numbers || is_some selection.filter.hop || is_some selection.filter.reverse_path
    || is_some selection.filter.path || is_some selection.filter.age

-- The recipient is selected at this time: its message has one of the numbers, and a list with the same filter has it. A
-- field that isn't set matches everything, but a selection without fields takes nothing.
abbrev pub selects : Selection → ℕ → Queued → Bool
selects selection now queued =
    sets_field selection
    && passes_if (λ numbers. is_numbered numbers queued.number) (option_copied selection.numbers)
    && passes selection.filter now queued

-- the held place is selected
abbrev pub is_selected : Selection → ℕ → RouteTable → Queue → ℕ × ℕ → Bool
is_selected selection now table queue mark = option_map_or (selects selection now) (queued_at table queue mark) false

abbrev pub mark_if : (ℕ × ℕ → Bool) → ℕ × ℕ → List (ℕ × ℕ)
mark_if test mark = if test mark then mark ∷ [] else []

-- the selected places, each with the number of its message, in the order of the queue
abbrev pub selected_marks : Selection → ℕ → RouteTable → Queue → List (ℕ × ℕ)
selected_marks selection now table queue =
    flat_map (mark_if (is_selected selection now table queue)) (held_of queue)

-- a place before those that follow it, of which the first may be of the same message
abbrev pub joined : ℕ × ℕ → List (ℕ × List ℕ) → List (ℕ × List ℕ)
joined mark [] = (mark.0, mark.1 ∷ []) ∷ []
joined mark (group ∷ groups) =
    if mark.0 == group.0 then (group.0, mark.1 ∷ group.1) ∷ groups else (mark.0, mark.1 ∷ []) ∷ group ∷ groups

-- places, with those of one message together
abbrev pub groups_of : List (ℕ × ℕ) → List (ℕ × List ℕ)
groups_of [] = []
groups_of (mark ∷ marks) = joined mark (groups_of marks)

-- a message and its selected places
abbrev pub group_of : Selected → ℕ × List ℕ
group_of selected = (selected.message, selected.places.items)

-- the messages with a selected place, each with these places, in the order of the queue
abbrev pub AreSelected : Selection → ℕ → RouteTable → Queue → List Selected → Type 0
AreSelected selection now table queue all = map group_of all ≡ groups_of (selected_marks selection now table queue)

-- the line of a recipient: the number of its message, its reverse path and its path
abbrev pub recipient_line : Queued → List ℕ
recipient_line queued =
    decimal queued.number ++ codes " " ++ shown queued.reverse_path ++ codes " " ++ shown queued.path ++ 10 ∷ []

abbrev pub line_of_mark : RouteTable → Queue → ℕ × ℕ → List ℕ
line_of_mark table queue mark = option_map_or recipient_line (queued_at table queue mark) []

-- the last line: how many messages and recipients there are
abbrev pub sums_line : ℕ → ℕ → List ℕ
sums_line messages recipients =
    counted messages (codes "message") ++ codes ", " ++ counted recipients (codes "recipient") ++ 10 ∷ []

-- that there are more than were listed
abbrev pub more_line : ℕ → List ℕ
more_line recipients = if nat_lt 10 recipients then codes "..\n" else []

-- profile: the lines of the first ten recipients, and the sums of all
abbrev pub preview_text : RouteTable → Queue → List (ℕ × ℕ) → List ℕ
preview_text table queue marks =
    flat_map (line_of_mark table queue) (take 10 marks) ++ more_line (length marks)
    ++ sums_line (length (groups_of marks)) (length marks)

-- the mail that a selection takes from the queue that files were opened to, by the routes of a configuration; the time
-- is what the clock has said
pub record IsTaken (selection : Selection) (all : List Selected) (preview : List ℕ) : Type 0 where
  pub look : Seen
  pub queue : Queue
  pub opened : IsLook look queue
  pub document : List ℕ
  pub config : Config
  pub reads : ReadsConfig document (Ok config)
  pub now : ℕ
  pub selected : AreSelected selection now config.routes queue all
  pub preview_is :
      preview ≡ preview_text config.routes queue (selected_marks selection now config.routes queue)
  pub safe : AreSafe preview

-- it takes nothing from the queue that files were opened to
pub record TakesNothing (selection : Selection) : Type 0 where
  pub look : Seen
  pub queue : Queue
  pub opened : IsLook look queue
  pub document : List ℕ
  pub config : Config
  pub reads : ReadsConfig document (Ok config)
  pub now : ℕ
  pub nothing : selected_marks selection now config.routes queue ≡ []

-- The table of queued recipients: a heading, a line for each, and their sums.
use Rattle.std.specs.Prelude.{◌≡◌, ◌==◌, ℕ, ◌-◌, nat_le, min, max, Bool, false, List, [], ◌∷◌, length, ◌++◌, codes}
use Rattle.std.specs.Prelude.{decimal, fold, map, Option, None, Some, option_map, slice_get, unwrap_or, if◌then◌else◌}
use Rattle.std.specs.List.{filter_map, flat_map}
use Rattle.std.specs.Option.{option_map_or}
use Rattle.relay_routes.specs.Routes.{RouteTable}
use Rattle.relay_book.specs.Queue.{Queue, message_of}
use Rattle.relay_queue.specs.declared.table.Sums.{Sums}
use Rattle.relay_queue.specs.declared.table.Totals.{Totals}
use Rattle.relay_queue.specs.declared.table.Widths.{Widths}
use Rattle.relay_listing.specs.Amounts.{size_text, span_text}
use Rattle.relay_listing.specs.Load.{counted as sum_with}
use Rattle.relay_queue.specs.Screen.{padding, shown}
use Rattle.relay_listing.specs.Row.{Queued, queued_at}

-- a cell whose text is aligned to the left, and one to the right
abbrev pub left_cell : ℕ → List ℕ → List ℕ
left_cell width text = shown text ++ padding (width - length text)

abbrev pub right_cell : ℕ → List ℕ → List ℕ
right_cell width text = padding (width - length text) ++ shown text

-- how often a recipient was deferred; 4 stands for four times and more
abbrev pub tries_text : ℕ → List ℕ
tries_text tries = if nat_le 4 tries then codes "4+" else decimal tries

-- the same in words, one try or several
abbrev pub tries_in_words : ℕ → List ℕ
tries_in_words tries = shown (tries_text tries) ++ (if tries == 1 then codes " try" else codes " tries")

-- the number of the message, its age and its size
abbrev pub numbers_text : ℕ → Queued → List ℕ
numbers_text now queued =
    right_cell 8 (decimal queued.number) ++ right_cell 8 (span_text (now - queued.accepted))
    ++ right_cell 12 (size_text queued.size)

-- the name of the next hop, or what stands for none
abbrev pub hop_text : Queued → List ℕ
hop_text queued = unwrap_or queued.hop (codes "-")

-- the cells of the columns of texts, each after two spaces
abbrev pub name_cells : Widths → List ℕ → List ℕ → List ℕ → List ℕ
name_cells widths reverse_path path hop =
    padding 2 ++ left_cell widths.reverse_path reverse_path ++ padding 2 ++ left_cell widths.path path ++ padding 2
    ++ left_cell widths.hop hop

-- the reverse path, the path, and the next hop
abbrev pub names_text : Widths → Queued → List ℕ
names_text widths queued = name_cells widths queued.reverse_path queued.path (hop_text queued)

-- how often the recipient was deferred, and when it is due, as this text shows that time
abbrev pub tries_and_time : List ℕ → Queued → List ℕ
tries_and_time time queued = right_cell 7 (tries_text queued.tries) ++ padding 2 ++ shown time ++ codes "\n"

-- the line of a recipient
abbrev pub row_text : Widths → ℕ → List ℕ → Queued → List ℕ
row_text widths now time queued = numbers_text now queued ++ names_text widths queued ++ tries_and_time time queued

-- the line of the recipient at a place, if it is queued
abbrev pub row_line : Widths → ℕ → RouteTable → Queue → (ℕ × ℕ × ℕ) × List ℕ → List ℕ
row_line widths now table queue row =
    option_map_or (row_text widths now row.1) (queued_at table queue (row.0.1, row.0.2)) []

-- the lines of these recipients, each with a text for the time when it is due
abbrev pub rows_text : Widths → ℕ → RouteTable → Queue → List ((ℕ × ℕ × ℕ) × List ℕ) → List ℕ
rows_text widths now table queue rows = flat_map (row_line widths now table queue) rows

-- the recipients with these keys that are queued
abbrev pub queued_of : RouteTable → Queue → List (ℕ × ℕ × ℕ) → List Queued
queued_of table queue keys = filter_map (λ key. queued_at table queue (key.1, key.2)) keys

-- profile: a column of texts is as wide as its heading, or as the longest of its texts, of which 40 octets count
abbrev pub column_width : List ℕ → List (List ℕ) → ℕ
column_width heading texts = fold (λ width text. max width (min (length text) 40)) (length heading) texts

-- the widths of the columns of texts, for these recipients
abbrev pub widths_for : List Queued → Widths
widths_for all = record {
  reverse_path = column_width (codes "REVERSE PATH") (map (λ queued. queued.reverse_path) all);
  path = column_width (codes "RECIPIENT") (map (λ queued. queued.path) all);
  hop = column_width (codes "HOP") (map hop_text all);
}

-- widths that hold the texts of one recipient more, if there is one
abbrev pub wider_for : Widths → Option Queued → Widths
wider_for widths None = widths
wider_for widths (Some queued) = record {
  reverse_path = max widths.reverse_path (min (length queued.reverse_path) 40);
  path = max widths.path (min (length queued.path) 40);
  hop = max widths.hop (min (length (hop_text queued)) 40);
}

-- the headings of the columns of numbers, and those of the other columns
abbrev pub number_headings : List ℕ
number_headings = right_cell 8 (codes "NUMBER") ++ right_cell 8 (codes "AGE") ++ right_cell 12 (codes "SIZE")

abbrev pub name_headings : Widths → List ℕ
name_headings widths = name_cells widths (codes "REVERSE PATH") (codes "RECIPIENT") (codes "HOP")

abbrev pub try_headings : List ℕ
try_headings = right_cell 7 (codes "TRIES") ++ codes "  NEXT TRY\n"

-- the line of headings
abbrev pub heading_line : Widths → List ℕ
heading_line widths = number_headings ++ name_headings widths ++ try_headings

-- no recipients have no headings
abbrev pub heading_of : Widths → List (ℕ × ℕ × ℕ) → List ℕ
heading_of widths [] = []
heading_of widths (key ∷ keys) = heading_line widths

-- a number and a noun, in the plural unless there is one
abbrev pub counted : ℕ → List ℕ → List ℕ
counted count noun = decimal count ++ codes " " ++ noun ++ (if count == 1 then [] else codes "s")

-- how old the oldest message is, if there is one
abbrev pub oldest_text : Option ℕ → List ℕ
oldest_text None = []
oldest_text (Some age) = codes "; oldest " ++ span_text age

-- the last line: how many messages and recipients there are, how large the messages are, and how old the oldest is
abbrev pub totals_text : Totals → List ℕ
totals_text totals =
    counted totals.messages (codes "message") ++ codes ", " ++ counted totals.recipients (codes "recipient")
    ++ codes ", " ++ size_text totals.octets ++ oldest_text totals.oldest ++ codes "\n"

-- a number before others, unless it is the first of them
abbrev pub number_before : ℕ → List ℕ → List ℕ
number_before number [] = number ∷ []
number_before number (next ∷ numbers) = if number == next then next ∷ numbers else number ∷ next ∷ numbers

-- the numbers of the messages of these recipients, of which those of one message stand together: each number once
abbrev pub numbers_of : List (ℕ × ℕ × ℕ) → List ℕ
numbers_of [] = []
numbers_of (key ∷ keys) = number_before key.1 (numbers_of keys)

-- the size of the message of a number
abbrev pub size_at : Queue → ℕ → ℕ
size_at queue number = option_map_or (λ message. length message.accept.stored_text) (message_of queue.messages number) 0

-- an amount for each of these messages, added up
abbrev pub summed : (ℕ → ℕ) → List ℕ → ℕ
summed amount numbers = fold (λ sum number. sum_with sum (amount number)) 0 numbers

-- the message of this number was counted last
abbrev pub is_last : Option ℕ → ℕ → Bool
is_last None number = false
is_last (Some last) number = last == number

-- the sums with a recipient of the message of this number more
abbrev pub sums_with : Queue → Sums → ℕ → Sums
sums_with queue sums number =
    if is_last sums.last number then sums
    else record {
      messages = sum_with sums.messages 1;
      octets = sum_with sums.octets (size_at queue number);
      last = Some number;
    }

-- the sums of the recipients with these keys, of which the first is the oldest: each message counts once
pub record AreTotals (now : ℕ) (queue : Queue) (keys : List (ℕ × ℕ × ℕ)) (totals : Totals) : Type 0 where
  pub messages : totals.messages ≡ summed (λ number. 1) (numbers_of keys)
  pub recipients : totals.recipients ≡ length keys
  pub octets : totals.octets ≡ summed (size_at queue) (numbers_of keys)
  pub oldest : totals.oldest ≡ option_map (λ key. now - key.0) (slice_get keys 0)

-- a table of the recipients with these keys, in their order
pub record IsTable (now : ℕ) (table : RouteTable) (queue : Queue) (keys : List (ℕ × ℕ × ℕ)) (text : List ℕ) : Type 0
  where
    pub rows : List ((ℕ × ℕ × ℕ) × List ℕ)
    pub totals : Totals
    pub keys_are : map (λ row. row.0) rows ≡ keys
    pub sums : AreTotals now queue keys totals
    pub text_is :
        let widths : Widths = widths_for (queued_of table queue keys) in
        text ≡ heading_of widths keys ++ rows_text widths now table queue rows ++ totals_text totals

-- The lines of a queue with blank texts are those of the queue.
use Rattle.std.proofs.Common.{◌≡◌, ℕ, List, [], Option, ap, ◌∙◌}
use Rattle.std.proofs.Math.Path.{fun_ext}
use Rattle.std.specs.List.{flat_map}
use Rattle.std.specs.Option.{option_map_or}
use Rattle.relay_book.specs.Queue.{Queue, held_of}
use Rattle.relay_outlines.specs.Look.{blank_texts}
use Rattle.relay_outlines.proofs.Theorems.{blank_texts_hold, blank_texts_wait}
use Rattle.relay_files.specs.Listing.{line_at, listed_line, listing_of}

line_alike : (queue : Queue) (mark : ℕ × ℕ) → line_at (blank_texts queue) mark ≡ line_at queue mark
line_alike queue mark =
    ap (λ (waiting : Option (List ℕ × ℕ)). option_map_or (listed_line mark.0 mark.1) waiting [])
    (blank_texts_wait queue mark.0 mark.1)

listing_alike : (queue : Queue) → listing_of (blank_texts queue) ≡ listing_of queue
listing_alike queue =
    ap (λ (line : ℕ × ℕ → List ℕ). flat_map line (held_of (blank_texts queue))) (fun_ext (line_alike queue))
    ∙ ap (λ (held : List (ℕ × ℕ)). flat_map (line_at queue) held) (blank_texts_hold queue)

-- the lines of a look are those of its queue
pub listed : (text : List ℕ) (seen queue : Queue) → text ≡ listing_of seen → seen ≡ blank_texts queue
    → text ≡ listing_of queue
listed text seen queue text_is blank = text_is ∙ ap listing_of blank ∙ listing_alike queue

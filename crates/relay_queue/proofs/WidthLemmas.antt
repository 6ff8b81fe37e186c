-- How wide columns are with one recipient more.
use Rattle.std.proofs.Common.{◌≡◌, ℕ, ◌+◌, ◌<◌, min, max, List, [], ◌∷◌, ◌++◌, length, map, take, get_or, Option, None, Some, sym, ap, ◌∙◌, append-nil, codes}
use Rattle.std.specs.List.{cons_option}
use Rattle.std.proofs.lemmas.List.{take_more, map-append}
use Rattle.std.proofs.lemmas.List.Elements.{filter_map-append}
use Rattle.std.proofs.lemmas.List.Sums.{fold-append}
use Rattle.relay_routes.specs.Routes.{RouteTable}
use Rattle.relay_book.specs.Queue.{Queue}
use Rattle.relay_listing.specs.Row.{Queued, queued_at}
use Rattle.relay_queue.specs.Table.{column_width, hop_text, queued_of, wider_for, widths_for}
use Rattle.relay_queue.specs.declared.table.Widths.{Widths}

column_more : (heading : List ℕ) (text_of : Queued → List ℕ) (all : List Queued) (one : Queued)
    → column_width heading (map text_of (all ++ one ∷ [])) ≡ max (column_width heading (map text_of all)) (min (length (text_of one)) 40)
column_more heading text_of all one =
    ap (column_width heading) (map-append text_of all (one ∷ []))
    ∙ fold-append (λ (width : ℕ) (text : List ℕ). max width (min (length text) 40)) (length heading) (map text_of all) (text_of one ∷ [])

abbrev made : ℕ → ℕ → ℕ → Widths
made reverse_path path hop = record { reverse_path = reverse_path; path = path; hop = hop }

made_is : (a x b y c z : ℕ) → a ≡ x → b ≡ y → c ≡ z → made a b c ≡ made x y z
made_is a x b y c z one two three =
    ap (λ (it : ℕ). made it b c) one ∙ ap (λ (it : ℕ). made x it c) two ∙ ap (λ (it : ℕ). made x y it) three

widths_more : (all : List Queued) (one : Option Queued) → widths_for (all ++ cons_option one []) ≡ wider_for (widths_for all) one
widths_more all None = ap widths_for (append-nil all)
widths_more all (Some one) =
    made_is _ _ _ _ _ _ (column_more (codes "REVERSE PATH") (λ queued. queued.reverse_path) all one)
    (column_more (codes "RECIPIENT") (λ queued. queued.path) all one) (column_more (codes "HOP") hop_text all one)

widths_next : (table : RouteTable) (queue : Queue) (keys : List (ℕ × ℕ × ℕ)) (i : ℕ) (d : ℕ × ℕ × ℕ) → i < length keys
    → widths_for (queued_of table queue (take (i + 1) keys))
    ≡ wider_for (widths_for (queued_of table queue (take i keys))) (queued_at table queue ((get_or keys i d).1, (get_or keys i d).2))
widths_next table queue keys i d more =
    ap (λ (all : List (ℕ × ℕ × ℕ)). widths_for (queued_of table queue all)) (take_more keys i d more)
    ∙ ap widths_for (filter_map-append (λ (key : ℕ × ℕ × ℕ). queued_at table queue (key.1, key.2)) (take i keys) (get_or keys i d ∷ []))
    ∙ widths_more (queued_of table queue (take i keys)) (queued_at table queue ((get_or keys i d).1, (get_or keys i d).2))

-- the recipients of one key more
pub widths_stand : (table : RouteTable) (queue : Queue) (keys : List (ℕ × ℕ × ℕ)) (i : ℕ) (d : ℕ × ℕ × ℕ) (widths new : Widths) → i < length keys
    → widths ≡ widths_for (queued_of table queue (take i keys)) → new ≡ wider_for widths (queued_at table queue ((get_or keys i d).1, (get_or keys i d).2))
    → new ≡ widths_for (queued_of table queue (take (i + 1) keys))
widths_stand table queue keys i d widths new more before is =
    is ∙ ap (λ (it : Widths). wider_for it (queued_at table queue ((get_or keys i d).1, (get_or keys i d).2))) before
    ∙ sym (widths_next table queue keys i d more)

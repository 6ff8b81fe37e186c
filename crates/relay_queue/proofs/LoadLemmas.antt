-- Lines of next hops, one after another, each with a text for the time at which a recipient is due first.
use Rattle.std.proofs.Common.{◌≡◌, ℕ, ◌+◌, ◌<◌, List, [], ◌∷◌, ◌++◌, length, map, take, get_or, refl, sym, ap, ◌∙◌, append-nil}
use Rattle.std.specs.List.{flat_map}
use Rattle.std.proofs.lemmas.List.{flat_map_more}
use Rattle.std.proofs.lemmas.List.Sums.{fold_more}
use Rattle.relay_routes.specs.Routes.{RouteTable}
use Rattle.relay_book.specs.Queue.{Queue}
use Rattle.relay_listing.specs.Load.{loads_at, loads_if}
use Rattle.relay_listing.specs.Row.{queued_at}
use Rattle.relay_listing.specs.declared.load.Load.{Load}
use Rattle.relay_queue.specs.Status.{AddsLoads, load_line}

abbrev Row : Type 0
Row = (List ℕ × Load) × List ℕ

-- the lines of all loads but the last ones, which are left, follow what stood before them
abbrev pub AreLines : ℕ → List (List ℕ × Load) → List (List ℕ × Load) → List ℕ → List ℕ → Type 0
AreLines now left all before new =
    (rows : List Row) × (map (λ row. row.0) rows ++ left ≡ all) × (new ≡ before ++ flat_map (load_line now) rows)

pub no_lines : (now : ℕ) (all : List (List ℕ × Load)) (before : List ℕ) → AreLines now all all before before
no_lines now all before = ([], refl, sym (append-nil before))

rows_more : (rows : List Row) (row : Row) (left : List (List ℕ × Load))
    → map (λ row. row.0) (rows ++ row ∷ []) ++ left ≡ map (λ row. row.0) rows ++ row.0 ∷ left
rows_more [] row left = refl
rows_more (first ∷ rows) row left = ap (λ l. first.0 ∷ l) (rows_more rows row left)

pub one_line : (now : ℕ) (load : List ℕ × Load) (left all : List (List ℕ × Load)) (time before between new : List ℕ)
    → AreLines now (load ∷ left) all before between → new ≡ between ++ load_line now (load, time) → AreLines now left all before new
one_line now load left all time before between new so_far is = (
  so_far.0 ++ (load, time) ∷ [],
  rows_more so_far.0 (load, time) left ∙ so_far.1,
  is ∙ ap (λ l. l ++ load_line now (load, time)) so_far.2 ∙ flat_map_more (load_line now) before so_far.0 (load, time),
)

pub all_lines : (now : ℕ) (all : List (List ℕ × Load)) (before new : List ℕ) → AreLines now [] all before new → AddsLoads now all before new
all_lines now all before new lines =
    (lines.0, sym (append-nil (map (λ (row : Row). row.0) lines.0)) ∙ lines.1, lines.2)

-- the loads of one place more
pub loads_stand : (table : RouteTable) (queue : Queue) (marks : List (ℕ × ℕ)) (i : ℕ) (d : ℕ × ℕ) (loads new : List (List ℕ × Load)) → i < length marks
    → loads ≡ loads_at table queue (take i marks) → new ≡ loads_if loads (queued_at table queue (get_or marks i d))
    → new ≡ loads_at table queue (take (i + 1) marks)
loads_stand table queue marks i d loads new more before is =
    is ∙ ap (λ (it : List (List ℕ × Load)). loads_if it (queued_at table queue (get_or marks i d))) before
    ∙ sym (fold_more (λ (it : List (List ℕ × Load)) (mark : ℕ × ℕ). loads_if it (queued_at table queue mark)) [] marks i d more)

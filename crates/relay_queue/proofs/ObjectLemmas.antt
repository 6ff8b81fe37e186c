-- The line of an object is its text as it is written.
use Rattle.std.proofs.Common.{◌≡◌, ℕ, ◌+◌, ◌<◌, List, [], ◌∷◌, ◌++◌, length, take, get_or, sym, ap, ◌∙◌, append_assoc}
use Rattle.std.specs.List.{flat_map}
use Rattle.std.proofs.lemmas.List.{flat_map_more, take_more}
use Rattle.serde_json.specs.Written.{compact_text}
use Rattle.relay_routes.specs.Routes.{RouteTable}
use Rattle.relay_book.specs.Queue.{Queue}
use Rattle.relay_listing.specs.Object.{object_at, object_line, object_of}
use Rattle.relay_listing.specs.Row.{Queued}
use Rattle.relay_listing.proofs.PrintableLemmas.{object_printable}
use Rattle.relay_queue.specs.Objects.{objects_text}
use Rattle.relay_queue.specs.Screen.{shown}
use Rattle.relay_queue.proofs.ShownLemmas.{shown_printable}

pub line_added : (now : ℕ) (queued : Queued) (object old pushed new : List ℕ) → object ≡ compact_text (object_of now queued)
    → pushed ≡ old ++ shown object → new ≡ pushed ++ 10 ∷ [] → new ≡ old ++ object_line now queued
line_added now queued object old pushed new is pushed_is new_is =
    let text : List ℕ = compact_text (object_of now queued) in
    let shown_is : shown object ≡ text = ap shown is ∙ shown_printable text (object_printable now queued) in
    new_is ∙ ap (λ l. l ++ 10 ∷ []) (pushed_is ∙ ap (λ l. old ++ l) shown_is) ∙ append_assoc old text (10 ∷ [])

-- the line of one key more
pub one_more : (now : ℕ) (table : RouteTable) (queue : Queue) (keys : List (ℕ × ℕ × ℕ)) (i : ℕ) (d : ℕ × ℕ × ℕ) (old new : List ℕ) → i < length keys
    → old ≡ objects_text now table queue (take i keys)
    → new ≡ old ++ object_at now table queue ((get_or keys i d).1, (get_or keys i d).2)
    → new ≡ objects_text now table queue (take (i + 1) keys)
one_more now table queue keys i d old new more so_far is =
    let line_of : ℕ × ℕ × ℕ → List ℕ = λ key. object_at now table queue (key.1, key.2) in
    is ∙ ap (λ l. l ++ line_of (get_or keys i d)) so_far ∙ flat_map_more line_of [] (take i keys) (get_or keys i d)
    ∙ ap (flat_map line_of) (sym (take_more keys i d more))

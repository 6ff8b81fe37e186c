-- What is listed stays so, place by place and message by message.
use Rattle.std.proofs.Common.{◌≡◌, ◌≢◌, ◌⊎◌, inl, inr, ℕ, ◌+◌, ◌<◌, ◌≤◌, zero, suc, eqb, Bool, true, false, List, [], ◌∷◌, ◌++◌, length, drop, MatchOption, Option, None, Some, refl, sym, ap, subst, ◌∙◌, arith, if◌then◌else◌}
use Rattle.std.specs.Prelude.{◌||◌, ◌&&◌, bytes_eq, slice_get, slice_index_or, slice_set}
use Rattle.std.specs.List.{list_any}
use Rattle.std.specs.Option.{option_map_or}
use Rattle.std.proofs.lemmas.Bool.{cases_lt}
use Rattle.std.proofs.lemmas.Bool.Decides.{eqb_tells}
use Rattle.std.proofs.lemmas.Slice.Eq.{bytes_eq-Decides}
use Rattle.std.proofs.lemmas.List.Folds.{list_any-append}
use Rattle.std.specs.declared.net.socket_addr.SocketAddrV4.{SocketAddrV4}
use Rattle.relay_routes.specs.Routes.{RouteTable}
use Rattle.relay_routes.specs.declared.hop.Hop.{Hop as NextHop}
use Rattle.relay_book.specs.Queue.{message_of}
use Rattle.relay_book.specs.declared.change.Accept.{Accept as AcceptFields}
use Rattle.relay_book.specs.declared.message.Message.{Message}
use Rattle.relay_book.specs.declared.message.Place.{Place}
use Rattle.relay_control.specs.Held.{holds}
use Rattle.relay_node.specs.Node.{NodeState}
use Rattle.relay_next_hops.specs.Lanes.{IsListedUnroutable, KeepsCounts, ListsMore, tasks_at}
use Rattle.relay_lanes.specs.Lane.{tasks_of, with_last}
use Rattle.relay_next_hops.specs.Listing.{ArePlacesListed, AreListedFrom, HasConnection, HasEarlyTurn, IsDueListed, IsListed, IsListedFor, IsPlaceListed, KeepsListed, Waits, WaitsEarly, route_of}
use Rattle.relay_lanes.specs.Lane.{is_early_for, is_for}
use Rattle.relay_next_hops.specs.declared.hop.Hop.{Hop}
use Rattle.relay_lanes.specs.declared.lane.Lane.{Lane}
use Rattle.relay_lanes.specs.declared.lane.Task.{Task}
use Rattle.relay_next_hops.specs.declared.lanes.Lanes.{Lanes}

-- one that passes stays among more
pub any_front : {A : Type 0} (p : A → Bool) (xs ys : List A) → list_any p xs ≡ true → list_any p (xs ++ ys) ≡ true
any_front p xs ys passes = list_any-append p xs ys ∙ ap (λ passes. passes || list_any p ys) passes

or_last : (b : Bool) → (b || true) ≡ true
or_last true = refl
or_last false = refl

-- the last passes
pub any_last : {A : Type 0} (p : A → Bool) (xs : List A) (x : A) → p x ≡ true → list_any p (xs ++ x ∷ []) ≡ true
any_last p xs x passes =
    list_any-append p xs (x ∷ []) ∙ ap (λ passes. list_any p xs || (passes || false)) passes ∙ or_last (list_any p xs)

-- what is found in a list where one was set
pub get_own : {A : Type 0} (xs : List A) (n : ℕ) (x before : A) → slice_get xs n ≡ Some before → slice_get (slice_set xs n x) n ≡ Some x
get_own [] n x before there = absurd (cc there)
get_own (y ∷ ys) zero x before there = refl
get_own (y ∷ ys) (suc n) x before there = get_own ys n x before there

pub get_beside : {A : Type 0} (xs : List A) (n : ℕ) (x : A) (other : ℕ) → other ≢ n → slice_get (slice_set xs n x) other ≡ slice_get xs other
get_beside [] n x other apart = refl
get_beside (y ∷ ys) zero x zero apart = absurd (apart refl)
get_beside (y ∷ ys) zero x (suc other) apart = refl
get_beside (y ∷ ys) (suc n) x zero apart = refl
get_beside (y ∷ ys) (suc n) x (suc other) apart = get_beside ys n x other (λ same. apart (ap suc same))

pub get_at : {A : Type 0} (xs : List A) (n : ℕ) (other : A) → n < length xs → slice_get xs n ≡ Some (slice_index_or xs n other)
get_at [] n other low = absurd (omega (arith, low))
get_at (x ∷ xs) zero other low = refl
get_at (x ∷ xs) (suc n) other low = get_at xs n other (omega (arith, low))

-- what is found at the head of what is left
pub get_dropped : {A : Type 0} (xs : List A) (n : ℕ) (x : A) (ys : List A) → drop n xs ≡ x ∷ ys
    → slice_get xs n ≡ Some x
get_dropped [] zero x ys is = absurd (cc is)
get_dropped [] (suc n) x ys is = absurd (cc is)
get_dropped (first ∷ xs) zero x ys is = cc is
get_dropped (first ∷ xs) (suc n) x ys is = get_dropped xs n x ys is

pub left_dropped : {A : Type 0} (xs : List A) (n : ℕ) (x : A) (ys : List A) → drop n xs ≡ x ∷ ys → ys ≡ drop (suc n) xs
left_dropped [] zero x ys is = absurd (cc is)
left_dropped [] (suc n) x ys is = absurd (cc is)
left_dropped (first ∷ xs) zero x ys is = cc is
left_dropped (first ∷ xs) (suc n) x ys is = left_dropped xs n x ys is

-- a lane without a task that is added changes no lane's tasks
pub tasks_pushed : (lanes : List Lane) (lane : Lane) → tasks_of lane ≡ [] → (number : ℕ) → option_map_or tasks_of (slice_get (lanes ++ lane ∷ []) number) [] ≡ option_map_or tasks_of (slice_get lanes number) []
tasks_pushed [] lane none zero = none
tasks_pushed [] lane none (suc number) = refl
tasks_pushed (first ∷ lanes) lane none zero = refl
tasks_pushed (first ∷ lanes) lane none (suc number) = tasks_pushed lanes lane none number

-- nor does one that may have been added
pub tasks_grown : (lanes new : List Lane) (lane : Lane) (ok : Bool) → tasks_of lane ≡ [] → new ≡ (if ok then lanes ++ lane ∷ [] else lanes) → (number : ℕ) → option_map_or tasks_of (slice_get new number) [] ≡ option_map_or tasks_of (slice_get lanes number) []
tasks_grown lanes new lane true none is number = ap (λ (lanes : List Lane). option_map_or tasks_of (slice_get lanes number) []) is ∙ tasks_pushed lanes lane none number
tasks_grown lanes new lane false none is number = ap (λ (lanes : List Lane). option_map_or tasks_of (slice_get lanes number) []) is

-- where a lane has a task more, what waited still does
pub set_waits : (p : Task → Bool) (lanes : List Lane) (number : ℕ) (before after : Lane) → before ≡ slice_index_or lanes number before → (list_any p (tasks_of before) ≡ true → list_any p (tasks_of after) ≡ true) → (lane : ℕ) → list_any p (option_map_or tasks_of (slice_get lanes lane) []) ≡ true → list_any p (option_map_or tasks_of (slice_get (slice_set lanes number after) lane) []) ≡ true
set_waits p [] number before after is more lane waits = waits
set_waits p (first ∷ lanes) zero before after is more zero waits = more (subst (λ (lane : Lane). list_any p (tasks_of lane) ≡ true) (sym is) waits)
set_waits p (first ∷ lanes) zero before after is more (suc lane) waits = waits
set_waits p (first ∷ lanes) (suc number) before after is more zero waits = waits
set_waits p (first ∷ lanes) (suc number) before after is more (suc lane) waits = set_waits p lanes number before after is more lane waits

pub set_own : (p : Task → Bool) (lanes : List Lane) (number : ℕ) (after : Lane) → number < length lanes → list_any p (tasks_of after) ≡ true → list_any p (option_map_or tasks_of (slice_get (slice_set lanes number after) number) []) ≡ true
set_own p [] number after low waits = absurd (omega (arith, low))
set_own p (first ∷ lanes) zero after low waits = waits
set_own p (first ∷ lanes) (suc number) after low waits = set_own p lanes number after (omega (arith, low)) waits

-- of no tasks none is first
or_more : (a b c : Bool) → (a || b) ≡ true → (a || (c || b)) ≡ true
or_more true b c passes = refl
or_more false b true passes = refl
or_more false b false passes = passes

or_mid : (a b : Bool) → (a || (true || b)) ≡ true
or_mid true b = refl
or_mid false b = refl

-- one that is put among others leaves those that are there, and passes itself
any_more : {A : Type 0} (p : A → Bool) (xs ys : List A) (x : A) → list_any p (xs ++ ys) ≡ true → list_any p (xs ++ x ∷ ys) ≡ true
any_more p xs ys x passes =
    list_any-append p xs (x ∷ ys)
    ∙ or_more (list_any p xs) (list_any p ys) (p x) (sym (list_any-append p xs ys) ∙ passes)

any_mid : {A : Type 0} (p : A → Bool) (xs ys : List A) (x : A) → p x ≡ true → list_any p (xs ++ x ∷ ys) ≡ true
any_mid p xs ys x passes =
    list_any-append p xs (x ∷ ys) ∙ ap (λ passes. list_any p xs || (passes || list_any p ys)) passes ∙ or_mid (list_any p xs) (list_any p ys)

last_more : (p : Task → Bool) (lane : Lane) (task : Task) → list_any p (tasks_of lane) ≡ true → list_any p (with_last task lane) ≡ true
last_more p lane task waits = by task.early where
  by : (early : Bool) → list_any p (if early then lane.early.items ++ task ∷ lane.tasks.items else tasks_of lane ++ task ∷ []) ≡ true
  by true = any_more p lane.early.items lane.tasks.items task waits
  by false = any_front p (tasks_of lane) (task ∷ []) waits

last_own : (p : Task → Bool) (lane : Lane) (task : Task) → p task ≡ true → list_any p (with_last task lane) ≡ true
last_own p lane task passes = by task.early where
  by : (early : Bool) → list_any p (if early then lane.early.items ++ task ∷ lane.tasks.items else tasks_of lane ++ task ∷ []) ≡ true
  by true = any_mid p lane.early.items lane.tasks.items task passes
  by false = any_last p (tasks_of lane) task passes

-- a task that may have been added leaves those that are there
pub pushed_more : (p : Task → Bool) (pushed : Bool) (old new : Lane) (task : Task) → (pushed ≡ true → tasks_of new ≡ with_last task old) → (pushed ≡ false → tasks_of new ≡ tasks_of old) → list_any p (tasks_of old) ≡ true → list_any p (tasks_of new) ≡ true
pushed_more p true old new task added same waits = ap (list_any p) (added refl) ∙ last_more p old task waits
pushed_more p false old new task added same waits = ap (list_any p) (same refl) ∙ waits

-- a lane whose two kinds of tasks stay has the same tasks
pub tasks_failed : (old new : Lane) → new.early.items ≡ old.early.items → new.tasks.items ≡ old.tasks.items → tasks_of new ≡ tasks_of old
tasks_failed old new early tasks = ap (λ early. early ++ new.tasks.items) early ∙ ap (λ tasks. old.early.items ++ tasks) tasks

-- and is there itself
pub pushed_own : (p : Task → Bool) (old new : Lane) (task : Task) → tasks_of new ≡ with_last task old → p task ≡ true → list_any p (tasks_of new) ≡ true
pushed_own p old new task added passes = ap (list_any p) added ∙ last_own p old task passes

-- a task is for its own message and next hop
pub is_own : (message : ℕ) (name hop : List ℕ) (early : Bool) → hop ≡ name → is_for message name (record { message = message; hop = hop; early = early }) ≡ true
is_own message name hop early same = by (eqb_tells message message) where
  by : ((eqb message message ≡ true) × (message ≡ message)) ⊎ ((eqb message message ≡ false) × (message ≢ message)) → is_for message name (record { message = message; hop = hop; early = early }) ≡ true
  by (inl own) = ap (λ same. same && bytes_eq hop name) own.0 ∙ ap (λ hop. bytes_eq hop name) same ∙ (bytes_eq-Decides name name).1 refl
  by (inr apart) = absurd (apart.1 refl)

-- a match on what is there, and on what isn't
pub match_some : {A : Type 0} (none : Type 0) (some : A → Type 0) (found : Option A) (x : A) → Some x ≡ found → some x → MatchOption found none some
match_some {A = A} none some found x is holds = subst (λ (found : Option A). MatchOption found none some) is holds

pub match_none : {A : Type 0} (none : Type 0) (some : A → Type 0) (found : Option A) → None ≡ found → none → MatchOption found none some
match_none {A = A} none some found is holds = subst (λ (found : Option A). MatchOption found none some) is holds

pub same_found : {A : Type 0} (found : Option A) (one other : A) → found ≡ Some one → found ≡ Some other → one ≡ other
same_found found one other is also = cc (sym is ∙ also)

-- Lanes keep what they had, and may have more.
module _ (old new : Lanes) (more : ListsMore old new) (kept : KeepsListed old new) where
  pub for_kept : {S : Type 0} (hops : List (Option (Hop S))) (message : ℕ) (name : List ℕ) (at : SocketAddrV4) → IsListedFor hops message name at old → IsListedFor hops message name at new
  for_kept hops message name at (inl turn) = inl (turn.0, more.places turn.0 at turn.1, by turn.2) where
    by : Waits message name old turn.0 ⊎ HasConnection hops message name turn.0 → Waits message name new turn.0 ⊎ HasConnection hops message name turn.0
    by (inl waits) = inl (kept.tasks (is_for message name) turn.0 waits)
    by (inr has) = inr has
  for_kept hops message name at (inr stale) = inr (kept.stale stale)

  pub early_kept : {S : Type 0} (hops : List (Option (Hop S))) (message : ℕ) (name : List ℕ) (at : SocketAddrV4) → HasEarlyTurn hops message name at old → HasEarlyTurn hops message name at new
  early_kept hops message name at turn = (turn.0, more.places turn.0 at turn.1, by turn.2) where
    by : WaitsEarly message name old turn.0 ⊎ HasConnection hops message name turn.0 → WaitsEarly message name new turn.0 ⊎ HasConnection hops message name turn.0
    by (inl waits) = inl (kept.tasks (is_early_for message name) turn.0 waits)
    by (inr has) = inr has

  pub place_kept : {S : Type 0} (hops : List (Option (Hop S))) (moment : ℕ) (table : RouteTable) (message : ℕ) (accept : AcceptFields) (index : ℕ) (place : Place) → IsPlaceListed hops moment table message accept index place old → IsPlaceListed hops moment table message accept index place new
  place_kept hops moment table message accept index place listed held = by (route_of table accept.envelope.recipients index) (listed held) where
    due_kept : (hop : NextHop) → IsDueListed hops moment message accept.at hop old → IsDueListed hops moment message accept.at hop new
    due_kept hop listed = (
      λ free. for_kept hops message hop.name hop.at (listed.0 (sym (ap (holds hop.name message) more.held) ∙ free)),
      λ is over. kept.unroutable message (listed.1 (sym (ap (holds hop.name message) more.held) ∙ is) over),
    )

    by : (hop : Option NextHop) → MatchOption hop (IsListedUnroutable message old) (λ hop. place.due ≤ moment → IsDueListed hops moment message accept.at hop old) → MatchOption hop (IsListedUnroutable message new) (λ hop. place.due ≤ moment → IsDueListed hops moment message accept.at hop new)
    by None listed = kept.unroutable message listed
    by (Some hop) listed = λ due. due_kept hop (listed due)

  pub places_kept : {S : Type 0} (hops : List (Option (Hop S))) (moment : ℕ) (table : RouteTable) (message : ℕ) (accept : AcceptFields) (places : List Place) (count : ℕ) → ArePlacesListed hops moment table message accept places count old → ArePlacesListed hops moment table message accept places count new
  places_kept hops moment table message accept places count listed index place low there =
      place_kept hops moment table message accept index place (listed index place low there)

  -- one place more is listed
  pub places_next : {S : Type 0} (hops : List (Option (Hop S))) (moment : ℕ) (table : RouteTable) (message : ℕ) (accept : AcceptFields) (places : List Place) (index : ℕ) (place : Place) → slice_get places index ≡ Some place → ArePlacesListed hops moment table message accept places index old → IsPlaceListed hops moment table message accept index place new → ArePlacesListed hops moment table message accept places (index + 1) new
  places_next hops moment table message accept places index place is before own other standing below there = by (cases_lt other index) where
    by : (other < index) ⊎ (index ≤ other) → IsPlaceListed hops moment table message accept other standing new
    by (inl low) = place_kept hops moment table message accept other standing (before other standing low there)
    by (inr high) = subst (λ (other : ℕ). IsPlaceListed hops moment table message accept other standing new) same (subst (λ (place : Place). IsPlaceListed hops moment table message accept index place new) (same_found (slice_get places index) place standing is (ap (slice_get places) same ∙ there)) own) where
      same : index ≡ other
      same = omega (arith, below, high)

  pub message_kept : {S D : Type 0} (hops : List (Option (Hop S))) (moment : ℕ) (node : NodeState D) (number : ℕ) → IsListed hops moment node number old → IsListed hops moment node number new
  message_kept hops moment node number listed = by (message_of node.records.queue.messages number) listed where
    by : (message : Option Message) → MatchOption message (Unit {0}) (λ message. ArePlacesListed hops moment node.config.routes number message.accept message.places (length message.places) old) → MatchOption message (Unit {0}) (λ message. ArePlacesListed hops moment node.config.routes number message.accept message.places (length message.places) new)
    by None listed = tt
    by (Some message) listed = places_kept hops moment node.config.routes number message.accept message.places (length message.places) listed

  -- one message more is listed
  pub messages_next : {S D : Type 0} (hops : List (Option (Hop S))) (moment : ℕ) (node : NodeState D) (first number : ℕ) → AreListedFrom hops moment node first number old → IsListed hops moment node number new → AreListedFrom hops moment node first (number + 1) new
  messages_next hops moment node first number before own other from below = by (cases_lt other number) where
    by : (other < number) ⊎ (number ≤ other) → IsListed hops moment node other new
    by (inl low) = message_kept hops moment node other (before other from low)
    by (inr high) = subst (λ (other : ℕ). IsListed hops moment node other new) same own where
      same : number ≡ other
      same = omega (arith, below, high)

  -- and one of a walk
  pub walk_next : {S D : Type 0} (hops : List (Option (Hop S))) (moment : ℕ) (node : NodeState D) (walk : List ℕ) (size number : ℕ) → slice_get walk size ≡ Some number → ((step other : ℕ) → step < size → slice_get walk step ≡ Some other → IsListed hops moment node other old) → IsListed hops moment node number new → (step other : ℕ) → step < size + 1 → slice_get walk step ≡ Some other → IsListed hops moment node other new
  walk_next hops moment node walk size number is before own step other below there = by (cases_lt step size) where
    by : (step < size) ⊎ (size ≤ step) → IsListed hops moment node other new
    by (inl low) = message_kept hops moment node other (before step other low there)
    by (inr high) = subst (λ (other : ℕ). IsListed hops moment node other new) (same_found (slice_get walk size) number other is (ap (slice_get walk) same ∙ there)) own where
      same : size ≡ step
      same = omega (arith, below, high)

-- what two changes after one another keep
pub more_then : (old between new : Lanes) → ListsMore old between → ListsMore between new → ListsMore old new
more_then old between new one other = record {
  held = other.held ∙ one.held;
  places = λ number place there. other.places number place (one.places number place there);
  runs = λ number. other.runs number ∙ one.runs number;
}

pub kept_then : (old between new : Lanes) → KeepsListed old between → KeepsListed between new → KeepsListed old new
kept_then old between new one other = record {
  tasks = λ test lane waits. other.tasks test lane (one.tasks test lane waits);
  unroutable = λ message listed. other.unroutable message (one.unroutable message listed);
  stale = λ stale. other.stale (one.stale stale);
}

-- lanes whose places and counts stay have no fewer
pub more_of : (old new : Lanes) → KeepsCounts old new → ListsMore old new
more_of old new counts = record {
  held = counts.held;
  places = λ number place there. ap (λ places. slice_get places number) counts.places ∙ there;
  runs = counts.runs;
}

-- where all lanes have the same tasks, the same is listed
pub kept_of : (old new : Lanes) → ((lane : ℕ) → tasks_at new lane ≡ tasks_at old lane) → ((message : ℕ) → IsListedUnroutable message old → IsListedUnroutable message new) → (old.is_stale ≡ true → new.is_stale ≡ true) → KeepsListed old new
kept_of old new tasks unroutable stale = record {
  tasks = λ test lane waits. ap (list_any test) (tasks lane) ∙ waits;
  unroutable = unroutable;
  stale = stale;
}

-- No task is dropped while one after another is tried: what was settled stays so, and each other one stays listed.
use Rattle.std.proofs.Common.{◌≡◌, ◌≢◌, ◌⊎◌, inl, inr, ℕ, zero, suc, ◌<◌, Bool, true, false, List, [], ◌∷◌, ◌++◌, length, MatchOption, Option, None, Some, refl, sym, ap, subst, ◌∙◌, arith, if◌then◌else◌}
use Rattle.std.specs.Prelude.{◌==◌, Contains, slice_get, slice_index_or, slice_set}
use Rattle.std.specs.List.{list_any}
use Rattle.std.specs.Option.{option_map_or}
use Rattle.std.proofs.lemmas.Bool.{cases_eq}
use Rattle.std.proofs.lemmas.List.Elements.{Contains-append_cases, Contains-append_left, Contains-append_right}
use Rattle.std.specs.declared.net.socket_addr.SocketAddrV4.{SocketAddrV4}
use Rattle.relay_disk.specs.Device.{DiskWords}
use Rattle.relay_slots.specs.Slots.{slot_at}
use Rattle.relay_routes.specs.Routes.{place_of}
use Rattle.relay_limits.specs.declared.pace.Pace.{Pace}
use Rattle.relay_limits.specs.Pace.{IsHeld, MayBegin}
use Rattle.relay_control.specs.Held.{holds}
use Rattle.relay_control.specs.declared.held.Held.{Held}
use Rattle.relay_loop.specs.Relay.{RelayState}
use Rattle.relay_connections.specs.Served.{LeavesClients}
use Rattle.relay_connections.specs.declared.channel.Channel.{Channel}
use Rattle.relay_connections.specs.declared.clocks.Now.{Now}
use Rattle.relay_connections.proofs.Theorems.{leaves_then}
use Rattle.relay_lanes.specs.Lane.{tasks_of, with_first}
use Rattle.relay_lanes.specs.Numbers.{Walk}
use Rattle.relay_lanes.specs.Paces.{IsHeldAt, MayBeginAt}
use Rattle.relay_lanes.specs.declared.lane.Lane.{Lane}
use Rattle.relay_lanes.specs.declared.lane.Task.{Task}
use Rattle.relay_next_hops.specs.Lanes.{IsPutBack, OnlyLane, tasks_at}
use Rattle.relay_next_hops.specs.Losses.{EndsLost}
use Rattle.relay_next_hops.specs.Overdue.{TakesOut}
use Rattle.relay_next_hops.specs.Starting.{ConnectsFor, FailsFor, IsTried}
use Rattle.relay_next_hops.specs.Tasks.{DropsNone, IsAccountedFor, IsSettled, KeepsConnections, KeepsTasks, SettlesAll}
use Rattle.relay_next_hops.specs.declared.delivery.Aim.{Aim}
use Rattle.relay_next_hops.specs.declared.hop.Hop.{Hop}
use Rattle.relay_next_hops.specs.declared.lanes.Lanes.{Lanes}
use Rattle.relay_next_hops.specs.declared.starting.Tried.{Tried}
use Rattle.relay_next_hops.specs.declared.starting.Tried.TheVariants.{Connects, Wants, Fails, HasNoPlace}
use Rattle.relay_next_hops.proofs.LeaveLemmas.{leaves_same}
use Rattle.relay_next_hops.proofs.ListingLemmas.{get_at, get_own}
use Rattle.relay_next_hops.proofs.SlotLemmas.{set_beside, set_there}

only_one : {X : Type 0} (a x : X) → Contains (a ∷ []) x → a ≡ x
only_one a x (zero, low, is) = is
only_one a x (suc k, low, is) = absurd (omega (arith, low))

in_front : {X : Type 0} (a : X) (xs : List X) (x : X) → Contains xs x → Contains (a ∷ xs) x
in_front a xs x there = Contains-append_right (a ∷ []) xs x there

at_front : {X : Type 0} (a : X) (xs : List X) → Contains (a ∷ xs) a
at_front a xs = (zero, omega arith, refl)

-- what stands in a list is its first, or stands after it
pub first_or_rest : {X : Type 0} (all : List X) (a : X) (rest : List X) → all ≡ a ∷ rest → (x : X) → Contains all x → (a ≡ x) ⊎ Contains rest x
first_or_rest {X} all a rest split x there = by (Contains-append_cases (a ∷ []) rest x (subst (λ (xs : List X). Contains xs x) split there)) where
  by : Contains (a ∷ []) x ⊎ Contains rest x → (a ≡ x) ⊎ Contains rest x
  by (inl own) = inl (only_one a x own)
  by (inr other) = inr other

-- it is the one that was taken out, or stands in the list without it
one_or_rest : {X : Type 0} (all before : List X) (a : X) (rest new : List X) → all ≡ before ++ a ∷ rest → new ≡ before ++ rest → (x : X) → Contains all x → (a ≡ x) ⊎ Contains new x
one_or_rest {X} all before a rest new split gone x there = by (Contains-append_cases before (a ∷ rest) x (subst (λ (xs : List X). Contains xs x) split there)) where
  still : Contains (before ++ rest) x → (a ≡ x) ⊎ Contains new x
  still stands = inr (subst (λ (xs : List X). Contains xs x) (sym gone) stands)

  by : Contains before x ⊎ Contains (a ∷ rest) x → (a ≡ x) ⊎ Contains new x
  by (inl front) = still (Contains-append_left before rest x front)
  by (inr own) = by_own (first_or_rest (a ∷ rest) a rest refl x own) where
    by_own : (a ≡ x) ⊎ Contains rest x → (a ≡ x) ⊎ Contains new x
    by_own (inl is) = inl is
    by_own (inr back) = still (Contains-append_right before rest x back)

-- a task that was put before the others of its kind, and the others
first_there : (task : Task) (lane : Lane) → Contains (with_first task lane) task
first_there task lane = by task.early where
  by : (early : Bool)
      → Contains (if early then task ∷ tasks_of lane else lane.early.items ++ task ∷ lane.tasks.items) task
  by true = at_front task (tasks_of lane)
  by false = Contains-append_right lane.early.items (task ∷ lane.tasks.items) task (at_front task lane.tasks.items)

first_kept : (task : Task) (lane : Lane) (other : Task) → Contains (tasks_of lane) other → Contains (with_first task lane) other
first_kept task lane other there = by task.early where
  split : Contains lane.early.items other ⊎ Contains lane.tasks.items other → Contains (lane.early.items ++ task ∷ lane.tasks.items) other
  split (inl early) = Contains-append_left lane.early.items (task ∷ lane.tasks.items) other early
  split (inr rest) = Contains-append_right lane.early.items (task ∷ lane.tasks.items) other (in_front task lane.tasks.items other rest)

  by : (early : Bool)
      → Contains (if early then task ∷ tasks_of lane else lane.early.items ++ task ∷ lane.tasks.items) other
  by true = in_front task (tasks_of lane) other there
  by false = split (Contains-append_cases lane.early.items lane.tasks.items other there)

-- the same tasks
pub same_tasks : (lane : ℕ) (old new : Lanes) → new.lanes ≡ old.lanes → KeepsTasks lane old new
same_tasks lane old new same task there = subst (λ lanes. Contains (option_map_or tasks_of (slice_get lanes.items lane) []) task) (sym same) there

-- A task was put back into a lane, if there was memory for it: the others stay in it.
pub put_kept : (lanes : List Lane) (number : ℕ) (task : Task) (before after : Lane) (result : Bool) → number < length lanes → before ≡ slice_index_or lanes number before → (result ≡ true → tasks_of after ≡ with_first task before) → (result ≡ false → tasks_of after ≡ tasks_of before) → (other : Task) → Contains (option_map_or tasks_of (slice_get lanes number) []) other → Contains (option_map_or tasks_of (slice_get (slice_set lanes number after) number) []) other
put_kept lanes number task before after result low value pushed failed other has =
    subst (λ (lane : Option Lane). Contains (option_map_or tasks_of lane []) other) (sym (get_own lanes number after before there)) (by result refl) where
      there : slice_get lanes number ≡ Some before
      there = get_at lanes number before low ∙ ap Some (sym value)

      had : Contains (tasks_of before) other
      had = subst (λ (lane : Option Lane). Contains (option_map_or tasks_of lane []) other) there has

      by : (is : Bool) → result ≡ is → Contains (tasks_of after) other
      by true is = subst (λ (tasks : List Task). Contains tasks other) (sym (pushed is))
          (first_kept task before other had)
      by false is = subst (λ (tasks : List Task). Contains tasks other) (sym (failed is)) had

-- there is a lane that has a task
pub has_lane_first : (lanes : Lanes) (lane : ℕ) (task : Task) (rest : List Task) → tasks_at lanes lane ≡ task ∷ rest → slice_get lanes.lanes.items lane ≡ None → ⊥
has_lane_first lanes lane task rest first none = cc (sym first ∙ ap (λ (lane : Option Lane). option_map_or tasks_of lane []) none)

-- connections stay
pub same_stand : {S : Type 0} (old new : List (Option (Hop S))) → new ≡ old → KeepsConnections old new
same_stand old new same number hop there = ap (λ (hops : List (Option (Hop _))). slot_at hops number) same ∙ there

put_stand : {S : Type 0} (hops : List (Option (Hop S))) (number : ℕ) (hop : Hop S) → slot_at hops number ≡ None → KeepsConnections hops (slice_set hops number (Some hop))
put_stand {S} hops number hop free other standing there = by (cases_eq other number) where
  by : (other ≡ number) ⊎ (other ≡ number → ⊥) → slot_at (slice_set hops number (Some hop)) other ≡ Some standing
  by (inl same) = absurd (cc (sym there ∙ ap (slot_at hops) same ∙ free))
  by (inr apart) = set_beside hops number (Some hop) other apart ∙ there

pub stand_then : {S : Type 0} (old between new : List (Option (Hop S))) → KeepsConnections old between → KeepsConnections between new → KeepsConnections old new
stand_then old between new one other number hop there = other number hop (one number hop there)

not_both : (most tick : ℕ) (pace : Option Pace) → MatchOption pace ⊥ (MayBegin most tick) → MatchOption pace ⊥ (λ pace. IsHeld pace.hold tick) → ⊥
not_both most tick None may held = may
not_both most tick (Some pace) may held = may.alone held

-- A task that has a lane was put back, or failed at once.
module _ {D : Type 0} (honest : Type 0) (words : DiskWords D) (now : Now) (lane : ℕ) (task : Task) (lanes_old lanes_new : Lanes) (old new : RelayState D) where
  put_back_settled : lanes_new.queued ≡ lanes_old.queued → (slice_get lanes_old.lanes.items lane ≡ None → ⊥) → IsPutBack lane task lanes_old lanes_new → IsSettled honest words now.moment lane task lanes_new old new
  put_back_settled same stays (inl back) = inl (by (slice_get lanes_old.lanes.items lane) refl) where
    by : (there : Option Lane) → slice_get lanes_old.lanes.items lane ≡ there → Contains (tasks_at lanes_new lane) task
    by None none = absurd (stays none)
    by (Some its) some = subst (λ (tasks : List Task). Contains tasks task) (sym (back ∙ ap (λ (lane : Option Lane). option_map_or (with_first task) lane []) some)) (first_there task its)
  put_back_settled same stays (inr (inl comes)) = inr (inl (ap (λ (walk : Walk). list_any (λ message. message == task.message) walk.left) same ∙ comes))
  put_back_settled same stays (inr (inr (inl stale))) = inr (inr (inl stale))
  put_back_settled same stays (inr (inr (inr none))) = absurd (stays none)

  failed_settled : (most : ℕ) → MayBeginAt most now.tick lanes_old.paces lane → LeavesClients honest words old new → FailsFor words now lane task lanes_old.paces old new → IsSettled honest words now.moment lane task lanes_new old new
  failed_settled most may leaves fails = by fails.lost where
    by : EndsLost words now fails.delivery lanes_old.paces old new → IsSettled honest words now.moment lane task lanes_new old new
    by (inl held) = absurd (not_both most now.tick (slice_get lanes_old.paces lane) may (subst (λ (lane : ℕ). IsHeldAt now.tick lanes_old.paces lane) fails.its_lane held.1))
    by (inr recorded) = inr (inr (inr (inr (inr (record {
      before = old;
      after = new;
      first = leaves_same honest words old;
      lost = record { delivery = fails.delivery; of_task = fails.of_task; lost = recorded };
      meanwhile = leaves;
      last = leaves_same honest words new;
    })))))

-- A task of a lane was tried, under a number that was free.
module _ {D S : Type 0} (words : DiskWords D) (Opened : SocketAddrV4 → Channel S → Type 0) (now : Now) (lane number : ℕ) (task : Task) (hops_old hops_new : List (Option (Hop S))) (lanes_old lanes_new : Lanes) (old new : RelayState D) where
  pub tried_stand : (tried : Tried) → IsTried words Opened now lane number task hops_old hops_new lanes_old lanes_new old new tried → slot_at hops_old number ≡ None → KeepsConnections hops_old hops_new
  tried_stand Connects is free =
      let connects : ConnectsFor Opened lane number task hops_old hops_new lanes_old lanes_new old = is.0 in
      subst (KeepsConnections hops_old) (sym connects.puts.put) (put_stand hops_old number connects.puts.hop free)
  tried_stand Wants is free = same_stand hops_old hops_new is.2
  tried_stand Fails is free = same_stand hops_old hops_new is.2
  tried_stand HasNoPlace is free = same_stand hops_old hops_new is.2

  pub tried_accounts : (honest : Type 0) (tried : Tried) → IsTried words Opened now lane number task hops_old hops_new lanes_old lanes_new old new tried → number < length hops_old → OnlyLane lane lanes_old lanes_new → (slice_get lanes_old.lanes.items lane ≡ None → ⊥) → (most : ℕ) → MayBeginAt most now.tick lanes_old.paces lane → LeavesClients honest words old new → IsAccountedFor honest words now.moment hops_new lane task lanes_new old new
  tried_accounts honest Connects is low only stays most may leaves =
      let connects : ConnectsFor Opened lane number task hops_old hops_new lanes_old lanes_new old = is.0 in
      inl (record {
        number = number;
        hop = connects.puts.hop;
        there = ap (λ (hops : List (Option (Hop S))). slot_at hops number) connects.puts.put ∙ set_there hops_old number (Some connects.puts.hop) low;
        its_message = connects.puts.its_message;
        its_name = connects.puts.its_name;
        its_lane = ap (λ (aim : Aim). aim.lane) connects.puts.its_aim ∙ connects.its_lane;
      })
  tried_accounts honest Wants is low only stays most may leaves = inr (put_back_settled honest words now lane task lanes_old lanes_new old new only.walk stays is.0)
  tried_accounts honest Fails is low only stays most may leaves = inr (failed_settled honest words now lane task lanes_old lanes_new old new most may leaves is.0)
  tried_accounts honest HasNoPlace is low only stays most may leaves = inr (inr (inr (inr (inr (inl is.0)))))

-- One task has left its lane, and it is accounted for; the others stay listed.
module _ (lane : ℕ) (task : Task) (old new : Lanes) (others : (other : ℕ) → other ≢ lane → tasks_at new other ≡ tasks_at old other) (either : (one : Task) → Contains (tasks_at old lane) one → (task ≡ one) ⊎ Contains (tasks_at new lane) one) (P : ℕ → Task → Type 0) (listed : (lane : ℕ) (one : Task) → Contains (tasks_at new lane) one → P lane one) (own : P lane task) where
  pub each_but : (other : ℕ) (one : Task) → Contains (tasks_at old other) one → P other one
  each_but other one there = by (cases_eq other lane) where
    by : (other ≡ lane) ⊎ (other ≡ lane → ⊥) → P other one
    by (inl same) = subst (λ (lane : ℕ). P lane one) (sym same) (in_lane (either one (subst (λ (lane : ℕ). Contains (tasks_at old lane) one) same there))) where
      in_lane : (task ≡ one) ⊎ Contains (tasks_at new lane) one → P lane one
      in_lane (inl is) = subst (P lane) is own
      in_lane (inr stays) = listed lane one stays
    by (inr apart) =
        listed other one (subst (λ (tasks : List Task). Contains tasks one) (sym (others other apart)) there)

-- No task has left its lane.
pub none_left_lane : (lane : ℕ) (old new : Lanes) → ((other : ℕ) → other ≢ lane → tasks_at new other ≡ tasks_at old other) → tasks_at new lane ≡ tasks_at old lane → (other : ℕ) (one : Task) → Contains (tasks_at old other) one → Contains (tasks_at new other) one
none_left_lane lane old new others own other one there = subst (λ (tasks : List Task). Contains tasks one) (sym (by (cases_eq other lane))) there where
  by : (other ≡ lane) ⊎ (other ≡ lane → ⊥) → tasks_at new other ≡ tasks_at old other
  by (inl same) = subst (λ (lane : ℕ). tasks_at new lane ≡ tasks_at old lane) (sym same) own
  by (inr apart) = others other apart

-- An overdue task has left its lane.
pub out_settles : {D : Type 0} (honest : Type 0) (words : DiskWords D) (at lane : ℕ) (task : Task) (lanes_old lanes_new : Lanes) (old new : RelayState D) → OnlyLane lane lanes_old lanes_new → TakesOut lane task lanes_old lanes_new → IsSettled honest words at lane task lanes_new old new → SettlesAll honest words at lanes_old lanes_new old new
out_settles honest words at lane task lanes_old lanes_new old new only out own =
    each_but lane task lanes_old lanes_new only.tasks
    (one_or_rest (tasks_at lanes_old lane) out.before task out.rest (tasks_at lanes_new lane) out.there out.gone)
    (λ lane one. IsSettled honest words at lane one lanes_new old new) (λ lane one there. inl there) own

-- the first task has left its lane
pub next_drops_none : {D S : Type 0} (honest : Type 0) (words : DiskWords D) (at : ℕ) (hops : List (Option (Hop S))) (lane : ℕ) (task : Task) (lanes_old between lanes_new : Lanes) (old new : RelayState D) → tasks_at lanes_old lane ≡ task ∷ tasks_at between lane → OnlyLane lane lanes_old between → OnlyLane lane between lanes_new → KeepsTasks lane between lanes_new → IsAccountedFor honest words at hops lane task lanes_new old new → DropsNone honest words at hops lanes_old lanes_new old new
next_drops_none honest words at hops lane task lanes_old between lanes_new old new first one two keeps own =
    each_but lane task lanes_old lanes_new (λ other apart. two.tasks other apart ∙ one.tasks other apart)
    (λ (other : Task) there. by other (first_or_rest (tasks_at lanes_old lane) task (tasks_at between lane) first other there))
    (λ lane one. IsAccountedFor honest words at hops lane one lanes_new old new) (λ lane one there. inr (inl there)) own where
      by : (other : Task) → (task ≡ other) ⊎ Contains (tasks_at between lane) other → (task ≡ other) ⊎ Contains (tasks_at lanes_new lane) other
      by other (inl is) = inl is
      by other (inr rest) = inr (keeps other rest)

-- What is settled in a call is settled so in one that began earlier.
settled_later : {D : Type 0} (honest : Type 0) (words : DiskWords D) (at lane : ℕ) (task : Task) (lanes : Lanes) (old mid new : RelayState D) → LeavesClients honest words old mid → IsSettled honest words at lane task lanes mid new → IsSettled honest words at lane task lanes old new
settled_later honest words at lane task lanes old mid new one (inl there) = inl there
settled_later honest words at lane task lanes old mid new one (inr (inl comes)) = inr (inl comes)
settled_later honest words at lane task lanes old mid new one (inr (inr (inl is))) = inr (inr (inl is))
settled_later honest words at lane task lanes old mid new one (inr (inr (inr (inl is)))) = inr (inr (inr (inl is)))
settled_later honest words at lane task lanes old mid new one (inr (inr (inr (inr (inl none))))) =
    inr (inr (inr (inr (inl (subst (λ config. place_of config.routes.routes task.hop ≡ None) one.config none)))))
settled_later honest words at lane task lanes old mid new one (inr (inr (inr (inr (inr gone))))) = inr (inr (inr (inr (inr (record {
  before = gone.before;
  after = gone.after;
  first = leaves_then honest words old mid gone.before one gone.first;
  lost = gone.lost;
  meanwhile = gone.meanwhile;
  last = gone.last;
})))))

-- what was accounted for in it is accounted for
accounted_later : {D S : Type 0} (honest : Type 0) (words : DiskWords D) (at : ℕ) (hops : List (Option (Hop S))) (lane : ℕ) (task : Task) (lanes : Lanes) (old mid new : RelayState D) → LeavesClients honest words old mid → IsAccountedFor honest words at hops lane task lanes mid new → IsAccountedFor honest words at hops lane task lanes old new
accounted_later honest words at hops lane task lanes old mid new one (inl connection) = inl connection
accounted_later honest words at hops lane task lanes old mid new one (inr settled) = inr (settled_later honest words at lane task lanes old mid new one settled)

-- a call that leaves all tasks listed, and then another one
pub drops_later : {D S : Type 0} (honest : Type 0) (words : DiskWords D) (at : ℕ) (hops : List (Option (Hop S))) (lanes_old lanes_mid lanes_new : Lanes) (old mid new : RelayState D) → lanes_mid.lanes ≡ lanes_old.lanes → LeavesClients honest words old mid → DropsNone honest words at hops lanes_mid lanes_new mid new → DropsNone honest words at hops lanes_old lanes_new old new
drops_later honest words at hops lanes_old lanes_mid lanes_new old mid new same one drops lane task there =
    accounted_later honest words at hops lane task lanes_new old mid new one (drops lane task (same_tasks lane lanes_old lanes_mid same task there))

-- A call that accounts for all tasks, and then another one that leaves what is held and the walk as they are.
module _ {D S : Type 0} (honest : Type 0) (words : DiskWords D) (at : ℕ) (hops_mid hops_new : List (Option (Hop S))) (lanes_old lanes_mid lanes_new : Lanes) (old mid new : RelayState D) (same_held : lanes_new.held ≡ lanes_mid.held) (same_walk : lanes_new.queued ≡ lanes_mid.queued) (stale : lanes_mid.is_stale ≡ true → lanes_new.is_stale ≡ true) (stand : KeepsConnections hops_mid hops_new) (one : LeavesClients honest words old mid) (two : LeavesClients honest words mid new) where
  settled_still : (lane : ℕ) (task : Task) → (Contains (tasks_at lanes_mid lane) task → IsAccountedFor honest words at hops_new lane task lanes_new mid new) → IsSettled honest words at lane task lanes_mid old mid → IsAccountedFor honest words at hops_new lane task lanes_new old new
  settled_still lane task next (inl there) = accounted_later honest words at hops_new lane task lanes_new old mid new one (next there)
  settled_still lane task next (inr (inl comes)) = inr (inr (inl (ap (λ (walk : Walk). list_any (λ message. message == task.message) walk.left) same_walk ∙ comes)))
  settled_still lane task next (inr (inr (inl is))) = inr (inr (inr (inl (stale is))))
  settled_still lane task next (inr (inr (inr (inl is)))) = inr (inr (inr (inr (inl (ap (λ (held : Held). holds task.hop task.message held) same_held ∙ is)))))
  settled_still lane task next (inr (inr (inr (inr (inl none))))) = inr (inr (inr (inr (inr (inl none)))))
  settled_still lane task next (inr (inr (inr (inr (inr gone))))) = inr (inr (inr (inr (inr (inr (record {
    before = gone.before;
    after = gone.after;
    first = gone.first;
    lost = gone.lost;
    meanwhile = gone.meanwhile;
    last = leaves_then honest words gone.after mid new gone.last two;
  }))))))

  pub drops_then : DropsNone honest words at hops_mid lanes_old lanes_mid old mid → DropsNone honest words at hops_new lanes_mid lanes_new mid new → DropsNone honest words at hops_new lanes_old lanes_new old new
  drops_then first second lane task there = by (first lane task there) where
    by : IsAccountedFor honest words at hops_mid lane task lanes_mid old mid → IsAccountedFor honest words at hops_new lane task lanes_new old new
    by (inl connection) = inl (record {
      number = connection.number;
      hop = connection.hop;
      there = stand connection.number connection.hop connection.there;
      its_message = connection.its_message;
      its_name = connection.its_name;
      its_lane = connection.its_lane;
    })
    by (inr settled) = settled_still lane task (second lane task) settled

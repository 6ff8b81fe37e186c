-- Events one after another, and what they keep.
use Rattle.std.proofs.Common.{◌≡◌, inl, inr, ℕ, zero, suc, List, [], ◌++◌, refl, sym, subst, ap, ◌∙◌, append_assoc}
use Rattle.relay_disk.specs.Device.{DiskWords}
use Rattle.relay_world.specs.GivingUp.{Withdrawing}
use Rattle.relay_world.specs.Once.{Happen, HappenAsking, Happens, IsNotOpened, Reopens, RunsKeepAll, asked_at, asked_in}
use Rattle.relay_world.specs.World.{World}
use Rattle.relay_events.specs.Happened.{HasHappened, HasHappenedAsking}
use Rattle.relay_events.specs.Relays.{AreBound}
use Rattle.relay_events.specs.Told.{IsOpened}
use Rattle.relay_events.proofs.NamesLemmas.{few_names, own_names, run_names}

module _ {D : Type 0} (honest : Type 0) (words : DiskWords D) where
  -- no event
  pub none_happened : (world : World D) → HasHappened honest words world world
  none_happened world = record { count = 0; run = refl; asks = λ before. refl }

  -- one, by which the postmaster asks for what it says: for nothing, where it isn't his
  pub one_happened : (old new : World D) (happens : Happens honest words old new)
      → HasHappenedAsking honest words (asked_at honest words old new happens) old new
  one_happened old new happens = record { count = 1; run = (new, happens, refl); asks = λ before. refl }

  -- so many
  pub run_happened : (asked : List Withdrawing) (count : ℕ) (old new : World D)
      → HappenAsking honest words asked count old new → HasHappenedAsking honest words asked old new
  run_happened asked count old new happen = record { count = count; run = happen.run; asks = happen.asks }

  -- a run after another, and what is asked for in both
  abbrev Joined : (one two : ℕ) (old next new : World D) → Happen honest words one old next
      → Happen honest words two next new → Type 0
  Joined one two old next new first second =
      (count : ℕ) × (run : Happen honest words count old new)
      × ((before : List Withdrawing) → asked_in honest words count old new run before
      ≡ asked_in honest words two next new second (asked_in honest words one old next first before))

  joined : (one two : ℕ) (old next new : World D) (first : Happen honest words one old next)
      (second : Happen honest words two next new) → Joined one two old next new first second
  joined zero two old next new same second =
      subst (λ w. (count : ℕ) × (run : Happen honest words count w new)
      × ((before : List Withdrawing) → asked_in honest words count w new run before
      ≡ asked_in honest words two next new second before)) same (two, second, λ before. refl)
  joined (suc one) two old next new first second =
      let rest = joined one two first.0 next new first.2 second in (
        suc rest.0,
        (first.0, first.1, rest.1),
        λ before. rest.2 (asked_at honest words old first.0 first.1 ++ before),
      )

  -- events after events
  pub both_asking : (asked more : List Withdrawing) (old next new : World D) → HasHappenedAsking honest words asked old next
      → HasHappenedAsking honest words more next new → HasHappenedAsking honest words (more ++ asked) old new
  both_asking asked more old next new first second =
      let all = joined first.count second.count old next new first.run second.run in
      record {
        count = all.0;
        run = all.1;
        asks = λ before.
            all.2 before
            ∙ ap (λ (l : List Withdrawing). asked_in honest words second.count next new second.run l) (first.asks before)
            ∙ second.asks (asked ++ before) ∙ sym (append_assoc more asked before);
      }

  -- where the postmaster asks by the first or by none
  pub then_happened : (asked : List Withdrawing) (old next new : World D) → HasHappenedAsking honest words asked old next
      → HasHappened honest words next new → HasHappenedAsking honest words asked old new
  then_happened asked old next new first more = both_asking asked [] old next new first more

  pub both_happened : (old next new : World D) → HasHappened honest words old next → HasHappened honest words next new
      → HasHappened honest words old new
  both_happened old next new first more = both_asking [] [] old next new first more

  -- a node that is opened, or can't be opened, is one event
  pub opened_happened : (old new : World D) (node : ℕ) → IsOpened honest words old new node → HasHappened honest words old new
  opened_happened old new node (inl opens) = one_happened old new (Reopens node opens)
  opened_happened old new node (inr refused) = one_happened old new (IsNotOpened node refused.stays)

  -- by events relays stay bound
  pub still_bound_asking : honest → RunsKeepAll honest words → (asked : List Withdrawing) (old new : World D)
      → AreBound honest words old → HasHappenedAsking honest words asked old new → AreBound honest words new
  still_bound_asking is_honest keeps asked old new bound happened =
      let later = keeps is_honest happened.count old new bound.lists bound.asked bound.bound bound.once bound.linked
      bound.sources happened.run in
      record {
        lists = later.0;
        bound = later.1;
        asked = asked_in honest words happened.count old new happened.run bound.asked;
        once = later.2;
        linked = later.3;
        sources = later.4;
        named = own_names old.hosts new.hosts (run_names honest words happened.count old new happened.run) bound.named;
        few = few_names old.hosts new.hosts (run_names honest words happened.count old new happened.run) 16 bound.few;
      }

  pub still_bound : honest → RunsKeepAll honest words → (old new : World D) → AreBound honest words old
      → HasHappened honest words old new → AreBound honest words new
  still_bound is_honest keeps old new bound happened = still_bound_asking is_honest keeps [] old new bound happened

-- A relay that was told to end a session which it doesn't have.
use Rattle.std.proofs.Common.{inl, inr, ◌≡◌, ℕ, false, List, Option, None, Some, sym, ap, ◌∙◌}
use Rattle.std.proofs.lemmas.Bool.{true≢false}
use Rattle.std.proofs.lemmas.Bool.Decides.{eqb_tells}
use Rattle.relay_disk.specs.Device.{DiskWords}
use Rattle.relay_slots.specs.Slots.{slot_at}
use Rattle.relay_book.specs.declared.change.Change.{Change}
use Rattle.relay_node.specs.Node.{NodeState}
use Rattle.relay_loop.specs.Calls.{ForgetSays}
use Rattle.relay_loop.specs.Relay.{RelayState}
use Rattle.relay_world.specs.Bound.{IsBound}
use Rattle.relay_world.specs.World.{Up, World}
use Rattle.relay_daemon.specs.Runs.{RunsAt, ServesClient}
use Rattle.relay_daemon.proofs.KeepLemmas.{its_keeps}
use Rattle.relay_daemon.proofs.MoveLemmas.{not_both}

module _ {D : Type 0} (honest : Type 0) (words : DiskWords D) where
  -- It runs on: a relay that runs in a bound world isn't stopped, so the session had no connection, or no seat.
  pub forgetting : (world : World D) (lists : List (List Change)) (node session : ℕ) (old new : RelayState D)
      → RunsAt world node old → IsBound honest words world lists → ForgetSays old new session → RunsAt world node new
  forgetting world lists node session old new runs bound says = record {
    host = runs.host;
    host_at = runs.host_at;
    up = runs.up ∙ ap (λ (n : NodeState D). Up n) (sym says.node);
    clients = there;
    hops = λ slot waiting is.
        runs.hops slot waiting (ap (λ (t : List (Option (List ℕ))). slot_at t slot) (sym says.hops) ∙ is);
    seats = λ other none. ap (λ (n : NodeState D). slot_at n.seats other) says.node ∙ none_there other none;
    runs = λ slot none.
        ap (λ (n : NodeState D). slot_at n.attempts slot) says.node
        ∙ runs.runs slot (ap (λ (t : List (Option (List ℕ))). slot_at t slot) (sym says.hops) ∙ none);
  }
    where
      live : old.node.records.spool.live ≡ false → ⊥
      live stopped = true≢false (sym (its_keeps honest words world lists node old runs bound).live ∙ stopped)

      unseated : slot_at old.node.seats session ≡ None
      unseated =
          elim says.why [
            | inl unknown ↦ elim unknown [ inl none ↦ runs.seats session none | inr none ↦ none ]
            | inr stopped ↦ absurd (live stopped)
          ]

      there : (other : ℕ) (waiting : List ℕ) → slot_at new.clients other ≡ Some waiting
          → ServesClient world node other waiting
      there other waiting is =
          elim (eqb_tells other session) [
            | inl same ↦
                absurd (not_both (slot_at new.clients other) waiting
                (ap (λ n. slot_at new.clients n) same.1 ∙ says.gone) is)
            | inr off ↦ runs.clients other waiting (sym (says.others other off.1) ∙ is)
          ]

      none_there : (other : ℕ) → slot_at new.clients other ≡ None → slot_at old.node.seats other ≡ None
      none_there other none =
          elim (eqb_tells other session) [
            | inl same ↦ ap (λ n. slot_at old.node.seats n) same.1 ∙ unseated
            | inr off ↦ runs.seats other (sym (says.others other off.1) ∙ none)
          ]

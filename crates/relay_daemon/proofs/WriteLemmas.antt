-- Octets that a relay has written out.
use Rattle.std.proofs.Common.{inl, inr, ◌≡◌, ◌++◌, ℕ, List, Option, None, Some, take, drop, refl, sym, ap, ◌∙◌, append_assoc, take-append-drop}
use Rattle.std.specs.Option.{option_map}
use Rattle.std.proofs.lemmas.Bool.Decides.{eqb_tells}
use Rattle.std.proofs.lemmas.Option.{same_Some}
use Rattle.relay_slots.specs.Slots.{slot_at}
use Rattle.relay_node.specs.Node.{NodeState}
use Rattle.relay_world.specs.World.{Up, World}
use Rattle.relay_daemon.specs.Events.{WritingOutStays, WritingToHopsStays}
use Rattle.relay_daemon.specs.Runs.{EndsIn, ReachesHop, ServesClient}
use Rattle.relay_daemon.proofs.MoveLemmas.{not_both}

-- what was unwritten before some of it was written
was_open : (old new : Option (List ℕ)) (count : ℕ) (waiting : List ℕ) → new ≡ option_map (drop count) old
    → new ≡ Some waiting → (octets : List ℕ) × (old ≡ Some octets) × (drop count octets ≡ waiting)
was_open None new count waiting left is = absurd (not_both new waiting left is)
was_open (Some octets) new count waiting left is = (octets, refl, same_Some (drop count octets) waiting (sym left ∙ is))

was_none : (old new : Option (List ℕ)) (count : ℕ) → new ≡ option_map (drop count) old → new ≡ None → old ≡ None
was_none None new count left none = refl
was_none (Some octets) new count left none = absurd (not_both new (drop count octets) none left)

ends_in : (octets before waiting : List ℕ) (count : ℕ) → drop count before ≡ waiting → EndsIn octets before
    → EndsIn octets waiting
ends_in octets before waiting count is ends = (
  ends.0 ++ take count before,
  ends.1
      ∙ ap (λ (o : List ℕ). ends.0 ++ o) (sym (take-append-drop count before) ∙ ap (λ (o : List ℕ). take count before ++ o) is)
      ∙ sym (append_assoc ends.0 (take count before) waiting),
)

module _ {D : Type 0} where
  client_after : (world : World D) (node session : ℕ) (before waiting : List ℕ) (count : ℕ) → drop count before ≡ waiting
      → ServesClient world node session before → ServesClient world node session waiting
  client_after world node session before waiting count is serves = record {
    number = serves.number;
    link = serves.link;
    link_is = serves.link_is;
    has = serves.has;
    unwritten = λ whole. ends_in serves.link.down before waiting count is (serves.unwritten whole);
  }

  hop_after : (world : World D) (node slot : ℕ) (before waiting : List ℕ) (count : ℕ) → drop count before ≡ waiting
      → ReachesHop world node slot before → ReachesHop world node slot waiting
  hop_after world node slot before waiting count is reaches = record {
    place = reaches.place;
    attempt = reaches.attempt;
    attempt_at = reaches.attempt_at;
    has = reaches.has;
    link = reaches.link;
    link_is = reaches.link_is;
    client = reaches.client;
    unwritten = λ whole. ends_in reaches.link.up before waiting count is (reaches.unwritten whole);
  }

  pub writing_out : WritingOutStays D
  writing_out world node session count old new runs says = record {
    host = runs.host;
    host_at = runs.host_at;
    up = runs.up ∙ ap (λ (n : NodeState D). Up n) (sym says.node);
    clients = there;
    hops = λ slot waiting is. runs.hops slot waiting (ap (λ (t : List (Option (List ℕ))). slot_at t slot) (sym says.hops) ∙ is);
    seats = λ other none. ap (λ (n : NodeState D). slot_at n.seats other) says.node ∙ runs.seats other (none_there other none);
    runs = λ slot none.
        ap (λ (n : NodeState D). slot_at n.attempts slot) says.node
        ∙ runs.runs slot (ap (λ (t : List (Option (List ℕ))). slot_at t slot) (sym says.hops) ∙ none);
  }
    where
      there : (other : ℕ) (waiting : List ℕ) → slot_at new.clients other ≡ Some waiting
          → ServesClient world node other waiting
      there other waiting is =
          elim (eqb_tells other session) [
            | inl same ↦
                let was = was_open (slot_at old.clients other) (slot_at new.clients other) count waiting
                (ap (λ n. slot_at new.clients n) same.1 ∙ says.left
                ∙ ap (λ n. option_map (drop count) (slot_at old.clients n)) (sym same.1)) is in
                client_after world node other was.0 waiting count was.2 (runs.clients other was.0 was.1)
            | inr off ↦ runs.clients other waiting (sym (says.others other off.1) ∙ is)
          ]

      none_there : (other : ℕ) → slot_at new.clients other ≡ None → slot_at old.clients other ≡ None
      none_there other none =
          elim (eqb_tells other session) [
            | inl same ↦
                was_none (slot_at old.clients other) (slot_at new.clients other) count
                (ap (λ n. slot_at new.clients n) same.1 ∙ says.left
                ∙ ap (λ n. option_map (drop count) (slot_at old.clients n)) (sym same.1)) none
            | inr off ↦ sym (says.others other off.1) ∙ none
          ]

  pub writing_to_hops : WritingToHopsStays D
  writing_to_hops world node slot count old new runs says = record {
    host = runs.host;
    host_at = runs.host_at;
    up = runs.up ∙ ap (λ (n : NodeState D). Up n) (sym says.node);
    clients = λ session waiting is.
        runs.clients session waiting (ap (λ (t : List (Option (List ℕ))). slot_at t session) (sym says.clients) ∙ is);
    hops = there;
    seats = λ session none.
        ap (λ (n : NodeState D). slot_at n.seats session) says.node
        ∙ runs.seats session (ap (λ (t : List (Option (List ℕ))). slot_at t session) (sym says.clients) ∙ none);
    runs = λ other none.
        ap (λ (n : NodeState D). slot_at n.attempts other) says.node ∙ runs.runs other (none_there other none);
  }
    where
      there : (other : ℕ) (waiting : List ℕ) → slot_at new.hops other ≡ Some waiting
          → ReachesHop world node other waiting
      there other waiting is =
          elim (eqb_tells other slot) [
            | inl same ↦
                let was = was_open (slot_at old.hops other) (slot_at new.hops other) count waiting
                (ap (λ n. slot_at new.hops n) same.1 ∙ says.left
                ∙ ap (λ n. option_map (drop count) (slot_at old.hops n)) (sym same.1)) is in
                hop_after world node other was.0 waiting count was.2 (runs.hops other was.0 was.1)
            | inr off ↦ runs.hops other waiting (sym (says.others other off.1) ∙ is)
          ]

      none_there : (other : ℕ) → slot_at new.hops other ≡ None → slot_at old.hops other ≡ None
      none_there other none =
          elim (eqb_tells other slot) [
            | inl same ↦
                was_none (slot_at old.hops other) (slot_at new.hops other) count
                (ap (λ n. slot_at new.hops n) same.1 ∙ says.left
                ∙ ap (λ n. option_map (drop count) (slot_at old.hops n)) (sym same.1)) none
            | inr off ↦ sym (says.others other off.1) ∙ none
          ]

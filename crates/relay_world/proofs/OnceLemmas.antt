-- Each event keeps a place from being tried twice.
use Rattle.std.proofs.Common.{◌≡◌, ◌⊎◌, inl, inr, ℕ, zero, suc, Bool, true, false, ◌&&◌, ◌||◌, List, [], ◌∷◌, length, Option, None, Some, bytes_eq, refl, sym, subst, ap, ◌∙◌, arith}
use Rattle.std.specs.Prelude.{nat_le, slice_get}
use Rattle.std.specs.List.{Contains, list_any}
use Rattle.std.specs.Option.{option_map_or}
use Rattle.std.proofs.lemmas.Bool.{and_parts, eq-eqb, false≢true}
use Rattle.std.proofs.lemmas.List.{append-nil}
use Rattle.std.proofs.lemmas.Option.{none-some, same_Some}
use Rattle.std.proofs.lemmas.Slice.Eq.{bytes_eq-Decides}
use Rattle.relay_disk.specs.Device.{DiskWords}
use Rattle.relay_slots.specs.Slots.{slot_at}
use Rattle.relay_book.specs.declared.change.Accept.{Accept}
use Rattle.relay_book.specs.declared.change.Change.{Change}
use Rattle.relay_book.specs.declared.change.Verdict.TheVariants.{Taken}
use Rattle.relay_book.specs.declared.message.Message.{Message}
use Rattle.relay_book.specs.declared.message.Place.{Place}
use Rattle.relay_book.specs.Marks.{Held, IsQueuedAs, Transferred, message_at}
use Rattle.relay_book.specs.Queue.{holds_at, is_due_at, is_held}
use Rattle.relay_book.proofs.Theorems.{fold_finds, fold_knows}
use Rattle.relay_routes.specs.declared.config.Config.{Config}
use Rattle.relay_attempts.specs.declared.runs.Run.{Run}
use Rattle.relay_attempts.specs.Hops.{due_places_in, goes_to, hop_of_place, is_due_for}
use Rattle.relay_attempts.specs.Runs.{is_run_for, is_running}
use Rattle.relay_node.specs.Attempts.{Begins}
use Rattle.relay_node.specs.Node.{NodeState}
use Rattle.relay_world.specs.GivingUp.{Withdrawing}
use Rattle.relay_world.specs.declared.attempt.Attempt.{Attempt}
use Rattle.relay_world.specs.declared.attempt.Fate.{Fate}
use Rattle.relay_world.specs.declared.attempt.Fate.TheVariants.{Running, Replied, Lost, Dropped}
use Rattle.relay_world.specs.declared.link.Link.{Link}
use Rattle.relay_world.specs.Bound.{HasFate, IsBound, NodeKeeps, PassesOn}
use Rattle.relay_world.specs.Children.{IsAttempt}
use Rattle.relay_world.specs.Ledger.{accepts_on}
use Rattle.relay_world.specs.Once.{Claims, ClaimsAt, GoesToHop, IsTriedOnce}
use Rattle.relay_world.specs.Passing.{Rules}
use Rattle.relay_world.specs.Steps.{HasStarted}
use Rattle.relay_world.specs.World.{Host, Up, World, link_at}
use Rattle.relay_world.proofs.AmongLemmas.{all_by, all_of, found_in}
use Rattle.relay_world.proofs.ChildrenLemmas.{passes_of}
use Rattle.relay_world.proofs.ClaimLemmas.{given_up_at, HostsGrow, NoneOutside, claim_before, hop_still, hosts_put, known_attempt, list_before, outside_put, was_same}
use Rattle.relay_world.proofs.HeldLemmas.{transferred_by}
use Rattle.relay_world.proofs.GrowLemmas.{changes_kept, messages_kept}
use Rattle.relay_world.proofs.MoveLemmas.{put_cases}
use Rattle.relay_world.proofs.PlaceLemmas.{passing_there}
use Rattle.relay_world.proofs.TakerLemmas.{ended_before, lists_stay, takers_kept}
use Rattle.relay_world.proofs.OpenLemmas.{list_there, node_kept, none_accepted, same_Up}

-- a place that is due is held, and goes to the hop
pub due_there : (config : Config) (message : Message) (hop : List ℕ) (now place : ℕ)
    → Contains (due_places_in config.routes hop now message) place
    → (holds_at message.places place ≡ true) × (goes_to config.routes message.accept.envelope.recipients hop place ≡ true)
due_there config message hop now place has =
    let test : ℕ → Place → Bool = is_due_for config.routes message.accept.envelope.recipients hop now in
    let there = passing_there test 0 message.places place has in
    let at = there.2 in
    let same : there.0 ≡ place = omega (arith, at) in
    let due = and_parts (is_due_at now there.1) (goes_to config.routes message.accept.envelope.recipients hop place) there.4 in
    let held = and_parts there.1.held (nat_le there.1.due now) due.0 in (
      ap (λ k. holds_at message.places k) (sym same) ∙ ap (λ (o : Option Place). option_map_or is_held o false) there.3 ∙ held.0,
      due.1,
    )

-- a place goes to one hop
one_name : (name : Option (List ℕ)) (one other : List ℕ) → option_map_or (λ n. bytes_eq n one) name false ≡ true
    → option_map_or (λ n. bytes_eq n other) name false ≡ true → one ≡ other
one_name None one other first second = absurd (false≢true first)
one_name (Some name) one other first second =
    sym ((bytes_eq-Decides name one).0 first) ∙ (bytes_eq-Decides name other).0 second

-- where an attempt runs for a message and a hop, there is one
run_there : (runs : List (Option Run)) (slot message : ℕ) (hop : List ℕ) (run : Run) → slot_at runs slot ≡ Some run
    → run.message ≡ message → run.hop ≡ hop → is_running runs message hop ≡ true
run_there [] slot message hop run at same its = absurd (none-some run at)
run_there (first ∷ runs) zero message hop run at same its =
    ap (λ o. is_run_for message hop o || list_any (is_run_for message hop) runs) at
    ∙ ap (λ b. (b && bytes_eq run.hop hop) || list_any (is_run_for message hop) runs) (eq-eqb run.message message same)
    ∙ ap (λ b. b || list_any (is_run_for message hop) runs) ((bytes_eq-Decides run.hop hop).1 its)
run_there (first ∷ runs) (suc slot) message hop run at same its =
    or_true (is_run_for message hop first) (is_running runs message hop) (run_there runs slot message hop run at same its)
  where
    or_true : (a b : Bool) → b ≡ true → (a || b) ≡ true
    or_true true b is = refl
    or_true false b is = is

module _ {D : Type 0} (honest : Type 0) (words : DiskWords D) (old new : World D) (lists later : List (List Change))
    (number message : ℕ) (hop : List ℕ) (bound : IsBound honest words old lists) {asked : List Withdrawing} (once : IsTriedOnce old lists asked)
    (now : IsBound honest words new later) (starts : HasStarted honest words old new number message hop) where
  listed : (list : List Change) × (slice_get lists starts.attempt.node ≡ Some list)
  listed = list_there old.hosts lists starts.attempt.node starts.host bound.even starts.host_at

  its_node : NodeKeeps honest words starts.host.config starts.before listed.0
  its_node = node_kept honest words starts.host listed.0 starts.before
      (bound.hosts starts.attempt.node starts.host listed.0 (record { host_at = starts.host_at; list_at = listed.1 })) starts.up

  begins : Begins starts.before.config listed.0 message hop old.clock starts.before.attempts starts.after.attempts starts.started
  begins = starts.begins listed.0 its_node.keeps

  is_queued : IsQueuedAs listed.0 message begins.message
  is_queued = fold_knows listed.0 its_node.keeps.fitting message begins.message begins.found

  due : (place : ℕ) → Contains starts.attempt.places.items place
      → (holds_at begins.message.places place ≡ true)
      × (goes_to starts.before.config.routes begins.message.accept.envelope.recipients hop place ≡ true)
  due place has = due_there starts.before.config begins.message hop old.clock place
      (subst (λ l. Contains l place) (starts.is_attempt.3 ∙ begins.places) has)

  -- no attempt that was there claims a place with which this one begins
  module _ (at place : ℕ) (claim : ClaimsAt old lists at starts.attempt.node message place)
      (has : Contains starts.attempt.places.items place) where
    known : (host : Host D) × (changes : List Change) × (link : Link) × IsAttempt old lists host changes link claim.attempt
    known = known_attempt honest words old lists bound at claim.attempt claim.is_there

    passes : PassesOn known.0 known.1 known.2 claim.attempt
    passes = passes_of honest words old lists bound known.0 known.1 known.2 claim.attempt known.3

    same_host : known.0 ≡ starts.host
    same_host = same_Some known.0 starts.host
        (sym known.3.stands.host_at ∙ ap (λ n. slice_get old.hosts n) claim.its_node ∙ starts.host_at)

    same_list : known.1 ≡ listed.0
    same_list = same_Some known.1 listed.0
        (sym known.3.stands.list_at ∙ ap (λ n. slice_get lists n) claim.its_node ∙ listed.1)

    claimed_by : claim.changes ≡ listed.0
    claimed_by = same_Some claim.changes listed.0 (sym claim.list_at ∙ listed.1)

    fate_is : (fate : Fate) → claim.attempt.fate ≡ fate
        → HasFate known.0 known.1 known.2 claim.attempt passes.accept passes.output passes.told passes.verdicts fate
    fate_is fate is = subst
        (λ f. HasFate known.0 known.1 known.2 claim.attempt passes.accept passes.output passes.told passes.verdicts f) is
        passes.fate

    -- it would have the same hop, and run
    same_hop : claim.attempt.hop ≡ hop
    same_hop =
        let went : GoesToHop old lists claim.attempt = once.hops at claim.attempt claim.is_there in
        let tried = found_in claim.attempt.places.items place claim.tries in
        let goes = all_of
        (λ p. goes_to went.host.config.routes went.accept.envelope.recipients claim.attempt.hop p ≡ true)
        claim.attempt.places.items tried.0 place went.each tried.1 in
        let its_host : went.host ≡ starts.host =
        same_Some went.host starts.host
        (sym went.stands.host_at ∙ ap (λ n. slice_get old.hosts n) claim.its_node ∙ starts.host_at) in
        let its_list : went.changes ≡ listed.0 =
        same_Some went.changes listed.0 (sym went.stands.list_at ∙ ap (λ n. slice_get lists n) claim.its_node ∙ listed.1) in
        let its_accept : went.accept ≡ begins.message.accept =
        same_Some went.accept begins.message.accept (sym went.accepted
        ∙ ap (λ l. message_at l claim.attempt.message) its_list ∙ ap (λ m. message_at listed.0 m) claim.its_message
        ∙ is_queued.accept_is) in
        let config : went.host.config ≡ starts.before.config =
        ap (λ (h : Host D). h.config) its_host ∙ sym its_node.config_is in
        one_name (hop_of_place starts.before.config.routes begins.message.accept.envelope.recipients place) claim.attempt.hop hop
        (subst (λ (c : Config). goes_to c.routes begins.message.accept.envelope.recipients claim.attempt.hop place ≡ true) config
        (subst (λ (a : Accept). goes_to went.host.config.routes a.envelope.recipients claim.attempt.hop place ≡ true) its_accept
        goes))
        (due place has).1

    not_running : (slot : ℕ) → claim.attempt.fate ≡ Running slot → ⊥
    not_running slot is =
        let fate = fate_is (Running slot) is in
        let same_node : fate.2.0 ≡ starts.before =
        same_Up fate.2.0 starts.before (sym fate.2.1 ∙ ap (λ (h : Host D). h.state) same_host ∙ starts.up) in
        false≢true (sym begins.free ∙ run_there starts.before.attempts slot message hop fate.2.2.run
        (ap (λ (n : NodeState D). slot_at n.attempts slot) (sym same_node) ∙ fate.2.2.at)
        (fate.2.2.its_message ∙ claim.its_message) (fate.2.2.its_hop ∙ same_hop))

    -- or it would have passed a place on that is held
    not_taken : (change : ℕ) → claim.attempt.fate ≡ Replied change → (dsn : Bool)
        → Rules claim.changes change place (Taken dsn) → ⊥
    not_taken change is dsn rules =
        let taken : Transferred known.1 claim.attempt.message place =
        transferred_by known.0 known.1 known.2 claim.attempt passes change place dsn is
        (subst (λ l. Rules l change place (Taken dsn)) (claimed_by ∙ sym same_list) rules) in
        let transferred : Transferred listed.0 message place =
        subst (λ m. Transferred listed.0 m place) claim.its_message
        (subst (λ l. Transferred l claim.attempt.message place) same_list taken) in
        let held : Held listed.0 message place =
        (fold_finds listed.0 its_node.keeps.fitting message place).0
        (ap (λ (o : Option Message). option_map_or (λ m. holds_at m.places place) o false) begins.found ∙ (due place has).0) in
        held.1 transferred

    pub not_claimed : ⊥
    not_claimed = by claim.attempt.fate refl claim.claims
      where
        by : (fate : Fate) → claim.attempt.fate ≡ fate → Claims claim.changes place fate → ⊥
        by (Running slot) is claims = not_running slot is
        by (Replied change) is claims = not_taken change is claims.0 claims.1
        by (Lost change) is claims = claims
        by Dropped is claims = claims

  grow : HostsGrow honest words old new lists later bound once now
  grow = hosts_put honest words old new lists later bound once now starts.attempt.node starts.host
      (record starts.host { state = Up starts.after }) starts.host_at starts.hosts refl
      ([], sym (append-nil starts.host.records))

  claim_cases : (at its letter place : ℕ) (claim : ClaimsAt new later at its letter place)
      → ((at ≡ length old.attempts) × (starts.attempt ≡ claim.attempt)) ⊎ ClaimsAt old lists at its letter place
  claim_cases at its letter place claim =
      elim (put_cases old.attempts new.attempts (length old.attempts) starts.attempt starts.attempts at claim.attempt
      claim.is_there) [
        | inl here ↦ inl here
        | inr there ↦ inr (claim_before honest words old new lists later bound once now grow at its letter place claim
            (was_same honest words old new lists later bound once now at claim.attempt there.1))
      ]

  clash : (at other its letter place : ℕ) (mine : ClaimsAt new later at its letter place) → starts.attempt ≡ mine.attempt
      → ClaimsAt old lists other its letter place → ⊥
  clash at other its letter place mine same yours =
      not_claimed other place
      (subst (λ n. ClaimsAt old lists other n message place) (sym (ap (λ (a : Attempt). a.node) same ∙ mine.its_node))
      (subst (λ m. ClaimsAt old lists other its m place)
      (sym (sym starts.is_attempt.1 ∙ ap (λ (a : Attempt). a.message) same ∙ mine.its_message)) yours))
      (subst (λ (a : Attempt). Contains a.places.items place) (sym same) mine.tries)

  goes_now : GoesToHop new later starts.attempt
  goes_now =
      let known = known_attempt honest words new later now (length old.attempts) starts.attempt starts.attempts.at in
      let same_host = same_Some known.0 (record starts.host { state = Up starts.after })
      (sym known.3.stands.host_at ∙ starts.hosts.at) in
      let before = list_before honest words old new lists later bound once now grow starts.attempt.node known.1
      known.3.stands.list_at in
      let same_list : before.0 ≡ listed.0 = same_Some before.0 listed.0 (sym before.1 ∙ listed.1) in
      let config : starts.before.config ≡ known.0.config =
      its_node.config_is ∙ ap (λ (h : Host D). h.config) (sym same_host) in
      record {
        host = known.0;
        changes = known.1;
        stands = known.3.stands;
        accept = begins.message.accept;
        accepted = messages_kept before.0 known.1 (changes_kept before.0 known.1 before.2) starts.attempt.message
            begins.message.accept (ap (λ l. message_at l starts.attempt.message) same_list
            ∙ ap (λ m. message_at listed.0 m) starts.is_attempt.1 ∙ is_queued.accept_is);
        each = all_by
            (λ place. goes_to known.0.config.routes begins.message.accept.envelope.recipients starts.attempt.hop place ≡ true)
            starts.attempt.places.items (λ place has.
            subst (λ (c : Config). goes_to c.routes begins.message.accept.envelope.recipients starts.attempt.hop place ≡ true)
            config
            (subst (λ h. goes_to starts.before.config.routes begins.message.accept.envelope.recipients h place ≡ true)
            (sym starts.is_attempt.2) (due place has).1));
      }

  outside_now : NoneOutside honest words old new lists later bound once now
  outside_now = outside_put honest words old new lists later bound once now number
      (record starts.blank { client = Some (length old.attempts) }) starts.links (λ none. by none starts.is_blank.there)
      (λ other off. ap (λ l. accepts_on other l) starts.rest.0)
    where
      by : starts.blank.server ≡ None → (link_at old.links number ≡ Some starts.blank)
          ⊎ ((number ≡ suc (length old.links)) × (starts.blank.server ≡ None) × (starts.blank.up_read ≡ 0))
          → accepts_on number new.ledger ≡ []
      by none (inl there) = ap (λ l. accepts_on number l) starts.rest.0 ∙ once.outside number starts.blank there none
      by none (inr fresh) =
          let is = fresh.0 in
          ap (λ l. accepts_on number l) starts.rest.0
          ∙ none_accepted number (length old.links) old.ledger (omega (arith, is)) bound.lines

  pub once_started : IsTriedOnce new later asked
  once_started = record {
    once = λ one other its letter place mine yours.
        elim (claim_cases one its letter place mine) [
          | inl here ↦ elim (claim_cases other its letter place yours) [
            | inl also ↦ here.0 ∙ sym also.0
            | inr there ↦ absurd (clash one other its letter place mine here.1 there)
          ]
          | inr there ↦ elim (claim_cases other its letter place yours) [
            | inl here ↦ absurd (clash other one its letter place yours here.1 there)
            | inr also ↦ once.once one other its letter place there also
          ]
        ];
    hops = λ at attempt is.
        elim (put_cases old.attempts new.attempts (length old.attempts) starts.attempt starts.attempts at attempt is) [
          | inl here ↦ subst (λ a. GoesToHop new later a) here.1 goes_now
          | inr there ↦ hop_still honest words old new lists later bound once now grow at attempt is
              (was_same honest words old new lists later bound once now at attempt there.1).its
        ];
    outcomes = takers_kept honest words old new lists later bound once now grow
        (lists_stay honest words old new lists later bound once now starts.attempt.node starts.host
        (record starts.host { state = Up starts.after }) starts.host_at starts.hosts refl)
        (ended_before honest words old new lists later bound once now starts.attempt starts.attempts);
    given_up = given_up_at honest words old new lists later bound once now starts.attempt.node starts.host starts.after
        starts.host.records starts.hosts;
    outside = outside_now;
  }

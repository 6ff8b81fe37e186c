-- A clock that is set, and a node that lets go of its ends of links, keep it so that each place is tried once.
use Rattle.std.proofs.Common.{inl, inr, get_or, ◌≡◌, ◌<◌, ℕ, List, [], ◌∷◌, ◌++◌, length, None, Some, refl, sym, subst, ap, ◌∙◌, arith}
use Rattle.std.specs.Prelude.{slice_get}
use Rattle.std.proofs.lemmas.List.{same_lists}
use Rattle.std.proofs.lemmas.Option.{none-some, slice_get-get_or}
use Rattle.relay_disk.specs.Device.{DiskWords}
use Rattle.relay_book.specs.declared.change.Change.{Change}
use Rattle.relay_book.specs.declared.change.Outcome.{Outcome}
use Rattle.relay_routes.specs.Routes.{RouteTable}
use Rattle.relay_world.specs.GivingUp.{NoHop, Postmaster, Reason, Withdrawing, asked_by}
use Rattle.relay_world.specs.declared.attempt.Attempt.{Attempt}
use Rattle.relay_world.specs.declared.link.Link.{Link}
use Rattle.relay_world.specs.Bound.{IsBound}
use Rattle.relay_world.specs.HangUp.{HangsUp}
use Rattle.relay_world.specs.Ledger.{accepts_on}
use Rattle.relay_world.specs.Once.{Claims, ClaimsAt, EndsAlone, GoesToHop, IsOutcomeOf, IsTriedOnce}
use Rattle.relay_world.specs.Steps.{HasTicked}
use Rattle.relay_world.specs.World.{World, link_at}
use Rattle.relay_world.proofs.AmongLemmas.{in_rest}
use Rattle.relay_world.proofs.ClaimLemmas.{there_too}
use Rattle.relay_world.proofs.FateLemmas.{lost_ends, replied_ends}
use Rattle.relay_world.proofs.GrowLemmas.{one_list}
use Rattle.relay_world.proofs.HangUpLemmas.{LooseAttempt, Loose, link_back, attempt_back, attempt_onward, hanging_up_keeps}
use Rattle.relay_world.proofs.TickLemmas.{ticking_keeps}

-- the nodes of a world keep one row of lists
pub one_row : {D : Type 0} (honest : Type 0) (words : DiskWords D) (world : World D) (lists later : List (List Change))
    → IsBound honest words world lists → IsBound honest words world later → lists ≡ later
one_row {D} honest words world lists later bound now =
    let first = bound.even in
    let second = now.even in
    same_lists lists later (omega (arith, first, second)) each
  where
    each : (k : ℕ) (d : List Change) → k < length lists → get_or lists k d ≡ get_or later k d
    each k d within =
        let first = bound.even in
        let second = now.even in
        let mine = slice_get-get_or lists k d within in
        let yours = slice_get-get_or later k d (omega (arith, first, second, within)) in
        let host = there_too lists world.hosts k (get_or lists k d) bound.even mine in
        one_list host.0.records host.0.records (get_or later k d) (get_or lists k d)
        (now.hosts k host.0 (get_or later k d) (record { host_at = host.1; list_at = yours })).list
        (bound.hosts k host.0 (get_or lists k d) (record { host_at = host.1; list_at = mine })).list refl

-- where the postmaster has asked for more, it is so too
more_alone : (one : Withdrawing) (asked : List Withdrawing) (node : ℕ) (routes : RouteTable) (changes : List Change)
    (outcome : Outcome) → EndsAlone asked node routes changes outcome → EndsAlone (one ∷ asked) node routes changes outcome
more_alone one asked node routes changes outcome (inl none) = inl none
more_alone one asked node routes changes outcome (inr withdrawn) = inr (record {
  each = λ place verdict has.
      let his = withdrawn.each place verdict has in (
        his.0,
        his.1,
        record {
          names = his.2.names;
          named = his.2.named;
          there = in_rest one
              (record { node = node; message = outcome.message; withdrawal = his.0; names = his.2.names }) asked his.2.there;
        },
      );
})

asks_more : {D : Type 0} (world : World D) (lists : List (List Change)) (asked : List Withdrawing) (one : Withdrawing)
    → IsTriedOnce world lists asked → IsTriedOnce world lists (one ∷ asked)
asks_more world lists asked one once = record {
  once = once.once;
  hops = once.hops;
  outcomes = λ node number host changes outcome stands is.
      elim (once.outcomes node number host changes outcome stands is) [
        | inl ended ↦ inl ended
        | inr alone ↦ inr (more_alone one asked node host.config.routes changes outcome alone)
      ];
  given_up = λ node message host changes disk undecided stands down origin.
      let was = once.given_up node message host changes disk undecided stands down origin in
      record {
        one = was.one;
        valid = was.valid;
        octets_are = was.octets_are;
        alone = λ outcome same. more_alone one asked node host.config.routes changes outcome (was.alone outcome same);
      };
  outside = once.outside;
}

pub asks_all : {D : Type 0} (world : World D) (lists : List (List Change)) (asked : List Withdrawing) (reason : Reason)
    (node message : ℕ) → IsTriedOnce world lists asked
    → IsTriedOnce world lists (asked_by reason node message ++ asked)
asks_all world lists asked NoHop node message once = once
asks_all world lists asked (Postmaster withdrawal names) node message once =
    asks_more world lists asked (record { node = node; message = message; withdrawal = withdrawal; names = names }) once

pub ticked_once : {D : Type 0} {asked : List Withdrawing} (old new : World D) (lists : List (List Change)) (now : ℕ)
    → IsTriedOnce old lists asked → HasTicked old new now → IsTriedOnce new lists asked
ticked_once {D} {asked} old new lists now once ticks = subst (λ w. IsTriedOnce w lists asked) (sym ticks.new_is) (record {
  once = λ one other node message place mine yours. once.once one other node message place (claims one node message place mine)
      (claims other node message place yours);
  hops = λ at attempt is.
      let was = once.hops at attempt is in
      record {
        host = was.host;
        changes = was.changes;
        stands = record { host_at = was.stands.host_at; list_at = was.stands.list_at };
        accept = was.accept;
        accepted = was.accepted;
        each = was.each;
      };
  outcomes = λ node number host changes outcome stands is.
      elim (once.outcomes node number host changes outcome
      (record { host_at = stands.host_at; list_at = stands.list_at }) is) [
        | inl was ↦ inl (record {
          at = was.at;
          attempt = was.attempt;
          is_there = was.is_there;
          its_node = was.its_node;
          ended = was.ended;
        })
        | inr none ↦ inr none
      ];
  given_up = λ node message host changes disk undecided stands down origin.
      once.given_up node message host changes disk undecided
      (record { host_at = stands.host_at; list_at = stands.list_at }) down origin;
  outside = once.outside;
})
  where
    claims : (at node message place : ℕ) → ClaimsAt (record old { clock = now }) lists at node message place
        → ClaimsAt old lists at node message place
    claims at node message place is = record {
      attempt = is.attempt;
      is_there = is.is_there;
      its_node = is.its_node;
      its_message = is.its_message;
      tries = is.tries;
      changes = is.changes;
      list_at = is.list_at;
      claims = is.claims;
    }

module _ {D : Type 0} (old : World D) (lists : List (List Change)) (node : ℕ) {asked : List Withdrawing} (once : IsTriedOnce old lists asked) (new : World D)
    (hangs : HangsUp old new node) where
  abbrev now : World D
  now = record old { links = hangs.links; attempts = hangs.attempts }

  was_claim : (at n message place : ℕ) → ClaimsAt now lists at n message place → ClaimsAt old lists at n message place
  was_claim at n message place is =
      let found = attempt_back node (slice_get old.attempts at) (slice_get hangs.attempts at) is.attempt (hangs.each_attempt at)
      is.is_there in
      by found.0 found.1 found.2
    where
      by : (was : Attempt) → slice_get old.attempts at ≡ Some was → LooseAttempt was is.attempt
          → ClaimsAt old lists at n message place
      by was there (inl same) = record {
        attempt = is.attempt;
        is_there = there ∙ ap (λ a. Some a) (sym same);
        its_node = is.its_node;
        its_message = is.its_message;
        tries = is.tries;
        changes = is.changes;
        list_at = is.list_at;
        claims = is.claims;
      }
      by was there (inr gone) =
          absurd (subst (λ f. Claims is.changes place f) (ap (λ (a : Attempt). a.fate) gone.2) is.claims)

  goes_now : (at : ℕ) (attempt : Attempt) → slice_get hangs.attempts at ≡ Some attempt → GoesToHop now lists attempt
  goes_now at attempt is =
      let found = attempt_back node (slice_get old.attempts at) (slice_get hangs.attempts at) attempt (hangs.each_attempt at) is in
      by found.0 (once.hops at found.0 found.1) found.2
    where
      by : (was : Attempt) → GoesToHop old lists was → LooseAttempt was attempt → GoesToHop now lists attempt
      by was goes (inl same) = subst (λ a. GoesToHop now lists a) (sym same) (record {
        host = goes.host;
        changes = goes.changes;
        stands = record { host_at = goes.stands.host_at; list_at = goes.stands.list_at };
        accept = goes.accept;
        accepted = goes.accepted;
        each = goes.each;
      })
      by was goes (inr gone) = subst (λ a. GoesToHop now lists a) (sym gone.2) (record {
        host = goes.host;
        changes = goes.changes;
        stands = record { host_at = goes.stands.host_at; list_at = goes.stands.list_at };
        accept = goes.accept;
        accepted = goes.accepted;
        each = goes.each;
      })

  ended_now : (n number : ℕ) → IsOutcomeOf old n number → IsOutcomeOf now n number
  ended_now n number was =
      let found = attempt_onward node (slice_get old.attempts was.at) (slice_get hangs.attempts was.at) was.attempt
      (hangs.each_attempt was.at) was.is_there in
      by found.0 found.1 found.2
    where
      by : (attempt : Attempt) → slice_get hangs.attempts was.at ≡ Some attempt → LooseAttempt was.attempt attempt
          → IsOutcomeOf now n number
      by attempt there (inl same) = record {
        at = was.at;
        attempt = was.attempt;
        is_there = there ∙ ap (λ a. Some a) same;
        its_node = was.its_node;
        ended = was.ended;
      }
      by attempt there (inr gone) = absurd (elim was.ended [
        | inl replied ↦ replied_ends number gone.0 (sym replied ∙ gone.1)
        | inr lost ↦ lost_ends number gone.0 (sym lost ∙ gone.1)
      ])

  outside_now : (number : ℕ) (link : Link) → link_at hangs.links number ≡ Some link → link.server ≡ None
      → accepts_on number old.ledger ≡ []
  outside_now number link is none =
      let found = link_back node (link_at old.links number) (link_at hangs.links number) link (hangs.each_link number) is in
      by found.0 found.1 found.2
    where
      by : (was : Link) → link_at old.links number ≡ Some was → Loose was link → accepts_on number old.ledger ≡ []
      by was there loose = elim loose.server [
        | inl same ↦ once.outside number was there (sym same ∙ none)
        | inr gone ↦ absurd (none-some _ (sym none ∙ gone.2))
      ]

  pub hung_up_once : IsTriedOnce new lists asked
  hung_up_once = subst (λ w. IsTriedOnce w lists asked) (sym hangs.new_is) (record {
    once = λ one other n message place mine yours.
        once.once one other n message place (was_claim one n message place mine) (was_claim other n message place yours);
    hops = goes_now;
    outcomes = λ n number host changes outcome stands is.
        elim (once.outcomes n number host changes outcome
        (record { host_at = stands.host_at; list_at = stands.list_at }) is) [
          | inl was ↦ inl (ended_now n number was)
          | inr none ↦ inr none
        ];
    given_up = λ n message host changes disk undecided stands down origin.
        once.given_up n message host changes disk undecided
        (record { host_at = stands.host_at; list_at = stands.list_at }) down origin;
    outside = outside_now;
  })

-- both keep it by whatever lists both worlds are bound
pub ticked : {D : Type 0} {asked : List Withdrawing} (honest : Type 0) (words : DiskWords D) (old new : World D) (lists later : List (List Change))
    → IsBound honest words old lists → IsTriedOnce old lists asked → IsBound honest words new later → (now : ℕ)
    → HasTicked old new now → IsTriedOnce new later asked
ticked {D} {asked} honest words old new lists later bound once after now ticks =
    subst (λ l. IsTriedOnce new l asked)
    (one_row honest words new lists later (ticking_keeps honest words old new lists now bound ticks) after)
    (ticked_once old new lists now once ticks)

pub let_go : {D : Type 0} {asked : List Withdrawing} (honest : Type 0) (words : DiskWords D) (old new : World D) (lists later : List (List Change))
    → IsBound honest words old lists → IsTriedOnce old lists asked → IsBound honest words new later → (node : ℕ)
    → HangsUp old new node → IsTriedOnce new later asked
let_go {D} {asked} honest words old new lists later bound once after node hangs =
    subst (λ l. IsTriedOnce new l asked)
    (one_row honest words new lists later (hanging_up_keeps honest words old new lists node bound hangs) after)
    (hung_up_once old lists node once new hangs)

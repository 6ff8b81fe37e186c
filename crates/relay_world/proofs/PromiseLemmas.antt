-- Two relays keep what they promise.
use Rattle.std.proofs.Common.{◌≡◌, ℕ, List, Some, sym, subst, ap, ◌∙◌}
use Rattle.std.specs.Prelude.{slice_get}
use Rattle.std.proofs.lemmas.Option.{same_Some}
use Rattle.relay_disk.specs.Device.{DiskWords}
use Rattle.relay_book.specs.declared.change.Change.{Change}
use Rattle.relay_book.specs.declared.fate.Way.TheVariants.{ByEnd, ByWithdrawal}
use Rattle.relay_book.specs.Marks.{Ended, First, Fourth, Held, IsOneOf, Second, Third, Transferred, Withdrawn}
use Rattle.relay_world.specs.GivingUp.{Withdrawing}
use Rattle.relay_world.specs.Bound.{IsBound, StandsAt}
use Rattle.relay_world.specs.Custody.{KeepsCustody}
use Rattle.relay_world.specs.declared.attempt.Attempt.{Attempt}
use Rattle.relay_world.specs.declared.link.Link.{Link}
use Rattle.relay_world.specs.Children.{IsAttempt}
use Rattle.relay_world.specs.HopLinks.{AreLinkedToHops, IsLinkedToHop, LeadsTo}
use Rattle.relay_world.specs.Lines.{HasSources}
use Rattle.relay_world.specs.Once.{IsTriedOnce}
use Rattle.relay_world.specs.Promise.{EndedFor, HasArrived, HasEnded, IsHeld, IsPassedOn, IsWithdrawn, KeepsPromise, PromiseIsKept, StillHeld, UnaskedIsKept, WasPassedOn}
use Rattle.relay_world.specs.World.{Host, World}
use Rattle.relay_world.proofs.AmongLemmas.{in_none}
use Rattle.relay_world.proofs.ChainLemmas.{short_chains}
use Rattle.relay_world.proofs.ChildrenLemmas.{at_most_one_child}
use Rattle.relay_world.proofs.ContentLemmas.{content_is_kept}
use Rattle.relay_world.proofs.CopiesLemmas.{copies_are_few}
use Rattle.relay_world.proofs.CustodyLemmas.{custody_is_kept}
use Rattle.relay_world.proofs.DelayLemmas.{delays_once}
use Rattle.relay_world.proofs.GrowthLemmas.{grown_lists_begin, runs_grow}
use Rattle.relay_world.proofs.LeavingLemmas.{asked_for, ended_for, leaving_is_caused}
use Rattle.relay_world.proofs.PassingLemmas.{others_are_not_held}
use Rattle.relay_world.proofs.RunLemmas.{runs_keep_all, runs_keep_attempts}
use Rattle.relay_world.proofs.TransferLemmas.{transferred_is_accepted}

module _ {D : Type 0} (honest : Type 0) (words : DiskWords D) (world : World D) (lists : List (List Change))
    (bound : IsBound honest words world lists) {asked : List Withdrawing} (once : IsTriedOnce world lists asked) (linked : AreLinkedToHops world)
    (sources : HasSources world lists) where
  custody : (node : ℕ) (host : Host D) (changes : List Change) → StandsAt world lists node host changes
      → KeepsCustody honest words world node host changes
  custody node host changes stands = custody_is_kept honest words world lists bound node host changes stands

  -- one of four has come of a recipient
  come : (node : ℕ) (host : Host D) (changes : List Change) → StandsAt world lists node host changes → (number place : ℕ)
      → IsOneOf (Held changes number place) (Transferred changes number place) (Ended changes number place)
      (Withdrawn changes number place)
      → HasArrived world lists asked node host changes number place
  come node host changes stands number place (First held not_taken not_ended not_withdrawn) = IsHeld held
  come node host changes stands number place (Second not_held taken not_ended not_withdrawn) =
      IsPassedOn (transferred_is_accepted honest words world lists asked bound once linked node host changes stands number place taken)
  come node host changes stands number place (Third not_held not_taken ended not_withdrawn) =
      let left = (custody node host changes stands).left ended.0 number place ByEnd ended.1 in
      HasEnded ended.0 left
      (ended_for asked node number place left.leaves.accept.at left.leaves.outcome.at left.leaves.verdict
      (leaving_is_caused honest words world lists asked bound once node host changes stands ended.0 number place ByEnd
      left.leaves) left.cause)
  come node host changes stands number place (Fourth not_held not_taken not_ended withdrawn) =
      let left = (custody node host changes stands).left withdrawn.1.0 number place (ByWithdrawal withdrawn.0) withdrawn.1.1 in
      IsWithdrawn withdrawn.1.0 withdrawn.0 left
      (asked_for world lists asked node host changes withdrawn.1.0 number place left.leaves.accept.at left.leaves.outcome.at
      left.leaves.verdict withdrawn.0
      (leaving_is_caused honest words world lists asked bound once node host changes stands withdrawn.1.0 number place
      (ByWithdrawal withdrawn.0) left.leaves) left.cause)

  -- the link of an attempt leads to the node that has the name of its hop
  leads_there : (host : Host D) (changes : List Change) (link : Link) (attempt : Attempt)
      → IsAttempt world lists host changes link attempt → (next : ℕ) (at_next : Host D)
      → slice_get world.hosts next ≡ Some at_next → at_next.config.host ≡ attempt.hop → LeadsTo world attempt link next
  leads_there host changes link attempt is next at_next there name =
      let is_linked : IsLinkedToHop world attempt = linked is.at attempt is.is_there in
      subst (λ l. LeadsTo world attempt l next) (same_Some is_linked.link link (sym is_linked.its_link ∙ is.its_link))
      (is_linked.to_node next at_next there name)

  pub promise : KeepsPromise honest words world lists asked
  promise = record {
    recipients = λ node host changes stands number places place told within.
        let its : KeepsCustody honest words world node host changes = custody node host changes stands in
        come node host changes stands number place (its.one_of number place (its.acknowledged number places place told within));
    added = λ node host changes stands number place is.
        let its : KeepsCustody honest words world node host changes = custody node host changes stands in
        come node host changes stands number place (its.one_of number place is);
    transferred = λ node host changes stands number place taken.
        transferred_is_accepted honest words world lists asked bound once linked node host changes stands number place taken;
    children = λ host changes link attempt is next at_next others there name.
        let leads = leads_there host changes link attempt is next at_next there.host_at name in
        at_most_one_child honest words world lists bound host changes link attempt is leads.end others leads.serves
        (ap (λ n. slice_get lists n) leads.its_node ∙ there.list_at);
    refused = λ host changes link attempt is next at_next there name place verdict gave off.
        let leads = leads_there host changes link attempt is next at_next there name in
        others_are_not_held honest words world lists bound host changes link attempt is leads.end leads.serves place verdict gave
        off;
    custody = custody;
    copies = λ node message place. copies_are_few honest words world lists asked bound once node message place;
    content = λ number place link attempt host changes accept is client at stands accepted.
        content_is_kept honest words world lists bound number place link attempt host changes accept is client at stands accepted;
    chains = short_chains honest words world lists bound;
    once = once;
    linked = linked;
    sources = sources;
    delays = λ node host changes stands. delays_once changes (bound.hosts node host changes stands).list.fitting;
  }

pub promise_is_kept : {D : Type 0} (honest : Type 0) (words : DiskWords D)
    → ((disk : D) → words.may_leave disk (words.seen disk)) → PromiseIsKept honest words
promise_is_kept honest words sees is count old new lists asked bound once linked sources happen =
    let all = runs_keep_all honest words sees is count old new lists asked bound once linked sources happen in
    let grows = runs_grow honest words count old new happen in (
      all.0,
      all.1,
      promise honest words new all.0 all.1 all.2 all.3 all.4,
      grows,
      runs_keep_attempts honest words sees is count old new lists bound happen,
      grown_lists_begin honest words old new lists all.0 bound all.1 grows,
    )

-- and without the postmaster it is the promise that there is without him
pub unasked_is_kept : (D : Type 0) → UnaskedIsKept D
unasked_is_kept D world lists node host changes number place (IsHeld held) = StillHeld held
unasked_is_kept D world lists node host changes number place (IsPassedOn passed) = WasPassedOn passed
unasked_is_kept D world lists node host changes number place (HasEnded at left cause) = EndedFor at left cause
unasked_is_kept D world lists node host changes number place (IsWithdrawn at withdrawal left asks) =
    absurd (in_none (record { node = node; message = number; withdrawal = withdrawal; names = asks.names }) asks.there)

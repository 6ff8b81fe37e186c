-- An attempt that begins on a link to outside, and one that is refused.
use Rattle.std.proofs.Common.{inr, ◌≡◌, ◌≤◌, ◌+◌, ℕ, suc, false, List, [], ◌∷◌, ◌++◌, length, None, Some, Ok, Err, refl, sym, subst, ap, ◌∙◌}
use Rattle.std.specs.Prelude.{slice_get, slice_set}
use Rattle.std.proofs.lemmas.Option.{same_Some}
use Rattle.relay_disk.specs.Device.{DiskWords}
use Rattle.relay_attempts.specs.declared.work.Work.TheVariants.{Try}
use Rattle.relay_records.specs.declared.fault.NodeFault.{NodeFault}
use Rattle.relay_world.specs.declared.link.Link.{Link}
use Rattle.relay_world.specs.HopLinks.{IsLinkedToHop}
use Rattle.relay_world.specs.Once.{RunsKeepAll}
use Rattle.relay_world.specs.Steps.{IsBlank, IsPutAt}
use Rattle.relay_world.specs.World.{Host, World}
use Rattle.relay_events.specs.declared.event.Event.TheVariants.{Give}
use Rattle.relay_events.specs.declared.seen.Seen.TheVariants as seen
use Rattle.relay_events.specs.Give.{HasBegun, IsFirstWork, IsWhyNotBegun}
use Rattle.relay_hosts.specs.Named.{NoneIsNamed}
use Rattle.relay_events.specs.Happened.{HasHappened}
use Rattle.relay_events.specs.Relays.{AreBound}
use Rattle.relay_hosts.specs.Room.{HasRoom, lines_left, lines_to_come}
use Rattle.relay_events.specs.Step.{Refuses, RefusesToStart, Shows, StartsOutside, Steps, fault_of}
use Rattle.relay_events.specs.Told.{LearnsOfBreaks}
use Rattle.relay_events.proofs.GiveLemmas.{first_not_down}
use Rattle.relay_events.proofs.NamedLemmas.{none_is_down}
use Rattle.relay_events.proofs.PutLemmas.{put_at_push}
use Rattle.relay_events.proofs.StartLemmas.{has_started, linked_outside, outside_link, started_bound, started_happened, started_room, started_told}
use Rattle.relay_events.proofs.StepLemmas.{told_already}

module _ {D : Type 0} (honest : Type 0) (words : DiskWords D) (old mid new : World D) (node message : ℕ) (hop : List ℕ) (place : ℕ)
    (begun : HasBegun honest words old mid node message hop (suc (length old.links)) place) (links : List Link)
    (pushed : links ≡ old.links ++ outside_link place ∷ []) (new_is : new ≡ record mid { links = links })
    (none : NoneIsNamed old.hosts hop) where
  abbrev next : ℕ
  next = suc (length old.links)

  abbrev at : ℕ
  at = length old.attempts

  full_is : new ≡ record old { hosts = slice_set old.hosts node begun.now; attempts = old.attempts ++ begun.attempt ∷ []; links = links }
  full_is = new_is ∙ ap (λ (w : World D). record w { links = links }) begun.new_is

  abbrev blank : Link
  blank = record {
    client = None;
    server = None;
    up = [];
    up_read = 0;
    down = [];
    down_read = 0;
    broken = false;
  }

  is_blank : IsBlank old next blank
  is_blank = record { client = refl; up = refl; down_read = refl; whole = refl; there = inr (refl, refl, refl) }

  put : IsPutAt old.links links next (outside_link at)
  put =
      subst (λ ls. IsPutAt old.links ls next (outside_link at))
      (sym (pushed ∙ ap (λ p. old.links ++ outside_link p ∷ []) begun.place_is)) (put_at_push old.links (outside_link at))

  linked : IsLinkedToHop new begun.attempt
  linked = linked_outside honest words old mid new node message hop next place begun links blank is_blank put full_is refl none

  pub outside_happened : HasHappened honest words old new
  outside_happened = started_happened honest words old mid new node message hop next place begun links blank is_blank put full_is linked

  pub outside_bound : honest → RunsKeepAll honest words → AreBound honest words old → AreBound honest words new
  outside_bound = started_bound honest words old mid new node message hop next place begun links blank is_blank put full_is linked

  pub outside_told : AreBound honest words old → LearnsOfBreaks old → LearnsOfBreaks new
  outside_told = started_told honest words old mid new node message hop next place begun links blank is_blank put full_is

  pub outside_room : (free : ℕ) → AreBound honest words new → lines_to_come old.attempts + lines_left 0 old.hosts + 100 ≤ free
      → HasRoom new free
  outside_room = started_room honest words old mid new node message hop next place begun links blank is_blank put full_is

  pub outside_steps : IsFirstWork old node (Try message hop) → AreBound honest words old → LearnsOfBreaks old
      → Steps honest words old (Give node) new (Ok (seen.Started place))
  outside_steps first bound told = (
    first_not_down old node message hop first (none_is_down old old.hosts hop none),
    (
      new,
      (
        Shows (seen.Started (length old.attempts)),
        StartsOutside message hop first
            (has_started honest words old mid new node message hop next place begun links blank is_blank put full_is linked)
            (begun.is_attempt.0),
        (
          told_already honest words new (outside_told bound told),
          ap (λ p. Ok (seen.Started p)) begun.place_is,
        ),
      ),
    ),
  )

module _ {D : Type 0} (honest : Type 0) (words : DiskWords D) (old new : World D) (node message : ℕ) (hop : List ℕ) (why : NodeFault)
    (first : IsFirstWork old node (Try message hop)) where
  pub why_of_first : (host : Host D) → slice_get old.hosts node ≡ Some host → IsWhyNotBegun host why → IsWhyNotBegun first.host why
  why_of_first host at because =
      subst (λ h. IsWhyNotBegun h why) (same_Some host first.host (sym at ∙ first.host_at)) because

  pub unstarted_outside : (new ≡ old) × ((host : Host D) × (slice_get old.hosts node ≡ Some host) × IsWhyNotBegun host why)
      → NoneIsNamed old.hosts hop → LearnsOfBreaks old → Steps honest words old (Give node) new (Err (fault_of why))
  unstarted_outside refused none told =
      inr (inr (
        first_not_down old node message hop first (none_is_down old old.hosts hop none),
        (
          new,
          (
            Refuses (fault_of why),
            RefusesToStart message hop first why (why_of_first refused.1.0 refused.1.1 refused.1.2) refused.0,
            (told_already honest words new (subst (λ (w : World D). LearnsOfBreaks w) (sym refused.0) told), refl),
          ),
        ),
      ))

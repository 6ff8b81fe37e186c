-- Outside writes on a link.
use Rattle.std.proofs.Common.{inl, inr, ◌≡◌, ◌-◌, ℕ, Bool, true, false, List, Option, None, Some, Ok, refl, sym, subst, ap, ◌∙◌}
use Rattle.std.specs.Prelude.{if◌then◌else◌, slice_index_or, slice_set}
use Rattle.std.proofs.lemmas.Bool.Decides.{eqb_tells}
use Rattle.std.proofs.lemmas.Option.{none-some, same_Some}
use Rattle.relay_disk.specs.Device.{DiskWords}
use Rattle.relay_world.specs.declared.link.Link.{Link}
use Rattle.relay_world.specs.Once.{RunsKeepAll, Writes}
use Rattle.relay_world.specs.Steps.{HasWritten, IsPutAt, WritesAs}
use Rattle.relay_world.specs.World.{World, link_at}
use Rattle.relay_events.specs.declared.event.Event.TheVariants.{Send}
use Rattle.relay_events.specs.declared.fault.PairFault.TheVariants as fault
use Rattle.relay_events.specs.declared.seen.Seen.TheVariants.{Sent}
use Rattle.relay_hosts.specs.Links.{IsSendable, has_outside, hears_on, if_whole, is_untold, tries_on, whole_link}
use Rattle.relay_events.specs.FirstFault.{send_fault}
use Rattle.relay_events.specs.Happened.{HasHappened}
use Rattle.relay_events.specs.Relays.{AreBound}
use Rattle.relay_hosts.specs.Room.{HasRoom}
use Rattle.relay_events.specs.Step.{Shows, Steps}
use Rattle.relay_events.specs.Told.{LearnsOfBreaks}
use Rattle.relay_events.proofs.PlaceLemmas.{link_put, link_same, link_there, set_same}
use Rattle.relay_events.proofs.RunLemmas.{one_happened, still_bound}
use Rattle.relay_events.proofs.StepLemmas.{told_already}

-- a link that is whole is there
pub whole_there : (found : Option Link) (link : Link) → if_whole found ≡ Some link → (found ≡ Some link) × (link.broken ≡ false)
whole_there None link is = absurd (none-some link is)
whole_there (Some its) link is = by its.broken refl is
  where
    by : (broken : Bool) → its.broken ≡ broken → (if broken then None else Some its) ≡ Some link
        → (Some its ≡ Some link) × (link.broken ≡ false)
    by true was none = absurd (none-some link none)
    by false was same = (same, ap (λ (l : Link). l.broken) (sym (same_Some its link same)) ∙ was)

pub sendable : {D : Type 0} (world : World D) (links : List Link) (number : ℕ) → send_fault world (whole_link links number) ≡ None
    → IsSendable links number
sendable world links number none = by (whole_link links number) none refl
  where
    has : (outside : Bool) → (if outside then None else Some fault.NotYours) ≡ None → outside ≡ true
    has true is = refl
    has false is = absurd (none-some fault.NotYours (sym is))

    by : (found : Option Link) → send_fault world found ≡ None → whole_link links number ≡ found → IsSendable links number
    by None is found = absurd (none-some fault.NoLink (sym is))
    by (Some link) is found =
        let there = whole_there (link_at links number) link found in
        record { link = link; link_is = there.0; whole = there.1; outside = has (has_outside link) is }

-- where a link is put that no node has still to be told of, all are told as before
pub told_put : {D : Type 0} (world : World D) (links : List Link) (number : ℕ) (link : Link) → IsPutAt world.links links number link
    → is_untold world.attempts link ≡ false → LearnsOfBreaks world → LearnsOfBreaks (record world { links = links })
told_put world links number link put its told other at is =
    elim (eqb_tells other number) [
      | inl same ↦ ap (λ l. is_untold world.attempts l)
          (same_Some at link (sym is ∙ ap (λ n. link_at links n) same.1 ∙ put.at)) ∙ its
      | inr off ↦ told other at (sym (put.others other off.1) ∙ is)
    ]

module _ {D : Type 0} (honest : Type 0) (words : DiskWords D) (old new : World D) (number : ℕ) (octets : List ℕ)
    (writes : HasWritten old new number octets) where
  still_whole : writes.written.broken ≡ false
  still_whole = elim writes.writes [
    | inl up ↦ ap (λ (l : Link). l.broken) up.1 ∙ writes.whole
    | inr down ↦ ap (λ (l : Link). l.broken) down.1 ∙ writes.whole
  ]

  pub sent_told : LearnsOfBreaks old → LearnsOfBreaks new
  sent_told told =
      subst (λ (w : World D). LearnsOfBreaks w) (sym writes.new_is)
      (told_put old writes.links number writes.written writes.put
      (ap (λ b. if b then (if hears_on writes.written.server then true else tries_on old.attempts writes.written.client) else false)
      still_whole) told)

  pub sent_steps : send_fault old (whole_link old.links number) ≡ None → LearnsOfBreaks old
      → Steps honest words old (Send number octets) new (Ok Sent)
  sent_steps none told = (none, (new, (Shows Sent, (writes, refl), (told_already honest words new (sent_told told), refl))))

  pub sent_happened : HasHappened honest words old new
  sent_happened = one_happened honest words old new (Writes number octets writes)

  pub sent_bound : honest → RunsKeepAll honest words → AreBound honest words old → AreBound honest words new
  sent_bound is_honest keeps bound = still_bound honest words is_honest keeps old new bound sent_happened

  pub sent_room : (free : ℕ) → HasRoom old free → HasRoom new free
  sent_room free room = subst (λ (w : World D). HasRoom w free) (sym writes.new_is) room

-- the parts of it
pub written_on : {D : Type 0} (old : World D) (number : ℕ) (octets : List ℕ) (there : IsSendable old.links number)
    (read moved : Link) → read ≡ slice_index_or old.links (number - 1) read → WritesAs read octets moved
    → HasWritten old (record old { links = slice_set old.links (number - 1) moved }) number octets
written_on old number octets there read moved at writes = record {
  link = there.link;
  link_is = there.link_is;
  whole = there.whole;
  written = moved;
  writes = subst (λ (l : Link). WritesAs l octets moved) (link_same old.links number there.link read there.link_is at) writes;
  links = slice_set old.links (number - 1) moved;
  put = link_put old.links number there.link moved there.link_is;
  new_is = refl;
}

pub unwritten_on : {D : Type 0} (old : World D) (number : ℕ) (there : IsSendable old.links number) (read moved : Link)
    → read ≡ slice_index_or old.links (number - 1) read → moved ≡ read
    → record old { links = slice_set old.links (number - 1) moved } ≡ old
unwritten_on old number there read moved at same =
    ap (λ (ls : List Link). record old { links = ls })
    (set_same old.links (number - 1) there.link moved (link_there old.links number there.link there.link_is)
    (same ∙ link_same old.links number there.link read there.link_is at))

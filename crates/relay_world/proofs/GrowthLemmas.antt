-- Whatever event comes, what was recorded, told, written and read stays so.
use Rattle.std.proofs.Common.{◌≡◌, ◌⊎◌, inl, inr, zero, suc, true, [], ◌∷◌, ◌++◌, length, None, Some, refl, sym, subst, ap, ◌∙◌, arith}
use Rattle.std.proofs.lemmas.Option.{same_Some}
use Rattle.relay_disk.specs.Device.{DiskWords}
use Rattle.relay_world.specs.declared.attempt.Fate.TheVariants.{Lost}
use Rattle.relay_world.specs.declared.link.Link.{Link}
use Rattle.relay_world.specs.Growth.{GrownListsBegin, HasGrown, LinkGrows, RunsGrow}
use Rattle.relay_world.specs.Once.{BreaksOff, Drops, Ends, GivesUp, GoesOn, Happens, Hears, IsNotOpened, LetsGo, Loses, Opens, Reads, Reopens, Starts, Stops, StopsInGivingUp, StopsInHearing, StopsInLosing, StopsInReading, Ticks, Writes, Closes, HearsAll, ReopensAfterGroup}
use Rattle.relay_world.specs.Steps.{heard_link, opened_link, without_note}
use Rattle.relay_world.specs.Stops.{cut_off_link}
use Rattle.relay_world.specs.World.{Down, FromClient, FromGivingUp, Up, World, link_at}
use Rattle.relay_world.proofs.ClaimLemmas.{there_too}
use Rattle.relay_world.proofs.GrowLemmas.{list_grown}
use Rattle.relay_world.proofs.GrowthGroupLemmas.{heard_all, reopened_after}
use Rattle.relay_world.proofs.GrowthStepLemmas.{begun_grows, broken_grows, cut_off_grows, decided, dropped, dropped_at, ended, grown, grown_on, heard, heard_grows, let_go, octets_of, octets_put, octets_same, one_link, read_by, read_octets, recorded, records_put, records_same, same_begins, same_ledger, stays, written_grows}
use Rattle.relay_world.proofs.OpenLemmas.{number_within}
use Rattle.relay_world.proofs.RecordLemmas.{outcome_taken}

-- each event, in a line
pub event_grows : {D : Type 0} (honest : Type 0) (words : DiskWords D) (old new : World D) → Happens honest words old new
    → HasGrown old new
event_grows honest words old new (Opens node peer is) =
    grown old new (stays old new node is.host (record is.host { state = Up is.after }) is.host_at is.hosts refl)
    (same_ledger old new is.rest.1)
    (octets_put old new (suc (length old.links)) (opened_link node peer is.connected) is.links
    (λ was at.
    let within = number_within old.links (suc (length old.links)) was at in absurd (omega (arith, within))))
event_grows honest words old new (Writes number octets is) =
    one_link old new is.links number is.link is.written is.new_is is.link_is is.put
    (written_grows is.link is.written octets is.whole is.writes)
event_grows honest words old new (Hears number count is) =
    heard old new is.of.end.node number is.of.host is.after is.received.change is.of.host_at is.records
    (octets_of old new number is.of.link (heard_link is.of.link is.of.end is.of.session is.received) is.of.link_is is.links
    (heard_grows is.of.link is.of.end is.of.session is.received is.of.serves is.of.goes_on))
event_grows honest words old new (HearsAll node pieces is) = heard_all honest words old new node pieces is
event_grows honest words old new (Ends number is) = ended old new number None is
event_grows honest words old new (Closes number reply is) = ended old new number (Some reply) is.ends
event_grows honest words old new (Reads number count is) =
    read_by old new number is.of is.after is.replied.change is.records
    (read_octets old new number is.of is.replied is.links)
event_grows honest words old new (Loses number change is) =
    recorded old new number change is.of (without_note is.after) (Lost change) is.records.noted
    (outcome_taken old new number is.of is.after (Lost change) change is.records) (octets_same old new is.links)
event_grows honest words old new (Drops number is) = dropped old new number is
event_grows honest words old new (BreaksOff number is) =
    one_link old new is.links number is.link (record is.link { broken = true }) is.new_is is.link_is is.put
    (broken_grows is.link)
event_grows {D} honest words old new (Starts number message hop is) =
    grown old new
    (stays old new is.attempt.node is.host (record is.host { state = Up is.after }) is.host_at is.hosts refl)
    (same_ledger old new is.rest.0)
    (octets_put old new number (record is.blank { client = Some (length old.attempts) }) is.links (blank is.is_blank.there))
  where
    blank : (link_at old.links number ≡ Some is.blank)
        ⊎ ((number ≡ suc (length old.links)) × (is.blank.server ≡ None) × (is.blank.up_read ≡ 0))
        → (was : Link) → link_at old.links number ≡ Some was
        → LinkGrows was (record is.blank { client = Some (length old.attempts) })
    blank (inl there) was at =
        subst (λ l. LinkGrows l (record is.blank { client = Some (length old.attempts) }))
        (same_Some is.blank was (sym there ∙ at))
        (begun_grows is.blank (length old.attempts) is.is_blank.client is.is_blank.whole)
    blank (inr fresh) was at =
        let within = number_within old.links number was at in
        let is_next = fresh.0 in
        absurd (omega (arith, within, is_next))
event_grows honest words old new (GivesUp reason node message change is) =
    grown old new
    (records_put old new node is.host
    (record is.host { state = Up (without_note is.after); records = is.host.records ++ is.noted.octets ∷ [] }) is.host_at
    is.hosts (is.noted.octets ∷ [], refl))
    (_, is.ledger) (octets_same old new is.rest.0)
event_grows honest words old new (Stops node is) =
    grown old new (stays old new node is.host (record is.host { state = Down is.disk None }) is.host_at is.hosts refl)
    (same_ledger old new is.rest.2) (octets_same old new is.rest.0)
event_grows honest words old new (StopsInHearing number count is) =
    grown old new
    (stays old new is.of.end.node is.of.host
    (record is.of.host { state = Down is.disk (Some (record { note = is.noted; origin = FromClient number })) }) is.of.host_at
    is.hosts refl)
    (same_ledger old new is.rest.1)
    (octets_of old new number is.of.link (cut_off_link is.of.link is.of.end) is.of.link_is is.links
    (cut_off_grows is.of.link is.of.end is.of.serves))
event_grows honest words old new (StopsInReading number count is) = dropped_at old new number is.of is.stopped _ is.drops
event_grows honest words old new (StopsInLosing number is) = dropped_at old new number is.of is.stopped _ is.drops
event_grows honest words old new (StopsInGivingUp reason node message is) =
    grown old new
    (stays old new node is.host
    (record is.host { state = Down is.disk (Some (record { note = is.noted; origin = FromGivingUp message })) }) is.host_at is.hosts
    refl)
    (same_ledger old new is.rest.2) (octets_same old new is.rest.0)
event_grows honest words old new (IsNotOpened node is) =
    grown old new (stays old new node is.host (record is.host { state = Down is.again is.undecided }) is.host_at is.hosts refl)
    (same_ledger old new is.rest.2) (octets_same old new is.rest.0)
event_grows honest words old new (Reopens node is) =
    decided old new node is.host is.after is.undecided is.host_at is.decides
event_grows honest words old new (ReopensAfterGroup node pieces is) = reopened_after honest words old new node pieces is
event_grows honest words old new (Ticks clock is) =
    grown old new (records_same old new (ap (λ (w : World _). w.hosts) is.new_is))
    (same_ledger old new (ap (λ (w : World _). w.ledger) is.new_is))
    (octets_same old new (ap (λ (w : World _). w.links) is.new_is))
event_grows honest words old new (LetsGo node is) = let_go old new node is
event_grows honest words old new (GoesOn node is) =
    grown old new (stays old new node is.host (record is.host { state = Up is.after }) is.host_at is.hosts refl)
    (same_ledger old new is.rest.2) (octets_same old new is.rest.0)

pub runs_grow : {D : Type 0} (honest : Type 0) (words : DiskWords D) → RunsGrow honest words
runs_grow honest words zero old new same =
    subst (λ w. HasGrown old w) (sym same)
    (grown old old (records_same old old refl) (same_begins old.ledger) (octets_same old old refl))
runs_grow honest words (suc count) old new happen =
    grown_on old happen.0 new (event_grows honest words old happen.0 happen.1)
    (runs_grow honest words count happen.0 new happen.2)

pub grown_lists_begin : {D : Type 0} (honest : Type 0) (words : DiskWords D) → GrownListsBegin honest words
grown_lists_begin honest words old new lists later bound now grows node before after first second =
    let host = there_too lists old.hosts node before bound.even first in
    let its = grows.records node host.0 host.1 in
    list_grown host.0.records its.0.records its.2.0 before after
    (bound.hosts node host.0 before (record { host_at = host.1; list_at = first })).list
    (now.hosts node its.0 after (record { host_at = its.1; list_at = second })).list its.2.1

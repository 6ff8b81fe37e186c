-- Each event keeps it so that attempts have the links that they are meant to have.
use Rattle.std.proofs.Common.{◌∷◌, [], ◌++◌, true, suc, length, None, Some, refl, sym, ap, ◌∙◌, arith}
use Rattle.std.specs.Prelude.{slice_get}
use Rattle.std.proofs.lemmas.Option.{none-some}
use Rattle.relay_disk.specs.Device.{DiskWords}
use Rattle.relay_world.specs.declared.attempt.Fate.TheVariants.{Lost}
use Rattle.relay_world.specs.HopLinks.{HopLinksAtFirst}
use Rattle.relay_world.specs.Once.{BreaksOff, Drops, Ends, GivesUp, GoesOn, Hears, IsNotOpened, LetsGo, Loses, HopLinksAreKept, Opens, Reads, Reopens, Starts, Stops, StopsInGivingUp, StopsInHearing, StopsInLosing, StopsInReading, Ticks, Writes, Closes, HearsAll, ReopensAfterGroup}
use Rattle.relay_world.specs.Steps.{heard_link, opened_link, read_link, session_after, without_note}
use Rattle.relay_world.specs.Stops.{cut_off_link}
use Rattle.relay_world.specs.World.{Down, FromClient, FromGivingUp, Up, World}
use Rattle.relay_world.proofs.HopGroupLemmas.{heard_all, reopened_after}
use Rattle.relay_world.proofs.HopWayLemmas.{all_linked, decided, dropped, dropped_at, ended, heard_names, hops_same, let_go, names_put, names_same, one_link, one_node, read_by, recorded, started, ways_ended, ways_like, ways_put, ways_same, written_server}
use Rattle.relay_world.proofs.OpenLemmas.{number_within}
use Rattle.relay_world.proofs.RecordLemmas.{outcome_taken}

pub hop_links_are_kept : {D : Type 0} (honest : Type 0) (words : DiskWords D) → HopLinksAreKept honest words
hop_links_are_kept honest words old new linked (Opens node peer opens) =
    all_linked old new opens.rest.3
    (names_put old new node opens.host (record opens.host { state = Up opens.after }) opens.host_at opens.hosts refl)
    (ways_put old new (suc (length old.links)) (opened_link node peer opens.connected) opens.links
    (λ was is.
    let within = number_within old.links (suc (length old.links)) was is in absurd (omega (arith, within)))) linked
    (hops_same old new opens.rest.0)
hop_links_are_kept honest words old new linked (Writes number octets writes) =
    one_link old new linked writes.links number writes.link writes.written writes.new_is writes.link_is
    (written_server writes.link writes.written octets writes.writes) writes.put
hop_links_are_kept honest words old new linked (Hears number count hears) =
    all_linked old new hears.rest.2
    (heard_names old new linked hears.of.end.node number hears.of.host hears.after hears.received.change hears.of.host_at
    hears.records)
    (ways_ended old new number hears.of.link (heard_link hears.of.link hears.of.end hears.of.session hears.received)
    hears.of.end (session_after hears.received.close hears.of.session) hears.of.link_is hears.of.serves refl hears.links) linked
    (hops_same old new hears.rest.0)
hop_links_are_kept honest words old new linked (HearsAll node pieces hears) =
    heard_all honest words old new linked node pieces hears
hop_links_are_kept honest words old new linked (Ends number ends) = ended old new linked number None ends
hop_links_are_kept honest words old new linked (Closes number reply cuts) =
    ended old new linked number (Some reply) cuts.ends
hop_links_are_kept honest words old new linked (Reads number count reads) =
    read_by old new linked number reads.of reads.after reads.replied.change reads.records reads.rest.1
    (ways_like old new number reads.of.link (read_link reads.of.link reads.replied) reads.of.link_is refl reads.links)
hop_links_are_kept honest words old new linked (Loses number change loses) =
    recorded old new linked number change loses.of (without_note loses.after) (Lost change) loses.records.noted
    (outcome_taken old new number loses.of loses.after (Lost change) change loses.records) loses.rest.1
    (ways_same old new loses.links)
hop_links_are_kept honest words old new linked (Drops number drops) = dropped old new linked number drops
hop_links_are_kept honest words old new linked (BreaksOff number breaks) =
    one_link old new linked breaks.links number breaks.link (record breaks.link { broken = true }) breaks.new_is breaks.link_is
    refl breaks.put
hop_links_are_kept honest words old new linked (Starts number message hop starts) = started old new linked number message hop starts
hop_links_are_kept honest words old new linked (GivesUp reason node message change gives) =
    one_node old new linked node gives.host
    (record gives.host {
      state = Up (without_note gives.after);
      records = gives.host.records ++ gives.noted.octets ∷ [];
    }) gives.host_at gives.hosts refl gives.rest.3 gives.rest.0 gives.rest.1
hop_links_are_kept honest words old new linked (Stops node stops) =
    one_node old new linked node stops.host (record stops.host { state = Down stops.disk None }) stops.host_at stops.hosts refl
    stops.rest.4 stops.rest.0 stops.rest.1
hop_links_are_kept honest words old new linked (StopsInHearing number count stops) =
    all_linked old new stops.rest.3
    (names_put old new stops.of.end.node stops.of.host
    (record stops.of.host { state = Down stops.disk (Some (record { note = stops.noted; origin = FromClient number })) })
    stops.of.host_at stops.hosts refl)
    (ways_ended old new number stops.of.link (cut_off_link stops.of.link stops.of.end) stops.of.end None stops.of.link_is
    stops.of.serves refl stops.links) linked (hops_same old new stops.rest.0)
hop_links_are_kept honest words old new linked (StopsInReading number count stops) =
    dropped_at old new linked number stops.of stops.stopped _ stops.drops
hop_links_are_kept honest words old new linked (StopsInLosing number stops) =
    dropped_at old new linked number stops.of stops.stopped _ stops.drops
hop_links_are_kept honest words old new linked (StopsInGivingUp reason node message stops) =
    one_node old new linked node stops.host
    (record stops.host { state = Down stops.disk (Some (record { note = stops.noted; origin = FromGivingUp message })) })
    stops.host_at stops.hosts refl stops.rest.4 stops.rest.0 stops.rest.1
hop_links_are_kept honest words old new linked (IsNotOpened node stays) =
    one_node old new linked node stays.host (record stays.host { state = Down stays.again stays.undecided }) stays.host_at
    stays.hosts refl stays.rest.4 stays.rest.0 stays.rest.1
hop_links_are_kept honest words old new linked (Reopens node reopens) =
    decided old new linked node reopens.host reopens.after reopens.undecided reopens.host_at reopens.rest.1 reopens.decides
hop_links_are_kept honest words old new linked (ReopensAfterGroup node pieces reopens) =
    reopened_after honest words old new linked node pieces reopens
hop_links_are_kept honest words old new linked (Ticks clock ticks) =
    all_linked old new (ap (λ (w : World _). length w.hosts) ticks.new_is)
    (names_same old new (ap (λ (w : World _). w.hosts) ticks.new_is))
    (ways_same old new (ap (λ (w : World _). w.links) ticks.new_is)) linked
    (hops_same old new (ap (λ (w : World _). w.attempts) ticks.new_is))
hop_links_are_kept honest words old new linked (LetsGo node hangs) = let_go old new linked node hangs
hop_links_are_kept honest words old new linked (GoesOn node stays) =
    one_node old new linked node stays.host (record stays.host { state = Up stays.after }) stays.host_at stays.hosts refl stays.rest.4
    stays.rest.0 stays.rest.1

pub hop_links_at_first : (D : Type 0) → HopLinksAtFirst D
hop_links_at_first D world none at attempt is = absurd (none-some attempt (ap (λ l. slice_get l at) (sym none) ∙ is))

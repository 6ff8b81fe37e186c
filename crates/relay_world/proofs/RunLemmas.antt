-- A run of events keeps two relays bound, each place tried once, and the links of attempts as they are meant.
use Rattle.std.proofs.Common.{◌≡◌, ℕ, zero, suc, List, [], Some, refl, sym, subst, ap, ◌∙◌, None, ◌++◌}
use Rattle.std.specs.Prelude.{slice_get}
use Rattle.std.proofs.lemmas.Option.{none-some}
use Rattle.relay_disk.specs.Device.{DiskWords}
use Rattle.relay_book.specs.declared.change.Change.{Change}
use Rattle.relay_book.specs.declared.change.Change.TheVariants as change
use Rattle.relay_book.specs.declared.change.Outcome.{Outcome}
use Rattle.relay_book.specs.Marks.{change_at}
use Rattle.relay_world.specs.Bound.{IsBound}
use Rattle.relay_world.specs.Growth.{AttemptsGrow, RunsKeepAttempts}
use Rattle.relay_world.specs.HopLinks.{AreLinkedToHops}
use Rattle.relay_world.specs.Lines.{HasSources}
use Rattle.relay_world.specs.Ledger.{accepts_on}
use Rattle.relay_world.specs.Once.{BreaksOff, Drops, Ends, GivesUp, GoesOn, Happens, Hears, IsNotOpened, IsTriedOnce, LetsGo, Loses, OnceAtFirst, OnceIsKept, Opens, Reads, Reopens, RunsKeepAll, Starts, Stops, StopsInGivingUp, StopsInHearing, StopsInLosing, StopsInReading, Ticks, Writes, Closes, HearsAll, ReopensAfterGroup, asked_at}
use Rattle.relay_world.specs.World.{World}
use Rattle.relay_world.proofs.BreakLemmas.{breaking_keeps}
use Rattle.relay_world.proofs.EndLemmas.{ending_keeps, cutting_off_keeps}
use Rattle.relay_world.proofs.EventLemmas.{broken, dropped, ended, given_up, heard, lost, opened, read_by, written}
use Rattle.relay_world.proofs.AddedLemmas.{asks_itself, read_adds}
use Rattle.relay_world.proofs.GiveUpLemmas.{giving_up_keeps}
use Rattle.relay_world.proofs.HangUpLemmas.{hanging_up_keeps}
use Rattle.relay_world.proofs.GroupLemmas.{hearing_all_keeps}
use Rattle.relay_world.proofs.GroupOnceLemmas.{heard_all, reopened_after}
use Rattle.relay_world.proofs.HearLemmas.{hearing_keeps}
use Rattle.relay_world.proofs.LoseLemmas.{dropping_keeps, losing_keeps}
use Rattle.relay_world.proofs.GrowthAttemptLemmas.{attempts_on, attempts_same, event_attempts}
use Rattle.relay_world.proofs.HopLinkLemmas.{hop_links_are_kept}
use Rattle.relay_world.proofs.LineGroupLemmas.{sources_are_kept}
use Rattle.relay_world.proofs.OpenLemmas.{opening_keeps}
use Rattle.relay_world.proofs.OnceLemmas.{once_started}
use Rattle.relay_world.proofs.OnceMoreLemmas.{asks_all, let_go, ticked}
use Rattle.relay_world.proofs.ReopenGroupLemmas.{reopening_after_group_keeps}
use Rattle.relay_world.proofs.ReopenLemmas.{reopening_keeps}
use Rattle.relay_world.proofs.ReopenOnceLemmas.{reopened}
use Rattle.relay_world.proofs.StopHearLemmas.{stopping_hearing_keeps}
use Rattle.relay_world.proofs.StopLemmas.{staying_down_keeps, stopping_giving_up_keeps, stopping_keeps}
use Rattle.relay_world.proofs.StopOnceLemmas.{stayed_down, stopped, stopped_giving_up, stopped_hearing, stopped_losing, stopped_reading}
use Rattle.relay_world.proofs.StopReadLemmas.{stopping_losing_keeps, stopping_reading_keeps}
use Rattle.relay_world.proofs.UndecidedLemmas.{up_not_down}
use Rattle.relay_world.proofs.ReadLemmas.{reading_keeps}
use Rattle.relay_world.proofs.StartLemmas.{starting_keeps}
use Rattle.relay_world.proofs.StayUpLemmas.{stayed_up, staying_up_keeps}
use Rattle.relay_world.proofs.TickLemmas.{ticking_keeps}
use Rattle.relay_world.proofs.WriteLemmas.{writing_keeps}

-- no change is an outcome where there is none
none_there : (changes : List Change) (number : ℕ) (outcome : Outcome) → changes ≡ []
    → change_at changes number ≡ Some (change.Outcome outcome) → ⊥
none_there changes zero outcome empty is = none-some (change.Outcome outcome) is
none_there changes (suc k) outcome empty is =
    none-some (change.Outcome outcome) (ap (λ l. slice_get l k) (sym empty) ∙ is)

pub once_at_first : {D : Type 0} (words : DiskWords D) → OnceAtFirst words
once_at_first words world lists empty up attempts ledger = record {
  once = λ one other node message place mine yours.
      absurd (none-some mine.attempt (ap (λ l. slice_get l one) (sym attempts) ∙ mine.is_there));
  hops = λ at attempt is. absurd (none-some attempt (ap (λ l. slice_get l at) (sym attempts) ∙ is));
  outcomes = λ node number host changes outcome stands is.
      absurd (none_there changes number outcome (empty node changes stands.list_at) is);
  given_up = λ node message host changes disk undecided stands down origin.
      let standing = up node host stands.host_at in
      absurd (up_not_down standing.0 disk (Some undecided) (sym standing.1 ∙ down));
  outside = λ number link is none. ap (λ l. accepts_on number l) ledger;
}

pub once_is_kept : {D : Type 0} (honest : Type 0) (words : DiskWords D) → OnceIsKept honest words
once_is_kept honest words old new lists later asked bound once (Opens node peer opens) now =
    opened honest words old new lists later bound once now node peer opens
once_is_kept honest words old new lists later asked bound once (Writes number octets writes) now =
    written honest words old new lists later bound once now number octets writes
once_is_kept honest words old new lists later asked bound once (Hears number count hears) now =
    heard honest words old new lists later bound once now number count hears
once_is_kept honest words old new lists later asked bound once (HearsAll node pieces hears) now =
    heard_all honest words old new lists later bound once now node pieces hears
once_is_kept honest words old new lists later asked bound once (Ends number ends) now =
    ended honest words old new lists later bound once now number None ends
once_is_kept honest words old new lists later asked bound once (Closes number reply cuts) now =
    ended honest words old new lists later bound once now number (Some reply) cuts.ends
once_is_kept honest words old new lists later asked bound once (Reads number count reads) now =
    read_by honest words old new lists later bound once now number count reads reads.replied.change reads.records
    (read_adds honest words old new lists later bound once now number count reads)
once_is_kept honest words old new lists later asked bound once (Loses number change loses) now =
    lost honest words old new lists later bound once now number change loses
once_is_kept honest words old new lists later asked bound once (Drops number drops) now =
    dropped honest words old new lists later bound once now number drops
once_is_kept honest words old new lists later asked bound once (BreaksOff number breaks) now =
    broken honest words old new lists later bound once now number breaks
once_is_kept honest words old new lists later asked bound once (Starts number message hop starts) now =
    once_started honest words old new lists later number message hop bound once now starts
once_is_kept honest words old new lists later asked bound once (GivesUp reason node message change gives) now =
    given_up honest words old new lists later bound (asks_all old lists asked reason node message once) now reason node message
    change (asks_itself reason node message asked) gives
once_is_kept honest words old new lists later asked bound once (Stops node stops) now =
    stopped honest words old new lists later bound once now node stops
once_is_kept honest words old new lists later asked bound once (StopsInHearing number count stops) now =
    stopped_hearing honest words old new lists later bound once now number count stops
once_is_kept honest words old new lists later asked bound once (StopsInReading number count stops) now =
    stopped_reading honest words old new lists later bound once now number count stops
once_is_kept honest words old new lists later asked bound once (StopsInLosing number stops) now =
    stopped_losing honest words old new lists later bound once now number stops
once_is_kept honest words old new lists later asked bound once (StopsInGivingUp reason node message stops) now =
    stopped_giving_up honest words old new lists later bound (asks_all old lists asked reason node message once) now reason node
    message (asks_itself reason node message asked) stops
once_is_kept honest words old new lists later asked bound once (IsNotOpened node stays) now =
    stayed_down honest words old new lists later bound once now node stays
once_is_kept honest words old new lists later asked bound once (Reopens node reopens) now =
    reopened honest words old new lists later bound once now node reopens
once_is_kept honest words old new lists later asked bound once (ReopensAfterGroup node pieces reopens) now =
    reopened_after honest words old new lists later bound once now node pieces reopens
once_is_kept honest words old new lists later asked bound once (Ticks clock ticks) now =
    ticked honest words old new lists later bound once now clock ticks
once_is_kept honest words old new lists later asked bound once (LetsGo node hangs) now =
    let_go honest words old new lists later bound once now node hangs
once_is_kept honest words old new lists later asked bound once (GoesOn node stays) now =
    stayed_up honest words old new lists later bound once now node stays

-- an event keeps a world bound, by lists that may have grown
pub event_keeps : {D : Type 0} (honest : Type 0) (words : DiskWords D) (old new : World D) (lists : List (List Change))
    → ((disk : D) → words.may_leave disk (words.seen disk)) → honest → IsBound honest words old lists
    → Happens honest words old new → (later : List (List Change)) × IsBound honest words new later
event_keeps honest words old new lists sees is bound (Opens node peer opens) =
    (lists, opening_keeps honest words old new lists node peer bound opens)
event_keeps honest words old new lists sees is bound (Writes number octets writes) =
    (lists, writing_keeps honest words old new lists number octets bound writes)
event_keeps honest words old new lists sees is bound (Hears number count hears) =
    hearing_keeps honest words old new lists number count bound hears
event_keeps honest words old new lists sees is bound (HearsAll node pieces hears) =
    hearing_all_keeps honest words old new lists node pieces bound hears
event_keeps honest words old new lists sees is bound (Ends number ends) =
    (lists, ending_keeps honest words old new lists number bound ends)
event_keeps honest words old new lists sees is bound (Closes number reply cuts) =
    (lists, cutting_off_keeps honest words old new lists number reply bound cuts)
event_keeps honest words old new lists sees is bound (Reads number count reads) =
    reading_keeps honest words old new lists number count bound reads
event_keeps honest words old new lists sees is bound (Loses number change loses) =
    losing_keeps honest words old new lists number change bound loses
event_keeps honest words old new lists sees is bound (Drops number drops) =
    (lists, dropping_keeps honest words old new lists number bound drops)
event_keeps honest words old new lists sees is bound (BreaksOff number breaks) =
    (lists, breaking_keeps honest words old new lists number bound breaks)
event_keeps honest words old new lists sees is bound (Starts number message hop starts) =
    (lists, starting_keeps honest words old new lists number message hop bound starts)
event_keeps honest words old new lists sees is bound (GivesUp reason node message change gives) =
    giving_up_keeps honest words old new lists reason node message change bound gives
event_keeps honest words old new lists sees is bound (Stops node stops) =
    (lists, stopping_keeps honest words old new lists node bound stops)
event_keeps honest words old new lists sees is bound (StopsInHearing number count stops) =
    (lists, stopping_hearing_keeps honest words old new lists number count bound stops)
event_keeps honest words old new lists sees is bound (StopsInReading number count stops) =
    (lists, stopping_reading_keeps honest words old new lists number count bound stops)
event_keeps honest words old new lists sees is bound (StopsInLosing number stops) =
    (lists, stopping_losing_keeps honest words old new lists number bound stops)
event_keeps honest words old new lists sees is bound (StopsInGivingUp reason node message stops) =
    (lists, stopping_giving_up_keeps honest words old new lists reason node message bound stops)
event_keeps honest words old new lists sees is bound (IsNotOpened node stays) =
    (lists, staying_down_keeps honest words old new lists node bound stays)
event_keeps honest words old new lists sees is bound (Reopens node reopens) =
    reopening_keeps honest words sees is old new lists node bound reopens
event_keeps honest words old new lists sees is bound (ReopensAfterGroup node pieces reopens) =
    reopening_after_group_keeps honest words sees is old new lists node pieces bound reopens
event_keeps honest words old new lists sees is bound (Ticks clock ticks) =
    (lists, ticking_keeps honest words old new lists clock bound ticks)
event_keeps honest words old new lists sees is bound (LetsGo node hangs) =
    (lists, hanging_up_keeps honest words old new lists node bound hangs)
event_keeps honest words old new lists sees is bound (GoesOn node stays) =
    (lists, staying_up_keeps honest words old new lists node bound stays)

pub runs_keep_all : {D : Type 0} (honest : Type 0) (words : DiskWords D)
    → ((disk : D) → words.may_leave disk (words.seen disk)) → RunsKeepAll honest words
runs_keep_all honest words sees is zero old new lists asked bound once linked sources same = (
  lists,
  subst (λ w. IsBound honest words w lists) (sym same) bound,
  subst (λ w. IsTriedOnce w lists asked) (sym same) once,
  subst (λ w. AreLinkedToHops w) (sym same) linked,
  subst (λ w. HasSources w lists) (sym same) sources,
)
runs_keep_all honest words sees is (suc count) old new lists asked bound once linked sources happen =
    let after = event_keeps honest words old happen.0 lists sees is bound happen.1 in
    let still = once_is_kept honest words old happen.0 lists after.0 asked bound once happen.1 after.1 in
    let still_linked = hop_links_are_kept honest words old happen.0 linked happen.1 in
    let still_told = sources_are_kept honest words old happen.0 lists after.0 asked bound once sources happen.1 after.1 in
    runs_keep_all honest words sees is count happen.0 new after.0 (asked_at honest words old happen.0 happen.1 ++ asked) after.1
    still still_linked still_told happen.2

-- and after any number of them attempts have gone on, or have come to their ends
pub runs_keep_attempts : {D : Type 0} (honest : Type 0) (words : DiskWords D)
    → ((disk : D) → words.may_leave disk (words.seen disk)) → RunsKeepAttempts honest words
runs_keep_attempts honest words sees is zero old new lists bound same =
    subst (λ w. AttemptsGrow old w) (sym same) (attempts_same old old refl)
runs_keep_attempts honest words sees is (suc count) old new lists bound happen =
    let after = event_keeps honest words old happen.0 lists sees is bound happen.1 in
    attempts_on old happen.0 new (event_attempts honest words old happen.0 lists bound happen.1)
    (runs_keep_attempts honest words sees is count happen.0 new after.0 after.1 happen.2)

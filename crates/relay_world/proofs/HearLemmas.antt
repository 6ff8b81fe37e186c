-- What a node hears of a link keeps a world bound.
use Rattle.std.proofs.Common.{◌≡◌, ℕ, Bool, true, false, List, [], ◌∷◌, ◌++◌, Option, None, Some, sym, subst, ap, ◌∙◌, arith}
use Rattle.std.proofs.lemmas.Bool.{false≢true}
use Rattle.std.proofs.lemmas.Option.{same_Some}
use Rattle.relay_disk.specs.Device.{DiskWords}
use Rattle.relay_server.specs.Dialogue.{Said}
use Rattle.relay_book.specs.declared.change.Change.{Change}
use Rattle.relay_book.specs.declared.change.Change.TheVariants as change
use Rattle.relay_records.specs.declared.noted.Noted.{Noted}
use Rattle.relay_records.specs.Note.{IsNoted}
use Rattle.relay_node.specs.Node.{Makes, Queues, Receives, SessionGoesOn}
use Rattle.relay_slots.specs.Slots.{slot_at}
use Rattle.relay_world.specs.Bound.{IsBound}
use Rattle.relay_world.specs.Steps.{RecordsHeard, HasHeard, HearingKeeps, waiting_up, without_note}
use Rattle.relay_world.specs.World.{World}
use Rattle.relay_world.proofs.PieceLemmas.{kept_without_note}
use Rattle.relay_world.proofs.TalkLemmas.{TakesMail, Talk, heard_accept, heard_nothing, its_node, listed, says_before, was}

module _ {D : Type 0} (honest : Type 0) (words : DiskWords D) (old new : World D) (lists : List (List Change))
    (number count : ℕ) (bound : IsBound honest words old lists) (heard : HasHeard honest words old new number count)
  where
    abbrev list : List Change
    list = (listed honest words old lists number bound heard.of).0

    abbrev said : Said
    said = (was honest words old lists number bound heard.of).said

    hears : Receives honest words heard.of.before.config list heard.of.end.peer old.clock heard.of.session said
        (waiting_up count heard.of.link) heard.of.before heard.after heard.received
    hears = heard.receives list said (its_node honest words old lists number bound heard.of).keeps
        (says_before honest words old lists number bound heard.of)

    gone_by : (close : Bool) → SessionGoesOn heard.of.before.config heard.after.seats heard.of.session heard.of.end.peer
        hears.later close → close ≡ true → slot_at heard.after.seats heard.of.session ≡ None
    gone_by true goes is = goes.0
    gone_by false goes is = absurd (false≢true is)

    -- a session that has closed is gone
    pub closed_gone : heard.received.close ≡ true → slot_at heard.after.seats heard.of.session ≡ None
    closed_gone = gone_by heard.received.close hears.goes_on

    -- what was heard, where the node is left with this note
    abbrev talk_by : (noted : Option Noted)
        → Talk honest words old lists number bound heard.of new count
        (record heard.after { records = record heard.after.records { noted = noted } }) heard.received
    talk_by noted = record {
      later = hears.later;
      goes_on = hears.goes_on;
      input = hears.talks.input;
      output = hears.talks.output;
      used = heard.used;
      others = heard.others;
      config = heard.config;
      attempts = heard.attempts;
      links = heard.links;
      rest = heard.rest;
    }

    takes_mail : (number_now : ℕ)
        (queues : Queues honest words heard.of.before.config list heard.of.end.peer old.clock said hears.later
        hears.talks.refused heard.received.used heard.of.before.records heard.after.records number_now)
        (noted : Noted) → heard.after.records.noted ≡ Some noted
        → TakesMail honest words old lists number bound heard.of new count (without_note heard.after) heard.received
        (talk_by None) number_now noted
    takes_mail number_now queues noted note_is =
        let is_noted : IsNoted (Some noted) list (change.Accept queues.accept) heard.received.used =
        subst (λ n. IsNoted n list (change.Accept queues.accept) heard.received.used) note_is queues.adds.noted in
        let same : is_noted.note ≡ noted = sym (same_Some noted is_noted.note is_noted.is) in
        record {
          number_is = queues.number_is;
          few = let few = queues.fits.number in let is = queues.number_is in omega (arith, few, is);
          refused = hears.talks.refused;
          offer = queues.offer;
          answers = queues.answers;
          accept = queues.accept;
          at = old.clock;
          is_accept = queues.fits.is_accept;
          octets = ap (λ (n : Noted). n.octets) (sym same) ∙ is_noted.octets;
          places = ap (λ (n : Noted). n.accepted) (sym same) ∙ is_noted.accepted;
          keeps = kept_without_note honest words heard.after.records (list ++ change.Accept queues.accept ∷ [])
              queues.adds.keeps;
        }

    heard_by : (made : Option ℕ)
        → Makes honest words heard.of.before.config list heard.of.end.peer old.clock said hears.later hears.talks.refused
        heard.received.used heard.of.before.records heard.after.records made
        → RecordsHeard old new heard.of.end.node number heard.of.host heard.after made
        → (lists_now : List (List Change)) × IsBound honest words new lists_now
    heard_by None makes puts = (
      lists,
      heard_nothing honest words old lists number bound heard.of new count heard.after heard.received
          (talk_by heard.after.records.noted) hears.talks.refused makes.0 makes.1 puts.0 puts.1,
    )
    heard_by (Some number_now) queues puts =
        let takes : TakesMail honest words old lists number bound heard.of new count (without_note heard.after)
        heard.received (talk_by None) number_now puts.0 = takes_mail number_now queues puts.0 puts.1 in (
          _,
          heard_accept honest words old lists number bound heard.of new count (without_note heard.after) heard.received
              (talk_by None) number_now puts.0 takes puts.2 puts.3,
        )

    pub hearing : (lists_now : List (List Change)) × IsBound honest words new lists_now
    hearing = heard_by heard.received.change hears.talks.makes heard.records

pub hearing_keeps : {D : Type 0} (honest : Type 0) (words : DiskWords D) → HearingKeeps honest words
hearing_keeps honest words old new lists number count bound heard = hearing honest words old new lists number count bound heard

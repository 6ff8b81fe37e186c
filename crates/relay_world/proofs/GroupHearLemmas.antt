-- What a node hears of a link, and brings into its spool with more, keeps what is said of a world without disks.
use Rattle.std.proofs.Common.{◌≡◌, ◌+◌, ℕ, List, [], ◌∷◌, ◌++◌, fold, length, Option, None, Some, refl, sym, subst, ap, ◌∙◌, arith}
use Rattle.std.proofs.lemmas.List.{append_assoc, length-append}
use Rattle.std.proofs.lemmas.Option.{same_Some}
use Rattle.relay_disk.specs.Device.{DiskWords}
use Rattle.relay_server.specs.Dialogue.{Said}
use Rattle.relay_book.specs.declared.change.Accept.{Accept}
use Rattle.relay_book.specs.declared.change.Change.{Change}
use Rattle.relay_book.specs.declared.change.Change.TheVariants as change
use Rattle.relay_book.specs.Queue.{queue_of, step}
use Rattle.relay_book.specs.Record.{encode}
use Rattle.relay_records.specs.declared.noted.Noted.{Noted}
use Rattle.relay_records.specs.Note.{NotesNext}
use Rattle.relay_records.specs.Records.{Keeps}
use Rattle.relay_records.specs.Staged.{AreNotes, Awaits, Row}
use Rattle.relay_node.specs.Acceptance.{IsAcceptOf, acceptance_by}
use Rattle.relay_node.specs.Staging.{MakesInto, QueuesInto, ReceivesAfter, ReceivesInto}
use Rattle.relay_world.specs.declared.line.Line.TheVariants.{Accepted}
use Rattle.relay_world.specs.Bound.{IsBound}
use Rattle.relay_world.specs.Groups.{AcceptsInto, HasHeardInto, IsNotedAfter, Piece}
use Rattle.relay_world.specs.Steps.{EndsSession, IsPut, SessionOf, waiting_up}
use Rattle.relay_world.specs.World.{Up, World}
use Rattle.relay_world.proofs.EndLemmas.{ending_keeps}
use Rattle.relay_world.proofs.PieceLemmas.{with_at}
use Rattle.relay_world.proofs.TalkLemmas.{TakesMail, Talk, heard_accept, heard_nothing, listed, says_before, was}
use Rattle.relay_world.proofs.UnsettledLemmas.{Unsettled, awaited_kept, awaits_there, last_note, list_there_is, unsettled_grows, unsettled_stays}

module _ {D : Type 0} (honest : Type 0) (words : DiskWords D) (old : World D) (lists : List (List Change)) (node : ℕ)
    (changes : List Change) (world next : World D) (row left : Row)
    (unsettled : Unsettled honest words old lists node changes world row) where
  -- a session there is gone
  pub unsettled_ended : (number : ℕ) (ends : EndsSession world next number) → ends.of.end.node ≡ node → left ≡ row
      → Unsettled honest words old lists node changes next left
  unsettled_ended number ends here same =
      unsettled_stays honest words old lists node changes world next row left unsettled ends.of.end.node ends.of.host
      ends.of.host_at ends.of.before ends.of.up here (record ends.of.host { state = Up ends.after }) ends.after refl
      ends.hosts ends.records same (ending_keeps ⊥ words world next unsettled.later number unsettled.bound ends)

  -- octets were heard there
  module _ (at : ℕ) (piece : Piece) (heard : HasHeardInto honest words at world next node piece row left) where
    abbrev of : SessionOf world piece.number
    of = heard.of

    abbrev said : Said
    said = (was ⊥ words world unsettled.later piece.number unsettled.bound of).said

    abbrev list : List Change
    list = (listed ⊥ words world unsettled.later piece.number unsettled.bound of).0

    list_is : list ≡ changes ++ unsettled.pending
    list_is = same_Some list (changes ++ unsettled.pending)
        (sym (listed ⊥ words world unsettled.later piece.number unsettled.bound of).1
        ∙ list_there_is honest words old lists node changes world next row left unsettled of.end.node of.host
        of.host_at of.before of.up heard.its_node)

    awaits_before : Awaits honest words of.before.records changes unsettled.pending row
    awaits_before = awaits_there honest words old lists node changes world next row left unsettled of.end.node of.host
        of.host_at of.before of.up heard.its_node

    afterwards : ReceivesAfter honest words of.before.config changes unsettled.pending at of.session
        (waiting_up piece.count of.link) of.before row heard.after left heard.received
    afterwards = heard.receives changes unsettled.pending awaits_before

    received : ReceivesInto of.before.config changes unsettled.pending of.end.peer at of.session said
        (waiting_up piece.count of.link) of.before row heard.after left afterwards.more heard.received
    received = afterwards.receives of.end.peer said
        (says_before ⊥ words world unsettled.later piece.number unsettled.bound of)

    abbrev talk : Talk ⊥ words world unsettled.later piece.number unsettled.bound of next piece.count heard.after
        heard.received
    talk = record {
      later = received.later;
      goes_on = received.goes_on;
      input = received.talks.input;
      output = received.talks.output;
      used = heard.used;
      others = heard.others;
      config = heard.config;
      attempts = heard.attempts;
      links = heard.links;
      rest = heard.rest;
    }

    -- mail was accepted
    module _ (number : ℕ)
        (queues : QueuesInto of.before.config changes unsettled.pending of.end.peer at said received.later
        received.talks.refused heard.received.used of.before.records row left afterwards.more number)
        (noted : Noted) (is_noted : IsNotedAfter honest words of.before.records row left noted) where
      abbrev accept : Accept
      accept = queues.accept

      abbrev more : List Change
      more = unsettled.pending ++ change.Accept accept ∷ []

      awaits_more : Awaits honest words heard.after.records changes more left
      awaits_more = subst
          (λ l. Awaits honest words heard.after.records changes (unsettled.pending ++ l) left) queues.more_is
          afterwards.awaits

      next_note : NotesNext (fold step (queue_of changes) unsettled.pending) (change.Accept accept)
          (encode (change.Accept accept)) noted.used noted
      next_note = last_note (queue_of changes) unsettled.pending (change.Accept accept) row.notes noted
          awaits_before.notes (subst (λ l. AreNotes (queue_of changes) more l)
          (is_noted changes unsettled.pending awaits_before) awaits_more.notes)

      count_is : length list + 1 ≡ length changes + length unsettled.pending + 1
      count_is = ap (λ l. length l + 1) list_is
          ∙ ap (λ n. n + 1) (length-append changes unsettled.pending)

      grown_is : list ++ change.Accept accept ∷ [] ≡ changes ++ more
      grown_is = ap (λ l. l ++ change.Accept accept ∷ []) list_is
          ∙ append_assoc changes unsettled.pending (change.Accept accept ∷ [])

      abbrev takes : TakesMail ⊥ words world unsettled.later piece.number unsettled.bound of next piece.count heard.after
          heard.received talk number noted
      takes = record {
        number_is = queues.number_is ∙ sym count_is;
        few = let few = queues.fits.number in let is = queues.number_is in omega (arith, few, is);
        refused = received.talks.refused;
        offer = queues.offer;
        answers = queues.answers;
        accept = accept;
        at = at;
        is_accept = subst (λ n. IsAcceptOf (acceptance_by of.before.config of.end.peer n at) queues.offer accept)
            (sym count_is) queues.fits.is_accept;
        octets = next_note.octets_are;
        places = next_note.accepted;
        keeps = subst (λ l. Keeps ⊥ words heard.after.records l) (sym grown_is)
            (awaited_kept honest words heard.after.records changes more left awaits_more);
      }

      unsettled_more : IsPut world.hosts next.hosts of.end.node
          (record of.host { state = Up heard.after; records = of.host.records ++ noted.octets ∷ [] })
          → next.ledger ≡ world.ledger ++ Accepted of.end.node number noted.accepted piece.number ∷ []
          → Unsettled honest words old lists node changes next left
      unsettled_more put line =
          unsettled_grows honest words old lists node changes world next row left unsettled of.end.node of.host
          of.host_at of.before of.up heard.its_node
          (record of.host { state = Up heard.after; records = of.host.records ++ noted.octets ∷ [] }) heard.after
          refl put (change.Accept accept) awaits_more
          (subst (λ l. IsBound ⊥ words next (with_at unsettled.later of.end.node (l ++ change.Accept accept ∷ [])))
          list_is
          (heard_accept ⊥ words world unsettled.later piece.number unsettled.bound of next piece.count heard.after
          heard.received talk number noted takes put line))

    -- by what was accepted
    unsettled_by : (made : Option ℕ)
        → MakesInto of.before.config changes unsettled.pending of.end.peer at said received.later
        received.talks.refused heard.received.used of.before.records row heard.after.records left afterwards.more made
        → AcceptsInto honest words world next piece.number of heard.after row left made
        → Unsettled honest words old lists node changes next left
    unsettled_by None makes accepts =
        unsettled_stays honest words old lists node changes world next row left unsettled of.end.node of.host
        of.host_at of.before of.up heard.its_node (record of.host { state = Up heard.after }) heard.after refl
        accepts.0 makes.1 makes.2
        (heard_nothing ⊥ words world unsettled.later piece.number unsettled.bound of next piece.count heard.after
        heard.received talk received.talks.refused makes.0 makes.1 accepts.0 accepts.1)
    unsettled_by (Some number) queues accepts =
        unsettled_more number queues accepts.0 accepts.1 accepts.2 accepts.3

    pub unsettled_heard : Unsettled honest words old lists node changes next left
    unsettled_heard = unsettled_by heard.received.change received.talks.makes heard.accepts

-- What a node has made of a client's octets after a row.
use Rattle.std.proofs.Common.{◌≡◌, ℕ, ◌+◌, ◌++◌, List, [], ◌∷◌, length, None, Some, refl, sym, ap, ◌∙◌, subst, append-nil}
use Rattle.std.specs.List.{AllByRecursion}
use Rattle.relay_disk.specs.Device.{DiskWords}
use Rattle.relay_spool.specs.Image.{room_of}
use Rattle.relay_server.specs.declared.offer.Answer.TheVariants.{Queued}
use Rattle.relay_server.specs.declared.session.Session.{Session}
use Rattle.relay_server.specs.Dialogue.{Offered, Said}
use Rattle.relay_server.specs.Setup.{setup_for}
use Rattle.relay_book.specs.declared.change.Accept.{Accept}
use Rattle.relay_book.specs.declared.change.Change.{Change}
use Rattle.relay_records.specs.Records.{Kept}
use Rattle.relay_records.specs.Staged.{Awaits, Row}
use Rattle.relay_records.specs.declared.noted.Noted.{Noted}
use Rattle.relay_node.specs.declared.intake.Intake.{Intake}
use Rattle.relay_node.specs.declared.intake.Taken.{Taken}
use Rattle.relay_node.specs.declared.speak.Spoken.{Spoken}
use Rattle.relay_node.specs.Acceptance.{acceptance_by}
use Rattle.relay_node.specs.Listening.{HasNoRoom, acceptance_of}
use Rattle.relay_node.specs.Room.{AnswersMore, HasRoom, Overfills}
use Rattle.relay_node.specs.Speaking.{IsSpoken, Speaks}
use Rattle.relay_node.specs.Node.{SessionHasSaid}
use Rattle.relay_node.specs.Staging.{HaveNoRoomAfter, HearsAfter, next_after}
use Rattle.relay_node.proofs.ReceiveLemmas.{none_last, one_last, received_of, some_none, uses_all, uses_some}

module _ {D : Type 0} (honest : Type 0) (words : DiskWords D) (intake : Intake) (changes pending : List Change) (piece : List ℕ) (old : Kept D) (row : Row)
    (number_is : intake.number ≡ length changes + length pending + 1) (size_is : intake.size ≡ old.spool.size + room_of row.bodies) where
  no_room : (offers : List Offered) → AllByRecursion (HasNoRoom intake) offers → HaveNoRoomAfter intake.config.now changes pending intake.peer intake.at old row offers
  no_room offers all =
      subst (λ number. AllByRecursion (Overfills (acceptance_by intake.config.now intake.peer number intake.at) intake.config.now.spool_limit (old.spool.size + room_of row.bodies)) offers) number_is
      (subst (λ size. AllByRecursion (Overfills (acceptance_of intake) intake.config.now.spool_limit size) offers) size_is all)

  fits : (offer : Offered) (accept : Accept) → HasRoom (acceptance_of intake) intake.config.now.spool_limit intake.size offer accept
      → HasRoom (next_after intake.config.now changes pending intake.peer intake.at) intake.config.now.spool_limit (old.spool.size + room_of row.bodies) offer accept
  fits offer accept room =
      subst (λ number. HasRoom (acceptance_by intake.config.now intake.peer number intake.at) intake.config.now.spool_limit (old.spool.size + room_of row.bodies) offer accept) number_is
      (subst (λ size. HasRoom (acceptance_of intake) intake.config.now.spool_limit size offer accept) size_is room)

  module _ (before session : Session) (spoken : Spoken) (is : IsSpoken intake (length piece) session spoken)
      (speaks : (said : Said) → SessionHasSaid (setup_for intake.config.now intake.peer) before said → Speaks intake said piece session spoken) where
    -- no offer was staged
    pub hears_quietly_after : spoken.taken ≡ None → Awaits honest words old changes pending row → HearsAfter honest words intake.config.now changes pending intake.at intake.peer before session piece old row old row (received_of spoken None)
    hears_quietly_after untaken awaits = record {
      more = [];
      staged = refl;
      awaits = subst (λ (l : List Change). Awaits honest words old changes l row) (sym (append-nil pending)) awaits;
      hears = λ said says.
          let s = speaks said says in
          record {
            later = s.later;
            says = s.says;
            closed = is.closed;
            talks = record {
              input = s.input;
              output = s.output;
              refused = s.refused;
              no_room = no_room s.refused s.no_room;
              makes = (none_last intake said piece session spoken s untaken, refl, refl);
              whole = λ _. uses_all intake (length piece) session spoken is untaken;
            };
          };
    }

    -- one was
    pub hears_staged_after : (taken : Taken) → spoken.taken ≡ Some taken → (new : Kept D) (left : Row) (number : ℕ) → number ≡ length changes + length pending + 1 → Awaits honest words new changes (pending ++ taken.change ∷ []) left
        → (note : Noted) → left.notes ≡ row.notes ++ note ∷ [] → note.used ≡ spoken.used
        → HearsAfter honest words intake.config.now changes pending intake.at intake.peer before session piece old row new left (received_of spoken (Some number))
    hears_staged_after taken some new left number count awaits note noted used =
        let by = uses_some intake (length piece) session spoken is taken some in
        record {
          more = taken.change ∷ [];
          staged = (by.2.1.accept, count, ap (λ (c : Change). c ∷ []) by.2.1.change_is);
          awaits = awaits;
          hears = λ said says.
              let s = speaks said says in
              let last = one_last intake said piece session spoken s taken some in
              record {
                later = s.later;
                says = s.says;
                closed = is.closed;
                talks = record {
                  input = s.input;
                  output = s.output;
                  refused = s.refused;
                  no_room = no_room s.refused s.no_room;
                  makes = record {
                    number_is = count;
                    offer = last.offer;
                    answers = subst (λ n. AnswersMore said s.later s.refused (last.offer ∷ []) (Queued n ∷ [])) (number_is ∙ sym count) last.answers;
                    ends = last.ends;
                    accept = last.is.accept;
                    fits = fits last.offer last.is.accept last.is.room;
                    more_is = ap (λ (c : Change). c ∷ []) last.is.change_is;
                    note = note;
                    noted = noted;
                    used_is = used;
                  };
                  whole = λ unchanged _. absurd (some_none number unchanged);
                };
              };
        }

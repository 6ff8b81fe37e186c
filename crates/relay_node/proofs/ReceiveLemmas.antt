-- What a node has made of a client's octets.
use Rattle.std.proofs.Common.{◌≡◌, ◌<◌, ℕ, ◌+◌, false, List, [], ◌∷◌, length, Option, Result, Err, None, Some, refl, sym, ap, ◌∙◌, subst}
use Rattle.std.specs.List.{AllByRecursion}
use Rattle.relay_disk.specs.Device.{DiskWords}
use Rattle.relay_server.specs.declared.offer.Answer.TheVariants.{Queued}
use Rattle.relay_server.specs.declared.session.Session.{Session}
use Rattle.relay_server.specs.Dialogue.{Offered, Said}
use Rattle.relay_server.specs.Setup.{setup_for}
use Rattle.relay_server.proofs.Theorems.{what_stands_is_a_dialogue}
use Rattle.relay_book.specs.declared.change.Accept.{Accept}
use Rattle.relay_book.specs.declared.change.Change.{Change}
use Rattle.relay_book.specs.Record.{encode}
use Rattle.relay_records.specs.declared.fault.NodeFault.{NodeFault}
use Rattle.relay_spool.specs.Spool.{Passes}
use Rattle.relay_records.specs.Records.{Adds, Cuts, Kept}
use Rattle.relay_node.specs.declared.intake.Intake.{Intake}
use Rattle.relay_node.specs.declared.intake.Taken.{Taken}
use Rattle.relay_node.specs.declared.receive.Received.{Received}
use Rattle.relay_node.specs.declared.speak.Spoken.{Spoken}
use Rattle.relay_node.specs.Acceptance.{acceptance_by}
use Rattle.relay_node.specs.Listening.{HasNoRoom, IsTaken, acceptance_of}
use Rattle.relay_node.specs.Node.{CutsTalk, FitsIn, HaveNoRoom, Hears}
use Rattle.relay_node.specs.Room.{AnswersMore, HasRoom, Overfills}
use Rattle.relay_node.specs.Speaking.{AnswersAll, IsSpoken, Speaks, TakesLast, UsesUp}

-- a number is some number
pub some_none : (number : ℕ) → Some number ≡ None → ⊥
some_none number e = cc

-- a fault of one answer, as that of another
pub err_of : {A B : Type 0} (fault other : NodeFault) → ◌≡◌ {A = Result A NodeFault} (Err fault) (Err other) → ◌≡◌ {A = Result B NodeFault} (Err fault) (Err other)
err_of fault other e = let is : fault ≡ other = cc in ap (λ (x : NodeFault). Err x) is

-- what was made of it
abbrev pub received_of : Spoken → Option ℕ → Received
received_of spoken change = record { used = spoken.used; out = spoken.out; change = change; close = spoken.close }

module _ (intake : Intake) (said : Said) (piece : List ℕ) (session : Session) (spoken : Spoken) (s : Speaks intake said piece session spoken) where
  -- no offer was taken
  pub none_last : spoken.taken ≡ None → AnswersMore said s.later s.refused [] []
  none_last untaken = subst (AnswersAll intake said s.later s.refused) untaken s.answers

  -- this one was
  pub one_last : (taken : Taken) → spoken.taken ≡ Some taken → TakesLast intake said s.later s.refused taken
  one_last taken some = subst (AnswersAll intake said s.later s.refused) some s.answers

module _ (intake : Intake) (len : ℕ) (session : Session) (spoken : Spoken) (is : IsSpoken intake len session spoken) where
  -- all of the piece was used
  pub uses_all : spoken.taken ≡ None → spoken.close ≡ false → spoken.used ≡ len
  uses_all untaken = subst (UsesUp intake spoken.used len spoken.close) untaken is.uses

  -- an offer stopped the call
  pub uses_some : (taken : Taken) → spoken.taken ≡ Some taken → (0 < spoken.used) × (spoken.close ≡ false) × ((offer : Offered) × IsTaken intake offer taken)
  uses_some taken some = subst (UsesUp intake spoken.used len spoken.close) some is.uses

module _ {D : Type 0} (honest : Type 0) (words : DiskWords D) (intake : Intake) (changes : List Change) (said : Said) (piece : List ℕ) (old : Kept D)
    (number_is : intake.number ≡ length changes + 1) (size_is : intake.size ≡ old.spool.size) where
  no_room : (offers : List Offered) → AllByRecursion (HasNoRoom intake) offers → HaveNoRoom honest words intake.config.now changes intake.peer intake.at old offers
  no_room offers all =
      subst (λ number. AllByRecursion (Overfills (acceptance_by intake.config.now intake.peer number intake.at) intake.config.now.spool_limit old.spool.size) offers) number_is
      (subst (λ size. AllByRecursion (Overfills (acceptance_of intake) intake.config.now.spool_limit size) offers) size_is all)

  fits : (offer : Offered) (accept : Accept) → HasRoom (acceptance_of intake) intake.config.now.spool_limit intake.size offer accept → FitsIn honest words intake.config.now changes intake.peer intake.at old offer accept
  fits offer accept room =
      subst (λ number. HasRoom (acceptance_by intake.config.now intake.peer number intake.at) intake.config.now.spool_limit old.spool.size offer accept) number_is
      (subst (λ size. HasRoom (acceptance_of intake) intake.config.now.spool_limit size offer accept) size_is room)

  module _ (session : Session) (spoken : Spoken) (s : Speaks intake said piece session spoken) (is : IsSpoken intake (length piece) session spoken) where
    -- no offer was queued
    pub hears_quietly : spoken.taken ≡ None → Hears honest words intake.config.now changes intake.peer intake.at said piece session old old (received_of spoken None)
    hears_quietly untaken = record {
      later = s.later;
      says = s.says;
      closed = is.closed;
      talks = record {
        input = s.input;
        output = s.output;
        refused = s.refused;
        no_room = no_room s.refused s.no_room;
        makes = (none_last intake said piece session spoken s untaken, refl);
        whole = λ _. uses_all intake (length piece) session spoken is untaken;
      };
    }

    module _ (taken : Taken) (some : spoken.taken ≡ Some taken) (new : Kept D) where
      last : TakesLast intake said s.later s.refused taken
      last = one_last intake said piece session spoken s taken some

      -- an offer was queued
      pub hears_queued : (number : ℕ) → number ≡ length changes + 1 → Adds honest words new changes taken.change spoken.used → new.spool.size ≡ old.spool.size + 5 + length (encode taken.change)
          → Passes words 4 old.spool.disk new.spool.disk
          → Hears honest words intake.config.now changes intake.peer intake.at said piece session old new (received_of spoken (Some number))
      hears_queued number count adds size calls = record {
        later = s.later;
        says = s.says;
        closed = is.closed;
        talks = record {
          input = s.input;
          output = s.output;
          refused = s.refused;
          no_room = no_room s.refused s.no_room;
          makes = record {
            number_is = count;
            offer = last.offer;
            answers = subst (λ n. AnswersMore said s.later s.refused (last.offer ∷ []) (Queued n ∷ [])) (number_is ∙ sym count) last.answers;
            ends = last.ends;
            accept = last.is.accept;
            fits = fits last.offer last.is.accept last.is.room;
            adds = subst (λ (c : Change). Adds honest words new changes c spoken.used) last.is.change_is adds;
            size = size ∙ ap (λ (c : Change). old.spool.size + 5 + length (encode c)) last.is.change_is;
            calls = calls;
          };
          whole = λ unchanged _. absurd (some_none number unchanged);
        };
      }

      -- a stop came while its change was added
      pub cuts_talk : Cuts honest words new changes taken.change spoken.used → CutsTalk honest words intake.config.now changes intake.peer intake.at said piece old new
      cuts_talk cuts = record {
        used = spoken.used;
        within = is.within;
        later = s.later;
        input = s.input;
        unwritten = spoken.out.items;
        output = s.output;
        dialogue = what_stands_is_a_dialogue (setup_for intake.config.now intake.peer) session s.later s.says.stands;
        refused = s.refused;
        no_room = no_room s.refused s.no_room;
        offer = last.offer;
        answers = subst (λ n. AnswersMore said s.later s.refused (last.offer ∷ []) (Queued n ∷ [])) number_is last.answers;
        accept = last.is.accept;
        fits = fits last.offer last.is.accept last.is.room;
        cuts = subst (λ (c : Change). Cuts honest words new changes c spoken.used) last.is.change_is cuts;
      }

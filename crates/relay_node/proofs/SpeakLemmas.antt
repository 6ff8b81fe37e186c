-- What a client's octets have come to, with the reply to an offer that there is room for.
use Rattle.std.proofs.Common.{◌≡◌, ◌<◌, ℕ, true, false, List, [], ◌∷◌, ◌++◌, length, take, None, Some, sym, ap, ◌∙◌, subst, append-nil}
use Rattle.relay_server.specs.declared.offer.Answer.{Answer}
use Rattle.relay_server.specs.declared.offer.Answer.TheVariants.{Queued}
use Rattle.relay_server.specs.declared.session.Next.TheVariants as next
use Rattle.relay_server.specs.declared.session.Session.{Session}
use Rattle.relay_server.specs.Dialogue.{IsDialogue, Offered, Said}
use Rattle.relay_server.specs.Session.{Answered, SaysMore, next_of, open_offers}
use Rattle.relay_server.specs.Setup.{Setup, setup_for}
use Rattle.relay_server.proofs.Theorems.{more_is_more, what_stands_is_a_dialogue}
use Rattle.relay_node.specs.declared.intake.Intake.{Intake}
use Rattle.relay_node.specs.declared.intake.Taken.{Taken}
use Rattle.relay_node.specs.declared.listen.End.TheVariants as «end»
use Rattle.relay_node.specs.declared.listen.Listened.{Listened}
use Rattle.relay_node.specs.declared.speak.Spoken.{Spoken}
use Rattle.relay_node.specs.Listening.{Ends, EndsBy, HasListened, IsTaken}
use Rattle.relay_node.specs.Room.{AnswersMore, EndsWithOffer, refusals}
use Rattle.relay_node.specs.Speaking.{AnswersAll, Speaks}
use Rattle.relay_node.proofs.ListenLemmas.{joins}

-- the same dialogue, of equal octets, answers and offers
same_dialogue : (setup : Setup) (said : Said) (input : List ℕ) (answers : List Answer) (offers : List Offered) → input ≡ said.input → answers ≡ said.answers → offers ≡ said.offers
    → IsDialogue setup said → IsDialogue setup (record { input = input; answers = answers; output = said.output; offers = offers })
same_dialogue setup said input answers offers read given made d = record {
  turns = d.turns;
  state = d.state;
  rest = d.rest;
  unanswered = d.unanswered;
  runs = d.runs;
  input = read ∙ d.input;
  output = d.output;
  answers = given ∙ d.answers;
  offers = made ∙ d.offers;
  left = d.left;
}

module _ (intake : Intake) (said : Said) (mid session : Session) (octets before after : List ℕ) (offer : Offered) (l : HasListened intake said mid octets before) (was_open : open_offers mid ≡ offer ∷ [])
    (a : Answered (setup_for intake.config.now intake.peer) l.later session (Queued intake.number) before after) where
  -- the open offer has the last answer
  pub queued_answers : AnswersMore said a.later l.refused (offer ∷ []) (Queued intake.number ∷ [])
  queued_answers = record {
    offers = a.offers ∙ l.answers.offers ∙ ap (λ x. said.offers ++ (l.refused ++ x)) was_open;
    answers = joins said.answers (refusals l.refused) (Queued intake.number ∷ []) l.later.answers a.later.answers l.answers.answers a.answers;
  }

  -- what was read ends with it
  pub queued_ends : EndsWithOffer (setup_for intake.config.now intake.peer) a.later (said.answers ++ refusals l.refused)
  queued_ends = record {
    output = l.later.output;
    dialogue =
        same_dialogue (setup_for intake.config.now intake.peer) l.later a.later.input (said.answers ++ refusals l.refused) a.later.offers
        (a.more.input ∙ append-nil l.later.input) (ap (λ x. said.answers ++ x) (sym (append-nil (refusals l.refused))) ∙ sym l.answers.answers) a.offers
        (what_stands_is_a_dialogue (setup_for intake.config.now intake.peer) mid l.later l.stands);
  }

  -- its reply is the last one
  pub queued_more : SaysMore said a.later octets [] after
  queued_more = more_is_more said l.later a.later octets [] octets [] before after l.more a.more (sym (append-nil octets))

-- a session that waits for more isn't closed
pub waits_not : next.More ≡ next.Close → ⊥
waits_not e = cc

-- what closes doesn't go on
pub closes : true ≡ false → ⊥
closes e = cc

module _ (intake : Intake) (session : Session) (piece : List ℕ) (listened : Listened) (ends : Ends intake session piece listened) where
  -- how the piece was used up
  pub ends_for_more : listened.end ≡ «end».More → (open_offers session ≡ []) × (listened.used ≡ length piece) × (next_of session ≡ next.More)
  ends_for_more is = subst (EndsBy intake session listened.used (length piece)) is ends.by

  -- how the session closed
  pub ends_for_close : listened.end ≡ «end».Close → (open_offers session ≡ []) × (next_of session ≡ next.Close)
  ends_for_close is = subst (EndsBy intake session listened.used (length piece)) is ends.by

  -- how the open offer was taken
  pub ends_for_taken : (taken : Taken) → listened.end ≡ «end».Taken taken → (0 < listened.used) × ((offer : Offered) × (open_offers session ≡ offer ∷ []) × IsTaken intake offer taken)
  ends_for_taken taken is = subst (EndsBy intake session listened.used (length piece)) is ends.by

-- what was written after nothing
all_written : (written out output later : List ℕ) → later ≡ output ++ written → out ≡ written → later ≡ output ++ out
all_written written out output later is same = is ∙ ap (λ x. output ++ x) (sym same)

module _ (intake : Intake) (said : Said) (piece : List ℕ) where
  -- no offer was taken
  pub speaks_quietly : (session : Session) (spoken : Spoken) → HasListened intake said session (take spoken.used piece) spoken.out.items → open_offers session ≡ [] → spoken.taken ≡ None → Speaks intake said piece session spoken
  speaks_quietly session spoken l none untaken = record {
    later = l.later;
    says = record { stands = l.stands; settled = none };
    input = l.more.input;
    output = all_written l.more.written spoken.out.items said.output l.later.output l.more.output l.more.out;
    refused = l.refused;
    no_room = l.no_room;
    answers = subst (AnswersAll intake said l.later l.refused) (sym untaken) (subst (λ offers. AnswersMore said l.later l.refused offers []) none l.answers);
  }

  -- the last offer was
  pub speaks_last : (mid session : Session) (spoken : Spoken) (taken : Taken) (offer : Offered) (before : List ℕ) (l : HasListened intake said mid (take spoken.used piece) before) → open_offers mid ≡ offer ∷ [] → IsTaken intake offer taken
      → Answered (setup_for intake.config.now intake.peer) l.later session (Queued intake.number) before spoken.out.items → open_offers session ≡ [] → spoken.taken ≡ Some taken → Speaks intake said piece session spoken
  speaks_last mid session spoken taken offer before l was_open is a none some =
      let more = queued_more intake said mid session (take spoken.used piece) before spoken.out.items offer l was_open a in
      record {
        later = a.later;
        says = record { stands = a.stands; settled = none };
        input = more.input;
        output = all_written more.written spoken.out.items said.output a.later.output more.output more.out;
        refused = l.refused;
        no_room = l.no_room;
        answers = subst (AnswersAll intake said a.later l.refused) (sym some) (record {
          offer = offer;
          is = is;
          answers = queued_answers intake said mid session (take spoken.used piece) before spoken.out.items offer l was_open a;
          ends = queued_ends intake said mid session (take spoken.used piece) before spoken.out.items offer l was_open a;
        });
      }

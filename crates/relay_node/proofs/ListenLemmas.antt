-- What one round with a client does to what was said.
use Rattle.std.proofs.Common.{◌≡◌, ◌≤◌, ◌<◌, ◌^◌, ℕ, List, [], ◌∷◌, ◌++◌, length, take, refl, sym, ap, ◌∙◌, append-nil, append_assoc, arith}
use Rattle.std.proofs.lemmas.List.{map-append}
use Rattle.std.specs.List.{AllByRecursion, slice_range}
use Rattle.relay_server.specs.declared.offer.Answer.TheVariants as answer
use Rattle.relay_server.specs.declared.session.Session.{Session}
use Rattle.relay_server.specs.Dialogue.{Offered, Said}
use Rattle.relay_server.specs.declared.session.Next.TheVariants as next
use Rattle.relay_server.specs.Session.{Answered, Hears, Stands, next_of, open_offers}
use Rattle.relay_server.specs.Setup.{setup_for}
use Rattle.relay_server.proofs.Theorems.{more_is_more, offer_is_told, open_is_new, piece_goes_on, what_stands_is_a_dialogue}
use Rattle.relay_node.specs.declared.intake.Intake.{Intake}
use Rattle.relay_node.specs.Listening.{HasListened, HasNoRoom}
use Rattle.relay_node.specs.Room.{ComesToOffer, refusals}

-- a row after another's end
pub joins : {A : Type 0} (first second third mid all : List A) → mid ≡ first ++ (second ++ []) → all ≡ mid ++ third → all ≡ first ++ (second ++ third)
joins first second third mid all is more =
    more ∙ ap (λ l. l ++ third) is ∙ append_assoc first (second ++ []) third ∙ ap (λ l. first ++ (l ++ third)) (append-nil second)

all_join : {A : Type 0} (P : A → Type 0) (xs ys : List A) → AllByRecursion P xs → AllByRecursion P ys → AllByRecursion P (xs ++ ys)
all_join P [] ys all more = more
all_join P (x ∷ xs) ys all more = (all.0, all_join P xs ys all.1 more)

module _ (intake : Intake) (said : Said) where
  -- nothing was read yet
  pub listened_to_nothing : (session : Session) (out : List ℕ) → out ≡ [] → open_offers session ≡ [] → Stands (setup_for intake.config.now intake.peer) session said → HasListened intake said session [] out
  listened_to_nothing session out empty none stands = record {
    later = said;
    stands = stands;
    more = record {
      input = sym (append-nil said.input);
      written = [];
      output = sym (append-nil said.output);
      out = empty;
    };
    refused = [];
    answers = record {
      offers = sym (ap (λ l. said.offers ++ l) none ∙ append-nil said.offers);
      answers = sym (append-nil said.answers);
    };
    no_room = tt;
  }

  -- further octets were read
  pub listened_on : (old new : Session) (piece : List ℕ) (used further : ℕ) (before after : List ℕ) → HasListened intake said old (take used piece) before → open_offers old ≡ [] → used ≤ further
      → ((later : Said) → Stands (setup_for intake.config.now intake.peer) old later → Hears (setup_for intake.config.now intake.peer) later old new (slice_range piece used further) before after) → HasListened intake said new (take further piece) after
  listened_on old new piece used further before after l none within hears =
      let h = hears l.later l.stands in
      let answers = l.answers in
      record {
        later = h.later;
        stands = h.stands;
        more = piece_goes_on said l.later h.later piece used further [] before after within l.more h.more;
        refused = l.refused;
        answers = record {
          offers =
              joins said.offers l.refused (open_offers new) l.later.offers h.later.offers
              (answers.offers ∙ ap (λ x. said.offers ++ (l.refused ++ x)) none)
              (h.offers ∙ ap (λ x. l.later.offers ++ x) (open_is_new old new none));
          answers = h.answers ∙ answers.answers;
        };
        no_room = l.no_room;
      }

  -- the open offer was refused
  pub listened_and_refused : (old new : Session) (octets before after : List ℕ) (offer : Offered) → HasListened intake said old octets before → open_offers old ≡ offer ∷ [] → HasNoRoom intake offer → open_offers new ≡ []
      → ((later : Said) → Stands (setup_for intake.config.now intake.peer) old later → Answered (setup_for intake.config.now intake.peer) later new answer.Full before after) → HasListened intake said new octets after
  listened_and_refused old new octets before after offer l was_open no_room none answered =
      let a = answered l.later l.stands in
      let more = l.refused ++ offer ∷ [] in
      record {
        later = a.later;
        stands = a.stands;
        more = more_is_more said l.later a.later octets [] octets [] before after l.more a.more (sym (append-nil octets));
        refused = more;
        answers = record {
          offers =
              a.offers ∙ l.answers.offers ∙ ap (λ x. said.offers ++ (l.refused ++ x)) was_open
              ∙ ap (λ x. said.offers ++ x) (sym (ap (λ x. more ++ x) none ∙ append-nil more));
          answers =
              joins said.answers (refusals l.refused) (answer.Full ∷ []) l.later.answers a.later.answers l.answers.answers a.answers
              ∙ ap (λ x. said.answers ++ x) (sym (append-nil (refusals more) ∙ map-append (λ _. answer.Full) l.refused (offer ∷ [])));
        };
        no_room = all_join (HasNoRoom intake) l.refused (offer ∷ []) l.no_room (no_room, tt);
      }

  -- where changes have no numbers any more, no offer was refused for want of room
  none_refused : (refused : List Offered) → 2 ^ 62 < intake.number → AllByRecursion (HasNoRoom intake) refused → refused ≡ []
  none_refused [] many all = refl
  none_refused (offer ∷ offers) many all = let low = all.0.number in absurd (omega (arith, many, low))

  -- a message came that no number is left for
  pub comes_to_offer : (session : Session) (piece : List ℕ) (used : ℕ) (out : List ℕ) → HasListened intake said session (take used piece) out → next_of session ≡ next.Offer → used ≤ length piece → 2 ^ 62 < intake.number
      → ComesToOffer (setup_for intake.config.now intake.peer) said piece
  comes_to_offer session piece used out l told within many =
      let none = none_refused l.refused many l.no_room in
      let is_open = (offer_is_told session).0 told in
      record {
        used = used;
        within = within;
        later = l.later;
        input = l.more.input;
        offer = is_open.0;
        offers = l.answers.offers ∙ ap (λ x. said.offers ++ (x ++ open_offers session)) none ∙ ap (λ x. said.offers ++ x) is_open.1;
        answers = l.answers.answers ∙ ap (λ x. said.answers ++ (refusals x ++ [])) none ∙ append-nil said.answers;
        dialogue = what_stands_is_a_dialogue (setup_for intake.config.now intake.peer) session l.later l.stands;
      }

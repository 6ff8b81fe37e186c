-- What a session tells its caller, and what may be said of it after each call.
use Rattle.std.proofs.Common.{◌≡◌, ◌≢◌, ◌+◌, ◌-◌, ◌≤◌, ℕ, List, [], ◌∷◌, ◌++◌, length, take, inl, append_assoc, Option, Some, None, true, nat_eq, refl, sym, ap, ◌∙◌, subst, arith, length-append}
use Rattle.std.specs.List.{AllByRecursion, slice_range}
use Rattle.std.specs.Option.{ForSome, option_map_or}
use Rattle.std.proofs.Math.Seq.{take-add}
use Rattle.relay_server.specs.declared.offer.Answer.{Answer}
use Rattle.relay_server.specs.declared.session.Session.{Session}
use Rattle.relay_server.specs.declared.session.Next.TheVariants as next
use Rattle.relay_server.specs.declared.stage.Stage.{Stage}
use Rattle.relay_server.specs.declared.stage.Stage.TheVariants as stage
use Rattle.relay_server.specs.declared.state.CommandState.{CommandState}
use Rattle.relay_server.specs.declared.state.CommandState.TheVariants as held
use Rattle.relay_body.specs.ChunkText.{chunk_limit_of, chunks_held_by}
use Rattle.relay_body.specs.DotReading.{held_by, limit_of}
use Rattle.relay_body.specs.declared.chunk_reader.ChunkReader.{ChunkReader}
use Rattle.std.proofs.lemmas.Bool.{eqb-true, leb-true}
use Rattle.relay_server.specs.Bounds.{IsHeld, IsHeldAt, content_held, content_held_at}
use Rattle.relay_server.specs.Dialogue.{Offered, Said, Turn, Turns, answered_by, answers_in, offered_by, offers_in, read_by}
use Rattle.relay_server.specs.DialogueLaws.{MayBeStored}
use Rattle.relay_server.specs.Machine.{Keeps, Shown, Reading, Offering, Over, offers_at, offers_shown, shown_at}
use Rattle.relay_server.specs.Setup.{Setup}
use Rattle.relay_server.specs.Session.{Stands, next_shown, new_offers, open_offers}
use Rattle.relay_server.specs.SessionLaws.{AnsweredIsSettled, ClosedIsADialogue, CloseIsClosed, ContentIsWithin, OfferIsWithin, MoreIsMore, NoneElseIsOpen, OfferIsTold, OffersAreAnswered, OpenIsNew, OpenMayBeStored, PieceGoesOn}
use Rattle.relay_server.specs.State.{Closed, State, start}
use Rattle.relay_server.proofs.DialogueLemmas.{what_stands_is_a_dialogue}
use Rattle.relay_server.proofs.StoredLemmas.{offers_may_be_stored}

told_is_open : (shown : Shown) → next_shown shown ≡ next.Offer → (offer : Offered) × (offers_shown shown ≡ offer ∷ [])
told_is_open Reading told = absurd (cc)
told_is_open (Offering offer) told = (offer, refl)
told_is_open Over told = absurd (cc)

open_is_told : (shown : Shown) → ((offer : Offered) × (offers_shown shown ≡ offer ∷ [])) → next_shown shown ≡ next.Offer
open_is_told Reading (offer, is) = absurd (cc)
open_is_told (Offering offer) is = refl
open_is_told Over (offer, is) = absurd (cc)

-- the caller is told to take an offer exactly where one is open
pub offer_is_told : OfferIsTold
offer_is_told session = (told_is_open (shown_at session.stage), open_is_told (shown_at session.stage))

none_else : (shown : Shown) → next_shown shown ≢ next.Offer → offers_shown shown ≡ []
none_else Reading not_told = refl
none_else (Offering offer) not_told = absurd (not_told refl)
none_else Over not_told = refl

-- where it isn't told so, none is open
pub none_else_is_open : NoneElseIsOpen
none_else_is_open session not_told = none_else (shown_at session.stage) not_told

-- after no open offer the new ones are those that are open
pub open_is_new : OpenIsNew
open_is_new old new none = ap (λ l. new_offers l (open_offers new)) none

as_many_in : (offer : Option (Offered × Answer)) → length (offers_in offer) ≡ length (answers_in offer)
as_many_in None = refl
as_many_in (Some offer) = refl

as_many : (turns : List Turn) → length (offered_by turns) ≡ length (answered_by turns)
as_many [] = refl
as_many (turn ∷ turns) =
    length-append (offers_in turn.offer) (offered_by turns)
    ∙ ap (λ n. n + length (offered_by turns)) (as_many_in turn.offer) ∙ ap (λ n. length (answers_in turn.offer) + n) (as_many turns)
    ∙ sym (length-append (answers_in turn.offer) (answered_by turns))

-- each offer but the open one is answered
pub offers_are_answered : OffersAreAnswered
offers_are_answered setup session said s =
    ap length s.offers ∙ length-append (offered_by s.turns) (open_offers session)
    ∙ ap (λ n. n + length (open_offers session)) (as_many s.turns ∙ ap length (sym s.answers))

none_of : (offers : List Offered) → length offers ≡ 0 → offers ≡ []
none_of [] e = refl
none_of (offer ∷ offers) e = absurd (omega (arith, e))

-- where as many answers were said as offers, none is open
pub answered_is_settled : AnsweredIsSettled
answered_is_settled setup session said s as_many =
    let all = offers_are_answered setup session said s in
    none_of (open_offers session) (omega (arith, all, as_many))

close_at : (now : Stage) → next_shown (shown_at now) ≡ next.Close → (now ≡ stage.Failed → ⊥) → now ≡ stage.Closed
close_at (stage.Command state) told live = absurd (cc)
close_at (stage.Receiving mail) told live = absurd (cc)
close_at (stage.Chunk chunk) told live = absurd (cc)
close_at (stage.Skipping skipped) told live = absurd (cc)
close_at (stage.Offering transaction content) told live = absurd (cc)
close_at stage.Closed told live = refl
close_at stage.Failed told live = absurd (live refl)

-- a session that stands hasn't failed
stands_live : (setup : Setup) (session : Session) (said : Said) → Stands setup session said → session.stage ≡ stage.Failed → ⊥
stands_live setup session said s failed =
    (subst (λ (x : Stage). Keeps setup session.line x s.state s.rest) failed s.keeps).1

-- a session whose caller is told to close is closed
pub close_is_closed : CloseIsClosed
close_is_closed setup session said s told = close_at session.stage told (stands_live setup session said s)

-- after a close any octets belong to the rest of the dialogue
pub closed_is_a_dialogue : ClosedIsADialogue
closed_is_a_dialogue setup session said octets s closed =
    let kept = subst (λ (x : Stage). Keeps setup session.line x s.state s.rest) closed s.keeps in (
      record {
        turns = s.turns;
        state = Closed;
        rest = s.rest ++ octets;
        unanswered = [];
        runs = subst (λ (x : State). Turns setup start s.turns x) kept.1.0 s.runs;
        input = ap (λ l. l ++ octets) s.input ∙ append_assoc (read_by s.turns) s.rest octets;
        output = s.output;
        answers = s.answers;
        offers = s.offers ∙ ap (λ (x : Stage). offered_by s.turns ++ offers_at x) closed;
        left = inl (λ unit rest is. absurd is, refl);
      },
      refl,
    )

last_of : (P : Offered → Type 0) (offers : List Offered) (offer : Offered) → AllByRecursion P (offers ++ offer ∷ []) → P offer
last_of P [] offer all = all.0
last_of P (first ∷ offers) offer all = last_of P offers offer all.1

-- the open offer may be stored
pub open_may_be_stored : OpenMayBeStored
open_may_be_stored setup session said offer s is_open =
    let all = offers_may_be_stored setup said (what_stands_is_a_dialogue setup session said s) in
    last_of (MayBeStored setup) (offered_by s.turns) offer
    (subst (λ (l : List Offered). AllByRecursion (MayBeStored setup) l) (s.offers ∙ ap (λ l. offered_by s.turns ++ l) is_open) all)

kept_within : (limit : ℕ) (kept : Option (List ℕ)) → ForSome kept (λ octets. length octets ≤ limit) → option_map_or length kept 0 ≤ limit
kept_within limit None within = omega arith
kept_within limit (Some octets) within = within octets refl

chunks_within : (limit : ℕ) (reader : ChunkReader) → nat_eq (chunk_limit_of reader) limit ≡ true → chunks_held_by reader ≤ limit
chunks_within limit reader is =
    subst (λ n. chunks_held_by reader ≤ n) (eqb-true (chunk_limit_of reader) limit is)
    (kept_within (chunk_limit_of reader) reader.gathering.kept reader.gathering.within_limit)

command_holds : (limit : ℕ) (state : CommandState) → IsHeld limit state → content_held state ≤ limit
command_holds limit held.Fresh within = omega arith
command_holds limit (held.Greeted client) within = omega arith
command_holds limit (held.Open transaction) within = omega arith
command_holds limit (held.Gathering gathering) within = chunks_within limit gathering.reader within
command_holds limit (held.Spent client) within = omega arith

stage_holds : (limit : ℕ) (now : Stage) → IsHeldAt limit now → content_held_at now ≤ limit
stage_holds limit (stage.Command state) within = command_holds limit state within
stage_holds limit (stage.Receiving mail) within =
    subst (λ n. held_by mail.reader ≤ n) (eqb-true (limit_of mail.reader) limit within)
    (kept_within (limit_of mail.reader) mail.reader.gathering.kept mail.reader.gathering.within_limit)
stage_holds limit (stage.Chunk chunk) within = chunks_within limit chunk.reader within
stage_holds limit (stage.Skipping skipped) within = command_holds limit skipped.state within
stage_holds limit (stage.Offering transaction content) within = leb-true (length content) limit within
stage_holds limit stage.Closed within = omega arith
stage_holds limit stage.Failed within = omega arith

-- what a session holds is within its limit
pub content_is_within : ContentIsWithin
content_is_within session = stage_holds session.server.max_content session.stage session.bounded

offer_held : (limit : ℕ) (now : Stage) (offer : Offered) → content_held_at now ≤ limit → offers_at now ≡ offer ∷ [] → length offer.content ≤ limit
offer_held limit (stage.Command state) offer within is = absurd (cc)
offer_held limit (stage.Receiving mail) offer within is = absurd (cc)
offer_held limit (stage.Chunk chunk) offer within is = absurd (cc)
offer_held limit (stage.Skipping skipped) offer within is = absurd (cc)
offer_held limit (stage.Offering transaction content) offer within is =
    let same : content ≡ offer.content = cc in
    subst (λ (octets : List ℕ). length octets ≤ limit) same within
offer_held limit stage.Closed offer within is = absurd (cc)
offer_held limit stage.Failed offer within is = absurd (cc)

-- so is an open offer's content
pub offer_is_within : OfferIsWithin
offer_is_within session offer is =
    offer_held session.server.max_content session.stage offer (content_is_within session) is

-- what was said after more is more
pub more_is_more : MoreIsMore
more_is_more said mid later octets further all before between after one two joins = record {
  input = two.input ∙ ap (λ l. l ++ further) one.input ∙ append_assoc said.input octets further ∙ ap (λ l. said.input ++ l) (sym joins);
  written = one.written ++ two.written;
  output = two.output ∙ ap (λ l. l ++ two.written) one.output ∙ append_assoc said.output one.written two.written;
  out = two.out ∙ ap (λ l. l ++ two.written) one.out ∙ append_assoc before one.written two.written;
}

-- octets and those after them are more octets
taken_after : (piece : List ℕ) (used further : ℕ) → used ≤ further → take further piece ≡ take used piece ++ slice_range piece used further
taken_after piece used further within =
    let sum : further ≡ used + (further - used) = omega (arith, within) in
    ap (λ n. take n piece) sum ∙ take-add used (further - used) piece

-- a piece of which further octets were used
pub piece_goes_on : PieceGoesOn
piece_goes_on said mid later piece used further before between after within one two =
    more_is_more said mid later (take used piece) (slice_range piece used further) (take further piece) before between after one two
    (taken_after piece used further within)

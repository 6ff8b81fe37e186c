-- Which offers the spool has room for, how those without are answered, and how a piece comes to an offer.
use Rattle.std.specs.Prelude.{◌≡◌, ℕ, ◌+◌, ◌≤◌, ◌<◌, ◌^◌, List, [], ◌∷◌, ◌++◌, length, map, take}
use Rattle.relay_server.specs.declared.offer.Answer.{Answer}
use Rattle.relay_server.specs.declared.offer.Answer.TheVariants as answer
use Rattle.relay_server.specs.Dialogue.{IsDialogue, Offered, Said}
use Rattle.relay_server.specs.Setup.{Setup}
use Rattle.relay_book.specs.declared.change.Accept.{Accept}
use Rattle.relay_book.specs.declared.change.Change.TheVariants as change
use Rattle.relay_book.specs.Record.{encode}
use Rattle.relay_node.specs.Acceptance.{Acceptance, IsAcceptOf}

-- the octets that a spool of this size takes with the record of an accept: five stand around the record
abbrev pub size_with : ℕ → Accept → ℕ
size_with size accept = size + 5 + length (encode (change.Accept accept))

-- the number may be a change's; with the record of this offer's accept the spool would pass its limit
pub record Overfills (acceptance : Acceptance) (limit size : ℕ) (offer : Offered) : Type 0 where
  pub number : acceptance.number ≤ 2 ^ 62
  pub accept : Accept
  pub is_accept : IsAcceptOf acceptance offer accept
  pub passes : limit < size_with size accept

-- the number may be a change's; with the record of this offer's accept the spool stays within its limit
pub record HasRoom (acceptance : Acceptance) (limit size : ℕ) (offer : Offered)
    (accept : Accept) : Type 0 where
  pub number : acceptance.number ≤ 2 ^ 62
  pub is_accept : IsAcceptOf acceptance offer accept
  pub room : size_with size accept ≤ limit

-- each of these offers is answered that there is no room for it
abbrev pub refusals : List Offered → List Answer
refusals offers = map (λ _. answer.Full) offers

-- after what was said these offers were refused for lack of room, and then these were made and had these answers
pub record AnswersMore (said later : Said) (refused last : List Offered) (given : List Answer) : Type 0 where
  pub offers : later.offers ≡ said.offers ++ (refused ++ last)
  pub answers : later.answers ≡ said.answers ++ (refusals refused ++ given)

-- What was read ends with the message that was offered last: with these answers, which lack its own, it
-- was a dialogue before, and one with an offer too many ends with the unit of that offer.
pub record EndsWithOffer (setup : Setup) (later : Said) (answers : List Answer) : Type 0 where
  pub output : List ℕ
  pub dialogue
      : IsDialogue setup (record { input = later.input; answers = answers; output = output; offers = later.offers })

-- After what was said octets of the piece were read up to the end of its first message, which has no
-- answer yet.
pub record ComesToOffer (setup : Setup) (said : Said) (piece : List ℕ) : Type 0 where
  pub used : ℕ
  pub within : used ≤ length piece
  pub later : Said
  pub input : later.input ≡ said.input ++ take used piece
  pub offer : Offered
  pub offers : later.offers ≡ said.offers ++ offer ∷ []
  pub answers : later.answers ≡ said.answers
  pub dialogue : IsDialogue setup later

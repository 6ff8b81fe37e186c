-- Whoever is a recipient of an offer was taken: each state that a dialogue stands in holds no other.
use Rattle.std.proofs.Common.{◌≡◌, ℕ, Bool, true, false, if◌then◌else◌, nat_le, is_some, List, [], ◌∷◌, ◌++◌, length, Option, Some, None, Result, Ok, Err, inl, inr, refl, sym, subst}
use Rattle.std.specs.List.{AllByRecursion}
use Rattle.relay_lines.specs.ChunkArgument.{begins_with_bdat}
use Rattle.relay_lines.specs.Command as line
use Rattle.relay_lines.specs.Command.{reading_of}
use Rattle.relay_lines.specs.declared.command.LineFault.{LineFault}
use Rattle.relay_lines.specs.declared.command.LineFault.TheVariants as fault
use Rattle.relay_envelope.specs.declared.envelope.Envelope.{Envelope}
use Rattle.relay_envelope.specs.declared.fault.EnvelopeFault.{EnvelopeFault}
use Rattle.relay_envelope.specs.Envelope.{recipient_from}
use Rattle.relay_envelope.specs.Mail.{Mail as MailSaid, Rcpt as RcptSaid, ReadsRcpt, rcpt_of}
use Rattle.relay_envelope.specs.Parameters.{RcptParameters}
use Rattle.relay_envelope.specs.Path.{Path, IsPath}
use Rattle.relay_routes.specs.RoutedPath.{refuses_path}
use Rattle.relay_routes.specs.Routes.{hop_of}
use Rattle.relay_trace.specs.HeaderSection.{received_count_of}
use Rattle.relay_server.specs.declared.client.Client.{Client}
use Rattle.relay_server.specs.declared.reply_table.Row.{Row}
use Rattle.relay_server.specs.Dialogue.{Offered, Turn, Comes, Takes, Turns, IsLeft, offered_by, offers_in}
use Rattle.relay_server.specs.DialogueLaws.{IsTaken, RecipientsAreTaken}
use Rattle.relay_server.specs.ReplyTable.{Course, Replies, Offers, course_of, course_of_bdat, course_of_chunks, course_of_content, course_of_data, course_of_mail, course_of_rcpt, course_of_text, offer_unless, refusal_by, state_after_fault, unless_refused}
use Rattle.relay_server.specs.Setup.{Setup}
use Rattle.relay_server.specs.State.{CommandState, Fresh, Greeted, Open, Gathering, Spent, State, Command, Receiving, Closed, start}
use Rattle.relay_server.specs.Unit.{Asked, LongLine, Faulty, Rset, Asks, AsksBy}

-- each recipient of the envelope was taken
abbrev AreTaken : Setup → Envelope → Type 0
AreTaken setup envelope = AllByRecursion (IsTaken setup) envelope.recipients

abbrev AreOffersTaken : Setup → List Offered → Type 0
AreOffersTaken setup offers = AllByRecursion (λ offer. AreTaken setup offer.envelope) offers

-- whom a state holds was taken
abbrev IsSound : Setup → State → Type 0
IsSound setup (Command Fresh) = Unit {0}
IsSound setup (Command (Greeted client)) = Unit {0}
IsSound setup (Command (Open client envelope)) = AreTaken setup envelope
IsSound setup (Command (Gathering client envelope content)) = AreTaken setup envelope
IsSound setup (Command (Spent client)) = Unit {0}
IsSound setup (Receiving client envelope) = AreTaken setup envelope
IsSound setup Closed = Unit {0}

-- what comes leads to a state that is sound, or is offered to those who were taken
abbrev IsGood : Setup → Course → Type 0
IsGood setup (Replies row next) = IsSound setup next
IsGood setup (Offers client envelope content) = AreTaken setup envelope

-- of two courses
chosen : (setup : Setup) (b : Bool) (one two : Course) → (b ≡ true → IsGood setup one) → (b ≡ false → IsGood setup two) → IsGood setup (if b then one else two)
chosen setup true one two h k = h refl
chosen setup false one two h k = k refl

-- what holds of all of two rows holds of both in one
joined : {X : Type 0} (P : X → Type 0) (front back : List X) → AllByRecursion P front → AllByRecursion P back → AllByRecursion P (front ++ back)
joined P [] back all more = more
joined P (x ∷ front) back all more = (all.0, joined P front back all.1 more)

-- the path of what RCPT said is the one that its text begins with
path_is : (path : Path) (read : Result RcptParameters EnvelopeFault) (rcpt : RcptSaid) → Ok rcpt ≡ rcpt_of path read → rcpt.path ≡ path
path_is path (Ok parameters) rcpt e = cc
path_is path (Err fault) rcpt e = absurd (let no : ⊥ = cc in no)

valid_path : (text : List ℕ) (rcpt : RcptSaid) → ReadsRcpt text (Ok rcpt) → IsPath rcpt.path
valid_path text rcpt (inl bad) = let e = bad.result_is in absurd (let no : ⊥ = cc in no)
valid_path text rcpt (inr after) =
    subst IsPath (sym (path_is after.path after.parameters rcpt after.result_is)) after.begins.valid

-- one more that is taken
grown : (setup : Setup) (envelope : Envelope) (text : List ℕ) (rcpt : RcptSaid) → AreTaken setup envelope → ReadsRcpt text (Ok rcpt) → refuses_path setup.routed_paths rcpt.path ≡ false → is_some (hop_of setup.routes rcpt.path) ≡ true → AreTaken setup (record envelope { recipients = envelope.recipients ++ recipient_from rcpt ∷ [] })
grown setup envelope text rcpt so_far reads kept goes =
    joined (IsTaken setup) envelope.recipients (recipient_from rcpt ∷ []) so_far
    (record { path = rcpt.path; valid = valid_path text rcpt reads; text_is = refl; kept = kept; goes = goes }, tt)

mail_good : (setup : Setup) (read : Result MailSaid EnvelopeFault) (old : CommandState) → IsSound setup (Command old) → IsGood setup (course_of_mail read old)
mail_good setup (Err fault) old sound = sound
mail_good setup (Ok mail) Fresh sound = tt
mail_good setup (Ok mail) (Greeted client) sound = tt
mail_good setup (Ok mail) (Open client envelope) sound = sound
mail_good setup (Ok mail) (Gathering client envelope content) sound = sound
mail_good setup (Ok mail) (Spent client) sound = tt

rcpt_good : (setup : Setup) (text : List ℕ) (read : Result RcptSaid EnvelopeFault) (old : CommandState) → ReadsRcpt text read → IsSound setup (Command old) → IsGood setup (course_of_rcpt setup read old)
rcpt_good setup text (Err fault) old reads sound = sound
rcpt_good setup text (Ok rcpt) Fresh reads sound = tt
rcpt_good setup text (Ok rcpt) (Greeted client) reads sound = tt
rcpt_good setup text (Ok rcpt) (Open client envelope) reads sound =
    chosen setup (nat_le 100 (length envelope.recipients)) _ _ (λ _. sound)
    (λ _. chosen setup (refuses_path setup.routed_paths rcpt.path) _ _ (λ _. sound)
    (λ kept. chosen setup (is_some (hop_of setup.routes rcpt.path)) _ _ (λ goes. grown setup envelope text rcpt sound reads kept goes) (λ _. sound)))
rcpt_good setup text (Ok rcpt) (Gathering client envelope content) reads sound = sound
rcpt_good setup text (Ok rcpt) (Spent client) reads sound = tt

data_good : (setup : Setup) (old : CommandState) → IsSound setup (Command old) → IsGood setup (course_of_data old)
data_good setup Fresh sound = tt
data_good setup (Greeted client) sound = tt
data_good setup (Open client envelope) sound =
    chosen setup (nat_le 1 (length envelope.recipients)) _ _ (λ _. sound) (λ _. sound)
data_good setup (Gathering client envelope content) sound = sound
data_good setup (Spent client) sound = tt

-- what the rule makes of it has the same recipients
unless_good : (setup : Setup) (course : Course) → IsGood setup course → IsGood setup (unless_refused setup.bare_newlines course)
unless_good setup (Replies row next) good = good
unless_good setup (Offers client envelope content) good = by (refusal_by setup.bare_newlines content)
  where
    by : (refusal : Option Row) → IsGood setup (offer_unless refusal client envelope content)
    by None = good
    by (Some row) = tt

content_good : (setup : Setup) (client : Client) (envelope : Envelope) (content : List ℕ) → AreTaken setup envelope → IsGood setup (course_of_content client envelope content)
content_good setup client envelope content taken =
    chosen setup (nat_le 100 (received_count_of content)) _ _ (λ _. tt) (λ _. taken)

text_good : (setup : Setup) (client : Client) (envelope : Envelope) (content : List ℕ) → AreTaken setup envelope → IsGood setup (course_of_text setup.max_content client envelope content)
text_good setup client envelope content taken =
    chosen setup (nat_le (length content) setup.max_content) _ _ (λ _. content_good setup client envelope content taken) (λ _. tt)

chunks_good : (setup : Setup) (client : Client) (envelope : Envelope) (content : List ℕ) (last : Bool) → AreTaken setup envelope → IsGood setup (course_of_chunks setup.max_content client envelope content last)
chunks_good setup client envelope content last taken =
    chosen setup (nat_le (length content) setup.max_content) _ _
    (λ _. chosen setup last _ _ (λ _. content_good setup client envelope content taken) (λ _. taken)) (λ _. tt)

bdat_good : (setup : Setup) (octets : List ℕ) (last : Bool) (old : CommandState) → IsSound setup (Command old) → IsGood setup (course_of_bdat setup.max_content octets last old)
bdat_good setup octets last Fresh sound = tt
bdat_good setup octets last (Greeted client) sound = tt
bdat_good setup octets last (Open client envelope) sound =
    chosen setup (nat_le 1 (length envelope.recipients)) _ _ (λ _. chunks_good setup client envelope octets last sound) (λ _. tt)
bdat_good setup octets last (Gathering client envelope content) sound =
    chunks_good setup client envelope (content ++ octets) last sound
bdat_good setup octets last (Spent client) sound = tt

reset_good : (setup : Setup) (old : CommandState) → IsGood setup (course_of setup Rset old)
reset_good setup Fresh = tt
reset_good setup (Greeted client) = tt
reset_good setup (Open client envelope) = tt
reset_good setup (Gathering client envelope content) = tt
reset_good setup (Spent client) = tt

fault_good : (setup : Setup) (which : LineFault) (old : CommandState) → IsSound setup (Command old) → IsSound setup (state_after_fault which old)
fault_good setup fault.Unknown old sound = sound
fault_good setup fault.BadByte old sound = sound
fault_good setup fault.BadArgument old sound = sound
fault_good setup fault.NotOffered old sound = sound
fault_good setup fault.BadChunkSize old sound = tt

-- what a line asks comes to good
asked_good : (setup : Setup) (octets : List ℕ) (reading : Result line.Command LineFault) (asked : Asked) (old : CommandState) → AsksBy reading octets asked → IsSound setup (Command old) → IsGood setup (course_of setup asked old)
asked_good setup octets (Err which) asked old asks sound =
    subst (λ (a : Asked). IsGood setup (course_of setup a old)) (sym asks) (fault_good setup which old sound)
asked_good setup octets (Ok (line.Helo word)) asked old asks sound =
    subst (λ (a : Asked). IsGood setup (course_of setup a old)) (sym asks) tt
asked_good setup octets (Ok (line.Ehlo word)) asked old asks sound =
    subst (λ (a : Asked). IsGood setup (course_of setup a old)) (sym asks) tt
asked_good setup octets (Ok (line.Mail after)) asked old asks sound =
    subst (λ (a : Asked). IsGood setup (course_of setup a old)) (sym asks.2) (mail_good setup asks.0 old sound)
asked_good setup octets (Ok (line.Rcpt after)) asked old asks sound =
    subst (λ (a : Asked). IsGood setup (course_of setup a old)) (sym asks.2) (rcpt_good setup after asks.0 old asks.1 sound)
asked_good setup octets (Ok line.Data) asked old asks sound =
    subst (λ (a : Asked). IsGood setup (course_of setup a old)) (sym asks) (data_good setup old sound)
asked_good setup octets (Ok (line.Bdat argument)) asked old asks sound =
    subst (λ (a : Asked). IsGood setup (course_of setup a old)) (sym asks)
    (unless_good setup (course_of_bdat setup.max_content octets argument.last old) (bdat_good setup octets argument.last old sound))
asked_good setup octets (Ok line.Rset) asked old asks sound =
    subst (λ (a : Asked). IsGood setup (course_of setup a old)) (sym asks) (reset_good setup old)
asked_good setup octets (Ok line.Noop) asked old asks sound =
    subst (λ (a : Asked). IsGood setup (course_of setup a old)) (sym asks) sound
asked_good setup octets (Ok line.Vrfy) asked old asks sound =
    subst (λ (a : Asked). IsGood setup (course_of setup a old)) (sym asks) sound
asked_good setup octets (Ok line.Help) asked old asks sound =
    subst (λ (a : Asked). IsGood setup (course_of setup a old)) (sym asks) sound
asked_good setup octets (Ok line.Quit) asked old asks sound =
    subst (λ (a : Asked). IsGood setup (course_of setup a old)) (sym asks) tt

-- a line that is too long changes no state, or closes
long_good : (setup : Setup) (b : Bool) (old : CommandState) → IsSound setup (Command old) → IsGood setup (course_of setup (if b then Faulty fault.BadChunkSize else LongLine) old)
long_good setup true old sound = tt
long_good setup false old sound = sound

line_good : (setup : Setup) (text octets : List ℕ) (asked : Asked) (old : CommandState) → Asks text octets asked → IsSound setup (Command old) → IsGood setup (course_of setup asked old)
line_good setup text octets asked old (inl long) sound =
    subst (λ (a : Asked). IsGood setup (course_of setup a old)) (sym long.1) (long_good setup (begins_with_bdat text) old sound)
line_good setup text octets asked old (inr read) sound = asked_good setup octets (reading_of text) asked old read.1 sound

-- what comes of a unit in a sound state is good
comes_good : (setup : Setup) (old : State) (unit : List ℕ) (course : Course) → Comes setup old unit course → IsSound setup old → IsGood setup course
comes_good setup (Command state) unit course comes sound =
    subst (IsGood setup) (sym comes.course_is) (line_good setup comes.text comes.octets comes.what state comes.asks sound)
comes_good setup (Receiving client envelope) unit course comes sound =
    subst (IsGood setup) (sym comes.course_is)
    (unless_good setup (course_of_text setup.max_content client envelope comes.content) (text_good setup client envelope comes.content sound))
comes_good setup Closed unit course comes sound = absurd comes

taken_sound : (setup : Setup) (course : Course) (turn : Turn) (new : State) → IsGood setup course → Takes setup.host course turn new → IsSound setup new × AreOffersTaken setup (offers_in turn.offer)
taken_sound setup (Replies row next) turn new good takes = (
  subst (IsSound setup) (sym takes.2) good,
  subst (λ o. AreOffersTaken setup (offers_in o)) (sym takes.1) tt,
)
taken_sound setup (Offers client envelope content) turn new good takes = (
  subst (IsSound setup) (sym takes.3) tt,
  subst (λ o. AreOffersTaken setup (offers_in o)) (sym takes.2) (good, tt),
)

-- turns lead from a sound state to a sound one
turns_sound : (setup : Setup) (old new : State) (turns : List Turn) → Turns setup old turns new → IsSound setup old → IsSound setup new × AreOffersTaken setup (offered_by turns)
turns_sound setup old new [] runs sound = (subst (IsSound setup) runs sound, tt)
turns_sound setup old new (turn ∷ turns) runs sound =
    let is = runs.1 in
    let first = taken_sound setup is.course turn runs.0 (comes_good setup old turn.asked is.course is.comes sound) is.takes in
    let later = turns_sound setup runs.0 new turns runs.2 first.0 in
    (later.0, joined (λ (offer : Offered). AreTaken setup offer.envelope) (offers_in turn.offer) (offered_by turns) first.1 later.1)

left_taken : (setup : Setup) (state : State) (rest : List ℕ) (unanswered : List Offered) → IsLeft setup state rest unanswered → IsSound setup state → AreOffersTaken setup unanswered
left_taken setup state rest unanswered (inl left) sound = subst (AreOffersTaken setup) (sym left.1) tt
left_taken setup state rest unanswered (inr left) sound =
    subst (AreOffersTaken setup) (sym left.offer_is)
    (comes_good setup state rest (Offers left.client left.envelope left.content) left.comes sound, tt)

pub recipients_are_taken : RecipientsAreTaken
recipients_are_taken setup said is =
    let sound = turns_sound setup start is.state is.turns is.runs tt in
    subst (AreOffersTaken setup) (sym is.offers)
    (joined (λ (offer : Offered). AreTaken setup offer.envelope) (offered_by is.turns) is.unanswered sound.1 (left_taken setup is.state is.rest is.unanswered is.left sound.0))

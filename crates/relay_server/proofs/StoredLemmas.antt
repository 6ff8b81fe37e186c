-- What a dialogue offers may be stored, since each state that it stands in holds nothing else.
use Rattle.std.proofs.Common.{◌≡◌, ℕ, ◌<◌, ◌≤◌, Bool, true, false, if◌then◌else◌, nat_le, is_some, List, [], ◌∷◌, ◌++◌, length, Option, Some, None, Result, Ok, Err, inl, inr, refl, sym, ap, subst, arith, length-append}
use Rattle.std.specs.List.{AllByRecursion}
use Rattle.std.proofs.lemmas.Bool.{leb-true, leb-false}
use Rattle.relay_lines.specs.ChunkArgument.{begins_with_bdat}
use Rattle.relay_lines.specs.Command as line
use Rattle.relay_lines.specs.Command.{reading_of}
use Rattle.relay_lines.specs.Word.{IsHostWord}
use Rattle.relay_lines.specs.declared.command.LineFault.{LineFault}
use Rattle.relay_lines.specs.declared.command.LineFault.TheVariants as fault
use Rattle.relay_lines.proofs.Theorems.{reading_is_of_spelling}
use Rattle.relay_envelope.specs.declared.envelope.Envelope.{Envelope}
use Rattle.relay_envelope.specs.declared.fault.EnvelopeFault.{EnvelopeFault}
use Rattle.relay_envelope.specs.Envelope.{IsEnvelope, IsRecipient, IsWrittenPath, may_be_envid, recipient_from}
use Rattle.relay_envelope.specs.Mail.{Mail as MailSaid, Rcpt as RcptSaid, ReadsMail, ReadsRcpt}
use Rattle.relay_envelope.specs.Path.{is_reverse}
use Rattle.relay_envelope.proofs.Theorems.{read_mail_is_valid, read_rcpt_is_valid}
use Rattle.relay_trace.specs.HeaderSection.{received_count_of}
use Rattle.relay_server.specs.declared.client.Client.{Client}
use Rattle.relay_server.specs.declared.reply_table.Row.{Row}
use Rattle.relay_server.specs.declared.reply_table.Row.TheVariants.{ChunkOk}
use Rattle.relay_server.specs.Dialogue.{Offered, Turn, Answers, Comes, Takes, Turns, IsLeft, offered_by, offered_of, offers_in}
use Rattle.relay_server.specs.DialogueLaws.{MayBeStored, OffersMayBeStored}
use Rattle.relay_server.specs.ReplyTable.{Course, Replies, Offers, course_of, course_of_bdat, course_of_chunks, course_of_content, course_of_data, course_of_mail, course_of_rcpt, course_of_text, offer_unless, refusal_by, state_after_fault, unless_refused}
use Rattle.relay_routes.specs.RoutedPath.{refuses_path}
use Rattle.relay_routes.specs.Routes.{hop_of}
use Rattle.relay_server.specs.Setup.{Setup}
use Rattle.relay_server.specs.State.{CommandState, Fresh, Greeted, Open, Gathering, Spent, State, Command, Receiving, Closed, start}
use Rattle.relay_server.specs.Unit.{Asked, LongLine, Faulty, Rset, Asks, AsksBy}

-- an envelope to which recipients may still come
record IsOpen (envelope : Envelope) : Type 0 where
  reverse_path : IsWrittenPath is_reverse envelope.reverse_path
  envid : may_be_envid envelope.envid ≡ true
  within : length envelope.recipients ≤ 100
  recipients : AllByRecursion IsRecipient envelope.recipients

-- what a state holds may be stored, or may become so
abbrev IsSound : State → Type 0
IsSound (Command Fresh) = Unit {0}
IsSound (Command (Greeted client)) = IsHostWord client.word
IsSound (Command (Open client envelope)) = IsHostWord client.word × IsOpen envelope
IsSound (Command (Gathering client envelope content)) = IsHostWord client.word × IsEnvelope envelope
IsSound (Command (Spent client)) = IsHostWord client.word
IsSound (Receiving client envelope) = IsHostWord client.word × IsEnvelope envelope
IsSound Closed = Unit {0}

-- what holds of all of two rows holds of both in one
joined : {X : Type 0} (P : X → Type 0) (front back : List X) → AllByRecursion P front → AllByRecursion P back → AllByRecursion P (front ++ back)
joined P [] back all more = more
joined P (x ∷ front) back all more = (all.0, joined P front back all.1 more)

-- what comes leads to a state that is sound, or offers what may be stored
abbrev IsGood : Setup → Course → Type 0
IsGood setup (Replies row next) = IsSound next
IsGood setup (Offers client envelope content) =
    IsHostWord client.word × MayBeStored setup (offered_of client envelope content)

-- of two courses
chosen : (setup : Setup) (b : Bool) (one two : Course) → (b ≡ true → IsGood setup one) → (b ≡ false → IsGood setup two) → IsGood setup (if b then one else two)
chosen setup true one two h k = h refl
chosen setup false one two h k = k refl

-- one more recipient, where there are fewer than 100
grown : (envelope : Envelope) (rcpt : RcptSaid) (text : List ℕ) → IsOpen envelope → nat_le 100 (length envelope.recipients) ≡ false → ReadsRcpt text (Ok rcpt) → IsOpen (record envelope { recipients = envelope.recipients ++ recipient_from rcpt ∷ [] })
grown envelope rcpt text so_far few reads =
    let less = leb-false 100 (length envelope.recipients) few in
    let sum = length-append envelope.recipients (recipient_from rcpt ∷ []) in
    record {
      reverse_path = so_far.reverse_path;
      envid = so_far.envid;
      within = omega (arith, less, sum);
      recipients = joined IsRecipient envelope.recipients (recipient_from rcpt ∷ []) so_far.recipients (read_rcpt_is_valid text rcpt reads, tt);
    }

mail_good : (setup : Setup) (text : List ℕ) (read : Result MailSaid EnvelopeFault) (old : CommandState) → ReadsMail text read → IsSound (Command old) → IsGood setup (course_of_mail read old)
mail_good setup text (Err fault) old reads sound = sound
mail_good setup text (Ok mail) Fresh reads sound = tt
mail_good setup text (Ok mail) (Greeted client) reads sound =
    let valid = read_mail_is_valid text mail reads in
    (sound, record { reverse_path = valid.0; envid = valid.1; within = omega arith; recipients = tt })
mail_good setup text (Ok mail) (Open client envelope) reads sound = sound
mail_good setup text (Ok mail) (Gathering client envelope content) reads sound = sound
mail_good setup text (Ok mail) (Spent client) reads sound = sound

rcpt_good : (setup : Setup) (text : List ℕ) (read : Result RcptSaid EnvelopeFault) (old : CommandState) → ReadsRcpt text read → IsSound (Command old) → IsGood setup (course_of_rcpt setup read old)
rcpt_good setup text (Err fault) old reads sound = sound
rcpt_good setup text (Ok rcpt) Fresh reads sound = tt
rcpt_good setup text (Ok rcpt) (Greeted client) reads sound = sound
rcpt_good setup text (Ok rcpt) (Open client envelope) reads sound =
    chosen setup (nat_le 100 (length envelope.recipients)) _ _ (λ _. sound)
    (λ few. chosen setup (refuses_path setup.routed_paths rcpt.path) _ _ (λ _. sound)
    (λ _. chosen setup (is_some (hop_of setup.routes rcpt.path)) _ _ (λ _. (sound.0, grown envelope rcpt text sound.1 few reads)) (λ _. sound)))
rcpt_good setup text (Ok rcpt) (Gathering client envelope content) reads sound = sound
rcpt_good setup text (Ok rcpt) (Spent client) reads sound = sound

-- an envelope with a recipient is whole
whole_envelope : (envelope : Envelope) → IsOpen envelope → nat_le 1 (length envelope.recipients) ≡ true → IsEnvelope envelope
whole_envelope envelope so_far some = record {
  reverse_path = so_far.reverse_path;
  envid = so_far.envid;
  some = leb-true 1 (length envelope.recipients) some;
  within = so_far.within;
  recipients = so_far.recipients;
}

data_good : (setup : Setup) (old : CommandState) → IsSound (Command old) → IsGood setup (course_of_data old)
data_good setup Fresh sound = tt
data_good setup (Greeted client) sound = sound
data_good setup (Open client envelope) sound =
    chosen setup (nat_le 1 (length envelope.recipients)) _ _ (λ some. (sound.0, whole_envelope envelope sound.1 some)) (λ _. sound)
data_good setup (Gathering client envelope content) sound = sound
data_good setup (Spent client) sound = sound

-- an offer as it may be stored, but for what the rule refuses
record IsNearlyStored (setup : Setup) (client : Client) (envelope : Envelope) (content : List ℕ) : Type 0 where
  word : IsHostWord client.word
  whole : IsEnvelope envelope
  fits : length content ≤ setup.max_content
  received : received_count_of content < 100

-- what comes is good, but for what the rule refuses of what it offers
abbrev IsNearlyGood : Setup → Course → Type 0
IsNearlyGood setup (Replies row next) = IsSound next
IsNearlyGood setup (Offers client envelope content) = IsNearlyStored setup client envelope content

chosen_nearly : (setup : Setup) (b : Bool) (one two : Course) → (b ≡ true → IsNearlyGood setup one) → (b ≡ false → IsNearlyGood setup two) → IsNearlyGood setup (if b then one else two)
chosen_nearly setup true one two h k = h refl
chosen_nearly setup false one two h k = k refl

-- a content that is refused isn't offered
unless_good : (setup : Setup) (course : Course) → IsNearlyGood setup course → IsGood setup (unless_refused setup.bare_newlines course)
unless_good setup (Replies row next) sound = sound
unless_good setup (Offers client envelope content) nearly =
    by (refusal_by setup.bare_newlines content) refl
  where
    by : (refusal : Option Row) → refusal ≡ refusal_by setup.bare_newlines content → IsGood setup (offer_unless refusal client envelope content)
    by None is = (
      nearly.word,
      record { client = nearly.word; envelope = nearly.whole; content = nearly.fits; received = nearly.received; allowed = sym (ap is_some is) },
    )
    by (Some row) is = nearly.word

-- a content within the limit is refused, or may be stored
content_good : (setup : Setup) (client : Client) (envelope : Envelope) (content : List ℕ) → IsHostWord client.word → IsEnvelope envelope → length content ≤ setup.max_content → IsNearlyGood setup (course_of_content client envelope content)
content_good setup client envelope content word whole fits =
    chosen_nearly setup (nat_le 100 (received_count_of content)) _ _ (λ _. word) (λ few. record { word = word; whole = whole; fits = fits; received = leb-false 100 (received_count_of content) few })

text_good : (setup : Setup) (client : Client) (envelope : Envelope) (content : List ℕ) → IsHostWord client.word → IsEnvelope envelope → IsNearlyGood setup (course_of_text setup.max_content client envelope content)
text_good setup client envelope content word whole =
    chosen_nearly setup (nat_le (length content) setup.max_content) _ _ (λ fits. content_good setup client envelope content word whole (leb-true (length content) setup.max_content fits)) (λ _. word)

last_good : (setup : Setup) (last : Bool) (client : Client) (envelope : Envelope) (content : List ℕ) → IsHostWord client.word → IsEnvelope envelope → length content ≤ setup.max_content → IsNearlyGood setup (if last then course_of_content client envelope content else Replies ChunkOk (Command (Gathering client envelope content)))
last_good setup true client envelope content word whole fits = content_good setup client envelope content word whole fits
last_good setup false client envelope content word whole fits = (word, whole)

chunks_good : (setup : Setup) (client : Client) (envelope : Envelope) (content : List ℕ) (last : Bool) → IsHostWord client.word → IsEnvelope envelope → IsNearlyGood setup (course_of_chunks setup.max_content client envelope content last)
chunks_good setup client envelope content last word whole =
    chosen_nearly setup (nat_le (length content) setup.max_content) _ _ (λ fits. last_good setup last client envelope content word whole (leb-true (length content) setup.max_content fits)) (λ _. word)

bdat_good : (setup : Setup) (octets : List ℕ) (last : Bool) (old : CommandState) → IsSound (Command old) → IsNearlyGood setup (course_of_bdat setup.max_content octets last old)
bdat_good setup octets last Fresh sound = tt
bdat_good setup octets last (Greeted client) sound = sound
bdat_good setup octets last (Open client envelope) sound =
    chosen_nearly setup (nat_le 1 (length envelope.recipients)) _ _ (λ some. chunks_good setup client envelope octets last sound.0 (whole_envelope envelope sound.1 some)) (λ _. sound.0)
bdat_good setup octets last (Gathering client envelope content) sound =
    chunks_good setup client envelope (content ++ octets) last sound.0 sound.1
bdat_good setup octets last (Spent client) sound = sound

reset_good : (setup : Setup) (old : CommandState) → IsSound (Command old) → IsGood setup (course_of setup Rset old)
reset_good setup Fresh sound = tt
reset_good setup (Greeted client) sound = sound
reset_good setup (Open client envelope) sound = sound.0
reset_good setup (Gathering client envelope content) sound = sound.0
reset_good setup (Spent client) sound = sound

fault_good : (which : LineFault) (old : CommandState) → IsSound (Command old) → IsSound (state_after_fault which old)
fault_good fault.Unknown old sound = sound
fault_good fault.BadByte old sound = sound
fault_good fault.BadArgument old sound = sound
fault_good fault.NotOffered old sound = sound
fault_good fault.BadChunkSize old sound = tt

-- the word of a greeting is one of a host
helo_word : (text word : List ℕ) → reading_of text ≡ Ok (line.Helo word) → IsHostWord word
helo_word text word e = ((reading_is_of_spelling text (line.Helo word)).0 e).spelled.1

ehlo_word : (text word : List ℕ) → reading_of text ≡ Ok (line.Ehlo word) → IsHostWord word
ehlo_word text word e = ((reading_is_of_spelling text (line.Ehlo word)).0 e).spelled.1

-- what a line asks comes to good
asked_good : (setup : Setup) (text octets : List ℕ) (reading : Result line.Command LineFault) (asked : Asked) (old : CommandState) → reading_of text ≡ reading → AsksBy reading octets asked → IsSound (Command old) → IsGood setup (course_of setup asked old)
asked_good setup text octets (Err which) asked old e asks sound =
    subst (λ (a : Asked). IsGood setup (course_of setup a old)) (sym asks) (fault_good which old sound)
asked_good setup text octets (Ok (line.Helo word)) asked old e asks sound =
    subst (λ (a : Asked). IsGood setup (course_of setup a old)) (sym asks) (helo_word text word e)
asked_good setup text octets (Ok (line.Ehlo word)) asked old e asks sound =
    subst (λ (a : Asked). IsGood setup (course_of setup a old)) (sym asks) (ehlo_word text word e)
asked_good setup text octets (Ok (line.Mail after)) asked old e asks sound =
    subst (λ (a : Asked). IsGood setup (course_of setup a old)) (sym asks.2) (mail_good setup after asks.0 old asks.1 sound)
asked_good setup text octets (Ok (line.Rcpt after)) asked old e asks sound =
    subst (λ (a : Asked). IsGood setup (course_of setup a old)) (sym asks.2) (rcpt_good setup after asks.0 old asks.1 sound)
asked_good setup text octets (Ok line.Data) asked old e asks sound =
    subst (λ (a : Asked). IsGood setup (course_of setup a old)) (sym asks) (data_good setup old sound)
asked_good setup text octets (Ok (line.Bdat argument)) asked old e asks sound =
    subst (λ (a : Asked). IsGood setup (course_of setup a old)) (sym asks)
    (unless_good setup (course_of_bdat setup.max_content octets argument.last old) (bdat_good setup octets argument.last old sound))
asked_good setup text octets (Ok line.Rset) asked old e asks sound =
    subst (λ (a : Asked). IsGood setup (course_of setup a old)) (sym asks) (reset_good setup old sound)
asked_good setup text octets (Ok line.Noop) asked old e asks sound =
    subst (λ (a : Asked). IsGood setup (course_of setup a old)) (sym asks) sound
asked_good setup text octets (Ok line.Vrfy) asked old e asks sound =
    subst (λ (a : Asked). IsGood setup (course_of setup a old)) (sym asks) sound
asked_good setup text octets (Ok line.Help) asked old e asks sound =
    subst (λ (a : Asked). IsGood setup (course_of setup a old)) (sym asks) sound
asked_good setup text octets (Ok line.Quit) asked old e asks sound =
    subst (λ (a : Asked). IsGood setup (course_of setup a old)) (sym asks) tt

-- a line that is too long changes no state, or closes
long_good : (setup : Setup) (b : Bool) (old : CommandState) → IsSound (Command old) → IsGood setup (course_of setup (if b then Faulty fault.BadChunkSize else LongLine) old)
long_good setup true old sound = tt
long_good setup false old sound = sound

line_good : (setup : Setup) (text octets : List ℕ) (asked : Asked) (old : CommandState) → Asks text octets asked → IsSound (Command old) → IsGood setup (course_of setup asked old)
line_good setup text octets asked old (inl long) sound =
    subst (λ (a : Asked). IsGood setup (course_of setup a old)) (sym long.1) (long_good setup (begins_with_bdat text) old sound)
line_good setup text octets asked old (inr read) sound =
    asked_good setup text octets (reading_of text) asked old refl read.1 sound

-- what comes of a unit in a sound state is good
comes_good : (setup : Setup) (old : State) (unit : List ℕ) (course : Course) → Comes setup old unit course → IsSound old → IsGood setup course
comes_good setup (Command state) unit course comes sound =
    subst (IsGood setup) (sym comes.course_is) (line_good setup comes.text comes.octets comes.what state comes.asks sound)
comes_good setup (Receiving client envelope) unit course comes sound =
    subst (IsGood setup) (sym comes.course_is)
    (unless_good setup (course_of_text setup.max_content client envelope comes.content) (text_good setup client envelope comes.content sound.0 sound.1))
comes_good setup Closed unit course comes sound = absurd comes

taken_sound : (setup : Setup) (course : Course) (turn : Turn) (new : State) → IsGood setup course → Takes setup.host course turn new → IsSound new × AllByRecursion (MayBeStored setup) (offers_in turn.offer)
taken_sound setup (Replies row next) turn new good takes = (
  subst IsSound (sym takes.2) good,
  subst (λ o. AllByRecursion (MayBeStored setup) (offers_in o)) (sym takes.1) tt,
)
taken_sound setup (Offers client envelope content) turn new good takes = (
  subst IsSound (sym takes.3) good.0,
  subst (λ o. AllByRecursion (MayBeStored setup) (offers_in o)) (sym takes.2) (good.1, tt),
)

-- a turn leads from a sound state to a sound one, and what it offers may be stored
turn_sound : (setup : Setup) (old new : State) (turn : Turn) → Answers setup old turn new → IsSound old → IsSound new × AllByRecursion (MayBeStored setup) (offers_in turn.offer)
turn_sound setup old new turn is sound =
    taken_sound setup is.course turn new (comes_good setup old turn.asked is.course is.comes sound) is.takes

turns_sound : (setup : Setup) (old new : State) (turns : List Turn) → Turns setup old turns new → IsSound old → IsSound new × AllByRecursion (MayBeStored setup) (offered_by turns)
turns_sound setup old new [] runs sound = (subst IsSound runs sound, tt)
turns_sound setup old new (turn ∷ turns) runs sound =
    let first = turn_sound setup old runs.0 turn runs.1 sound in
    let later = turns_sound setup runs.0 new turns runs.2 first.0 in
    (later.0, joined (MayBeStored setup) (offers_in turn.offer) (offered_by turns) first.1 later.1)

left_stored : (setup : Setup) (state : State) (rest : List ℕ) (unanswered : List Offered) → IsLeft setup state rest unanswered → IsSound state → AllByRecursion (MayBeStored setup) unanswered
left_stored setup state rest unanswered (inl left) sound = subst (AllByRecursion (MayBeStored setup)) (sym left.1) tt
left_stored setup state rest unanswered (inr left) sound =
    let good = comes_good setup state rest (Offers left.client left.envelope left.content) left.comes sound in
    subst (AllByRecursion (MayBeStored setup)) (sym left.offer_is) (good.1, tt)

pub offers_may_be_stored : OffersMayBeStored
offers_may_be_stored setup said is =
    let sound = turns_sound setup start is.state is.turns is.runs tt in
    subst (AllByRecursion (MayBeStored setup)) (sym is.offers)
    (joined (MayBeStored setup) (offered_by is.turns) is.unanswered sound.1 (left_stored setup is.state is.rest is.unanswered is.left sound.0))

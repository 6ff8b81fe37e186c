-- The fields of records, one after another, and what no valid value begins. (Readers cut them; others judge
-- them.)
use Rattle.std.specs.Prelude.{◌≡◌, ◌≢◌, ◌⊎◌, ℕ, ◌≤◌, ◌<◌, ◌^◌, true, List, ◌∷◌, ◌++◌, drop, length}
use Rattle.std.specs.List.{flat_map, AllByRecursion}
use Rattle.relay_envelope.specs.declared.envelope.Recipient.{Recipient}
use Rattle.relay_envelope.specs.declared.envelope.Envelope.{Envelope}
use Rattle.relay_envelope.specs.Envelope.{IsRecipient, IsReversePath, may_be_envid}
use Rattle.relay_book.specs.declared.version.Version.{Version}
use Rattle.relay_book.specs.declared.change.Accept.{Accept as AcceptFields}
use Rattle.relay_book.specs.declared.change.Outcome.{Outcome as OutcomeFields}
use Rattle.relay_book.specs.declared.change.Ruling.{Ruling}
use Rattle.relay_book.specs.Record.{IsAccept, IsOutcome, IsRefusal, IsRuling, accept_octets, counted, notify_number}
use Rattle.relay_book.specs.Record.{octets_2, octets_8, outcome_kind, outcome_octets, recipient_octets, ret_number}
use Rattle.relay_book.specs.Record.{ruling_octets, sized_2, sized_4, written}

-- a text after its length, an octet, and a text after its length
pub record SpellsFields (text first : List ℕ) (number : ℕ) (second rest : List ℕ) : Type 0 where
  pub text_is : text ≡ sized_2 first ++ (number ∷ (sized_2 second ++ rest))
  pub first_fits : length first < 2 ^ 16
  pub second_fits : length second < 2 ^ 16

pub record HasFields (recipient : Recipient) (path : List ℕ) (number : ℕ) (orcpt : List ℕ) : Type 0 where
  pub path_is : path ≡ recipient.path
  pub notify_is : number ≡ notify_number recipient.notify
  pub orcpt_is : orcpt ≡ written recipient.orcpt

-- no text after a length of two octets begins these octets
pub record HasNoSized (text : List ℕ) : Type 0 where
  pub none : (field rest : List ℕ) → length field < 2 ^ 16 → text ≢ sized_2 field ++ rest

-- they are no text after a length of four octets
pub record IsNoSized (text : List ℕ) : Type 0 where
  pub none : (field : List ℕ) → length field < 2 ^ 32 → text ≢ sized_4 field

-- no fields begin them
pub record HasNoFields (text : List ℕ) : Type 0 where
  pub none : (first : List ℕ) (number : ℕ) (second rest : List ℕ)
      → SpellsFields text first number second rest → ⊥

-- no recipient has these fields
pub record IsNoRecipient (path : List ℕ) (number : ℕ) (orcpt : List ℕ) : Type 0 where
  pub none : (recipient : Recipient) → IsRecipient recipient → HasFields recipient path number orcpt → ⊥

-- no valid value begins the text
pub record HasNone {A : Type 0} (Valid : A → Type 0) (octets_of : A → List ℕ) (text : List ℕ) : Type 0 where
  pub none : (value : A) (rest : List ℕ) → Valid value → text ≢ octets_of value ++ rest

-- this many values
pub record HaveCount {A : Type 0} (Valid : A → Type 0) (count : ℕ) (values : List A) : Type 0 where
  pub have_count : length values ≡ count
  pub valid : AllByRecursion Valid values

-- this many valid values do not begin the text
pub record HasNoRow {A : Type 0} (Valid : A → Type 0) (octets_of : A → List ℕ) (count : ℕ)
    (text : List ℕ) : Type 0 where
  pub none : (values : List A) (rest : List ℕ) → HaveCount Valid count values
      → text ≢ flat_map octets_of values ++ rest

-- 1 to 100 valid values
pub record AreSome {A : Type 0} (Valid : A → Type 0) (values : List A) : Type 0 where
  pub some : 1 ≤ length values
  pub within : length values ≤ 100
  pub valid : AllByRecursion Valid values

-- no valid values after their count begin the text
pub record HasNoCounted {A : Type 0} (Valid : A → Type 0) (octets_of : A → List ℕ)
    (text : List ℕ) : Type 0 where
  pub none : (values : List A) (rest : List ℕ) → AreSome Valid values
      → text ≢ counted octets_of values ++ rest

-- a refusal's code, and its text after a length of one octet
abbrev pub refusal_octets : ℕ → List ℕ → List ℕ
refusal_octets code text = octets_2 code ++ (length text ∷ text)

pub record HasNoRefusal (text : List ℕ) : Type 0 where
  pub none : (code : ℕ) (field rest : List ℕ) → IsRefusal code field
      → text ≢ refusal_octets code field ++ rest

-- the fields of an accept
pub record SpellsAccept (text : List ℕ) (at : ℕ) (path : List ℕ) (ret : ℕ) (envid : List ℕ)
    (recipients : List Recipient) (stored : List ℕ) : Type 0 where
  pub text_is : text
      ≡ octets_8 at
      ++ (sized_2 path ++ (ret ∷ (sized_2 envid ++ (counted recipient_octets recipients ++ sized_4 stored))))
  pub at_fits : at < 2 ^ 64
  pub path_fits : length path < 2 ^ 16
  pub envid_fits : length envid < 2 ^ 16
  pub are_recipients : AreSome IsRecipient recipients
  pub stored_fits : length stored < 2 ^ 32

-- what MAIL said may be stored
pub record IsMail (envelope : Envelope) : Type 0 where
  pub reverse_path : IsReversePath envelope.reverse_path
  pub envid : may_be_envid envelope.envid ≡ true

pub record HasMailFields (envelope : Envelope) (path : List ℕ) (ret : ℕ) (envid : List ℕ) : Type 0 where
  pub path_is : path ≡ envelope.reverse_path
  pub ret_is : ret ≡ ret_number envelope.ret
  pub envid_is : envid ≡ written envelope.envid

-- no MAIL has these fields
pub record IsNoMail (path : List ℕ) (ret : ℕ) (envid : List ℕ) : Type 0 where
  pub none : (envelope : Envelope) → IsMail envelope → HasMailFields envelope path ret envid → ⊥

-- the text is no accept
pub record SpellsNoAccept (text : List ℕ) : Type 0 where
  pub none : (accept : AcceptFields) → IsAccept accept → text ≢ accept_octets accept

-- this many octets say an accept's time and envelope, and the others are its stored text
pub record BeginsAccept (text : List ℕ) (at : ℕ) (envelope : Envelope) (head : ℕ) : Type 0 where
  pub within : head ≤ length text
  pub valid : IsAccept (record { at = at; envelope = envelope; stored_text = drop head text })
  pub text_is : text ≡ accept_octets (record { at = at; envelope = envelope; stored_text = drop head text })

-- this many octets of a record say that it is an accept's, its time and its envelope, and the others are its stored
-- text
pub record BeginsRecord (text : List ℕ) (at : ℕ) (envelope : Envelope) (head : ℕ) : Type 0 where
  pub within : head ≤ length text
  pub valid : IsAccept (record { at = at; envelope = envelope; stored_text = drop head text })
  pub text_is : text ≡ 1 ∷ accept_octets (record { at = at; envelope = envelope; stored_text = drop head text })

-- an outcome up to its hop: its message, its time, the hop
pub record SpellsHead (text : List ℕ) (message at : ℕ) (hop rest : List ℕ) : Type 0 where
  pub text_is : text ≡ octets_8 message ++ (octets_8 at ++ (sized_2 hop ++ rest))
  pub message_fits : message < 2 ^ 64
  pub at_fits : at < 2 ^ 64
  pub hop_fits : length hop < 2 ^ 16

pub record HasNoHead (text : List ℕ) : Type 0 where
  pub none : (message at : ℕ) (hop rest : List ℕ) → SpellsHead text message at hop rest → ⊥

-- the fields of an outcome
pub record SpellsOutcome (text : List ℕ) (message at : ℕ) (hop : List ℕ) (rulings : List Ruling)
    (report : List ℕ) : Type 0 where
  pub text_is : text
      ≡ octets_8 message ++ (octets_8 at ++ (sized_2 hop ++ (counted ruling_octets rulings ++ sized_4 report)))
  pub message_fits : message < 2 ^ 64
  pub at_fits : at < 2 ^ 64
  pub hop_fits : length hop < 2 ^ 16
  pub are_rulings : AreSome IsRuling rulings
  pub report_fits : length report < 2 ^ 32

-- the text is no outcome
pub record SpellsNoOutcome (text : List ℕ) : Type 0 where
  pub none : (outcome : OutcomeFields) → IsOutcome outcome → text ≢ outcome_octets outcome

-- the text is no outcome of the version
pub record SpellsNoneOf (version : Version) (text : List ℕ) : Type 0 where
  pub none : (outcome : OutcomeFields) → IsOutcome outcome → outcome.version ≡ version
      → text ≢ outcome_octets outcome

-- a count of 1 to 100, and what follows it
pub record HasCount (text : List ℕ) : Type 0 where
  pub count : ℕ
  pub rest : List ℕ
  pub text_is : text ≡ count ∷ rest
  pub some : 1 ≤ count
  pub within : count ≤ 100

-- an accept's time, what MAIL said, and how many recipients
pub record BeginsWithMail (text : List ℕ) : Type 0 where
  pub at : ℕ
  pub said : List ℕ
  pub path : List ℕ
  pub ret : ℕ
  pub envid : List ℕ
  pub recipients : List ℕ
  pub text_is : text ≡ octets_8 at ++ said
  pub at_fits : at < 2 ^ 64
  pub mail : SpellsFields said path ret envid recipients
  pub counts : HasCount recipients

-- an outcome's message, time and hop, and how many verdicts
pub record BeginsWithHop (text : List ℕ) : Type 0 where
  pub message : ℕ
  pub at : ℕ
  pub hop : List ℕ
  pub rulings : List ℕ
  pub head : SpellsHead text message at hop rulings
  pub counts : HasCount rulings

-- the octet of a kind, and fields that begin so
pub record IsOfKind (kind : ℕ) (Begins : List ℕ → Type 0) (text : List ℕ) : Type 0 where
  pub fields : List ℕ
  pub text_is : text ≡ kind ∷ fields
  pub begins : Begins fields

-- the octets that are read before any memory is wanted are spelled as those of a record: its kind,
-- and all fields up to how many recipients or verdicts it has
pub record MayBeRecord (text : List ℕ) : Type 0 where
  pub begins : IsOfKind 1 BeginsWithMail text
      ⊎ ((version : Version) × IsOfKind (outcome_kind version) BeginsWithHop text)

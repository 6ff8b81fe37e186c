-- A row of parameters, without an order of reading (RFC 5321, section 4.1.2; RFC 3461, section 4).
use Rattle.std.specs.Prelude.{◌≡◌, ◌≢◌, ◌⊎◌, ℕ, Bool, true, false, List, [], ◌∷◌, ◌++◌, codes, Option, Some, None}
use Rattle.std.specs.Prelude.{Result, Ok, Err, if◌then◌else◌}
use Rattle.std.specs.List.{AllByRecursion, join_with_byte}
use Rattle.relay_lines.specs.Word.{is_word}
use Rattle.relay_envelope.specs.Parameters.{MailParameters, RcptParameters, is_envid, is_orcpt, keyword_of}
use Rattle.relay_envelope.specs.Parameters.{mail_parameters_of, notify_of, rcpt_parameters_of, ret_of, value_of_word}
use Rattle.relay_envelope.specs.declared.fault.EnvelopeFault.{EnvelopeFault}
use Rattle.relay_envelope.specs.declared.fault.EnvelopeFault.TheVariants.{BadPath, BadValue, Repeated, UnknownParameter}

-- the text is these words with a space between each two; if two spaces meet, an empty word is between them
pub record IsRowOf (text : List ℕ) (words : List (List ℕ)) : Type 0 where
  pub some : words ≢ []
  pub apart : AllByRecursion (λ word. AllByRecursion (λ octet. octet ≢ 32) word) words
  pub text_is : text ≡ join_with_byte 32 words

-- the word is a parameter of this keyword, in any letter case
abbrev pub has_keyword : List ℕ → List ℕ → Bool
has_keyword keyword word = is_word (keyword_of word) keyword

-- no word is a parameter of this keyword
abbrev pub NoneHas : List ℕ → List (List ℕ) → Type 0
NoneHas keyword words = AllByRecursion (λ word. has_keyword keyword word ≡ false) words

-- just one word is a parameter of this keyword, and its value is read as this
pub record OneHas {V : Type 0} (keyword : List ℕ) (read : List ℕ → Option V) (words : List (List ℕ)) (value : V)
    : Type 0 where
  pub before : List (List ℕ)
  pub word : List ℕ
  pub after : List (List ℕ)
  pub words_are : words ≡ before ++ word ∷ after
  pub none_before : NoneHas keyword before
  pub here : has_keyword keyword word ≡ true
  pub none_after : NoneHas keyword after
  pub value_is : read (value_of_word word) ≡ Some value

-- a keyword is in the row once, with this value, or doesn't stand there
abbrev pub IsGiven : {V : Type 0} → List ℕ → (List ℕ → Option V) → List (List ℕ) → Option V → Type 0
IsGiven keyword read words None = NoneHas keyword words
IsGiven keyword read words (Some value) = OneHas keyword read words value

-- the word is empty, or a parameter of one of these keywords
abbrev pub IsKnown : List ℕ → List ℕ → List ℕ → Type 0
IsKnown first second word = (word ≡ []) ⊎ ((has_keyword first word ≡ true) ⊎ (has_keyword second word ≡ true))

-- the row gives these values to its two keywords, and holds nothing else
pub record Gives {V W : Type 0} (first second : List ℕ) (read_first : List ℕ → Option V)
    (read_second : List ℕ → Option W)
    (words : List (List ℕ)) (one : Option V) (two : Option W) : Type 0 where
  pub known : AllByRecursion (IsKnown first second) words
  pub first_is : IsGiven first read_first words one
  pub second_is : IsGiven second read_second words two

-- the keyword was given before
abbrev pub IsRepeated : {V : Type 0} → List ℕ → (List ℕ → Option V) → List (List ℕ) → List ℕ → Type 0
IsRepeated {V = V} keyword read before word =
    (has_keyword keyword word ≡ true) × ((value : V) × OneHas keyword read before value)

-- the keyword wasn't given before, and its value is none
abbrev pub HasBadValue : {V : Type 0} → List ℕ → (List ℕ → Option V) → List (List ℕ) → List ℕ → Type 0
HasBadValue keyword read before word =
    (has_keyword keyword word ≡ true) × NoneHas keyword before × (read (value_of_word word) ≡ None)

-- after these words the word has this fault
abbrev pub IsFaulty :
    {V W : Type 0} → List ℕ → List ℕ → (List ℕ → Option V) → (List ℕ → Option W) → List (List ℕ) → List ℕ
    → EnvelopeFault → Type 0
IsFaulty first second read_first read_second before word UnknownParameter =
    (word ≢ []) × (has_keyword first word ≡ false) × (has_keyword second word ≡ false)
IsFaulty first second read_first read_second before word Repeated =
    IsRepeated first read_first before word ⊎ IsRepeated second read_second before word
IsFaulty first second read_first read_second before word BadValue =
    HasBadValue first read_first before word ⊎ HasBadValue second read_second before word
IsFaulty first second read_first read_second before word BadPath = ⊥

-- the row begins with words that give values, and the word after them is faulty
pub record HasFault {V W : Type 0} (first second : List ℕ) (read_first : List ℕ → Option V)
    (read_second : List ℕ → Option W) (words : List (List ℕ)) (fault : EnvelopeFault) : Type 0 where
  pub before : List (List ℕ)
  pub word : List ℕ
  pub after : List (List ℕ)
  pub words_are : words ≡ before ++ word ∷ after
  pub one : Option V
  pub two : Option W
  pub gives : Gives first second read_first read_second before one two
  pub is_faulty : IsFaulty first second read_first read_second before word fault

-- ENVID as it was written, if it may be
abbrev pub read_envid : List ℕ → Option (List ℕ)
read_envid value = if is_envid value then Some value else None

-- ORCPT as it was written, if it may be
abbrev pub read_orcpt : List ℕ → Option (List ℕ)
read_orcpt value = if is_orcpt value then Some value else None

-- what the row of MAIL says
abbrev pub SaysMail : List (List ℕ) → Result MailParameters EnvelopeFault → Type 0
SaysMail words (Ok given) = Gives (codes "RET") (codes "ENVID") ret_of read_envid words given.ret given.envid
SaysMail words (Err fault) = HasFault (codes "RET") (codes "ENVID") ret_of read_envid words fault

-- what the row of RCPT says
abbrev pub SaysRcpt : List (List ℕ) → Result RcptParameters EnvelopeFault → Type 0
SaysRcpt words (Ok given) =
    Gives (codes "NOTIFY") (codes "ORCPT") notify_of read_orcpt words given.notify given.orcpt
SaysRcpt words (Err fault) = HasFault (codes "NOTIFY") (codes "ORCPT") notify_of read_orcpt words fault

-- What is read after a path of MAIL is what the row says: each keyword once at most, with its value, or a first fault.
abbrev pub MailRowIsRead : Type 0
MailRowIsRead =
    (text : List ℕ) (words : List (List ℕ)) → IsRowOf text words → SaysMail words (mail_parameters_of text)

-- What is read after a path of RCPT is what the row says.
abbrev pub RcptRowIsRead : Type 0
RcptRowIsRead =
    (text : List ℕ) (words : List (List ℕ)) → IsRowOf text words → SaysRcpt words (rcpt_parameters_of text)

-- A row of MAIL says one thing: its values, or one fault.
abbrev pub MailRowSaysOne : Type 0
MailRowSaysOne =
    (words : List (List ℕ)) (one two : Result MailParameters EnvelopeFault)
    → SaysMail words one → SaysMail words two → one ≡ two

-- A row of RCPT says one thing.
abbrev pub RcptRowSaysOne : Type 0
RcptRowSaysOne =
    (words : List (List ℕ)) (one two : Result RcptParameters EnvelopeFault)
    → SaysRcpt words one → SaysRcpt words two → one ≡ two

-- Each text is a row of words.
abbrev pub TextIsRow : Type 0
TextIsRow = (text : List ℕ) → (words : List (List ℕ)) × IsRowOf text words

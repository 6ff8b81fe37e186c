-- What is read of the parameters of MAIL or RCPT is what their row says.
use Rattle.std.proofs.Common.{◌≡◌, ◌≢◌, inl, inr, ℕ, ◌==◌, Bool, true, false, List, [], ◌∷◌, ◌++◌, length, codes, map, Option, Some, None, Result, Ok, Err, if◌then◌else◌, refl, sym, ap, ◌∙◌, subst, arith, append_assoc, append-nil}
use Rattle.std.specs.Prelude.{is_some, option_map, ok_or}
use Rattle.std.specs.Char.{to_ascii_lowercase}
use Rattle.relay_lines.specs.Word.{is_word}
use Rattle.relay_envelope.specs.Parameters.{MailParameters, RcptParameters, and_then, is_envid, is_orcpt, keyword_of, mail_parameters_of, notify_of, rcpt_parameters_of, ret_of, value_of_word, with_each, with_mail_parameter, with_rcpt_parameter}
use Rattle.relay_envelope.specs.ParameterRow.{Gives, HasFault, IsFaulty, IsGiven, MailRowIsRead, NoneHas, RcptRowIsRead, SaysMail, SaysRcpt, has_keyword, read_envid, read_orcpt}
use Rattle.relay_envelope.specs.declared.fault.EnvelopeFault.{EnvelopeFault}
use Rattle.relay_envelope.specs.declared.fault.EnvelopeFault.TheVariants.{BadValue, Repeated, UnknownParameter}
use Rattle.relay_envelope.specs.declared.parameters.Ret.{Ret}
use Rattle.relay_envelope.specs.declared.parameters.Notify.{Notify}
use Rattle.relay_envelope.proofs.RowOfWordsLemmas.{empty_word, given_as_before, given_now, known_more, one_keyword, row_parts, some_word}

-- two keywords of other lengths, how their values are read, and where parameters keep them
record Keywords (A V W : Type 0) : Type 0 where
  first : List ℕ
  second : List ℕ
  read_first : List ℕ → Option V
  read_second : List ℕ → Option W
  one_of : A → Option V
  two_of : A → Option W
  put_one : V → A → A
  put_two : W → A → A
  one_is_put : (value : V) (given : A) → one_of (put_one value given) ≡ Some value
  two_stays : (value : V) (given : A) → two_of (put_one value given) ≡ two_of given
  two_is_put : (value : W) (given : A) → two_of (put_two value given) ≡ Some value
  one_stays : (value : W) (given : A) → one_of (put_two value given) ≡ one_of given
  first_says : has_keyword first [] ≡ false
  second_says : has_keyword second [] ≡ false
  apart : length (map to_ascii_lowercase first) ≡ length (map to_ascii_lowercase second) → ⊥

module _ {A V W : Type 0} (k : Keywords A V W) where
  -- the parameters with a further one
  abbrev with_first : List ℕ → A → Result A EnvelopeFault
  with_first value old =
      if is_some (k.one_of old) then Err Repeated else ok_or (option_map (λ new. k.put_one new old) (k.read_first value)) BadValue

  abbrev with_second : List ℕ → A → Result A EnvelopeFault
  with_second value old =
      if is_some (k.two_of old) then Err Repeated else ok_or (option_map (λ new. k.put_two new old) (k.read_second value)) BadValue

  abbrev with_word : List ℕ → A → Result A EnvelopeFault
  with_word word old =
      if length word == 0 then Ok old
      else (if has_keyword k.first word then with_first (value_of_word word) old
      else (if has_keyword k.second word then with_second (value_of_word word) old
      else Err UnknownParameter))

  abbrev GivesAll : List (List ℕ) → A → Type 0
  GivesAll words given = Gives k.first k.second k.read_first k.read_second words (k.one_of given) (k.two_of given)

  abbrev Says : List (List ℕ) → Result A EnvelopeFault → Type 0
  Says words (Ok given) = GivesAll words given
  Says words (Err fault) = HasFault k.first k.second k.read_first k.read_second words fault

  -- what a row gives with one word more, or why that word is faulty
  abbrev GoesOn : List (List ℕ) → List ℕ → Result A EnvelopeFault → Type 0
  GoesOn before word (Ok new) = GivesAll (before ++ word ∷ []) new
  GoesOn before word (Err fault) = IsFaulty k.first k.second k.read_first k.read_second before word fault

  module _ (before : List (List ℕ)) (word : List ℕ) (old : A) (g : GivesAll before old) where
    -- an empty word says nothing
    nothing_said : word ≡ [] → GoesOn before word (Ok old)
    nothing_said e = record {
      known = known_more k.first k.second before word g.known (inl e);
      first_is = given_as_before k.first k.read_first before word (k.one_of old) g.first_is (ap (has_keyword k.first) e ∙ k.first_says);
      second_is = given_as_before k.second k.read_second before word (k.two_of old) g.second_is (ap (has_keyword k.second) e ∙ k.second_says);
    }

    first_by_value : (value : Option V) → k.read_first (value_of_word word) ≡ value → has_keyword k.first word ≡ true → NoneHas k.first before → GoesOn before word (ok_or (option_map (λ new. k.put_one new old) value) BadValue)
    first_by_value None e here none = inl (here, none, e)
    first_by_value (Some value) e here none =
        let one = given_now k.first k.read_first before word value none here e in
        let two = given_as_before k.second k.read_second before word (k.two_of old) g.second_is (one_keyword k.first k.second word k.apart here) in
        record {
          known = known_more k.first k.second before word g.known (inr (inl here));
          first_is = subst (λ o. IsGiven k.first k.read_first (before ++ word ∷ []) o) (sym (k.one_is_put value old)) one;
          second_is = subst (λ o. IsGiven k.second k.read_second (before ++ word ∷ []) o) (sym (k.two_stays value old)) two;
        }

    first_by_old : (given : Option V) → k.one_of old ≡ given → has_keyword k.first word ≡ true → GoesOn before word (if is_some given then Err Repeated else ok_or (option_map (λ new. k.put_one new old) (k.read_first (value_of_word word))) BadValue)
    first_by_old None e here =
        first_by_value (k.read_first (value_of_word word)) refl here (subst (λ o. IsGiven k.first k.read_first before o) e g.first_is)
    first_by_old (Some value) e here = inl (here, (value, subst (λ o. IsGiven k.first k.read_first before o) e g.first_is))

    second_by_value : (value : Option W) → k.read_second (value_of_word word) ≡ value → has_keyword k.second word ≡ true → has_keyword k.first word ≡ false → NoneHas k.second before → GoesOn before word (ok_or (option_map (λ new. k.put_two new old) value) BadValue)
    second_by_value None e here other none = inr (here, none, e)
    second_by_value (Some value) e here other none =
        let one = given_as_before k.first k.read_first before word (k.one_of old) g.first_is other in
        let two = given_now k.second k.read_second before word value none here e in
        record {
          known = known_more k.first k.second before word g.known (inr (inr here));
          first_is = subst (λ o. IsGiven k.first k.read_first (before ++ word ∷ []) o) (sym (k.one_stays value old)) one;
          second_is = subst (λ o. IsGiven k.second k.read_second (before ++ word ∷ []) o) (sym (k.two_is_put value old)) two;
        }

    second_by_old : (given : Option W) → k.two_of old ≡ given → has_keyword k.second word ≡ true → has_keyword k.first word ≡ false → GoesOn before word (if is_some given then Err Repeated else ok_or (option_map (λ new. k.put_two new old) (k.read_second (value_of_word word))) BadValue)
    second_by_old None e here other =
        second_by_value (k.read_second (value_of_word word)) refl here other (subst (λ o. IsGiven k.second k.read_second before o) e g.second_is)
    second_by_old (Some value) e here other = inr (here, (value, subst (λ o. IsGiven k.second k.read_second before o) e g.second_is))

    by_second : (test : Bool) → has_keyword k.second word ≡ test → word ≢ [] → has_keyword k.first word ≡ false → GoesOn before word (if test then with_second (value_of_word word) old else Err UnknownParameter)
    by_second true e some other = second_by_old (k.two_of old) refl e other
    by_second false e some other = (some, other, e)

    by_first : (test : Bool) → has_keyword k.first word ≡ test → word ≢ [] → GoesOn before word (if test then with_first (value_of_word word) old else (if has_keyword k.second word then with_second (value_of_word word) old else Err UnknownParameter))
    by_first true e some = first_by_old (k.one_of old) refl e
    by_first false e some = by_second (has_keyword k.second word) refl some e

    by_length : (test : Bool) → (length word == 0) ≡ test → GoesOn before word (if test then Ok old else (if has_keyword k.first word then with_first (value_of_word word) old else (if has_keyword k.second word then with_second (value_of_word word) old else Err UnknownParameter)))
    by_length true e = nothing_said (empty_word word e)
    by_length false e = by_first (has_keyword k.first word) refl (some_word word e)

  -- what follows a word, where what is read of the rest is known
  then_rest : (before : List (List ℕ)) (word : List ℕ) (words : List (List ℕ)) (old : A) → GivesAll before old → (read : Result A EnvelopeFault) → GoesOn before word read → ((new : A) → GivesAll (before ++ word ∷ []) new → Says ((before ++ word ∷ []) ++ words) (with_each with_word words new)) → Says (before ++ word ∷ words) (and_then (λ new. with_each with_word words new) read)
  then_rest before word words old g (Ok new) step rest =
      subst (λ (l : List (List ℕ)). Says l (with_each with_word words new)) (append_assoc before (word ∷ []) words) (rest new step)
  then_rest before word words old g (Err fault) step rest = record {
    before = before;
    word = word;
    after = words;
    words_are = refl;
    one = k.one_of old;
    two = k.two_of old;
    gives = g;
    is_faulty = step;
  }

  -- the words after those that are read
  each_said : (before words : List (List ℕ)) (old : A) → GivesAll before old → Says (before ++ words) (with_each with_word words old)
  each_said before [] old g = subst (λ (l : List (List ℕ)). GivesAll l old) (sym (append-nil before)) g
  each_said before (word ∷ words) old g =
      then_rest before word words old g (with_word word old) (by_length before word old g (length word == 0) refl) (λ new step. each_said (before ++ word ∷ []) words new step)

then_alike : {A : Type 0} (one two : A → Result A EnvelopeFault) → ((new : A) → one new ≡ two new) → (read : Result A EnvelopeFault) → and_then one read ≡ and_then two read
then_alike one two alike (Ok new) = alike new
then_alike one two alike (Err fault) = refl

-- a parameter that is read alike is read alike everywhere
each_alike : {A : Type 0} (one two : List ℕ → A → Result A EnvelopeFault) → ((word : List ℕ) (old : A) → one word old ≡ two word old) → (words : List (List ℕ)) (old : A) → with_each one words old ≡ with_each two words old
each_alike one two alike [] old = refl
each_alike one two alike (word ∷ words) old =
    ap (and_then (λ new. with_each one words new)) (alike word old) ∙ then_alike (with_each one words) (with_each two words) (each_alike one two alike words) (two word old)

abbrev written_if : {A : Type 0} → Bool → A → Result A EnvelopeFault
written_if test given = if test then Ok given else Err BadValue

-- a value as it was written, where it may be
by_test : {A : Type 0} (put : List ℕ → A) (value : List ℕ) (test : Bool) → written_if test (put value) ≡ ok_or (option_map put (if test then Some value else None)) BadValue
by_test put value true = refl
by_test put value false = refl

mail_keywords : Keywords MailParameters Ret (List ℕ)
unfolding keyword_of is_word
mail_keywords = record {
  first = codes "RET";
  second = codes "ENVID";
  read_first = ret_of;
  read_second = read_envid;
  one_of = λ given. given.ret;
  two_of = λ given. given.envid;
  put_one = λ ret given. record given { ret = Some ret };
  put_two = λ envid given. record given { envid = Some envid };
  one_is_put = λ value given. refl;
  two_stays = λ value given. refl;
  two_is_put = λ value given. refl;
  one_stays = λ value given. refl;
  first_says = refl;
  second_says = refl;
  apart = λ (e : ◌≡◌ {A = ℕ} 3 5). omega (arith, e);
}

rcpt_keywords : Keywords RcptParameters Notify (List ℕ)
unfolding keyword_of is_word
rcpt_keywords = record {
  first = codes "NOTIFY";
  second = codes "ORCPT";
  read_first = notify_of;
  read_second = read_orcpt;
  one_of = λ given. given.notify;
  two_of = λ given. given.orcpt;
  put_one = λ notify given. record given { notify = Some notify };
  put_two = λ orcpt given. record given { orcpt = Some orcpt };
  one_is_put = λ value given. refl;
  two_stays = λ value given. refl;
  two_is_put = λ value given. refl;
  one_stays = λ value given. refl;
  first_says = refl;
  second_says = refl;
  apart = λ (e : ◌≡◌ {A = ℕ} 6 5). omega (arith, e);
}

-- a second keyword's value as it was written, after the tests before it
alike_after : {A : Type 0} (given : Bool) (put : List ℕ → A) (value : List ℕ) (test : Bool) (empty first second : Bool) (old : A) (other : Result A EnvelopeFault)
    → (if empty then Ok old else (if first then other else (if second then (if given then Err Repeated else (if test then Ok (put value) else Err BadValue)) else Err UnknownParameter)))
    ≡ (if empty then Ok old else (if first then other else (if second then (if given then Err Repeated else ok_or (option_map put (if test then Some value else None)) BadValue) else Err UnknownParameter)))
alike_after given put value test empty first second old other =
    ap (λ r. if empty then Ok old else (if first then other else (if second then (if given then Err Repeated else r) else Err UnknownParameter))) (by_test put value test)

mail_alike : (word : List ℕ) (old : MailParameters) → with_mail_parameter word old ≡ with_word mail_keywords word old
unfolding with_mail_parameter mail_keywords
mail_alike word old =
    alike_after (is_some old.envid) (λ envid. record old { envid = Some envid }) (value_of_word word) (is_envid (value_of_word word)) (length word == 0) (has_keyword (codes "RET") word) (has_keyword (codes "ENVID") word) old _

rcpt_alike : (word : List ℕ) (old : RcptParameters) → with_rcpt_parameter word old ≡ with_word rcpt_keywords word old
unfolding with_rcpt_parameter rcpt_keywords
rcpt_alike word old =
    alike_after (is_some old.orcpt) (λ orcpt. record old { orcpt = Some orcpt }) (value_of_word word) (is_orcpt (value_of_word word)) (length word == 0) (has_keyword (codes "NOTIFY") word) (has_keyword (codes "ORCPT") word) old _

mail_says : (words : List (List ℕ)) (read : Result MailParameters EnvelopeFault) → Says mail_keywords words read → SaysMail words read
unfolding mail_keywords
mail_says words (Ok given) says = says
mail_says words (Err fault) says = says

rcpt_says : (words : List (List ℕ)) (read : Result RcptParameters EnvelopeFault) → Says rcpt_keywords words read → SaysRcpt words read
unfolding rcpt_keywords
rcpt_says words (Ok given) says = says
rcpt_says words (Err fault) says = says

pub mail_row_is_read : MailRowIsRead
unfolding mail_parameters_of mail_keywords
mail_row_is_read text words row =
    let none : MailParameters = record { ret = None; envid = None } in
    let read = each_said mail_keywords [] words none (record { known = tt; first_is = tt; second_is = tt }) in
    let same = ap (λ l. with_each with_mail_parameter l none) (row_parts text words row) ∙ each_alike with_mail_parameter (with_word mail_keywords) mail_alike words none in
    subst (SaysMail words) (sym same) (mail_says words (with_each (with_word mail_keywords) words none) read)

pub rcpt_row_is_read : RcptRowIsRead
unfolding rcpt_parameters_of rcpt_keywords
rcpt_row_is_read text words row =
    let none : RcptParameters = record { notify = None; orcpt = None } in
    let read = each_said rcpt_keywords [] words none (record { known = tt; first_is = tt; second_is = tt }) in
    let same = ap (λ l. with_each with_rcpt_parameter l none) (row_parts text words row) ∙ each_alike with_rcpt_parameter (with_word rcpt_keywords) rcpt_alike words none in
    subst (SaysRcpt words) (sym same) (rcpt_says words (with_each (with_word rcpt_keywords) words none) read)

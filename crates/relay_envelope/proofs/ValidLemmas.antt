-- What is read may be stored.
use Rattle.std.proofs.Common.{◌≡◌, ℕ, ◌<◌, length, ◌==◌, codes, Bool, true, false, cond, ◌||◌, inl, inr, List, [], ◌∷◌, Option, None, Some, is_some, option_map, ok_or, Result, Ok, Err, refl, sym, subst, ap, ◌∙◌, arith}
use Rattle.std.specs.List.{slice_split}
use Rattle.std.specs.Option.{option_and_then}
use Rattle.std.proofs.lemmas.List.Splits.{length-slice_split}
use Rattle.std.proofs.Math.Bool.{or-true}
use Rattle.relay_lines.specs.Word.{is_word}
use Rattle.relay_envelope.specs.Path.{Path, IsPath, is_forward, is_reverse}
use Rattle.relay_envelope.specs.Parameters.{MailParameters, RcptParameters, and_then, is_envid, is_octet, is_orcpt, keyword_of, mail_parameters_of, no_outcomes, notify_of, rcpt_parameters_of, ret_of, value_of_word, with_each, with_envid, with_mail_parameter, with_notify, with_orcpt, with_outcome, with_outcomes, with_rcpt_parameter, with_ret}
use Rattle.relay_envelope.specs.Mail.{Mail, Rcpt, mail_of, rcpt_of}
use Rattle.relay_envelope.proofs.AfterPathLemmas.{mail_is_read_so, rcpt_is_read_so}
use Rattle.relay_envelope.specs.Envelope.{may_be_envid, may_be_notify, may_be_orcpt, ReadMailIsValid, ReadRcptIsValid}
use Rattle.relay_envelope.specs.declared.fault.EnvelopeFault.{EnvelopeFault}
use Rattle.relay_envelope.specs.declared.fault.EnvelopeFault.TheVariants.{BadValue, Repeated, UnknownParameter}
use Rattle.relay_envelope.specs.declared.parameters.Ret.{Ret}
use Rattle.relay_envelope.specs.declared.parameters.Outcomes.{Outcomes}
use Rattle.relay_envelope.specs.declared.parameters.Notify.{Notify}
use Rattle.relay_envelope.specs.declared.parameters.Notify.TheVariants.{Never, On}

-- one of four results, by tests
abbrev if_four : {A : Type 0} → Bool → Bool → Bool → A → A → A → A → A
if_four a b d x y z w = cond a x (cond b y (cond d z w))

-- the first of four results whose test passes
first_of_four : {A : Type 0} (P : Type 0) (a b d : Bool) (x y z w : Result A EnvelopeFault) (new : A) → (if_four a b d x y z w) ≡ Ok new → (x ≡ Ok new → P) → (y ≡ Ok new → P) → (z ≡ Ok new → P) → (w ≡ Ok new → P) → P
first_of_four P true b d x y z w new e one two three four = one e
first_of_four P false true d x y z w new e one two three four = two e
first_of_four P false false true x y z w new e one two three four = three e
first_of_four P false false false x y z w new e one two three four = four e

ok_same : {A : Type 0} (old new : A) → ◌≡◌ {A = Result A EnvelopeFault} (Ok old) (Ok new) → old ≡ new
ok_same old new e = cc

never_ok : {A : Type 0} (fault : EnvelopeFault) (new : A) → ◌≡◌ {A = Result A EnvelopeFault} (Err fault) (Ok new) → ⊥
never_ok fault new e = cc

-- what each parameter keeps, all keep
keeps_step : {A : Type 0} (P : A → Type 0) (rest : A → Result A EnvelopeFault) (result : Result A EnvelopeFault) (new : A) → and_then rest result ≡ Ok new → ((middle : A) → result ≡ Ok middle → P middle) → ((middle : A) → P middle → rest middle ≡ Ok new → P new) → P new
keeps_step P rest (Ok middle) new e first later = later middle (first middle refl) e
keeps_step P rest (Err fault) new e first later = absurd (let no : ⊥ = cc in no)

each_keeps : {A : Type 0} (P : A → Type 0) (with_one : List ℕ → A → Result A EnvelopeFault) → ((word : List ℕ) (old new : A) → P old → with_one word old ≡ Ok new → P new) → (words : List (List ℕ)) (old new : A) → P old → with_each with_one words old ≡ Ok new → P new
each_keeps P with_one keeps [] old new h e = let same : old ≡ new = cc in subst P same h
each_keeps P with_one keeps (word ∷ words) old new h e =
    keeps_step P (λ middle. with_each with_one words middle) (with_one word old) new e (λ middle f. keeps word old middle h f) (λ middle k f. each_keeps P with_one keeps words middle new k f)

ret_keeps : (twice : Bool) (ret : Option Ret) (old new : MailParameters) (again bad : EnvelopeFault) → may_be_envid old.envid ≡ true → cond twice (Err again) (ok_or (option_map (λ given. record old { ret = Some given }) ret) bad) ≡ Ok new → may_be_envid new.envid ≡ true
ret_keeps true ret old new again bad h e = absurd (let no : ⊥ = cc in no)
ret_keeps false None old new again bad h e = absurd (let no : ⊥ = cc in no)
ret_keeps false (Some given) old new again bad h e =
    let after : MailParameters = record old { ret = Some given } in
    let same : after ≡ new = cc in
    ap (λ p. may_be_envid p.envid) (sym same) ∙ h

envid_keeps : (twice test : Bool) (value : List ℕ) (old new : MailParameters) (again bad : EnvelopeFault) → is_envid value ≡ test → cond twice (Err again) (cond test (Ok (record old { envid = Some value })) (Err bad)) ≡ Ok new → may_be_envid new.envid ≡ true
envid_keeps true test value old new again bad h e = absurd (let no : ⊥ = cc in no)
envid_keeps false false value old new again bad h e = absurd (let no : ⊥ = cc in no)
envid_keeps false true value old new again bad h e =
    let after : MailParameters = record old { envid = Some value } in
    let same : after ≡ new = cc in
    ap (λ p. may_be_envid p.envid) (sym same) ∙ h

mail_keeps : (word : List ℕ) (old new : MailParameters) → may_be_envid old.envid ≡ true → with_mail_parameter word old ≡ Ok new → may_be_envid new.envid ≡ true
unfolding with_mail_parameter
mail_keeps word old new h e =
    first_of_four (may_be_envid new.envid ≡ true) (length word == 0) (is_word (keyword_of word) (codes "RET")) (is_word (keyword_of word) (codes "ENVID")) (Ok old) (with_ret (value_of_word word) old) (with_envid (value_of_word word) old) (Err UnknownParameter) new e
    (λ f. ap (λ p. may_be_envid p.envid) (sym (ok_same old new f)) ∙ h)
    (λ f. ret_keeps (is_some old.ret) (ret_of (value_of_word word)) old new Repeated BadValue h f)
    (λ f. envid_keeps (is_some old.envid) (is_envid (value_of_word word)) (value_of_word word) old new Repeated BadValue refl f)
    (λ f. absurd (never_ok UnknownParameter new f))

-- a further word names one
further_named : (a b d has_success has_failure has_delay : Bool) (old new : Outcomes) → cond a (cond has_success None (Some (record old { success = true }))) (cond b (cond has_failure None (Some (record old { failure = true }))) (cond d (cond has_delay None (Some (record old { delay = true }))) None)) ≡ Some new → new.success || new.failure || new.delay ≡ true
further_named true b d true f g old new e = absurd (let no : ⊥ = cc in no)
further_named true b d false f g old new e =
    let after : Outcomes = record old { success = true } in
    let same : after ≡ new = cc in
    ap (λ o. o.success || o.failure || o.delay) (sym same)
further_named false true d h true g old new e = absurd (let no : ⊥ = cc in no)
further_named false true d h false g old new e =
    let after : Outcomes = record old { failure = true } in
    let same : after ≡ new = cc in
    ap (λ o. o.success || o.failure || o.delay) (sym same) ∙ ap (λ b. b || old.delay) (or-true old.success)
further_named false false true h f true old new e = absurd (let no : ⊥ = cc in no)
further_named false false true h f false old new e =
    let after : Outcomes = record old { delay = true } in
    let same : after ≡ new = cc in
    ap (λ o. o.success || o.failure || o.delay) (sym same) ∙ or-true (old.success || old.failure)
further_named false false false h f g old new e = absurd (let no : ⊥ = cc in no)

word_named : (word : List ℕ) (old new : Outcomes) → with_outcome word old ≡ Some new → new.success || new.failure || new.delay ≡ true
unfolding with_outcome
word_named word old new e = further_named (is_word word (codes "SUCCESS")) (is_word word (codes "FAILURE")) (is_word word (codes "DELAY")) old.success old.failure old.delay old new e

named_step : (rest : Outcomes → Option Outcomes) (first : Option Outcomes) (new : Outcomes) → option_and_then rest first ≡ Some new → ((middle : Outcomes) → first ≡ Some middle → rest middle ≡ Some new → new.success || new.failure || new.delay ≡ true) → new.success || new.failure || new.delay ≡ true
named_step rest None new e later = absurd (let no : ⊥ = cc in no)
named_step rest (Some middle) new e later = later middle refl e

-- a list with a word names one
words_named : (words : List (List ℕ)) (old new : Outcomes) → old.success || old.failure || old.delay ≡ true → with_outcomes words old ≡ Some new → new.success || new.failure || new.delay ≡ true
words_named [] old new h e = let same : old ≡ new = cc in ap (λ o. o.success || o.failure || o.delay) (sym same) ∙ h
words_named (word ∷ words) old new h e =
    named_step (λ middle. with_outcomes words middle) (with_outcome word old) new e (λ middle f g. words_named words middle new (word_named word old middle f) g)

list_named : (words : List (List ℕ)) (old new : Outcomes) → 0 < length words → with_outcomes words old ≡ Some new → new.success || new.failure || new.delay ≡ true
list_named [] old new h e = absurd (omega arith)
list_named (word ∷ words) old new h e =
    named_step (λ middle. with_outcomes words middle) (with_outcome word old) new e (λ middle f g. words_named words middle new (word_named word old middle f) g)

given_named : (never : Bool) (outcomes : Option Outcomes) (given : Notify) → cond never (Some Never) (option_map On outcomes) ≡ Some given → ((new : Outcomes) → outcomes ≡ Some new → new.success || new.failure || new.delay ≡ true) → may_be_notify (Some given) ≡ true
given_named true outcomes given e named = let same : Never ≡ given = cc in ap (λ n. may_be_notify (Some n)) (sym same)
given_named false None given e named = absurd (let no : ⊥ = cc in no)
given_named false (Some new) given e named = let same : On new ≡ given = cc in ap (λ n. may_be_notify (Some n)) (sym same) ∙ named new refl

notify_named : (value : List ℕ) (given : Notify) → notify_of value ≡ Some given → may_be_notify (Some given) ≡ true
unfolding notify_of
notify_named value given e =
    let many = length-slice_split (is_octet 44) value in
    let some : 0 < length (slice_split (is_octet 44) value) = omega (arith, many) in
    given_named (is_word value (codes "NEVER")) (with_outcomes (slice_split (is_octet 44) value) no_outcomes) given e (λ new f. list_named (slice_split (is_octet 44) value) no_outcomes new some f)

record Holds (given : RcptParameters) : Type 0 where
  notify : may_be_notify given.notify ≡ true
  orcpt : may_be_orcpt given.orcpt ≡ true

notify_keeps : (twice : Bool) (notify : Option Notify) (old new : RcptParameters) (again bad : EnvelopeFault) → Holds old → ((given : Notify) → notify ≡ Some given → may_be_notify (Some given) ≡ true) → cond twice (Err again) (ok_or (option_map (λ given. record old { notify = Some given }) notify) bad) ≡ Ok new → Holds new
notify_keeps true notify old new again bad h named e = absurd (let no : ⊥ = cc in no)
notify_keeps false None old new again bad h named e = absurd (let no : ⊥ = cc in no)
notify_keeps false (Some given) old new again bad h named e =
    let after : RcptParameters = record old { notify = Some given } in
    let same : after ≡ new = cc in
    subst Holds same (record { notify = named given refl; orcpt = h.orcpt })

orcpt_keeps : (twice test : Bool) (value : List ℕ) (old new : RcptParameters) (again bad : EnvelopeFault) → Holds old → is_orcpt value ≡ test → cond twice (Err again) (cond test (Ok (record old { orcpt = Some value })) (Err bad)) ≡ Ok new → Holds new
orcpt_keeps true test value old new again bad h valid e = absurd (let no : ⊥ = cc in no)
orcpt_keeps false false value old new again bad h valid e = absurd (let no : ⊥ = cc in no)
orcpt_keeps false true value old new again bad h valid e =
    let after : RcptParameters = record old { orcpt = Some value } in
    let same : after ≡ new = cc in
    subst Holds same (record { notify = h.notify; orcpt = valid })

rcpt_keeps : (word : List ℕ) (old new : RcptParameters) → Holds old → with_rcpt_parameter word old ≡ Ok new → Holds new
unfolding with_rcpt_parameter
rcpt_keeps word old new h e =
    first_of_four (Holds new) (length word == 0) (is_word (keyword_of word) (codes "NOTIFY")) (is_word (keyword_of word) (codes "ORCPT")) (Ok old) (with_notify (value_of_word word) old) (with_orcpt (value_of_word word) old) (Err UnknownParameter) new e
    (λ f. subst Holds (ok_same old new f) h)
    (λ f. notify_keeps (is_some old.notify) (notify_of (value_of_word word)) old new Repeated BadValue h (λ given g. notify_named (value_of_word word) given g) f)
    (λ f. orcpt_keeps (is_some old.orcpt) (is_orcpt (value_of_word word)) (value_of_word word) old new Repeated BadValue h refl f)
    (λ f. absurd (never_ok UnknownParameter new f))

mail_parameters_valid : (rest : List ℕ) (new : MailParameters) → mail_parameters_of rest ≡ Ok new → may_be_envid new.envid ≡ true
unfolding mail_parameters_of
mail_parameters_valid rest new e =
    each_keeps (λ given. may_be_envid given.envid ≡ true) with_mail_parameter mail_keeps (slice_split (is_octet 32) rest) (record { ret = None; envid = None }) new refl e

rcpt_parameters_valid : (rest : List ℕ) (new : RcptParameters) → rcpt_parameters_of rest ≡ Ok new → Holds new
unfolding rcpt_parameters_of
rcpt_parameters_valid rest new e =
    each_keeps Holds with_rcpt_parameter rcpt_keeps (slice_split (is_octet 32) rest) (record { notify = None; orcpt = None }) new (record { notify = refl; orcpt = refl }) e

mail_of_ok : (path : Path) (parameters : Result MailParameters EnvelopeFault) (mail : Mail) → Ok mail ≡ mail_of path parameters → (path ≡ mail.reverse_path) × (parameters ≡ Ok mail.parameters)
mail_of_ok path (Ok parameters) mail e =
    let same : (let made : Mail = record { reverse_path = path; parameters = parameters } in made) ≡ mail = cc in
    (ap (λ m. m.reverse_path) same, ap (λ m. Ok m.parameters) same)
mail_of_ok path (Err fault) mail e = absurd (let no : ⊥ = cc in no)

rcpt_of_ok : (path : Path) (parameters : Result RcptParameters EnvelopeFault) (rcpt : Rcpt) → Ok rcpt ≡ rcpt_of path parameters → (path ≡ rcpt.path) × (parameters ≡ Ok rcpt.parameters)
rcpt_of_ok path (Ok parameters) rcpt e =
    let same : (let made : Rcpt = record { path = path; parameters = parameters } in made) ≡ rcpt = cc in
    (ap (λ m. m.path) same, ap (λ m. Ok m.parameters) same)
rcpt_of_ok path (Err fault) rcpt e = absurd (let no : ⊥ = cc in no)

pub read_mail_is_valid : ReadMailIsValid
read_mail_is_valid text mail (inl bad) = let e = bad.result_is in absurd (let no : ⊥ = cc in no)
read_mail_is_valid text mail (inr afterwards) =
    let parts = mail_of_ok afterwards.path (mail_parameters_of afterwards.rest) mail
    (afterwards.result_is ∙ ap (mail_of afterwards.path) (mail_is_read_so text (Ok mail) afterwards)) in (
      record {
        path = mail.reverse_path;
        valid = subst IsPath parts.0 afterwards.begins.valid;
        allowed = ap is_reverse (sym parts.0) ∙ afterwards.allowed;
        text_is = refl;
      },
      mail_parameters_valid afterwards.rest mail.parameters parts.1,
    )

pub read_rcpt_is_valid : ReadRcptIsValid
read_rcpt_is_valid text rcpt (inl bad) = let e = bad.result_is in absurd (let no : ⊥ = cc in no)
read_rcpt_is_valid text rcpt (inr afterwards) =
    let parts = rcpt_of_ok afterwards.path (rcpt_parameters_of afterwards.rest) rcpt
    (afterwards.result_is ∙ ap (rcpt_of afterwards.path) (rcpt_is_read_so text (Ok rcpt) afterwards)) in
    let holds = rcpt_parameters_valid afterwards.rest rcpt.parameters parts.1 in
    record {
      path = record {
        path = rcpt.path;
        valid = subst IsPath parts.0 afterwards.begins.valid;
        allowed = ap is_forward (sym parts.0) ∙ afterwards.allowed;
        text_is = refl;
      };
      notify = holds.notify;
      orcpt = holds.orcpt;
    }

-- A row of words says one thing: its values, or one fault.
use Rattle.std.proofs.Common.{◌≡◌, ◌≢◌, ◌⊎◌, inl, inr, ℕ, true, false, List, [], ◌∷◌, ◌++◌, codes, Option, Some, None, Ok, Err, refl, sym, ap, ◌∙◌, subst, arith, append_assoc}
use Rattle.std.specs.List.{AllByRecursion}
use Rattle.relay_envelope.specs.Parameters.{MailParameters, RcptParameters, notify_of, ret_of, value_of_word}
use Rattle.relay_envelope.specs.ParameterRow.{Gives, HasBadValue, HasFault, IsFaulty, IsGiven, IsKnown, IsRepeated, MailRowSaysOne, NoneHas, OneHas, RcptRowSaysOne, has_keyword, read_envid, read_orcpt}
use Rattle.relay_envelope.specs.declared.fault.EnvelopeFault.{EnvelopeFault}
use Rattle.relay_envelope.specs.declared.fault.EnvelopeFault.TheVariants.{BadPath, BadValue, Repeated, UnknownParameter}
use Rattle.relay_envelope.specs.declared.parameters.Ret.{Ret}
use Rattle.relay_envelope.specs.declared.parameters.Notify.{Notify}
use Rattle.relay_envelope.proofs.RowOfWordsLemmas.{one_keyword}

-- what holds of a row holds of its words
all_at : (P : List ℕ → Type 0) (xs : List (List ℕ)) (word : List ℕ) (ys : List (List ℕ)) → AllByRecursion P (xs ++ word ∷ ys) → P word
all_at P [] word ys h = h.0
all_at P (x ∷ xs) word ys h = all_at P xs word ys h.1

-- no word has the keyword, and this one has
none_here : (keyword : List ℕ) (words xs : List (List ℕ)) (word : List ℕ) (ys : List (List ℕ)) → NoneHas keyword words → words ≡ xs ++ word ∷ ys → has_keyword keyword word ≡ true → ⊥
none_here keyword words xs word ys none parts here =
    let other : has_keyword keyword word ≡ false = all_at (λ w. has_keyword keyword w ≡ false) xs word ys (subst (λ (l : List (List ℕ)). NoneHas keyword l) parts none) in
    cc

-- the first word of a keyword is one
same_place : (keyword : List ℕ) (xs : List (List ℕ)) (word : List ℕ) (ys xs' : List (List ℕ)) (word' : List ℕ) (ys' : List (List ℕ)) → xs ++ word ∷ ys ≡ xs' ++ word' ∷ ys' → NoneHas keyword xs → NoneHas keyword xs' → has_keyword keyword word ≡ true → has_keyword keyword word' ≡ true → (word ≡ word') × (ys ≡ ys')
same_place keyword [] word ys [] word' ys' e none none' here here' = (cc, cc)
same_place keyword [] word ys (x' ∷ xs') word' ys' e none none' here here' =
    let head : word ≡ x' = cc in
    let other : has_keyword keyword word ≡ false = ap (λ (l : List ℕ). has_keyword keyword l) head ∙ none'.0 in
    let no : ⊥ = cc in absurd no
same_place keyword (x ∷ xs) word ys [] word' ys' e none none' here here' =
    let head : word' ≡ x = cc in
    let other : has_keyword keyword word' ≡ false = ap (λ (l : List ℕ). has_keyword keyword l) head ∙ none.0 in
    let no : ⊥ = cc in absurd no
same_place keyword (x ∷ xs) word ys (x' ∷ xs') word' ys' e none none' here here' =
    let tail : xs ++ word ∷ ys ≡ xs' ++ word' ∷ ys' = cc in
    same_place keyword xs word ys xs' word' ys' tail none.1 none'.1 here here'

module _ {V : Type 0} (keyword : List ℕ) (read : List ℕ → Option V) where
  one_or_none : (words : List (List ℕ)) (value : V) → OneHas keyword read words value → NoneHas keyword words → ⊥
  one_or_none words value o none = none_here keyword words o.before o.word o.after none o.words_are o.here

  one_value : (words : List (List ℕ)) (value other : V) → OneHas keyword read words value → OneHas keyword read words other → Some value ≡ Some other
  one_value words value other o p =
      let same = same_place keyword o.before o.word o.after p.before p.word p.after (sym o.words_are ∙ p.words_are) o.none_before p.none_before o.here p.here in
      sym o.value_is ∙ ap (λ (l : List ℕ). read (value_of_word l)) same.0 ∙ p.value_is

  given_one : (words : List (List ℕ)) (one two : Option V) → IsGiven keyword read words one → IsGiven keyword read words two → one ≡ two
  given_one words None None g h = refl
  given_one words None (Some value) g h = absurd (one_or_none words value h g)
  given_one words (Some value) None g h = absurd (one_or_none words value g h)
  given_one words (Some value) (Some other) g h = one_value words value other g h

  -- the keyword stands here and before
  twice : (words : List (List ℕ)) (given : Option V) (before : List (List ℕ)) (word : List ℕ) (after : List (List ℕ)) → words ≡ before ++ word ∷ after → IsGiven keyword read words given → has_keyword keyword word ≡ true → (value : V) → OneHas keyword read before value → ⊥
  twice words None before word after parts none here value o = none_here keyword words before word after none parts here
  twice words (Some first) before word after parts p here value o =
      let e = sym p.words_are ∙ parts ∙ ap (λ l. l ++ word ∷ after) o.words_are ∙ append_assoc o.before (o.word ∷ o.after) (word ∷ after) in
      let same = same_place keyword p.before p.word p.after o.before o.word (o.after ++ word ∷ after) e p.none_before o.none_before p.here o.here in
      none_here keyword p.after o.after word after p.none_after same.1 here

  -- the keyword stands here alone, with a value that is none
  badly : (words : List (List ℕ)) (given : Option V) (before : List (List ℕ)) (word : List ℕ) (after : List (List ℕ)) → words ≡ before ++ word ∷ after → IsGiven keyword read words given → HasBadValue keyword read before word → ⊥
  badly words None before word after parts none b = none_here keyword words before word after none parts b.0
  badly words (Some value) before word after parts p b =
      let same = same_place keyword p.before p.word p.after before word after (sym p.words_are ∙ parts) p.none_before b.1 p.here b.0 in
      let some : read (value_of_word word) ≡ Some value = ap (λ (l : List ℕ). read (value_of_word l)) (sym same.0) ∙ p.value_is in
      let bad : read (value_of_word word) ≡ None = b.2 in
      cc

-- two words at one place of a row, or at two
abbrev Meets : List (List ℕ) → List ℕ → List (List ℕ) → List ℕ → Type 0
Meets xs word xs' word' =
    ((xs ≡ xs') × (word ≡ word'))
    ⊎ (((m : List (List ℕ)) × (xs' ≡ xs ++ word ∷ m)) ⊎ ((m : List (List ℕ)) × (xs ≡ xs' ++ word' ∷ m)))

meets_after : (x x' : List ℕ) (xs : List (List ℕ)) (word : List ℕ) (xs' : List (List ℕ)) (word' : List ℕ) → x ≡ x' → Meets xs word xs' word' → Meets (x ∷ xs) word (x' ∷ xs') word'
meets_after x x' xs word xs' word' e (inl same) = let front = same.0 in inl (cc, same.1)
meets_after x x' xs word xs' word' e (inr (inl more)) = let front = more.1 in inr (inl (more.0, cc))
meets_after x x' xs word xs' word' e (inr (inr more)) = let front = more.1 in inr (inr (more.0, cc))

meet : (xs : List (List ℕ)) (word : List ℕ) (ys xs' : List (List ℕ)) (word' : List ℕ) (ys' : List (List ℕ)) → xs ++ word ∷ ys ≡ xs' ++ word' ∷ ys' → Meets xs word xs' word'
meet [] word ys [] word' ys' e = inl (refl, cc)
meet [] word ys (x' ∷ xs') word' ys' e = let head : word ≡ x' = cc in inr (inl (xs', ap (λ (l : List ℕ). l ∷ xs') (sym head)))
meet (x ∷ xs) word ys [] word' ys' e = let head : x ≡ word' = cc in inr (inr (xs, ap (λ (l : List ℕ). l ∷ xs) head))
meet (x ∷ xs) word ys (x' ∷ xs') word' ys' e =
    let head : x ≡ x' = cc in
    let tail : xs ++ word ∷ ys ≡ xs' ++ word' ∷ ys' = cc in
    meets_after x x' xs word xs' word' head (meet xs word ys xs' word' ys' tail)

module _ {V W : Type 0} (first second : List ℕ) (read_first : List ℕ → Option V) (read_second : List ℕ → Option W) where
  known_or_not : (word : List ℕ) → IsKnown first second word → (word ≢ []) → has_keyword first word ≡ false → has_keyword second word ≡ false → ⊥
  known_or_not word (inl empty) some one two = some empty
  known_or_not word (inr (inl here)) some one two = cc
  known_or_not word (inr (inr here)) some one two = cc

  no_fault_by : (words : List (List ℕ)) (one : Option V) (two : Option W) (before : List (List ℕ)) (word : List ℕ) (after : List (List ℕ)) (fault : EnvelopeFault) → words ≡ before ++ word ∷ after → Gives first second read_first read_second words one two → IsFaulty first second read_first read_second before word fault → ⊥
  no_fault_by words one two before word after BadPath parts g faulty = faulty
  no_fault_by words one two before word after UnknownParameter parts g faulty =
      known_or_not word (all_at (IsKnown first second) before word after (subst (λ (l : List (List ℕ)). AllByRecursion (IsKnown first second) l) parts g.known)) faulty.0 faulty.1 faulty.2
  no_fault_by words one two before word after Repeated parts g (inl r) = twice first read_first words one before word after parts g.first_is r.0 r.1.0 r.1.1
  no_fault_by words one two before word after Repeated parts g (inr r) = twice second read_second words two before word after parts g.second_is r.0 r.1.0 r.1.1
  no_fault_by words one two before word after BadValue parts g (inl b) = badly first read_first words one before word after parts g.first_is b
  no_fault_by words one two before word after BadValue parts g (inr b) = badly second read_second words two before word after parts g.second_is b

  -- a row that gives values has no fault
  pub no_fault : (words : List (List ℕ)) (one : Option V) (two : Option W) (fault : EnvelopeFault) → Gives first second read_first read_second words one two → HasFault first second read_first read_second words fault → ⊥
  no_fault words one two fault g h = no_fault_by words one two h.before h.word h.after fault h.words_are g h.is_faulty

  named_repeated : (before : List (List ℕ)) (word : List ℕ) → (has_keyword first word ≡ false) → (has_keyword second word ≡ false) → (IsRepeated first read_first before word ⊎ IsRepeated second read_second before word) → ⊥
  named_repeated before word one two (inl r) = let here = r.0 in cc
  named_repeated before word one two (inr r) = let here = r.0 in cc

  named_badly : (before : List (List ℕ)) (word : List ℕ) → (has_keyword first word ≡ false) → (has_keyword second word ≡ false) → (HasBadValue first read_first before word ⊎ HasBadValue second read_second before word) → ⊥
  named_badly before word one two (inl b) = let here = b.0 in cc
  named_badly before word one two (inr b) = let here = b.0 in cc

  module _ (apart : (word : List ℕ) → has_keyword first word ≡ true → has_keyword second word ≡ false) where
    repeated_or_bad : (before : List (List ℕ)) (word : List ℕ) → (IsRepeated first read_first before word ⊎ IsRepeated second read_second before word) → (HasBadValue first read_first before word ⊎ HasBadValue second read_second before word) → ⊥
    repeated_or_bad before word (inl r) (inl b) = one_or_none first read_first before r.1.0 r.1.1 b.1
    repeated_or_bad before word (inl r) (inr b) = let other = apart word r.0 in let here = b.0 in cc
    repeated_or_bad before word (inr r) (inl b) = let other = apart word b.0 in let here = r.0 in cc
    repeated_or_bad before word (inr r) (inr b) = one_or_none second read_second before r.1.0 r.1.1 b.1

    fault_here : (before : List (List ℕ)) (word : List ℕ) (one two : EnvelopeFault) → IsFaulty first second read_first read_second before word one → IsFaulty first second read_first read_second before word two → one ≡ two
    fault_here before word BadPath two f g = absurd f
    fault_here before word UnknownParameter BadPath f g = absurd g
    fault_here before word UnknownParameter UnknownParameter f g = refl
    fault_here before word UnknownParameter Repeated f g = absurd (named_repeated before word f.1 f.2 g)
    fault_here before word UnknownParameter BadValue f g = absurd (named_badly before word f.1 f.2 g)
    fault_here before word Repeated BadPath f g = absurd g
    fault_here before word Repeated UnknownParameter f g = absurd (named_repeated before word g.1 g.2 f)
    fault_here before word Repeated Repeated f g = refl
    fault_here before word Repeated BadValue f g = absurd (repeated_or_bad before word f g)
    fault_here before word BadValue BadPath f g = absurd g
    fault_here before word BadValue UnknownParameter f g = absurd (named_badly before word g.1 g.2 f)
    fault_here before word BadValue Repeated f g = absurd (repeated_or_bad before word g f)
    fault_here before word BadValue BadValue f g = refl

    fault_by : (words : List (List ℕ)) (one two : EnvelopeFault) (f : HasFault first second read_first read_second words one) (g : HasFault first second read_first read_second words two) → Meets f.before f.word g.before g.word → one ≡ two
    fault_by words one two f g (inl same) =
        fault_here g.before g.word one two
        (subst (λ (w : List ℕ). IsFaulty first second read_first read_second g.before w one) same.1 (subst (λ (l : List (List ℕ)). IsFaulty first second read_first read_second l f.word one) same.0 f.is_faulty))
        g.is_faulty
    fault_by words one two f g (inr (inl more)) =
        absurd (no_fault_by g.before g.one g.two f.before f.word more.0 one more.1 g.gives f.is_faulty)
    fault_by words one two f g (inr (inr more)) =
        absurd (no_fault_by f.before f.one f.two g.before g.word more.0 two more.1 f.gives g.is_faulty)

    -- a row has one fault
    pub one_fault : (words : List (List ℕ)) (one two : EnvelopeFault) → HasFault first second read_first read_second words one → HasFault first second read_first read_second words two → one ≡ two
    one_fault words one two f g = fault_by words one two f g (meet f.before f.word f.after g.before g.word g.after (sym f.words_are ∙ g.words_are))

mail_same : (one two : MailParameters) → one.ret ≡ two.ret → one.envid ≡ two.envid → one ≡ two
mail_same one two ret envid =
    let by_ret : (r : Option Ret) → MailParameters = λ r. record { ret = r; envid = one.envid } in
    let by_envid : (e : Option (List ℕ)) → MailParameters = λ e. record { ret = two.ret; envid = e } in
    ap by_ret ret ∙ ap by_envid envid

rcpt_same : (one two : RcptParameters) → one.notify ≡ two.notify → one.orcpt ≡ two.orcpt → one ≡ two
rcpt_same one two notify orcpt =
    let by_notify : (n : Option Notify) → RcptParameters = λ n. record { notify = n; orcpt = one.orcpt } in
    let by_orcpt : (o : Option (List ℕ)) → RcptParameters = λ o. record { notify = two.notify; orcpt = o } in
    ap by_notify notify ∙ ap by_orcpt orcpt

mail_apart : (word : List ℕ) → has_keyword (codes "RET") word ≡ true → has_keyword (codes "ENVID") word ≡ false
mail_apart word here = one_keyword (codes "RET") (codes "ENVID") word (λ (e : ◌≡◌ {A = ℕ} 3 5). omega (arith, e)) here

rcpt_apart : (word : List ℕ) → has_keyword (codes "NOTIFY") word ≡ true → has_keyword (codes "ORCPT") word ≡ false
rcpt_apart word here = one_keyword (codes "NOTIFY") (codes "ORCPT") word (λ (e : ◌≡◌ {A = ℕ} 6 5). omega (arith, e)) here

pub mail_row_says_one : MailRowSaysOne
mail_row_says_one words (Ok one) (Ok two) g h =
    ap (λ (m : MailParameters). Ok m) (mail_same one two (given_one (codes "RET") ret_of words one.ret two.ret g.first_is h.first_is) (given_one (codes "ENVID") read_envid words one.envid two.envid g.second_is h.second_is))
mail_row_says_one words (Ok one) (Err fault) g h = absurd (no_fault (codes "RET") (codes "ENVID") ret_of read_envid words one.ret one.envid fault g h)
mail_row_says_one words (Err fault) (Ok two) g h = absurd (no_fault (codes "RET") (codes "ENVID") ret_of read_envid words two.ret two.envid fault h g)
mail_row_says_one words (Err fault) (Err other) g h = ap (λ (f : EnvelopeFault). Err f) (one_fault (codes "RET") (codes "ENVID") ret_of read_envid mail_apart words fault other g h)

pub rcpt_row_says_one : RcptRowSaysOne
rcpt_row_says_one words (Ok one) (Ok two) g h =
    ap (λ (m : RcptParameters). Ok m) (rcpt_same one two (given_one (codes "NOTIFY") notify_of words one.notify two.notify g.first_is h.first_is) (given_one (codes "ORCPT") read_orcpt words one.orcpt two.orcpt g.second_is h.second_is))
rcpt_row_says_one words (Ok one) (Err fault) g h = absurd (no_fault (codes "NOTIFY") (codes "ORCPT") notify_of read_orcpt words one.notify one.orcpt fault g h)
rcpt_row_says_one words (Err fault) (Ok two) g h = absurd (no_fault (codes "NOTIFY") (codes "ORCPT") notify_of read_orcpt words two.notify two.orcpt fault h g)
rcpt_row_says_one words (Err fault) (Err other) g h = ap (λ (f : EnvelopeFault). Err f) (one_fault (codes "NOTIFY") (codes "ORCPT") notify_of read_orcpt rcpt_apart words fault other g h)

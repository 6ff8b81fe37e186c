-- The fields of a recipient's record are one.
use Rattle.std.proofs.Common.{◌≡◌, ◌≢◌, ℕ, suc, ◌<◌, ◌^◌, true, List, [], ◌∷◌, ◌++◌, drop, length, Option, sym, subst, ap, ◌∙◌, arith, append_assoc}
use Rattle.relay_envelope.specs.declared.envelope.Recipient.{Recipient}
use Rattle.relay_envelope.specs.Envelope.{IsRecipient, IsWrittenPath, may_be_notify, may_be_orcpt}
use Rattle.relay_envelope.specs.Path.{is_forward}
use Rattle.relay_envelope.specs.declared.parameters.Notify.{Notify}
use Rattle.relay_book.specs.Record.{octets_2, sized_2, notify_number, recipient_octets, written}
use Rattle.relay_book.specs.Fields.{SpellsFields, HasFields, HasNoSized, HasNoFields, HasNone, IsNoRecipient}
use Rattle.relay_book.proofs.CodeLemmas.{code_2, code_sized, too_short, cut_short}
use Rattle.relay_book.proofs.FitLemmas.{path_fits, written_orcpt_fits}

pub same_head : (a b : ℕ) (x y : List ℕ) → a ∷ x ≡ b ∷ y → (a ≡ b) × (x ≡ y)
same_head a b x y e = (ap (head_or 0) e, ap (drop 1) e)
  where
    head_or : ℕ → List ℕ → ℕ
    head_or n [] = n
    head_or n (m ∷ ms) = m

-- a text is spelled by one row of fields
pub fields_are_one : (text path : List ℕ) (number : ℕ) (orcpt rest path2 : List ℕ) (number2 : ℕ) (orcpt2 rest2 : List ℕ)
    → SpellsFields text path number orcpt rest → SpellsFields text path2 number2 orcpt2 rest2
    → (path ≡ path2) × (number ≡ number2) × (orcpt ≡ orcpt2) × (rest ≡ rest2)
fields_are_one text path number orcpt rest path2 number2 orcpt2 rest2 one two =
    let first = code_sized octets_2 (2 ^ 16) code_2 path path2 _ _ one.first_fits two.first_fits (sym one.text_is ∙ two.text_is) in
    let second = same_head number number2 _ _ first.1 in
    let third = code_sized octets_2 (2 ^ 16) code_2 orcpt orcpt2 rest rest2 one.second_fits two.second_fits second.1 in
    (first.0, second.0, third.0, third.1)

-- a recipient spells its fields
pub spells : (text rest : List ℕ) (recipient : Recipient) → IsRecipient recipient → text ≡ recipient_octets recipient ++ rest → SpellsFields text recipient.path (notify_number recipient.notify) (written recipient.orcpt) rest
spells text rest recipient valid e = record {
  text_is = e ∙ append_assoc (sized_2 recipient.path) (notify_number recipient.notify ∷ sized_2 (written recipient.orcpt)) rest;
  first_fits = path_fits recipient valid;
  second_fits = written_orcpt_fits recipient.orcpt valid.orcpt;
}

pub none_without_fields : (text : List ℕ) → HasNoFields text → HasNone IsRecipient recipient_octets text
none_without_fields text out = record { none = λ recipient rest valid e. out.none _ _ _ _ (spells text rest recipient valid e) }

pub none_of_fields : (text path : List ℕ) (number : ℕ) (orcpt after : List ℕ) → SpellsFields text path number orcpt after → IsNoRecipient path number orcpt → HasNone IsRecipient recipient_octets text
none_of_fields text path number orcpt after one out = record {
  none = λ recipient rest valid e.
      let same = fields_are_one text path number orcpt after recipient.path (notify_number recipient.notify) (written recipient.orcpt) rest one (spells text rest recipient valid e) in
      out.none recipient valid (record { path_is = same.0; notify_is = same.1; orcpt_is = same.2 });
}

pub none_short : (text : List ℕ) → length text < 2 → HasNoSized text
none_short text short = record { none = λ field rest fits e. too_short text field rest short e }

pub none_cut : (text : List ℕ) (n : ℕ) (after : List ℕ) → text ≡ octets_2 n ++ after → n < 2 ^ 16 → length after < n → HasNoSized text
none_cut text n after e small less = record { none = λ field rest fits other. cut_short text n after field rest e small less fits other }

pub none_path : (path : List ℕ) (number : ℕ) (orcpt : List ℕ) → (IsWrittenPath is_forward path → ⊥) → IsNoRecipient path number orcpt
none_path path number orcpt out = record { none = λ recipient valid has. out (subst (IsWrittenPath is_forward) (sym has.path_is) valid.path) }

pub none_notify : (path : List ℕ) (number : ℕ) (orcpt : List ℕ) → ((notify : Option Notify) → may_be_notify notify ≡ true → number ≢ notify_number notify) → IsNoRecipient path number orcpt
none_notify path number orcpt out = record { none = λ recipient valid has. out recipient.notify valid.notify has.notify_is }

pub none_orcpt : (path : List ℕ) (number : ℕ) (orcpt : List ℕ) → ((given : Option (List ℕ)) → may_be_orcpt given ≡ true → orcpt ≢ written given) → IsNoRecipient path number orcpt
none_orcpt path number orcpt out = record { none = λ recipient valid has. out recipient.orcpt valid.orcpt has.orcpt_is }

pub spelled : (text path : List ℕ) (number : ℕ) (orcpt after : List ℕ) (recipient : Recipient) → SpellsFields text path number orcpt after → HasFields recipient path number orcpt → text ≡ recipient_octets recipient ++ after
spelled text path number orcpt after recipient one has =
    one.text_is
    ∙ (λ i. sized_2 (has.path_is i) ++ (has.notify_is i ∷ (sized_2 (has.orcpt_is i) ++ after)))
    ∙ sym (append_assoc (sized_2 recipient.path) (notify_number recipient.notify ∷ sized_2 (written recipient.orcpt)) after)

-- where a field is missing
pub no_path : (text : List ℕ) → HasNoSized text → HasNoFields text
no_path text out = record { none = λ path number orcpt rest two. out.none path _ two.first_fits two.text_is }

pub no_notify : (text front after : List ℕ) → text ≡ sized_2 front ++ after → length front < 2 ^ 16 → length after ≡ 0 → HasNoFields text
no_notify text front after e fits empty = record {
  none = λ path number orcpt rest two.
      let first = code_sized octets_2 (2 ^ 16) code_2 front path after (number ∷ (sized_2 orcpt ++ rest)) fits two.first_fits (sym e ∙ two.text_is) in
      let long : length after ≡ suc (length (sized_2 orcpt ++ rest)) = ap length first.1 in
      omega (arith, long, empty);
}

pub no_orcpt : (text front : List ℕ) (octet : ℕ) (after : List ℕ) → text ≡ sized_2 front ++ octet ∷ after → length front < 2 ^ 16 → HasNoSized after → HasNoFields text
no_orcpt text front octet after e fits out = record {
  none = λ path number orcpt rest two.
      let first = code_sized octets_2 (2 ^ 16) code_2 front path (octet ∷ after) (number ∷ (sized_2 orcpt ++ rest)) fits two.first_fits (sym e ∙ two.text_is) in
      out.none orcpt rest two.second_fits (same_head octet number after (sized_2 orcpt ++ rest) first.1).1;
}

pub fields_are : (text path : List ℕ) (octet : ℕ) (after orcpt rest : List ℕ) → text ≡ sized_2 path ++ octet ∷ after → after ≡ sized_2 orcpt ++ rest → length path < 2 ^ 16 → length orcpt < 2 ^ 16 → SpellsFields text path octet orcpt rest
fields_are text path octet after orcpt rest e more path_short orcpt_short = record {
  text_is = e ∙ ap (λ (xs : List ℕ). sized_2 path ++ octet ∷ xs) more;
  first_fits = path_short;
  second_fits = orcpt_short;
}

-- the fields of a recipient, or octets without them
pub ruleset recipient_fields = (no_path, no_notify, no_orcpt, fields_are)

-- fields of which no recipient is made
pub ruleset refused_recipients = (none_path, none_notify, none_orcpt)

-- fields that are judged: no recipient, or one
pub ruleset judged_recipients = (none_without_fields, none_of_fields, spelled)

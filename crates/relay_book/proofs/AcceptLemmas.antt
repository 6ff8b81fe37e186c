-- The fields of an accept are one.
use Rattle.std.proofs.Common.{◌≡◌, ◌≢◌, ℕ, ◌<◌, ◌≤◌, ◌^◌, ◌+◌, ◌-◌, List, [], ◌∷◌, ◌++◌, drop, length, refl, sym, subst, ap, ◌∙◌, arith, add-one, append-nil, length-append}
use Rattle.relay_trace.specs.declared.moment.TheConstants.{LAST_SECOND}
use Rattle.relay_envelope.specs.declared.envelope.Envelope.{Envelope}
use Rattle.relay_envelope.specs.declared.envelope.Recipient.{Recipient}
use Rattle.relay_envelope.specs.Envelope.{IsRecipient}
use Rattle.relay_book.specs.declared.change.Accept.{Accept as AcceptFields}
use Rattle.relay_book.specs.Record.{IsAccept, accept_octets, counted, octets_4, octets_8, recipient_octets, ret_number, sized_2, sized_4, text_limit, written}
use Rattle.relay_book.specs.Fields.{AreSome, BeginsAccept, BeginsRecord, HasMailFields, HasNoCounted, HasNoFields, IsMail, IsNoMail, IsNoSized, SpellsAccept, SpellsFields, SpellsNoAccept}
use Rattle.relay_book.proofs.CodeLemmas.{code_4, code_8, code_sized}
use Rattle.relay_book.proofs.FieldLemmas.{fields_are_one}
use Rattle.relay_book.proofs.FitLemmas.{reverse_path_fits, text_fits, written_envid_fits}
use Rattle.relay_book.proofs.RowLemmas.{counted_are_one}
use Rattle.relay_book.proofs.TailLemmas.{Ends, ends_itself, ends_more}
use Rattle.relay_book.proofs.ValueLemmas.{code_recipient}

-- texts that end the record
pub long_4 : (text : List ℕ) (n : ℕ) (rest : List ℕ) → text ≡ octets_4 n ++ rest → 4 ≤ length text
unfolding octets_4
long_4 text n rest e =
    let four : length (octets_4 n) ≡ 4 = refl in
    let all = ap length e in
    let parts = length-append (octets_4 n) rest in
    omega (arith, four, all, parts)

pub long_8 : (text : List ℕ) (n : ℕ) (rest : List ℕ) → text ≡ octets_8 n ++ rest → 8 ≤ length text
unfolding octets_8
long_8 text n rest e =
    let eight : length (octets_8 n) ≡ 8 = refl in
    let all = ap length e in
    let parts = length-append (octets_8 n) rest in
    omega (arith, eight, all, parts)

pub no_last_short : (text : List ℕ) → length text < 4 → IsNoSized text
no_last_short text short = record { none = λ field fits e. let long = long_4 text (length field) field e in omega (arith, short, long) }

pub no_last_other : (text : List ℕ) (n : ℕ) (after : List ℕ) → text ≡ octets_4 n ++ after → n < 2 ^ 32 → length after ≢ n → IsNoSized text
no_last_other text n after is small other = record {
  none = λ field fits e.
      let same = code_4 n (length field) after field small fits (sym is ∙ e) in
      other (ap length same.1 ∙ sym same.0);
}

-- what stands after the moment, and after what MAIL says
after_this_moment : List ℕ → ℕ → List ℕ → List Recipient → List ℕ → List ℕ
after_this_moment path ret envid recipients stored = sized_2 path ++ (ret ∷ (sized_2 envid ++ (counted recipient_octets recipients ++ sized_4 stored)))

-- an accept spells its fields
pub spells_accept : (text : List ℕ) (accept : AcceptFields) → IsAccept accept → text ≡ accept_octets accept
    → SpellsAccept text accept.at accept.envelope.reverse_path (ret_number accept.envelope.ret) (written accept.envelope.envid) accept.envelope.recipients accept.stored_text
spells_accept text accept valid e = record {
  text_is = e;
  at_fits = let moment = valid.moment in omega (arith, moment);
  path_fits = reverse_path_fits accept.envelope valid.envelope;
  envid_fits = written_envid_fits accept.envelope.envid valid.envelope.envid;
  are_recipients = record { some = valid.envelope.some; within = valid.envelope.within; valid = valid.envelope.recipients };
  stored_fits = text_fits accept valid;
}

-- what stands after a moment
pub after_at : (text : List ℕ) (at : ℕ) (rest : List ℕ) (other : ℕ) (path : List ℕ) (ret : ℕ) (envid : List ℕ) (recipients : List Recipient) (stored : List ℕ)
    → text ≡ octets_8 at ++ rest → at < 2 ^ 64 → SpellsAccept text other path ret envid recipients stored
    → (at ≡ other) × SpellsFields rest path ret envid (counted recipient_octets recipients ++ sized_4 stored)
after_at text at rest other path ret envid recipients stored is small spelled =
    let same = code_8 at other rest _ small spelled.at_fits (sym is ∙ spelled.text_is) in
    (same.0, record { text_is = same.1; first_fits = spelled.path_fits; second_fits = spelled.envid_fits })

-- two spellings have the same fields
pub record AreSameAccepts (at other : ℕ) (path path2 : List ℕ) (ret ret2 : ℕ) (envid envid2 : List ℕ) (recipients recipients2 : List Recipient) (stored stored2 : List ℕ) : Type 0 where
  pub at_is : at ≡ other
  pub path_is : path ≡ path2
  pub ret_is : ret ≡ ret2
  pub envid_is : envid ≡ envid2
  pub recipients_are : recipients ≡ recipients2
  pub stored_is : stored ≡ stored2

pub accepts_are_one : (text : List ℕ) (at : ℕ) (path : List ℕ) (ret : ℕ) (envid : List ℕ) (recipients : List Recipient) (stored : List ℕ)
    (other : ℕ) (path2 : List ℕ) (ret2 : ℕ) (envid2 : List ℕ) (recipients2 : List Recipient) (stored2 : List ℕ)
    → SpellsAccept text at path ret envid recipients stored → SpellsAccept text other path2 ret2 envid2 recipients2 stored2
    → AreSameAccepts at other path path2 ret ret2 envid envid2 recipients recipients2 stored stored2
accepts_are_one text at path ret envid recipients stored other path2 ret2 envid2 recipients2 stored2 one two =
    let first = after_at text at _ other path2 ret2 envid2 recipients2 stored2 one.text_is one.at_fits two in
    let mine : SpellsFields _ path ret envid (counted recipient_octets recipients ++ sized_4 stored) = record { text_is = refl; first_fits = one.path_fits; second_fits = one.envid_fits } in
    let second = fields_are_one _ path ret envid _ path2 ret2 envid2 _ mine first.1 in
    let third = counted_are_one IsRecipient recipient_octets code_recipient recipients recipients2 (sized_4 stored) (sized_4 stored2) one.are_recipients two.are_recipients second.3 in
    let fourth = code_sized octets_4 (2 ^ 32) code_4 stored stored2 [] [] one.stored_fits two.stored_fits (append-nil (sized_4 stored) ∙ third.1 ∙ sym (append-nil (sized_4 stored2))) in
    record { at_is = first.0; path_is = second.0; ret_is = second.1; envid_is = second.2; recipients_are = third.0; stored_is = fourth.0 }

-- where a field is missing
pub no_moment : (text : List ℕ) → length text < 8 → SpellsNoAccept text
no_moment text short = record { none = λ accept valid e. let long = long_8 text accept.at _ e in omega (arith, short, long) }

pub no_mail_fields : (text : List ℕ) (at : ℕ) (rest : List ℕ) → text ≡ octets_8 at ++ rest → at < 2 ^ 64 → HasNoFields rest → SpellsNoAccept text
no_mail_fields text at rest is small out = record {
  none = λ accept valid e. out.none _ _ _ _ (after_at text at rest _ _ _ _ _ _ is small (spells_accept text accept valid e)).1;
}

-- what stands after the fields of MAIL
after_mail : (text : List ℕ) (at : ℕ) (rest path : List ℕ) (ret : ℕ) (envid after : List ℕ) (accept : AcceptFields)
    → text ≡ octets_8 at ++ rest → at < 2 ^ 64 → SpellsFields rest path ret envid after → IsAccept accept → text ≡ accept_octets accept
    → after ≡ counted recipient_octets accept.envelope.recipients ++ sized_4 accept.stored_text
after_mail text at rest path ret envid after accept is small fields valid e =
    (fields_are_one rest path ret envid after _ _ _ _ fields (after_at text at rest _ _ _ _ _ _ is small (spells_accept text accept valid e)).1).3

are_recipients : (accept : AcceptFields) → IsAccept accept → AreSome IsRecipient accept.envelope.recipients
are_recipients accept valid = record { some = valid.envelope.some; within = valid.envelope.within; valid = valid.envelope.recipients }

pub no_recipients : (text : List ℕ) (at : ℕ) (rest path : List ℕ) (ret : ℕ) (envid after : List ℕ) → text ≡ octets_8 at ++ rest → at < 2 ^ 64 → SpellsFields rest path ret envid after
    → HasNoCounted IsRecipient recipient_octets after → SpellsNoAccept text
no_recipients text at rest path ret envid after is small fields out = record {
  none = λ accept valid e. out.none accept.envelope.recipients (sized_4 accept.stored_text) (are_recipients accept valid) (after_mail text at rest path ret envid after accept is small fields valid e);
}

pub no_stored_text : (text : List ℕ) (at : ℕ) (rest path : List ℕ) (ret : ℕ) (envid after : List ℕ) (recipients : List Recipient) (last : List ℕ)
    → text ≡ octets_8 at ++ rest → at < 2 ^ 64 → SpellsFields rest path ret envid after
    → after ≡ counted recipient_octets recipients ++ last → AreSome IsRecipient recipients → IsNoSized last → SpellsNoAccept text
no_stored_text text at rest path ret envid after recipients last is small fields counted_is valid_recipients out = record {
  none = λ accept valid e.
      let same = counted_are_one IsRecipient recipient_octets code_recipient recipients accept.envelope.recipients last (sized_4 accept.stored_text)
      valid_recipients (are_recipients accept valid) (sym counted_is ∙ after_mail text at rest path ret envid after accept is small fields valid e) in
      out.none accept.stored_text (text_fits accept valid) same.1;
}

pub accept_spelled : (text : List ℕ) (at : ℕ) (rest path : List ℕ) (ret : ℕ) (envid after : List ℕ) (recipients : List Recipient) (last stored : List ℕ)
    → text ≡ octets_8 at ++ rest → at < 2 ^ 64 → SpellsFields rest path ret envid after
    → after ≡ counted recipient_octets recipients ++ last → AreSome IsRecipient recipients → last ≡ sized_4 stored → length stored < 2 ^ 32
    → SpellsAccept text at path ret envid recipients stored
accept_spelled text at rest path ret envid after recipients last stored is small fields counted_is valid last_is fits = record {
  text_is = is ∙ ap (λ (l : List ℕ). octets_8 at ++ l) fields.text_is
      ∙ ap (λ (l : List ℕ). octets_8 at ++ (sized_2 path ++ (ret ∷ (sized_2 envid ++ l)))) (counted_is ∙ ap (λ (l : List ℕ). counted recipient_octets recipients ++ l) last_is);
  at_fits = small;
  path_fits = fields.first_fits;
  envid_fits = fields.second_fits;
  are_recipients = valid;
  stored_fits = fits;
}

-- where a field is not as it may be
same_as : (text : List ℕ) (at : ℕ) (path : List ℕ) (ret : ℕ) (envid : List ℕ) (recipients : List Recipient) (stored : List ℕ) (accept : AcceptFields)
    → SpellsAccept text at path ret envid recipients stored → IsAccept accept → text ≡ accept_octets accept
    → AreSameAccepts at accept.at path accept.envelope.reverse_path ret (ret_number accept.envelope.ret) envid (written accept.envelope.envid) recipients accept.envelope.recipients stored accept.stored_text
same_as text at path ret envid recipients stored accept spelled valid e =
    accepts_are_one text at path ret envid recipients stored accept.at accept.envelope.reverse_path (ret_number accept.envelope.ret) (written accept.envelope.envid) accept.envelope.recipients accept.stored_text
    spelled (spells_accept text accept valid e)

pub bad_mail : (text : List ℕ) (at : ℕ) (path : List ℕ) (ret : ℕ) (envid : List ℕ) (recipients : List Recipient) (stored : List ℕ)
    → SpellsAccept text at path ret envid recipients stored → IsNoMail path ret envid → SpellsNoAccept text
bad_mail text at path ret envid recipients stored spelled out = record {
  none = λ accept valid e.
      let same = same_as text at path ret envid recipients stored accept spelled valid e in
      out.none accept.envelope (record { reverse_path = valid.envelope.reverse_path; envid = valid.envelope.envid })
      (record { path_is = same.path_is; ret_is = same.ret_is; envid_is = same.envid_is });
}

pub bad_moment : (text : List ℕ) (at : ℕ) (path : List ℕ) (ret : ℕ) (envid : List ℕ) (recipients : List Recipient) (stored : List ℕ)
    → SpellsAccept text at path ret envid recipients stored → LAST_SECOND < at → SpellsNoAccept text
bad_moment text at path ret envid recipients stored spelled late = record {
  none = λ accept valid e.
      let same = (same_as text at path ret envid recipients stored accept spelled valid e).at_is in
      let moment = valid.moment in
      omega (arith, same, moment, late);
}

pub bad_text : (text : List ℕ) (at : ℕ) (path : List ℕ) (ret : ℕ) (envid : List ℕ) (recipients : List Recipient) (stored : List ℕ)
    → SpellsAccept text at path ret envid recipients stored → text_limit path < length stored → SpellsNoAccept text
bad_text text at path ret envid recipients stored spelled long = record {
  none = λ accept valid e.
      let same = same_as text at path ret envid recipients stored accept spelled valid e in
      let length_is = ap length same.stored_is in
      let limit_is = ap text_limit same.path_is in
      let within = valid.text in
      omega (arith, length_is, limit_is, within, long);
}

-- what MAIL said, with the recipients
pub is_accept : (text : List ℕ) (at : ℕ) (path : List ℕ) (ret : ℕ) (envid : List ℕ) (recipients : List Recipient) (stored : List ℕ) (envelope : Envelope)
    → SpellsAccept text at path ret envid recipients stored → IsMail envelope → HasMailFields envelope path ret envid → at ≤ LAST_SECOND → length stored ≤ text_limit path
    → IsAccept (record { at = at; envelope = record envelope { recipients = recipients }; stored_text = stored })
is_accept text at path ret envid recipients stored envelope spelled mail has moment short = record {
  moment = moment;
  envelope = record {
    reverse_path = mail.reverse_path;
    envid = mail.envid;
    some = spelled.are_recipients.some;
    within = spelled.are_recipients.within;
    recipients = spelled.are_recipients.valid;
  };
  text = let limit_is = ap text_limit has.path_is in omega (arith, limit_is, short);
}

pub accept_is : (text : List ℕ) (at : ℕ) (path : List ℕ) (ret : ℕ) (envid : List ℕ) (recipients : List Recipient) (stored : List ℕ) (envelope : Envelope)
    → SpellsAccept text at path ret envid recipients stored → HasMailFields envelope path ret envid
    → text ≡ accept_octets (record { at = at; envelope = record envelope { recipients = recipients }; stored_text = stored })
accept_is text at path ret envid recipients stored envelope spelled has =
    spelled.text_is
    ∙ (λ i. octets_8 at ++ (sized_2 (has.path_is i) ++ (has.ret_is i ∷ (sized_2 (has.envid_is i) ++ (counted recipient_octets recipients ++ sized_4 stored)))))

-- its stored text ends it
stored_ends : (at : ℕ) (path : List ℕ) (ret : ℕ) (envid : List ℕ) (recipients : List Recipient) (stored : List ℕ)
    → Ends stored (octets_8 at ++ (sized_2 path ++ (ret ∷ (sized_2 envid ++ (counted recipient_octets recipients ++ sized_4 stored)))))
stored_ends at path ret envid recipients stored =
    ends_more (octets_8 at) stored _
    (ends_more (sized_2 path) stored _
    (ends_more (ret ∷ []) stored _
    (ends_more (sized_2 envid) stored _
    (ends_more (counted recipient_octets recipients) stored _
    (ends_more (octets_4 (length stored)) stored stored (ends_itself stored))))))

ends_text : (text : List ℕ) (at : ℕ) (path : List ℕ) (ret : ℕ) (envid : List ℕ) (recipients : List Recipient) (stored : List ℕ)
    → SpellsAccept text at path ret envid recipients stored → Ends stored text
ends_text text at path ret envid recipients stored spelled = subst (Ends stored) (sym spelled.text_is) (stored_ends at path ret envid recipients stored)

pub stored_within : (text : List ℕ) (at : ℕ) (path : List ℕ) (ret : ℕ) (envid : List ℕ) (recipients : List Recipient) (stored : List ℕ)
    → SpellsAccept text at path ret envid recipients stored → length stored ≤ length text
stored_within text at path ret envid recipients stored spelled = (ends_text text at path ret envid recipients stored spelled).within

-- what MAIL said, with the recipients and where the stored text begins
pub begins_accept : (text : List ℕ) (at : ℕ) (path : List ℕ) (ret : ℕ) (envid : List ℕ) (recipients : List Recipient) (stored : List ℕ) (envelope : Envelope)
    → SpellsAccept text at path ret envid recipients stored → IsMail envelope → HasMailFields envelope path ret envid → at ≤ LAST_SECOND → length stored ≤ text_limit path
    → BeginsAccept text at (record envelope { recipients = recipients }) (length text - length stored)
begins_accept text at path ret envid recipients stored envelope spelled mail has moment short =
    let ends = ends_text text at path ret envid recipients stored spelled in
    let last_is : stored ≡ drop (length text - length stored) text = sym ends.is_last in
    record {
      within = omega arith;
      valid = subst (λ (s : List ℕ). IsAccept (record { at = at; envelope = record envelope { recipients = recipients }; stored_text = s })) last_is
          (is_accept text at path ret envid recipients stored envelope spelled mail has moment short);
      text_is = accept_is text at path ret envid recipients stored envelope spelled has
          ∙ ap (λ (s : List ℕ). accept_octets (record { at = at; envelope = record envelope { recipients = recipients }; stored_text = s })) last_is;
    }

-- the same of what was made of the fields
pub head_found : (text : List ℕ) (at : ℕ) (path : List ℕ) (ret : ℕ) (envid : List ℕ) (recipients : List Recipient) (stored : List ℕ) (given envelope : Envelope) (moment head : ℕ)
    → SpellsAccept text at path ret envid recipients stored → IsMail given → HasMailFields given path ret envid → moment ≡ at → moment ≤ LAST_SECOND
    → length stored ≤ text_limit path → envelope ≡ given → head ≡ length text - length stored
    → BeginsAccept text moment (record envelope { recipients = recipients }) head
head_found text at path ret envid recipients stored given envelope moment head spelled mail has moment_is late short envelope_is head_is =
    subst (BeginsAccept text moment (record envelope { recipients = recipients })) (sym head_is)
    (subst (λ (e : Envelope). BeginsAccept text moment (record e { recipients = recipients }) (length text - length stored)) (sym envelope_is)
    (subst (λ n. BeginsAccept text n (record given { recipients = recipients }) (length text - length stored)) (sym moment_is)
    (begins_accept text at path ret envid recipients stored given spelled mail has (omega (arith, moment_is, late)) short)))

pub begun_is_accept : (text : List ℕ) (at : ℕ) (envelope : Envelope) (head : ℕ) (stored : List ℕ) → BeginsAccept text at envelope head → stored ≡ drop head text
    → IsAccept (record { at = at; envelope = envelope; stored_text = stored })
begun_is_accept text at envelope head stored begun is = subst (λ (s : List ℕ). IsAccept (record { at = at; envelope = envelope; stored_text = s })) (sym is) begun.valid

pub begun_is_text : (text : List ℕ) (at : ℕ) (envelope : Envelope) (head : ℕ) (stored : List ℕ) → BeginsAccept text at envelope head → stored ≡ drop head text
    → text ≡ accept_octets (record { at = at; envelope = envelope; stored_text = stored })
begun_is_text text at envelope head stored begun is = begun.text_is ∙ ap (λ (s : List ℕ). accept_octets (record { at = at; envelope = envelope; stored_text = s })) (sym is)

-- the same after the octet of an accept
pub begins_record : (text fields : List ℕ) (at : ℕ) (envelope : Envelope) (head : ℕ) → text ≡ 1 ∷ fields → BeginsAccept fields at envelope head → BeginsRecord text at envelope (head + 1)
begins_record text fields at envelope head is begun =
    let rest : drop head fields ≡ drop (head + 1) text = ap (λ n. drop n (1 ∷ fields)) (sym (add-one head)) ∙ ap (drop (head + 1)) (sym is) in
    let long = ap length is in
    let within = begun.within in
    record {
      within = omega (arith, long, within);
      valid = subst (λ (s : List ℕ). IsAccept (record { at = at; envelope = envelope; stored_text = s })) rest begun.valid;
      text_is = is ∙ ap (λ (l : List ℕ). 1 ∷ l) (begun.text_is ∙ ap (λ (s : List ℕ). accept_octets (record { at = at; envelope = envelope; stored_text = s })) rest);
    }

pub record_is_accept : (text : List ℕ) (at : ℕ) (envelope : Envelope) (head : ℕ) (stored : List ℕ) → BeginsRecord text at envelope head → stored ≡ drop head text
    → IsAccept (record { at = at; envelope = envelope; stored_text = stored })
record_is_accept text at envelope head stored begun is = subst (λ (s : List ℕ). IsAccept (record { at = at; envelope = envelope; stored_text = s })) (sym is) begun.valid

pub record_is_text : (text : List ℕ) (at : ℕ) (envelope : Envelope) (head : ℕ) (stored : List ℕ) → BeginsRecord text at envelope head → stored ≡ drop head text
    → text ≡ 1 ∷ accept_octets (record { at = at; envelope = envelope; stored_text = stored })
record_is_text text at envelope head stored begun is = begun.text_is ∙ ap (λ (l : List ℕ). 1 ∷ accept_octets (record { at = at; envelope = envelope; stored_text = l })) (sym is)

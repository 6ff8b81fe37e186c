-- The fields of a snapshot's message are one.
use Rattle.std.proofs.Common.{◌≡◌, ℕ, ◌<◌, ◌≤◌, ◌^◌, true, false, List, [], ◌∷◌, ◌++◌, length, map, refl, sym, subst, ap, ◌∙◌, arith}
use Rattle.std.specs.List.{AllByRecursion, list_any, zip}
use Rattle.std.proofs.lemmas.Bool.{false≢true}
use Rattle.std.proofs.lemmas.Slice.Zip.{length-zip, firsts-zip, seconds-zip}
use Rattle.relay_trace.specs.declared.moment.TheConstants.{LAST_SECOND}
use Rattle.relay_envelope.specs.declared.envelope.Envelope.{Envelope}
use Rattle.relay_envelope.specs.declared.envelope.Recipient.{Recipient}
use Rattle.relay_envelope.specs.Envelope.{IsRecipient}
use Rattle.relay_book.specs.declared.version.SnapshotVersion.{SnapshotVersion}
use Rattle.relay_book.specs.declared.message.Place.{Place}
use Rattle.relay_book.specs.declared.message.Message.{Message}
use Rattle.relay_book.specs.Fields.{HasMailFields, HasNoCounted, HasNoFields, HasNone, IsMail, IsNoMail, SpellsFields}
use Rattle.relay_book.specs.Queue.{is_held}
use Rattle.relay_book.specs.Record.{counted, octets_8, ret_number, sized_2, sized_4, text_limit, written}
use Rattle.relay_book.specs.Snapshot.{IsPlace, IsPlaceBy, IsQueuedBy, entry_octets, placed_octets}
use Rattle.relay_book.specs.SnapshotFields.{HasNoLong, IsPlacedBy, IsQueuedIn, ReadsPlaced, SpellsEntry, numbered}
use Rattle.relay_book.proofs.AcceptLemmas.{long_8}
use Rattle.relay_book.proofs.CodeLemmas.{code_8}
use Rattle.relay_book.proofs.FieldLemmas.{fields_are_one}
use Rattle.relay_book.proofs.RowLemmas.{counted_are_one}
use Rattle.relay_book.proofs.SnapshotLemmas.{code_entry, code_placed, same_entry, spelled_entry, spells_entry}

-- the message of these fields
abbrev pub message_from : ℕ → ℕ → Envelope → List Recipient → List ℕ → List Place → Message
message_from number at envelope recipients stored places = record {
  number = number;
  accept = record { at = at; envelope = record envelope { recipients = recipients }; stored_text = stored };
  places = places;
}

module _ (version : SnapshotVersion) where
  -- what stands after a message's moment
  abbrev after_this_moment : ℕ × Message → List ℕ → List ℕ
  after_this_moment entry rest =
      sized_2 entry.1.accept.envelope.reverse_path
      ++ (ret_number entry.1.accept.envelope.ret
      ∷ (sized_2 (written entry.1.accept.envelope.envid)
      ++ (counted (placed_octets version) (zip entry.1.accept.envelope.recipients entry.1.places) ++ (sized_4 entry.1.accept.stored_text ++ rest))))

  after_number : (text : List ℕ) (number : ℕ) (after : List ℕ) (entry : ℕ × Message) (rest : List ℕ) → text ≡ octets_8 number ++ after → number < 2 ^ 64
      → IsQueuedBy version entry → text ≡ entry_octets version entry ++ rest → after ≡ octets_8 entry.1.accept.at ++ after_this_moment entry rest
  after_number text number after entry rest is small valid e =
      let spelled = spells_entry version text rest entry valid e in
      (code_8 number entry.0 after _ small valid.is.number_fits (sym is ∙ spelled.text_is)).1

  after_moment : (after : List ℕ) (at : ℕ) (more : List ℕ) (entry : ℕ × Message) (rest : List ℕ) → after ≡ octets_8 at ++ more → at < 2 ^ 64
      → IsQueuedBy version entry → after ≡ octets_8 entry.1.accept.at ++ after_this_moment entry rest → more ≡ after_this_moment entry rest
  after_moment after at more entry rest is small valid e =
      let moment = valid.is.accept.moment in
      (code_8 at entry.1.accept.at more _ small (omega (arith, moment)) (sym is ∙ e)).1

  -- a message's fields of MAIL
  mail_fields : (more : List ℕ) (entry : ℕ × Message) (rest text : List ℕ) → IsQueuedBy version entry → text ≡ entry_octets version entry ++ rest → more ≡ after_this_moment entry rest
      → SpellsFields more entry.1.accept.envelope.reverse_path (ret_number entry.1.accept.envelope.ret) (written entry.1.accept.envelope.envid)
      (counted (placed_octets version) (zip entry.1.accept.envelope.recipients entry.1.places) ++ (sized_4 entry.1.accept.stored_text ++ rest))
  mail_fields more entry rest text valid e is =
      let spelled = spells_entry version text rest entry valid e in
      record { text_is = is; first_fits = spelled.path_fits; second_fits = spelled.envid_fits }

  -- where a field is missing
  pub no_number : (text : List ℕ) → length text < 8 → HasNone (IsQueuedBy version) (entry_octets version) text
  no_number text short = record {
    none = λ entry rest valid e.
        let spelled = spells_entry version text rest entry valid e in
        let long = long_8 text entry.0 _ spelled.text_is in
        omega (arith, short, long);
  }

  pub no_moment : (text : List ℕ) (number : ℕ) (after : List ℕ) → text ≡ octets_8 number ++ after → number < 2 ^ 64 → length after < 8
      → HasNone (IsQueuedBy version) (entry_octets version) text
  no_moment text number after is small short = record {
    none = λ entry rest valid e.
        let long = long_8 after entry.1.accept.at _ (after_number text number after entry rest is small valid e) in
        omega (arith, short, long);
  }

  pub no_mail_fields : (text : List ℕ) (number : ℕ) (after : List ℕ) (at : ℕ) (more : List ℕ) → text ≡ octets_8 number ++ after → number < 2 ^ 64
      → after ≡ octets_8 at ++ more → at < 2 ^ 64 → HasNoFields more → HasNone (IsQueuedBy version) (entry_octets version) text
  no_mail_fields text number after at more is small then less out = record {
    none = λ entry rest valid e.
        out.none _ _ _ _
        (mail_fields more entry rest text valid e (after_moment after at more entry rest then less valid (after_number text number after entry rest is small valid e)));
  }

  after_mail : (text : List ℕ) (number : ℕ) (after : List ℕ) (at : ℕ) (more path : List ℕ) (ret : ℕ) (envid last : List ℕ) (entry : ℕ × Message) (rest : List ℕ)
      → text ≡ octets_8 number ++ after → number < 2 ^ 64 → after ≡ octets_8 at ++ more → at < 2 ^ 64 → SpellsFields more path ret envid last
      → IsQueuedBy version entry → text ≡ entry_octets version entry ++ rest
      → last ≡ counted (placed_octets version) (zip entry.1.accept.envelope.recipients entry.1.places) ++ (sized_4 entry.1.accept.stored_text ++ rest)
  after_mail text number after at more path ret envid last entry rest is small then less fields valid e =
      (fields_are_one more path ret envid last entry.1.accept.envelope.reverse_path (ret_number entry.1.accept.envelope.ret) (written entry.1.accept.envelope.envid) _ fields
      (mail_fields more entry rest text valid e (after_moment after at more entry rest then less valid (after_number text number after entry rest is small valid e)))).3

  pub no_placed : (text : List ℕ) (number : ℕ) (after : List ℕ) (at : ℕ) (more path : List ℕ) (ret : ℕ) (envid last : List ℕ)
      → text ≡ octets_8 number ++ after → number < 2 ^ 64 → after ≡ octets_8 at ++ more → at < 2 ^ 64 → SpellsFields more path ret envid last
      → HasNoCounted (IsPlacedBy version) (placed_octets version) last → HasNone (IsQueuedBy version) (entry_octets version) text
  no_placed text number after at more path ret envid last is small then less fields out = record {
    none = λ entry rest valid e.
        out.none _ _ (spells_entry version text rest entry valid e).are_placed (after_mail text number after at more path ret envid last entry rest is small then less fields valid e);
  }

  pub no_stored_text : (text : List ℕ) (number : ℕ) (after : List ℕ) (at : ℕ) (more path : List ℕ) (ret : ℕ) (envid last : List ℕ) (recipients : List Recipient) (places : List Place) (end : List ℕ)
      → text ≡ octets_8 number ++ after → number < 2 ^ 64 → after ≡ octets_8 at ++ more → at < 2 ^ 64 → SpellsFields more path ret envid last
      → ReadsPlaced version last recipients places end → HasNoLong end → HasNone (IsQueuedBy version) (entry_octets version) text
  no_stored_text text number after at more path ret envid last recipients places end is small then less fields reads out = record {
    none = λ entry rest valid e.
        let spelled = spells_entry version text rest entry valid e in
        let same = counted_are_one (IsPlacedBy version) (placed_octets version) (code_placed version) (zip recipients places) (zip entry.1.accept.envelope.recipients entry.1.places) end _
        reads.are spelled.are_placed (sym reads.text_is ∙ after_mail text number after at more path ret envid last entry rest is small then less fields valid e) in
        out.none _ _ spelled.stored_fits same.1;
  }

  -- where a field is not as it may be
  pub bad_mail : (text : List ℕ) (number at : ℕ) (path : List ℕ) (ret : ℕ) (envid : List ℕ) (recipients : List Recipient) (places : List Place) (stored after : List ℕ)
      → SpellsEntry version text number at path ret envid recipients places stored after → IsNoMail path ret envid → HasNone (IsQueuedBy version) (entry_octets version) text
  bad_mail text number at path ret envid recipients places stored after spelled out = record {
    none = λ entry rest valid e.
        let same = same_entry version text number at path ret envid recipients places stored after entry rest spelled valid e in
        out.none entry.1.accept.envelope (record { reverse_path = valid.is.accept.envelope.reverse_path; envid = valid.is.accept.envelope.envid })
        (record { path_is = same.path_is; ret_is = same.ret_is; envid_is = same.envid_is });
  }

  pub bad_moment : (text : List ℕ) (number at : ℕ) (path : List ℕ) (ret : ℕ) (envid : List ℕ) (recipients : List Recipient) (places : List Place) (stored after : List ℕ)
      → SpellsEntry version text number at path ret envid recipients places stored after → LAST_SECOND < at → HasNone (IsQueuedBy version) (entry_octets version) text
  bad_moment text number at path ret envid recipients places stored after spelled late = record {
    none = λ entry rest valid e.
        let same = (same_entry version text number at path ret envid recipients places stored after entry rest spelled valid e).at_is in
        let moment = valid.is.accept.moment in
        omega (arith, same, moment, late);
  }

  pub bad_text : (text : List ℕ) (number at : ℕ) (path : List ℕ) (ret : ℕ) (envid : List ℕ) (recipients : List Recipient) (places : List Place) (stored after : List ℕ)
      → SpellsEntry version text number at path ret envid recipients places stored after → text_limit path < length stored → HasNone (IsQueuedBy version) (entry_octets version) text
  bad_text text number at path ret envid recipients places stored after spelled long = record {
    none = λ entry rest valid e.
        let same = same_entry version text number at path ret envid recipients places stored after entry rest spelled valid e in
        let length_is = ap length same.stored_is in
        let limit_is = ap text_limit same.path_is in
        let within = valid.is.accept.text in
        omega (arith, length_is, limit_is, within, long);
  }

  pub bad_places : (text : List ℕ) (number at : ℕ) (path : List ℕ) (ret : ℕ) (envid : List ℕ) (recipients : List Recipient) (places : List Place) (stored after : List ℕ)
      → SpellsEntry version text number at path ret envid recipients places stored after → list_any is_held places ≡ false → HasNone (IsQueuedBy version) (entry_octets version) text
  bad_places text number at path ret envid recipients places stored after spelled none_held = record {
    none = λ entry rest valid e.
        let same = same_entry version text number at path ret envid recipients places stored after entry rest spelled valid e in
        false≢true (sym none_held ∙ ap (list_any is_held) same.places_are ∙ valid.is.some);
  }

  -- recipients and places of a row that may be stored
  firsts_valid : (placed : List (Recipient × Place)) → AllByRecursion (IsPlacedBy version) placed → AllByRecursion IsRecipient (map (λ (p : Recipient × Place). p.0) placed)
  firsts_valid [] all = tt
  firsts_valid (one ∷ placed) all = (all.0.recipient, firsts_valid placed all.1)

  seconds_valid : (placed : List (Recipient × Place)) → AllByRecursion (IsPlacedBy version) placed → AllByRecursion (IsPlaceBy version) (map (λ (p : Recipient × Place). p.1) placed)
  seconds_valid [] all = tt
  seconds_valid (one ∷ placed) all = (all.0.place, seconds_valid placed all.1)

  -- places that may be stored by a version may be stored
  are_places : (places : List Place) → AllByRecursion (IsPlaceBy version) places → AllByRecursion IsPlace places
  are_places [] all = tt
  are_places (place ∷ places) all = (all.0.is, are_places places all.1)

  pub is_queued : (text : List ℕ) (number at : ℕ) (path : List ℕ) (ret : ℕ) (envid : List ℕ) (recipients : List Recipient) (places : List Place) (stored after : List ℕ)
      (envelope : Envelope) → SpellsEntry version text number at path ret envid recipients places stored after → IsMail envelope → HasMailFields envelope path ret envid
      → at ≤ LAST_SECOND → length stored ≤ text_limit path → list_any is_held places ≡ true
      → IsQueuedBy version (numbered (message_from number at envelope recipients stored places))
  is_queued text number at path ret envid recipients places stored after envelope spelled mail has moment short some =
      let zipped = length-zip recipients places in
      let many = spelled.as_many in
      let least = spelled.are_placed.some in
      let most = spelled.are_placed.within in
      let may = subst (AllByRecursion (IsPlaceBy version)) (seconds-zip recipients places spelled.as_many) (seconds_valid (zip recipients places) spelled.are_placed.valid) in
      record {
        is = record {
          number_is = refl;
          number_fits = spelled.number_fits;
          accept = record {
            moment = moment;
            envelope = record {
              reverse_path = mail.reverse_path;
              envid = mail.envid;
              some = omega (arith, zipped, many, least);
              within = omega (arith, zipped, many, most);
              recipients = subst (AllByRecursion IsRecipient) (firsts-zip recipients places spelled.as_many) (firsts_valid (zip recipients places) spelled.are_placed.valid);
            };
            text = let limit_is = ap text_limit has.path_is in omega (arith, limit_is, short);
          };
          as_many = spelled.as_many;
          places = are_places places may;
          some = some;
        };
        places = may;
      }

  pub entry_is : (text : List ℕ) (number at : ℕ) (path : List ℕ) (ret : ℕ) (envid : List ℕ) (recipients : List Recipient) (places : List Place) (stored after : List ℕ)
      (envelope : Envelope) → SpellsEntry version text number at path ret envid recipients places stored after → HasMailFields envelope path ret envid
      → text ≡ entry_octets version (numbered (message_from number at envelope recipients stored places)) ++ after
  entry_is text number at path ret envid recipients places stored after envelope spelled has =
      spelled_entry version text after (numbered (message_from number at envelope recipients stored places)) (record {
        text_is = spelled.text_is
            ∙ (λ i. octets_8 number
            ++ (octets_8 at
            ++ (sized_2 (has.path_is i)
            ++ (has.ret_is i ∷ (sized_2 (has.envid_is i) ++ (counted (placed_octets version) (zip recipients places) ++ (sized_4 stored ++ after)))))));
        number_fits = spelled.number_fits;
        at_fits = spelled.at_fits;
        path_fits = let same = ap length has.path_is in let fits = spelled.path_fits in omega (arith, same, fits);
        envid_fits = let same = ap length has.envid_is in let fits = spelled.envid_fits in omega (arith, same, fits);
        as_many = spelled.as_many;
        are_placed = spelled.are_placed;
        stored_fits = spelled.stored_fits;
      })

  -- the message that was made of the fields
  pub entry_found : (text : List ℕ) (number at : ℕ) (path : List ℕ) (ret : ℕ) (envid : List ℕ) (recipients : List Recipient) (places : List Place) (stored after : List ℕ)
      (given envelope : Envelope) (moment : ℕ) (copy : List ℕ) → SpellsEntry version text number at path ret envid recipients places stored after
      → IsMail given → HasMailFields given path ret envid → moment ≡ at → moment ≤ LAST_SECOND → length stored ≤ text_limit path → list_any is_held places ≡ true
      → envelope ≡ given → copy ≡ stored
      → IsQueuedBy version (numbered (message_from number moment envelope recipients copy places))
      × (text ≡ entry_octets version (numbered (message_from number moment envelope recipients copy places)) ++ after)
  entry_found text number at path ret envid recipients places stored after given envelope moment copy spelled mail has moment_is late short some envelope_is copy_is =
      let made : message_from number at given recipients stored places ≡ message_from number moment envelope recipients copy places =
      (λ i. message_from number (sym moment_is i) (sym envelope_is i) recipients (sym copy_is i) places) in (
        subst (λ (m : Message). IsQueuedBy version (numbered m)) made
            (is_queued text number at path ret envid recipients places stored after given spelled mail has (omega (arith, moment_is, late)) short some),
        subst (λ (m : Message). text ≡ entry_octets version (numbered m) ++ after) made
            (entry_is text number at path ret envid recipients places stored after given spelled has),
      )

  -- a message out of a row's numbers
  pub none_in : (text : List ℕ) (least next : ℕ) → HasNone (IsQueuedBy version) (entry_octets version) text → HasNone (IsQueuedIn version least next) (entry_octets version) text
  none_in text least next out = record { none = λ entry rest valid e. out.none entry rest valid.queued e }

  pub out_of_row : (text : List ℕ) (least next : ℕ) (message : Message) (after : List ℕ) → IsQueuedBy version (numbered message) → text ≡ entry_octets version (numbered message) ++ after
      → (least ≤ message.number → message.number < next → ⊥) → HasNone (IsQueuedIn version least next) (entry_octets version) text
  out_of_row text least next message after valid is out = record {
    none = λ entry rest also e.
        let same = code_entry version (numbered message) entry after rest valid also.queued (sym is ∙ e) in
        let number_is = ap (λ (n : ℕ × Message). n.0) same.0 in
        let low = also.low in
        let high = also.high in
        out (omega (arith, number_is, low)) (omega (arith, number_is, high));
  }

-- fields of which no entry is made
pub ruleset refused_entries = (bad_mail, bad_moment, bad_text, bad_places)

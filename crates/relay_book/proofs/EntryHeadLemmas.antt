-- A snapshot's message of which the stored text need not be there.
use Rattle.std.proofs.Common.{◌≡◌, ◌⊎◌, inl, inr, ℕ, ◌<◌, ◌≤◌, ◌^◌, true, false, List, [], ◌∷◌, ◌++◌, length, take, drop, refl, sym, ap, ◌∙◌, arith, append_assoc, take-append-drop}
use Rattle.std.specs.List.{list_any, zip}
use Rattle.std.proofs.lemmas.Bool.{cases_lt}
use Rattle.std.proofs.lemmas.List.{length-take-le}
use Rattle.relay_trace.specs.declared.moment.TheConstants.{LAST_SECOND}
use Rattle.relay_envelope.specs.declared.envelope.Envelope.{Envelope}
use Rattle.relay_envelope.specs.declared.envelope.Recipient.{Recipient}
use Rattle.relay_book.specs.declared.version.SnapshotVersion.{SnapshotVersion}
use Rattle.relay_book.specs.declared.message.Place.{Place}
use Rattle.relay_book.specs.Fields.{HasMailFields, HasNone, IsMail, SpellsFields}
use Rattle.relay_book.specs.FirstOutline.{OutlinesHead, outline_of_length}
use Rattle.relay_book.specs.Queue.{is_held}
use Rattle.relay_book.specs.Record.{counted, octets_4, octets_8, sized_2, sized_4, text_limit}
use Rattle.relay_book.specs.Snapshot.{IsQueuedBy, entry_octets, placed_octets}
use Rattle.relay_book.specs.SnapshotFields.{HasNoLong, IsQueuedIn, ReadsPlaced, SpellsEntry, SpellsEntryHead}
use Rattle.relay_book.proofs.EntryFieldLemmas.{bad_places, bad_text, entry_found, message_from, no_stored_text, none_in}
use Rattle.relay_book.proofs.LongLemmas.{none_cut, none_short}
use Rattle.relay_book.proofs.OutlineLemmas.{outline_by_length}
use Rattle.relay_book.proofs.SnapshotLemmas.{fields_joined, fields_octets, same_entry}

module _ (version : SnapshotVersion) where
  pub entry_head : (text : List ℕ) (number : ℕ) (after : List ℕ) (at : ℕ) (more path : List ℕ) (ret : ℕ) (envid last : List ℕ) (recipients : List Recipient) (places : List Place)
      (end : List ℕ) → text ≡ octets_8 number ++ after → number < 2 ^ 64 → after ≡ octets_8 at ++ more → at < 2 ^ 64 → SpellsFields more path ret envid last
      → ReadsPlaced version last recipients places end → SpellsEntryHead version text number at path ret envid recipients places end
  entry_head text number after at more path ret envid last recipients places end is small then less fields reads = record {
    text_is = is ∙ ap (λ (l : List ℕ). octets_8 number ++ l) (then ∙ ap (λ (l : List ℕ). octets_8 at ++ l) fields.text_is)
        ∙ ap (λ (l : List ℕ). octets_8 number ++ (octets_8 at ++ (sized_2 path ++ (ret ∷ (sized_2 envid ++ l))))) reads.text_is;
    number_fits = small;
    at_fits = less;
    path_fits = fields.first_fits;
    envid_fits = fields.second_fits;
    as_many = reads.as_many;
    are_placed = reads.are;
  }

  -- no stored text follows
  pub no_long : (text : List ℕ) (number at : ℕ) (path : List ℕ) (ret : ℕ) (envid : List ℕ) (recipients : List Recipient) (places : List Place) (end : List ℕ)
      → SpellsEntryHead version text number at path ret envid recipients places end → HasNoLong end → HasNone (IsQueuedBy version) (entry_octets version) text
  no_long text number at path ret envid recipients places end spelled out =
      let last = counted (placed_octets version) (zip recipients places) ++ end in
      let more = sized_2 path ++ (ret ∷ (sized_2 envid ++ last)) in
      no_stored_text version text number (octets_8 at ++ more) at more path ret envid last recipients places end spelled.text_is spelled.number_fits refl spelled.at_fits
      (record { text_is = refl; first_fits = spelled.path_fits; second_fits = spelled.envid_fits }) (record { as_many = spelled.as_many; are = spelled.are_placed; text_is = refl }) out

  pub short_end : (text : List ℕ) (number at : ℕ) (path : List ℕ) (ret : ℕ) (envid : List ℕ) (recipients : List Recipient) (places : List Place) (end : List ℕ) (least next : ℕ)
      → SpellsEntryHead version text number at path ret envid recipients places end → length end < 4 → HasNone (IsQueuedIn version least next) (entry_octets version) text
  short_end text number at path ret envid recipients places end least next spelled short =
      none_in version text least next (no_long text number at path ret envid recipients places end spelled (none_short end short))

  -- one does
  pub entry_of : (text : List ℕ) (number at : ℕ) (path : List ℕ) (ret : ℕ) (envid : List ℕ) (recipients : List Recipient) (places : List Place) (end stored rest : List ℕ)
      → SpellsEntryHead version text number at path ret envid recipients places end → end ≡ sized_4 stored ++ rest → length stored < 2 ^ 32
      → SpellsEntry version text number at path ret envid recipients places stored rest
  entry_of text number at path ret envid recipients places end stored rest spelled is fits = record {
    text_is = spelled.text_is
        ∙ ap (λ (l : List ℕ). octets_8 number ++ (octets_8 at ++ (sized_2 path ++ (ret ∷ (sized_2 envid ++ (counted (placed_octets version) (zip recipients places) ++ l)))))) is;
    number_fits = spelled.number_fits;
    at_fits = spelled.at_fits;
    path_fits = spelled.path_fits;
    envid_fits = spelled.envid_fits;
    as_many = spelled.as_many;
    are_placed = spelled.are_placed;
    stored_fits = fits;
  }

  -- the same with octets after
  head_more : (text : List ℕ) (number at : ℕ) (path : List ℕ) (ret : ℕ) (envid : List ℕ) (recipients : List Recipient) (places : List Place) (end more : List ℕ)
      → SpellsEntryHead version text number at path ret envid recipients places end
      → SpellsEntryHead version (text ++ more) number at path ret envid recipients places (end ++ more)
  unfolding fields_octets
  head_more text number at path ret envid recipients places end more spelled = record {
    text_is = ap (λ (l : List ℕ). l ++ more) spelled.text_is ∙ fields_joined version number at path ret envid (zip recipients places) end more;
    number_fits = spelled.number_fits;
    at_fits = spelled.at_fits;
    path_fits = spelled.path_fits;
    envid_fits = spelled.envid_fits;
    as_many = spelled.as_many;
    are_placed = spelled.are_placed;
  }

  -- a text of this length that goes on after what is there
  text_goes_on : (end rest stored after more : List ℕ) (count : ℕ) → end ≡ octets_4 count ++ rest → length stored ≡ count → rest ++ more ≡ stored ++ after
      → end ++ more ≡ sized_4 stored ++ after
  text_goes_on end rest stored after more count is long e =
      ap (λ (l : List ℕ). l ++ more) is ∙ append_assoc (octets_4 count) rest more ∙ ap (λ (l : List ℕ). octets_4 count ++ l) e
      ∙ ap (λ (n : ℕ). octets_4 n ++ (stored ++ after)) (sym long) ∙ sym (append_assoc (octets_4 (length stored)) stored after)

  with_text : (text : List ℕ) (number at : ℕ) (path : List ℕ) (ret : ℕ) (envid : List ℕ) (recipients : List Recipient) (places : List Place) (end : List ℕ) (count : ℕ)
      (rest stored after more : List ℕ) → SpellsEntryHead version text number at path ret envid recipients places end → end ≡ octets_4 count ++ rest → count < 2 ^ 32
      → length stored ≡ count → rest ++ more ≡ stored ++ after → SpellsEntry version (text ++ more) number at path ret envid recipients places stored after
  with_text text number at path ret envid recipients places end count rest stored after more spelled is small long e =
      entry_of (text ++ more) number at path ret envid recipients places (end ++ more) stored after (head_more text number at path ret envid recipients places end more spelled)
      (text_goes_on end rest stored after more count is long e) (omega (arith, long, small))

  -- a message is refused for what is before its stored text
  pub text_refused : (text : List ℕ) (number at : ℕ) (path : List ℕ) (ret : ℕ) (envid : List ℕ) (recipients : List Recipient) (places : List Place) (end : List ℕ) (count : ℕ)
      (rest : List ℕ) (least next : ℕ) → SpellsEntryHead version text number at path ret envid recipients places end → end ≡ octets_4 count ++ rest → count < 2 ^ 32
      → ((stored after : List ℕ) → length stored ≡ count → SpellsEntry version text number at path ret envid recipients places stored after
      → HasNone (IsQueuedIn version least next) (entry_octets version) text)
      → HasNone (IsQueuedIn version least next) (entry_octets version) text
  text_refused text number at path ret envid recipients places end count rest least next spelled is small out = by (cases_lt (length rest) count)
    where
      by : (length rest < count) ⊎ (count ≤ length rest) → HasNone (IsQueuedIn version least next) (entry_octets version) text
      by (inl less) = none_in version text least next (no_long text number at path ret envid recipients places end spelled (none_cut end count rest is small less))
      by (inr enough) =
          let stored = take count rest in
          let after = drop count rest in
          let long : length stored ≡ count = length-take-le count rest enough in
          out stored after long
          (entry_of text number at path ret envid recipients places end stored after spelled
          (is ∙ ap (λ (l : List ℕ). octets_4 count ++ l) (sym (take-append-drop count rest)) ∙ ap (λ (n : ℕ). octets_4 n ++ (stored ++ after)) (sym long)
          ∙ sym (append_assoc (octets_4 (length stored)) stored after))
          (omega (arith, long, small)))

  -- for its number
  pub out_of_range : (text : List ℕ) (number at : ℕ) (path : List ℕ) (ret : ℕ) (envid : List ℕ) (recipients : List Recipient) (places : List Place) (stored after : List ℕ) (least next : ℕ)
      → SpellsEntry version text number at path ret envid recipients places stored after → (least ≤ number → number < next → ⊥)
      → HasNone (IsQueuedIn version least next) (entry_octets version) text
  out_of_range text number at path ret envid recipients places stored after least next spelled out = record {
    none = λ entry rest valid e.
        let same = (same_entry version text number at path ret envid recipients places stored after entry rest spelled valid.queued e).number_is in
        let low = valid.low in
        let high = valid.high in
        out (omega (arith, same, low)) (omega (arith, same, high));
  }

  pub long_text : (text : List ℕ) (number at : ℕ) (path : List ℕ) (ret : ℕ) (envid : List ℕ) (recipients : List Recipient) (places : List Place) (end : List ℕ) (count : ℕ)
      (rest : List ℕ) (least next : ℕ) → SpellsEntryHead version text number at path ret envid recipients places end → end ≡ octets_4 count ++ rest → count < 2 ^ 32
      → text_limit path < count → HasNone (IsQueuedIn version least next) (entry_octets version) text
  long_text text number at path ret envid recipients places end count rest least next spelled is small long =
      text_refused text number at path ret envid recipients places end count rest least next spelled is small
      (λ stored after length_is whole.
      none_in version text least next (bad_text version text number at path ret envid recipients places stored after whole (omega (arith, length_is, long))))

  pub none_held : (text : List ℕ) (number at : ℕ) (path : List ℕ) (ret : ℕ) (envid : List ℕ) (recipients : List Recipient) (places : List Place) (end : List ℕ) (count : ℕ)
      (rest : List ℕ) (least next : ℕ) → SpellsEntryHead version text number at path ret envid recipients places end → end ≡ octets_4 count ++ rest → count < 2 ^ 32
      → list_any is_held places ≡ false → HasNone (IsQueuedIn version least next) (entry_octets version) text
  none_held text number at path ret envid recipients places end count rest least next spelled is small none =
      text_refused text number at path ret envid recipients places end count rest least next spelled is small
      (λ stored after length_is whole. none_in version text least next (bad_places version text number at path ret envid recipients places stored after whole none))

  pub low_number : (text : List ℕ) (number at : ℕ) (path : List ℕ) (ret : ℕ) (envid : List ℕ) (recipients : List Recipient) (places : List Place) (end : List ℕ) (count : ℕ)
      (rest : List ℕ) (least next : ℕ) → SpellsEntryHead version text number at path ret envid recipients places end → end ≡ octets_4 count ++ rest → count < 2 ^ 32
      → number < least → HasNone (IsQueuedIn version least next) (entry_octets version) text
  low_number text number at path ret envid recipients places end count rest least next spelled is small low =
      text_refused text number at path ret envid recipients places end count rest least next spelled is small
      (λ stored after length_is whole. out_of_range text number at path ret envid recipients places stored after least next whole (λ some few. omega (arith, some, low)))

  pub high_number : (text : List ℕ) (number at : ℕ) (path : List ℕ) (ret : ℕ) (envid : List ℕ) (recipients : List Recipient) (places : List Place) (end : List ℕ) (count : ℕ)
      (rest : List ℕ) (least next : ℕ) → SpellsEntryHead version text number at path ret envid recipients places end → end ≡ octets_4 count ++ rest → count < 2 ^ 32
      → next ≤ number → HasNone (IsQueuedIn version least next) (entry_octets version) text
  high_number text number at path ret envid recipients places end count rest least next spelled is small high =
      text_refused text number at path ret envid recipients places end count rest least next spelled is small
      (λ stored after length_is whole. out_of_range text number at path ret envid recipients places stored after least next whole (λ some few. omega (arith, few, high)))

  -- the outline that was made of the fields
  pub outline_found : (text : List ℕ) (number at : ℕ) (path : List ℕ) (ret : ℕ) (envid : List ℕ) (recipients : List Recipient) (places : List Place) (end : List ℕ) (count : ℕ)
      (rest : List ℕ) (least next : ℕ) (given envelope : Envelope) (moment : ℕ) (copy : List ℕ)
      → SpellsEntryHead version text number at path ret envid recipients places end → end ≡ octets_4 count ++ rest → count < 2 ^ 32
      → IsMail given → HasMailFields given path ret envid → moment ≡ at → moment ≤ LAST_SECOND → count ≤ text_limit path → list_any is_held places ≡ true
      → least ≤ number → number < next → envelope ≡ given → copy ≡ outline_of_length count
      → OutlinesHead version least next text (message_from number moment envelope recipients copy places) count rest
  unfolding fields_octets
  outline_found text number at path ret envid recipients places end count rest least next given envelope moment copy spelled is small mail has moment_is late short some low high
      envelope_is copy_is = record {
        head = fields_octets version number at path ret envid (zip recipients places) (octets_4 count);
        text_is = spelled.text_is
            ∙ ap (λ (l : List ℕ). fields_octets version number at path ret envid (zip recipients places) l) is
            ∙ sym (fields_joined version number at path ret envid (zip recipients places) (octets_4 count) rest);
        has = λ stored after more long e.
            let whole = with_text text number at path ret envid recipients places end count rest stored after more spelled is small long e in
            let found = entry_found version (text ++ more) number at path ret envid recipients places stored after given envelope moment stored whole mail has moment_is late
            (omega (arith, long, short)) some envelope_is refl in
            record {
              message = message_from number moment envelope recipients stored places;
              is_queued = record { queued = found.0; low = low; high = high };
              text_is = found.1;
              outline_is = ap (λ (text_there : List ℕ). message_from number moment envelope recipients text_there places)
                  (copy_is ∙ ap outline_of_length (sym long) ∙ outline_by_length stored);
            };
      }

-- Recipients, each followed by its place.
use Rattle.std.proofs.Common.{◌≡◌, ℕ, suc, ◌+◌, ◌<◌, ◌≤◌, ◌^◌, Bool, true, false, List, [], ◌∷◌, ◌++◌, length, refl, sym, ap, subst, ◌∙◌, arith, append_assoc, length-append}
use Rattle.std.specs.List.{flat_map, zip}
use Rattle.std.proofs.lemmas.Slice.Zip.{length-zip}
use Rattle.relay_envelope.specs.declared.envelope.Recipient.{Recipient}
use Rattle.relay_envelope.specs.Envelope.{IsRecipient}
use Rattle.relay_book.specs.declared.version.SnapshotVersion.{SnapshotVersion}
use Rattle.relay_book.specs.declared.version.SnapshotVersion.TheVariants.{WithoutDelay, WithDelay}
use Rattle.relay_book.specs.declared.message.Place.{Place}
use Rattle.relay_book.specs.Fields.{HaveCount, HasNone, HasNoRow}
use Rattle.relay_book.specs.Record.{counted, octets_8, recipient_octets, worth}
use Rattle.relay_book.specs.Snapshot.{IsPlace, IsPlaceBy, MaySay, delay_octets, placed_octets, place_octets}
use Rattle.relay_book.specs.SnapshotFields.{CountsAs, HasNoDelay, HasNoPlaceFields, HasPlaceFields, IsNoPlace, IsPlacedBy, ReadsPlaced, ReadsRow, SpellsDelay, SpellsPlace}
use Rattle.relay_book.proofs.AcceptLemmas.{long_8}
use Rattle.relay_book.proofs.CodeLemmas.{code_8}
use Rattle.relay_book.proofs.FieldLemmas.{same_head}
use Rattle.relay_book.proofs.RowLemmas.{is_counted, no_row, one_more_read, one_more_valid}
use Rattle.relay_book.proofs.SnapshotLemmas.{code_placed}
use Rattle.relay_book.proofs.ValueLemmas.{code_recipient}

-- where the fields are no place's
pub no_held : (held laters delayed due : ℕ) → (held ≡ 0 → ⊥) → (held ≡ 1 → ⊥) → IsNoPlace held laters delayed due
no_held held laters delayed due left there = record { none = λ place valid has. by place.held has.held_is }
  where
    by : (given : Bool) → held ≡ worth given 1 → ⊥
    by true is = there is
    by false is = left is

pub no_left : (laters delayed due : ℕ) → (laters ≡ 0 → delayed ≡ 0 → due ≡ 0 → ⊥) → IsNoPlace 0 laters delayed due
no_left laters delayed due out = record { none = λ place valid has. by place valid has place.held refl }
  where
    by : (place : Place) → IsPlace place → HasPlaceFields place 0 laters delayed due → (held : Bool) → place.held ≡ held → ⊥
    by place valid has true is = let held : 0 ≡ 1 = has.held_is ∙ ap (λ (b : Bool). worth b 1) is in omega (arith, held)
    by place valid has false is =
        let left = valid.left is in
        out (has.laters_are ∙ left.0) (has.delayed_is ∙ ap (λ (b : Bool). worth b 1) left.1) (has.due_is ∙ left.2)

pub no_more_laters : (laters delayed due : ℕ) → 4 < laters → IsNoPlace 1 laters delayed due
no_more_laters laters delayed due many = record {
  none = λ place valid has. let few = valid.laters in let is = has.laters_are in omega (arith, few, is, many);
}

pub no_delayed : (laters delayed due : ℕ) → (delayed ≡ 0 → ⊥) → (delayed ≡ 1 → ⊥) → IsNoPlace 1 laters delayed due
no_delayed laters delayed due none once = record { none = λ place valid has. by place.delayed has.delayed_is }
  where
    by : (given : Bool) → delayed ≡ worth given 1 → ⊥
    by true is = once is
    by false is = none is

-- what is said of a delay
pub nothing_said : (text : List ℕ) → SpellsDelay WithoutDelay text 0 text
nothing_said text = record { text_is = refl; counts = refl }

pub one_said : (text : List ℕ) (delayed : ℕ) (rest : List ℕ) → text ≡ delayed ∷ rest → SpellsDelay WithDelay text delayed rest
one_said text delayed rest is = record { text_is = is; counts = tt }

pub none_said : (text : List ℕ) → length text ≡ 0 → HasNoDelay WithDelay text
none_said text empty = record {
  none = λ delayed rest spelled. let long : length text ≡ suc (length rest) = ap length spelled.text_is in omega (arith, long, empty);
}

-- a version says one number of a delay
pub delay_is_one : (version : SnapshotVersion) (delayed other : ℕ) (x y : List ℕ) → CountsAs version delayed → CountsAs version other
    → delay_octets version delayed ++ x ≡ delay_octets version other ++ y → (delayed ≡ other) × (x ≡ y)
delay_is_one WithoutDelay delayed other x y counts also e = (counts ∙ sym also, e)
delay_is_one WithDelay delayed other x y counts also e = same_head delayed other x y e

-- what may be said counts as it is
pub said_counts : (version : SnapshotVersion) (delayed : Bool) → MaySay version delayed → CountsAs version (worth delayed 1)
said_counts WithoutDelay delayed may = ap (λ (b : Bool). worth b 1) may
said_counts WithDelay delayed may = tt

worth_is_none : (delayed : Bool) → worth delayed 1 ≡ 0 → delayed ≡ false
worth_is_none false is = refl
worth_is_none true is = absurd (omega (arith, is))

pub counted_may : (version : SnapshotVersion) (delayed : Bool) (number : ℕ) → CountsAs version number → number ≡ worth delayed 1 → MaySay version delayed
counted_may WithoutDelay delayed number counts is = worth_is_none delayed (sym is ∙ counts)
counted_may WithDelay delayed number counts is = tt

module _ (version : SnapshotVersion) where
  -- where a field of a place is missing
  pub no_octet : (text : List ℕ) → length text ≡ 0 → HasNoPlaceFields version text
  no_octet text empty = record {
    none = λ held laters delayed due rest spelled.
        let long : length text ≡ suc (suc (length (delay_octets version delayed ++ (octets_8 due ++ rest)))) = ap length spelled.text_is in
        omega (arith, long, empty);
  }

  pub no_laters : (text : List ℕ) (held : ℕ) (after : List ℕ) → text ≡ held ∷ after → length after ≡ 0 → HasNoPlaceFields version text
  no_laters text held after is empty = record {
    none = λ other laters delayed due rest spelled.
        let long : length (held ∷ after) ≡ suc (suc (length (delay_octets version delayed ++ (octets_8 due ++ rest)))) = ap length (sym is ∙ spelled.text_is) in
        omega (arith, long, empty);
  }

  after_laters : (text : List ℕ) (held : ℕ) (more : List ℕ) (laters : ℕ) (after : List ℕ) (other others delayed due : ℕ) (rest : List ℕ) → text ≡ held ∷ more
      → more ≡ laters ∷ after → SpellsPlace version text other others delayed due rest → after ≡ delay_octets version delayed ++ (octets_8 due ++ rest)
  after_laters text held more laters after other others delayed due rest is then spelled =
      let first = same_head held other more (others ∷ (delay_octets version delayed ++ (octets_8 due ++ rest))) (sym is ∙ spelled.text_is) in
      (same_head laters others after (delay_octets version delayed ++ (octets_8 due ++ rest)) (sym then ∙ first.1)).1

  pub no_delay : (text : List ℕ) (held : ℕ) (more : List ℕ) (laters : ℕ) (after : List ℕ) → text ≡ held ∷ more → more ≡ laters ∷ after
      → HasNoDelay version after → HasNoPlaceFields version text
  no_delay text held more laters after is then out = record {
    none = λ other others delayed due rest spelled.
        out.none delayed (octets_8 due ++ rest) (record {
          text_is = after_laters text held more laters after other others delayed due rest is then spelled;
          counts = spelled.counts;
        });
  }

  pub no_due : (text : List ℕ) (held : ℕ) (more : List ℕ) (laters : ℕ) (after : List ℕ) (delayed : ℕ) (last : List ℕ) → text ≡ held ∷ more → more ≡ laters ∷ after
      → SpellsDelay version after delayed last → length last < 8 → HasNoPlaceFields version text
  no_due text held more laters after delayed last is then said short = record {
    none = λ other others again due rest spelled.
        let same = delay_is_one version delayed again last (octets_8 due ++ rest) said.counts spelled.counts
        (sym said.text_is ∙ after_laters text held more laters after other others again due rest is then spelled) in
        let long = long_8 last due rest same.1 in
        omega (arith, long, short);
  }

  pub fields_are : (text : List ℕ) (held : ℕ) (more : List ℕ) (laters : ℕ) (after : List ℕ) (delayed : ℕ) (last : List ℕ) (due : ℕ) (rest : List ℕ) → text ≡ held ∷ more
      → more ≡ laters ∷ after → SpellsDelay version after delayed last → last ≡ octets_8 due ++ rest → due < 2 ^ 64 → SpellsPlace version text held laters delayed due rest
  fields_are text held more laters after delayed last due rest is then said last_is small = record {
    text_is = is
        ∙ ap (λ (l : List ℕ). held ∷ l)
        (then ∙ ap (λ (l : List ℕ). laters ∷ l) (said.text_is ∙ ap (λ (l : List ℕ). delay_octets version delayed ++ l) last_is));
    counts = said.counts;
    due_fits = small;
  }

  -- the octets of a place in front of a rest
  place_joined : (place : Place) (rest : List ℕ)
      → place_octets version place ++ rest
      ≡ worth place.held 1 ∷ (place.laters ∷ (delay_octets version (worth place.delayed 1) ++ (octets_8 place.due ++ rest)))
  place_joined place rest =
      ap (λ (l : List ℕ). worth place.held 1 ∷ (place.laters ∷ l)) (append_assoc (delay_octets version (worth place.delayed 1)) (octets_8 place.due) rest)

  pub none_without_fields : (text : List ℕ) → HasNoPlaceFields version text → HasNone (IsPlaceBy version) (place_octets version) text
  none_without_fields text out = record {
    none = λ place rest valid e.
        out.none (worth place.held 1) place.laters (worth place.delayed 1) place.due rest
        (record { text_is = e ∙ place_joined place rest; counts = said_counts version place.delayed valid.may; due_fits = valid.is.due });
  }

  pub none_of_fields : (text : List ℕ) (held laters delayed due : ℕ) (after : List ℕ) → SpellsPlace version text held laters delayed due after
      → IsNoPlace held laters delayed due → HasNone (IsPlaceBy version) (place_octets version) text
  none_of_fields text held laters delayed due after spelled out = record {
    none = λ place rest valid e.
        let said = delay_octets version delayed ++ (octets_8 due ++ after) in
        let other = delay_octets version (worth place.delayed 1) ++ (octets_8 place.due ++ rest) in
        let first = same_head held (worth place.held 1) (laters ∷ said) (place.laters ∷ other) (sym spelled.text_is ∙ e ∙ place_joined place rest) in
        let second = same_head laters place.laters said other first.1 in
        let third = delay_is_one version delayed (worth place.delayed 1) _ _ spelled.counts (said_counts version place.delayed valid.may) second.1 in
        let fourth = code_8 due place.due after rest spelled.due_fits valid.is.due third.1 in
        out.none place valid.is (record { held_is = first.0; laters_are = second.0; delayed_is = third.0; due_is = fourth.0 });
  }

  pub spelled : (text : List ℕ) (held laters delayed due : ℕ) (rest : List ℕ) (place : Place) → SpellsPlace version text held laters delayed due rest
      → HasPlaceFields place held laters delayed due → text ≡ place_octets version place ++ rest
  spelled text held laters delayed due rest place one has =
      one.text_is
      ∙ (λ i. has.held_is i ∷ (has.laters_are i ∷ (delay_octets version (has.delayed_is i) ++ (octets_8 (has.due_is i) ++ rest))))
      ∙ sym (place_joined place rest)

  pub is_place_by : (text : List ℕ) (held laters delayed due : ℕ) (rest : List ℕ) (place : Place) → SpellsPlace version text held laters delayed due rest
      → IsPlace place → HasPlaceFields place held laters delayed due → IsPlaceBy version place
  is_place_by text held laters delayed due rest place one is has =
      record { is = is; may = counted_may version place.delayed delayed one.counts has.delayed_is }

module _ (version : SnapshotVersion) where
  -- a recipient and its place
  pub no_recipient : (text : List ℕ) → HasNone IsRecipient recipient_octets text → HasNone (IsPlacedBy version) (placed_octets version) text
  no_recipient text out = record {
    none = λ placed rest valid e.
        out.none placed.0 (place_octets version placed.1 ++ rest) valid.recipient (e ∙ append_assoc (recipient_octets placed.0) (place_octets version placed.1) rest);
  }

  pub no_place_after : (text : List ℕ) (recipient : Recipient) (after : List ℕ) → IsRecipient recipient → text ≡ recipient_octets recipient ++ after
      → HasNone (IsPlaceBy version) (place_octets version) after → HasNone (IsPlacedBy version) (placed_octets version) text
  no_place_after text recipient after valid is out = record {
    none = λ placed rest also e.
        let same = code_recipient recipient placed.0 after (place_octets version placed.1 ++ rest) valid also.recipient
        (sym is ∙ e ∙ append_assoc (recipient_octets placed.0) (place_octets version placed.1) rest) in
        out.none placed.1 rest also.place same.1;
  }

  pub placed_is : (text : List ℕ) (recipient : Recipient) (after : List ℕ) (place : Place) (rest : List ℕ) → text ≡ recipient_octets recipient ++ after
      → after ≡ place_octets version place ++ rest → text ≡ placed_octets version (recipient, place) ++ rest
  placed_is text recipient after place rest is then =
      is ∙ ap (λ (l : List ℕ). recipient_octets recipient ++ l) then ∙ sym (append_assoc (recipient_octets recipient) (place_octets version place) rest)

-- rows
pub zip_last : (recipients : List Recipient) (places : List Place) (recipient : Recipient) (place : Place) → length places ≡ length recipients
    → zip (recipients ++ recipient ∷ []) (places ++ place ∷ []) ≡ zip recipients places ++ (recipient, place) ∷ []
zip_last [] [] recipient place many = refl
zip_last [] (other ∷ places) recipient place many = absurd (omega (arith, many))
zip_last (first ∷ recipients) [] recipient place many = absurd (omega (arith, many))
zip_last (first ∷ recipients) (other ∷ places) recipient place many =
    ap (λ (l : List (Recipient × Place)). (first, other) ∷ l) (zip_last recipients places recipient place (omega (arith, many)))

module _ (version : SnapshotVersion) where
  pub no_row_read : (text : List ℕ) → ReadsRow version 0 text [] [] text
  no_row_read text = record { as_many = refl; are = record { have_count = refl; valid = tt }; text_is = refl }

  pub row_more : (count : ℕ) (text : List ℕ) (recipients : List Recipient) (places : List Place) (rest : List ℕ) (recipient : Recipient) (place : Place) (after : List ℕ)
      → ReadsRow version count text recipients places rest → IsPlacedBy version (recipient, place) → rest ≡ placed_octets version (recipient, place) ++ after
      → ReadsRow version (count + 1) text (recipients ++ recipient ∷ []) (places ++ place ∷ []) after
  row_more count text recipients places rest recipient place after reads valid is =
      let last = zip_last recipients places recipient place reads.as_many in
      let longer = length-append recipients (recipient ∷ []) in
      let also = length-append places (place ∷ []) in
      let many = reads.as_many in
      record {
        as_many = omega (arith, longer, also, many);
        are = subst (HaveCount (IsPlacedBy version) (count + 1)) (sym last) (one_more_valid (IsPlacedBy version) count (zip recipients places) (recipient, place) reads.are valid);
        text_is = one_more_read (placed_octets version) text (zip recipients places) (recipient, place) rest after reads.text_is is
            ∙ ap (λ (l : List (Recipient × Place)). flat_map (placed_octets version) l ++ after) (sym last);
      }

  pub no_placed_row : (count done : ℕ) (text : List ℕ) (recipients : List Recipient) (places : List Place) (after : List ℕ) → done < count
      → ReadsRow version done text recipients places after → HasNone (IsPlacedBy version) (placed_octets version) after → HasNoRow (IsPlacedBy version) (placed_octets version) count text
  no_placed_row count done text recipients places after fewer reads out =
      no_row (IsPlacedBy version) (placed_octets version) (code_placed version) count done text (zip recipients places) after fewer reads.are reads.text_is out

  pub few_places : (count : ℕ) (text : List ℕ) (recipients : List Recipient) (places : List Place) (rest : List ℕ) → ReadsRow version count text recipients places rest
      → count ≤ 100 → length places ≤ 100
  few_places count text recipients places rest reads few =
      let zipped = length-zip recipients places in
      let many = reads.as_many in
      let have_count = reads.are.have_count in
      omega (arith, zipped, many, have_count, few)

  pub reads_placed : (text : List ℕ) (count : ℕ) (after : List ℕ) (recipients : List Recipient) (places : List Place) (rest : List ℕ) → text ≡ count ∷ after
      → ReadsRow version count after recipients places rest → 1 ≤ count → count ≤ 100 → ReadsPlaced version text recipients places rest
  reads_placed text count after recipients places rest is reads some few =
      let have_count = reads.are.have_count in
      record {
        as_many = reads.as_many;
        are = record { some = omega (arith, have_count, some); within = omega (arith, have_count, few); valid = reads.are.valid };
        text_is = is_counted (IsPlacedBy version) (placed_octets version) text count after (zip recipients places) rest is reads.are reads.text_is;
      }

  -- a row that is written after its count
  pub row_written : (recipients : List Recipient) (places : List Place) (old mid new : List ℕ) → length places ≡ length recipients
      → new ≡ mid ++ flat_map (placed_octets version) (zip recipients places) → mid ≡ old ++ length recipients ∷ []
      → new ≡ old ++ counted (placed_octets version) (zip recipients places)
  row_written recipients places old mid new many row count =
      let zipped = length-zip recipients places in
      let same : length recipients ≡ length (zip recipients places) = omega (arith, zipped, many) in
      row
      ∙ ap (λ (l : List ℕ). l ++ flat_map (placed_octets version) (zip recipients places)) count
      ∙ append_assoc old (length recipients ∷ []) (flat_map (placed_octets version) (zip recipients places))
      ∙ (λ i. old ++ same i ∷ flat_map (placed_octets version) (zip recipients places))

  -- one recipient and its place more were read
  pub row_read : (count : ℕ) (text : List ℕ) (recipients : List Recipient) (places : List Place) (rest : List ℕ) (recipient given : Recipient) (place : Place) (after : List ℕ)
      (more : List Recipient) (others : List Place) → ReadsRow version count text recipients places rest → IsPlacedBy version (given, place) → rest ≡ placed_octets version (given, place) ++ after
      → recipient ≡ given → more ≡ recipients ++ recipient ∷ [] → others ≡ places ++ place ∷ [] → ReadsRow version (count + 1) text more others after
  row_read count text recipients places rest recipient given place after more others reads valid is same more_are others_are =
      subst (λ (ps : List Place). ReadsRow version (count + 1) text more ps after) (sym others_are)
      (subst (λ (rs : List Recipient). ReadsRow version (count + 1) text rs (places ++ place ∷ []) after) (sym (more_are ∙ ap (λ (r : Recipient). recipients ++ r ∷ []) same))
      (row_more count text recipients places rest given place after reads valid is))

-- what is said of a delay, in the version that has it and in the one that has not
pub ruleset said_of_delay = (nothing_said, one_said, none_said)

-- the fields of a place, or octets without them
pub ruleset place_fields = (no_octet, no_laters, no_delay, no_due, fields_are)

-- fields that are judged: no place, or one
pub ruleset judged_places = (none_without_fields, none_of_fields, spelled, is_place_by)

-- a recipient and its place, or octets without them
pub ruleset placed_recipients = (no_recipient, no_place_after, placed_is)

-- a row of recipients and their places
pub ruleset placed_rows = (reads_placed, few_places)

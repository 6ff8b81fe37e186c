-- Two queues that may be stored have two snapshots.
use Rattle.std.proofs.Common.{◌≡◌, ℕ, ◌<◌, ◌^◌, Bool, true, false, List, [], ◌∷◌, ◌++◌, length, map, refl, sym, ap, ◌∙◌, arith, append_assoc, append-nil}
use Rattle.std.specs.List.{AllByRecursion, flat_map, zip}
use Rattle.std.proofs.lemmas.Slice.Zip.{length-zip, firsts-zip, seconds-zip}
use Rattle.relay_envelope.specs.declared.envelope.Recipient.{Recipient}
use Rattle.relay_envelope.specs.Envelope.{IsRecipient}
use Rattle.relay_book.specs.declared.version.SnapshotVersion.{SnapshotVersion}
use Rattle.relay_book.specs.declared.version.SnapshotVersion.TheVariants.{WithoutDelay, WithDelay}
use Rattle.relay_book.specs.declared.message.Place.{Place}
use Rattle.relay_book.specs.declared.message.Message.{Message}
use Rattle.relay_book.specs.Fields.{AreSome}
use Rattle.relay_book.specs.Queue.{Queue}
use Rattle.relay_book.specs.Record.{counted, octets_2, octets_4, octets_8, recipient_octets, ret_number, sized_2, sized_4, worth, written}
use Rattle.relay_book.specs.Snapshot.{IsPlaceBy, MaySay, IsQueue, IsQueuedBy, IsSnapshotBy, SnapshotIsOne, delay_octets, entry_octets, placed_octets, place_octets, snapshot_by, snapshot_kind}
use Rattle.relay_book.specs.SnapshotFields.{IsPlacedBy, SpellsEntry}
use Rattle.relay_book.proofs.CodeLemmas.{IsCode, first_of, code_2, code_4, code_8, code_list, code_sized}
use Rattle.relay_book.proofs.FieldLemmas.{same_head}
use Rattle.relay_book.proofs.FitLemmas.{reverse_path_fits, text_fits, written_envid_fits}
use Rattle.relay_book.proofs.RowLemmas.{counted_are_one}
use Rattle.relay_book.proofs.ValueLemmas.{code_recipient, envid_is_one, ret_is_one}

pub held_is_one : (held other : Bool) → worth held 1 ≡ worth other 1 → held ≡ other
held_is_one true true e = refl
held_is_one false false e = refl
held_is_one true false e = absurd (omega (arith, e))
held_is_one false true e = absurd (omega (arith, e))

-- what one version says of a delay is one
pub code_delay : (version : SnapshotVersion) (delayed other : Bool) (x y : List ℕ) → MaySay version delayed → MaySay version other
    → delay_octets version (worth delayed 1) ++ x ≡ delay_octets version (worth other 1) ++ y → (delayed ≡ other) × (x ≡ y)
code_delay WithoutDelay delayed other x y may also e = (may ∙ sym also, e)
code_delay WithDelay delayed other x y may also e =
    let same = same_head (worth delayed 1) (worth other 1) x y e in
    (held_is_one delayed other same.0, same.1)

pub code_place : (version : SnapshotVersion) → IsCode (IsPlaceBy version) (place_octets version)
code_place version a b x y ha hb e =
    let said = delay_octets version (worth a.delayed 1) in
    let other = delay_octets version (worth b.delayed 1) in
    let first = same_head (worth a.held 1) (worth b.held 1) (a.laters ∷ ((said ++ octets_8 a.due) ++ x)) (b.laters ∷ ((other ++ octets_8 b.due) ++ y)) e in
    let second = same_head a.laters b.laters ((said ++ octets_8 a.due) ++ x) ((other ++ octets_8 b.due) ++ y) first.1 in
    let third = code_delay version a.delayed b.delayed (octets_8 a.due ++ x) (octets_8 b.due ++ y) ha.may hb.may
    (sym (append_assoc said (octets_8 a.due) x) ∙ second.1 ∙ append_assoc other (octets_8 b.due) y) in
    let fourth = code_8 a.due b.due x y ha.is.due hb.is.due third.1 in
    let held = held_is_one a.held b.held first.0 in
    ((λ i. record { held = held i; laters = second.0 i; delayed = third.0 i; due = fourth.0 i }), fourth.1)

module _ (version : SnapshotVersion) where
  pub code_placed : IsCode (IsPlacedBy version) (placed_octets version)
  code_placed a b x y ha hb e =
      let first = code_recipient a.0 b.0 (place_octets version a.1 ++ x) (place_octets version b.1 ++ y) ha.recipient hb.recipient
      (sym (append_assoc (recipient_octets a.0) (place_octets version a.1) x) ∙ e ∙ append_assoc (recipient_octets b.0) (place_octets version b.1) y) in
      let second = code_place version a.1 b.1 x y ha.place hb.place first.1 in
      ((λ i. (first.0 i, second.0 i)), second.1)

  all_placed : (recipients : List Recipient) (places : List Place) → AllByRecursion IsRecipient recipients → AllByRecursion (IsPlaceBy version) places
      → AllByRecursion (IsPlacedBy version) (zip recipients places)
  all_placed [] places rs ps = tt
  all_placed (recipient ∷ recipients) [] rs ps = tt
  all_placed (recipient ∷ recipients) (place ∷ places) rs ps =
      (record { recipient = rs.0; place = ps.0 }, all_placed recipients places rs.1 ps.1)

  many_placed : (recipients : List Recipient) (places : List Place) → length places ≡ length recipients → length (zip recipients places) ≡ length recipients
  many_placed recipients places many = let zipped = length-zip recipients places in omega (arith, zipped, many)

  pub are_placed : (entry : ℕ × Message) → IsQueuedBy version entry → AreSome (IsPlacedBy version) (zip entry.1.accept.envelope.recipients entry.1.places)
  are_placed entry is =
      let many = many_placed entry.1.accept.envelope.recipients entry.1.places is.is.as_many in
      let some = is.is.accept.envelope.some in
      let within = is.is.accept.envelope.within in
      record {
        some = omega (arith, many, some);
        within = omega (arith, many, within);
        valid = all_placed entry.1.accept.envelope.recipients entry.1.places is.is.accept.envelope.recipients is.places;
      }

  -- the octets of a message in front of a rest, from the left to the right
  unfoldable pub fields_octets : ℕ → ℕ → List ℕ → ℕ → List ℕ → List (Recipient × Place) → List ℕ → List ℕ
  fields_octets number at path ret envid placed last =
      octets_8 number ++ (octets_8 at ++ (sized_2 path ++ (ret ∷ (sized_2 envid ++ (counted (placed_octets version) placed ++ last)))))

  pub fields_joined : (number at : ℕ) (path : List ℕ) (ret : ℕ) (envid : List ℕ) (placed : List (Recipient × Place)) (last rest : List ℕ)
      → fields_octets number at path ret envid placed last ++ rest ≡ fields_octets number at path ret envid placed (last ++ rest)
  unfolding fields_octets
  fields_joined number at path ret envid placed last rest =
      append_assoc (octets_8 number) _ rest
      ∙ ap (λ (l : List ℕ). octets_8 number ++ l) (append_assoc (octets_8 at) _ rest)
      ∙ ap (λ (l : List ℕ). octets_8 number ++ (octets_8 at ++ l)) (append_assoc (sized_2 path) _ rest)
      ∙ ap (λ (l : List ℕ). octets_8 number ++ (octets_8 at ++ (sized_2 path ++ (ret ∷ l)))) (append_assoc (sized_2 envid) _ rest)
      ∙ ap (λ (l : List ℕ). octets_8 number ++ (octets_8 at ++ (sized_2 path ++ (ret ∷ (sized_2 envid ++ l))))) (append_assoc (counted (placed_octets version) placed) last rest)

  -- a message spells its fields
  pub spells_entry : (text rest : List ℕ) (entry : ℕ × Message) → IsQueuedBy version entry → text ≡ entry_octets version entry ++ rest
      → SpellsEntry version text entry.0 entry.1.accept.at entry.1.accept.envelope.reverse_path (ret_number entry.1.accept.envelope.ret)
      (written entry.1.accept.envelope.envid) entry.1.accept.envelope.recipients entry.1.places entry.1.accept.stored_text rest
  unfolding fields_octets entry_octets
  spells_entry text rest entry is e =
      let accept = entry.1.accept in
      let envelope = accept.envelope in
      let placed = zip envelope.recipients entry.1.places in
      record {
        text_is = e
            ∙ fields_joined entry.0 accept.at envelope.reverse_path (ret_number envelope.ret) (written envelope.envid) placed (sized_4 accept.stored_text) rest;
        number_fits = is.is.number_fits;
        at_fits = let moment = is.is.accept.moment in omega (arith, moment);
        path_fits = reverse_path_fits envelope is.is.accept.envelope;
        envid_fits = written_envid_fits envelope.envid is.is.accept.envelope.envid;
        as_many = is.is.as_many;
        are_placed = are_placed entry is;
        stored_fits = text_fits accept is.is.accept;
      }

  -- fields that are a message's
  pub spelled_entry : (text rest : List ℕ) (entry : ℕ × Message)
      → SpellsEntry version text entry.0 entry.1.accept.at entry.1.accept.envelope.reverse_path (ret_number entry.1.accept.envelope.ret)
      (written entry.1.accept.envelope.envid) entry.1.accept.envelope.recipients entry.1.places entry.1.accept.stored_text rest
      → text ≡ entry_octets version entry ++ rest
  unfolding fields_octets entry_octets
  spelled_entry text rest entry spelled =
      let accept = entry.1.accept in
      let envelope = accept.envelope in
      let placed = zip envelope.recipients entry.1.places in
      spelled.text_is
      ∙ sym (fields_joined entry.0 accept.at envelope.reverse_path (ret_number envelope.ret) (written envelope.envid) placed (sized_4 accept.stored_text) rest)

  -- two spellings have the same fields
  pub record AreSameEntries (number other at at2 : ℕ) (path path2 : List ℕ) (ret ret2 : ℕ) (envid envid2 : List ℕ) (recipients recipients2 : List Recipient)
      (places places2 : List Place) (stored stored2 rest rest2 : List ℕ) : Type 0 where
    pub number_is : number ≡ other
    pub at_is : at ≡ at2
    pub path_is : path ≡ path2
    pub ret_is : ret ≡ ret2
    pub envid_is : envid ≡ envid2
    pub recipients_are : recipients ≡ recipients2
    pub places_are : places ≡ places2
    pub stored_is : stored ≡ stored2
    pub rest_is : rest ≡ rest2

  pub entries_spell_one : (text : List ℕ) (number at : ℕ) (path : List ℕ) (ret : ℕ) (envid : List ℕ) (recipients : List Recipient) (places : List Place) (stored rest : List ℕ)
      (number2 at2 : ℕ) (path2 : List ℕ) (ret2 : ℕ) (envid2 : List ℕ) (recipients2 : List Recipient) (places2 : List Place) (stored2 rest2 : List ℕ)
      → SpellsEntry version text number at path ret envid recipients places stored rest
      → SpellsEntry version text number2 at2 path2 ret2 envid2 recipients2 places2 stored2 rest2
      → AreSameEntries number number2 at at2 path path2 ret ret2 envid envid2 recipients recipients2 places places2 stored stored2 rest rest2
  entries_spell_one text number at path ret envid recipients places stored rest number2 at2 path2 ret2 envid2 recipients2 places2 stored2 rest2 one two =
      let f1 = code_8 number number2 _ _ one.number_fits two.number_fits (sym one.text_is ∙ two.text_is) in
      let f2 = code_8 at at2 _ _ one.at_fits two.at_fits f1.1 in
      let f3 = code_sized octets_2 (2 ^ 16) code_2 path path2 _ _ one.path_fits two.path_fits f2.1 in
      let f4 = same_head ret ret2 _ _ f3.1 in
      let f5 = code_sized octets_2 (2 ^ 16) code_2 envid envid2 _ _ one.envid_fits two.envid_fits f4.1 in
      let f6 = counted_are_one (IsPlacedBy version) (placed_octets version) code_placed (zip recipients places) (zip recipients2 places2) _ _ one.are_placed two.are_placed f5.1 in
      let f7 = code_sized octets_4 (2 ^ 32) code_4 stored stored2 rest rest2 one.stored_fits two.stored_fits f6.1 in
      record {
        number_is = f1.0;
        at_is = f2.0;
        path_is = f3.0;
        ret_is = f4.0;
        envid_is = f5.0;
        recipients_are = sym (firsts-zip recipients places one.as_many) ∙ ap (map (λ (p : Recipient × Place). p.0)) f6.0 ∙ firsts-zip recipients2 places2 two.as_many;
        places_are = sym (seconds-zip recipients places one.as_many) ∙ ap (map (λ (p : Recipient × Place). p.1)) f6.0 ∙ seconds-zip recipients2 places2 two.as_many;
        stored_is = f7.0;
        rest_is = f7.1;
      }

  -- two messages spelled by one text
  pub same_entry : (text : List ℕ) (number at : ℕ) (path : List ℕ) (ret : ℕ) (envid : List ℕ) (recipients : List Recipient) (places : List Place) (stored after : List ℕ)
      (entry : ℕ × Message) (rest : List ℕ) → SpellsEntry version text number at path ret envid recipients places stored after → IsQueuedBy version entry → text ≡ entry_octets version entry ++ rest
      → AreSameEntries number entry.0 at entry.1.accept.at path entry.1.accept.envelope.reverse_path ret (ret_number entry.1.accept.envelope.ret)
      envid (written entry.1.accept.envelope.envid) recipients entry.1.accept.envelope.recipients places entry.1.places stored entry.1.accept.stored_text after rest
  same_entry text number at path ret envid recipients places stored after entry rest spelled is e =
      entries_spell_one text number at path ret envid recipients places stored after entry.0 entry.1.accept.at entry.1.accept.envelope.reverse_path
      (ret_number entry.1.accept.envelope.ret) (written entry.1.accept.envelope.envid) entry.1.accept.envelope.recipients entry.1.places entry.1.accept.stored_text rest
      spelled (spells_entry text rest entry is e)

  pub code_entry : IsCode (IsQueuedBy version) (entry_octets version)
  code_entry a b x y ha hb e =
      let same = same_entry (entry_octets version a ++ x) a.0 a.1.accept.at a.1.accept.envelope.reverse_path (ret_number a.1.accept.envelope.ret) (written a.1.accept.envelope.envid)
      a.1.accept.envelope.recipients a.1.places a.1.accept.stored_text x b y (spells_entry (entry_octets version a ++ x) x a ha refl) hb e in
      let ret = ret_is_one a.1.accept.envelope.ret b.1.accept.envelope.ret same.ret_is in
      let envid = envid_is_one a.1.accept.envelope.envid b.1.accept.envelope.envid ha.is.accept.envelope.envid hb.is.accept.envelope.envid same.envid_is in
      let number : a.1.number ≡ b.1.number = ha.is.number_is ∙ same.number_is ∙ sym hb.is.number_is in (
        (λ i. (
          same.number_is i,
          record {
            number = number i;
            accept = record {
              at = same.at_is i;
              envelope = record { reverse_path = same.path_is i; ret = ret i; envid = envid i; recipients = same.recipients_are i };
              stored_text = same.stored_is i;
            };
            places = same.places_are i;
          },
        )),
        same.rest_is,
      )

pub next_fits : (queue : Queue) → IsQueue queue → queue.next < 2 ^ 64
next_fits queue is = let next = is.next in omega (arith, next)

one_by_version : (version : SnapshotVersion) (octets : List ℕ) (queue other : Queue) → IsSnapshotBy version octets queue → IsSnapshotBy version octets other
    → queue ≡ other
unfolding snapshot_by
one_by_version version octets queue other is also =
    let tail = same_head (snapshot_kind version) (snapshot_kind version) _ _ (sym is.octets_are ∙ also.octets_are) in
    let next = code_8 queue.next other.next _ _ (next_fits queue is.valid) (next_fits other also.valid) tail.1 in
    let count = code_4 (length queue.messages) (length other.messages) _ _ is.few also.few next.1 in
    let messages = code_list (IsQueuedBy version) (entry_octets version) (code_entry version) queue.messages other.messages [] [] count.0 is.messages also.messages
    (append-nil (flat_map (entry_octets version) queue.messages) ∙ count.1 ∙ sym (append-nil (flat_map (entry_octets version) other.messages))) in
    (λ i. record { next = next.0 i; messages = messages.0 i })

-- the first octet of a snapshot tells its version
pub kind_of : (version : SnapshotVersion) (octets : List ℕ) (queue : Queue) → IsSnapshotBy version octets queue → first_of octets ≡ snapshot_kind version
unfolding snapshot_by
kind_of version octets queue is = ap first_of is.octets_are

pub snapshot_is_one : SnapshotIsOne
snapshot_is_one octets queue other (WithoutDelay, is) (WithoutDelay, also) = one_by_version WithoutDelay octets queue other is also
snapshot_is_one octets queue other (WithDelay, is) (WithDelay, also) = one_by_version WithDelay octets queue other is also
snapshot_is_one octets queue other (WithoutDelay, is) (WithDelay, also) =
    let one = kind_of WithoutDelay octets queue is in let two = kind_of WithDelay octets other also in absurd (omega (arith, one, two))
snapshot_is_one octets queue other (WithDelay, is) (WithoutDelay, also) =
    let one = kind_of WithDelay octets queue is in let two = kind_of WithoutDelay octets other also in absurd (omega (arith, one, two))

-- The file of held mail, item by item.
use Rattle.std.proofs.Common.{◌≡◌, ℕ, ◌+◌, ◌<◌, ◌≤◌, ◌^◌, Bool, true, cond, List, [], ◌∷◌, ◌++◌, codes, pos, Option, None, Some, length, take, get_or, zero, suc, bytes_eq, lit≤, append_assoc, nat_cmp, is_eq, refl, sym, ap, ◌∙◌, subst, arith}
use Rattle.std.specs.BTreeMap.{is_at}
use Rattle.std.specs.BTreeSet.{BTreeSet, contains}
use Rattle.std.specs.Cmp.{eq_by_cmp_equiv, nat_cmp_total}
use Rattle.std.specs.List.{AllByRecursion, list_any}
use Rattle.std.specs.Str.{IsUtf8}
use Rattle.std.proofs.lemmas.Bool.Decides.{nat_tests}
use Rattle.std.proofs.lemmas.List.{append-nil, take_more}
use Rattle.std.proofs.lemmas.List.Folds.{list_any-append}
use Rattle.std.proofs.lemmas.Str.{IsUtf8-from_ascii}
use Rattle.toml.specs.Data.{Data, string, integer, float, boolean, datetime, array, table, as_array, Items, no_items, item, Members, get_member, items_depth, members_depth}
use Rattle.toml.specs.Parse.{parse_document}
use Rattle.toml.specs.View.{items_view, members_view, view}
use Rattle.toml.specs.declared.value.Value.{Value}
use Rattle.toml.proofs.Views.{Entry}
use Rattle.relay_envelope.specs.HostName.{IsHostName, is_host_octet}
use Rattle.relay_control.specs.Held.{holds_hop, holds_message}
use Rattle.relay_control.specs.HeldFile.{AreEach, AreMessages, AreNames, HasNoArray, HeldReadsBack, HoldsDocument, HoldsNumbers, IsBadText, IsDocumentOf, IsMessage, IsName, ReadsHeld, SaysHeld, SaysNothing, member_count}
use Rattle.relay_control.specs.declared.held.Held.{Held}
use Rattle.relay_control.proofs.HeldLemmas.{or_last}

-- one item more
each-push : {X : Type 0} (Is : Data → X → Type 0) (values : List Value) (xs : List X) (value : Value) (x : X) → AreEach Is (items_view values) xs → Is (view value) x
    → AreEach Is (items_view (values ++ value ∷ [])) (xs ++ x ∷ [])
each-push Is [] [] value x are is = (is, tt)
each-push Is [] (y ∷ xs) value x are is = absurd are
each-push Is (first ∷ values) [] value x are is = absurd are
each-push Is (first ∷ values) (y ∷ xs) value x are is = (are.0, each-push Is values xs value x are.1 is)

-- an item that is none of them
pub none_is : {X : Type 0} (Is : Data → X → Type 0) (values : List Value) (place : ℕ) (value : Value) → place < length values → value ≡ get_or values place value
    → ((x : X) → ¬ Is (view value) x) → (xs : List X) → ¬ AreEach Is (items_view values) xs
none_is Is [] place value within is none xs are = absurd (omega arith)
none_is Is (first ∷ values) place value within is none [] are = are
none_is Is (first ∷ values) zero value within is none (x ∷ xs) are = none x (subst (λ (v : Value). Is (view v) x) (sym is) are.0)
none_is Is (first ∷ values) (suc place) value within is none (x ∷ xs) are = none_is Is values place value (omega arith) is none xs are.1

longer : (values : List Value) (place : ℕ) (value : Value) → place < length values → value ≡ get_or values place value → take (place + 1) values ≡ take place values ++ value ∷ []
longer values place value within is = take_more values place value within ∙ ap (λ (v : Value). take place values ++ v ∷ []) (sym is)

pub each_more : {X : Type 0} (Is : Data → X → Type 0) (values : List Value) (xs : List X) (place : ℕ) (value : Value) (x : X) → place < length values
    → value ≡ get_or values place value → AreEach Is (items_view (take place values)) xs → Is (view value) x
    → AreEach Is (items_view (take (place + 1) values)) (xs ++ x ∷ [])
each_more Is values xs place value x within is are gives =
    subst (λ (vs : List Value). AreEach Is (items_view vs) (xs ++ x ∷ [])) (sym (longer values place value within is)) (each-push Is (take place values) xs value x are gives)

-- items are one list of names, or of numbers
each_is_one : {X : Type 0} (Is : Data → X → Type 0) → ((value : Data) (x y : X) → Is value x → Is value y → x ≡ y) → (items : Items) (one two : List X)
    → AreEach Is items one → AreEach Is items two → one ≡ two
each_is_one Is same no_items [] [] a b = refl
each_is_one Is same no_items [] (y ∷ two) a b = absurd b
each_is_one Is same no_items (x ∷ one) two a b = absurd a
each_is_one Is same (item value more) [] two a b = absurd a
each_is_one Is same (item value more) (x ∷ one) [] a b = absurd b
each_is_one Is same (item value more) (x ∷ one) (y ∷ two) a b =
    let head = same value x y a.0 b.0 in
    let rest = each_is_one Is same more one two a.1 b.1 in
    cc (head, rest)

name_is_one : (value : Data) (one two : List ℕ) → IsName value one → IsName value two → one ≡ two
name_is_one value one two a b = let same : string one ≡ string two = sym a.0 ∙ b.0 in cc same

message_is_one : (value : Data) (one two : ℕ) → IsMessage value one → IsMessage value two → one ≡ two
message_is_one value one two a b = let same : integer (pos one) ≡ integer (pos two) = sym a ∙ b in cc same

same_array : (one two : Items) → Some (array one) ≡ Some (array two) → one ≡ two
same_array one two same = cc same

-- the array at a key

pub array_found : (found : Option Data) (value : Data) (items : Items) → found ≡ Some value → Some items ≡ as_array value → found ≡ Some (array items)
array_found found (array more) items there is = let same : items ≡ more = cc is in there ∙ ap (λ (i : Items). Some (array i)) (sym same)
array_found found (string text) items there is = absurd (cc is)
array_found found (integer number) items there is = absurd (cc is)
array_found found (float number) items there is = absurd (cc is)
array_found found (boolean value) items there is = absurd (cc is)
array_found found (datetime moment) items there is = absurd (cc is)
array_found found (table members) items there is = absurd (cc is)

pub no_array_found : (found : Option Data) (value : Data) (items : Items) → found ≡ Some value → None ≡ as_array value → found ≡ Some (array items) → ⊥
no_array_found found value items there none is =
    let same : value ≡ array items = cc (sym there ∙ is) in absurd (cc (none ∙ ap as_array same))

-- the numbers that a set holds

pub no_number_held : (set : BTreeSet ℕ) → set.keys ≡ [] → HoldsNumbers no_items set
no_number_held set none = record {
  numbers = [];
  are_messages = tt;
  holds = λ number. ap (λ (keys : List ℕ). list_any (is_at (nat_cmp number)) keys) none;
}

pub one_more_held : (values : List Value) (place : ℕ) (value : Value) (number : ℕ) (old new : BTreeSet ℕ) → place < length values
    → value ≡ get_or values place value → HoldsNumbers (items_view (take place values)) old → IsMessage (view value) number
    → ((other : ℕ) → contains nat_cmp new other ≡ cond (is_eq (nat_cmp number other)) true (contains nat_cmp old other))
    → HoldsNumbers (items_view (take (place + 1) values)) new
one_more_held values place value number old new within is held gives adds = record {
  numbers = held.numbers ++ number ∷ [];
  are_messages = each_more IsMessage values held.numbers place value number within is held.are_messages gives;
  holds = λ other.
      adds other
      ∙ ap (λ (b : Bool). cond b true (contains nat_cmp old other)) ((eq_by_cmp_equiv nat_cmp_total).symm number other)
      ∙ ap (λ (b : Bool). cond (is_eq (nat_cmp other number)) true b) (held.holds other)
      ∙ sym (or_last (list_any (is_at (nat_cmp other)) held.numbers) (is_eq (nat_cmp other number)))
      ∙ sym (list_any-append (is_at (nat_cmp other)) held.numbers (number ∷ []));
}

-- what a document says

count-members : (entries : List Entry) → member_count (members_view entries) ≡ length entries
count-members [] = refl
count-members (entry ∷ entries) = let rest = count-members entries in omega arith

pub other_count : (entries : List Entry) → (length entries ≡ 2 → ⊥) → SaysNothing (members_view entries)
other_count entries other = record {
  none = λ names messages says. other (sym (count-members entries) ∙ says.no_other);
}

pub no_hops : (document : Members) → HasNoArray (codes "hops") document → SaysNothing document
no_hops document none = record { none = λ names messages says. none says.name_items says.hops_are }

pub no_messages : (document : Members) → HasNoArray (codes "messages") document → SaysNothing document
no_messages document none = record { none = λ names messages says. none says.message_items says.messages_are }

pub bad_hops : (document : Members) (items : Items) → get_member (codes "hops") document ≡ Some (array items) → ((names : List (List ℕ)) → ¬ AreNames items names)
    → SaysNothing document
bad_hops document items there none = record {
  none = λ names messages says.
      none names (subst (λ (i : Items). AreNames i names) (same_array says.name_items items (sym says.hops_are ∙ there)) says.are_names);
}

pub bad_messages : (document : Members) (items : Items) → get_member (codes "messages") document ≡ Some (array items)
    → ((numbers : List ℕ) → ¬ AreMessages items numbers) → SaysNothing document
bad_messages document items there none = record {
  none = λ names messages says.
      none messages (subst (λ (i : Items). AreMessages i messages) (same_array says.message_items items (sym says.messages_are ∙ there)) says.are_messages);
}

pub document_holds : (entries : List Entry) (names numbers : Items) (held : Held) → length entries ≡ 2
    → get_member (codes "hops") (members_view entries) ≡ Some (array names) → get_member (codes "messages") (members_view entries) ≡ Some (array numbers)
    → AreNames names held.hops.items → HoldsNumbers numbers held.messages → HoldsDocument (members_view entries) held
document_holds entries names numbers held two hops_are messages_are are_names holds = record {
  messages = holds.numbers;
  says = record {
    name_items = names;
    message_items = numbers;
    hops_are = hops_are;
    messages_are = messages_are;
    no_other = count-members entries ∙ two;
    are_names = are_names;
    are_messages = holds.are_messages;
  };
  holds = holds.holds;
}

pub not_parsed : (text : List ℕ) → parse_document text ≡ None → IsBadText text
not_parsed text none = record { none = λ document is. absurd (cc (sym none ∙ is)) }

pub bad_document : (text : List ℕ) (document : Members) → parse_document text ≡ Some document → SaysNothing document → IsBadText text
bad_document text document is nothing = record {
  none = λ other are.
      let same : document ≡ other = cc (sym is ∙ are) in subst SaysNothing same nothing;
}

-- the value of a name

ascii_octet : (octet : ℕ) → is_host_octet octet ≡ true → octet < 128
ascii_octet octet test = grind (arith, nat_tests)

pub name_is_text : (name : List ℕ) → IsHostName name → IsUtf8 name
name_is_text name is = IsUtf8-from_ascii name (λ place. at place name is.octets)
  where
    at : (place : ℕ) (name : List ℕ) → ((k : ℕ) (d : ℕ) → k < length name → is_host_octet (get_or name k d) ≡ true) → get_or name place 0 < 128
    at place [] all = omega arith
    at zero (octet ∷ name) all = ascii_octet octet (all 0 0 (omega arith))
    at (suc place) (octet ∷ name) all = at place name (λ k d within. all (suc k) d (omega arith))

pub one_more_name_written : (values : List Value) (names : List (List ℕ)) (place : ℕ) (value : Value) (name : List ℕ) → place < length names
    → name ≡ get_or names place name → AreNames (items_view values) (take place names) → IsName (view value) name
    → AreNames (items_view (values ++ value ∷ [])) (take (place + 1) names)
one_more_name_written values names place value name within is are gives =
    let more : take (place + 1) names ≡ take place names ++ name ∷ [] = take_more names place name within ∙ ap (λ (n : List ℕ). take place names ++ n ∷ []) (sym is) in
    subst (λ (ns : List (List ℕ)). AreNames (items_view (values ++ value ∷ [])) ns) (sym more) (each-push IsName values (take place names) value name are gives)

-- the values of numbers

pub record HasWritten (values : List Value) (left keys : List ℕ) : Type 0 where
  pub written : List ℕ
  pub are_messages : AreMessages (items_view values) written
  pub parts : written ++ left ≡ keys

pub nothing_written : (keys : List ℕ) → HasWritten [] keys keys
nothing_written keys = record { written = []; are_messages = tt; parts = refl }

pub one_more_written : (values : List Value) (value : Value) (number : ℕ) (left next keys : List ℕ) → HasWritten values left keys → left ≡ number ∷ next
    → IsMessage (view value) number → HasWritten (values ++ value ∷ []) next keys
one_more_written values value number left next keys has is gives = record {
  written = has.written ++ number ∷ [];
  are_messages = each-push IsMessage values has.written value number has.are_messages gives;
  parts = append_assoc has.written (number ∷ []) next ∙ ap (λ (l : List ℕ). has.written ++ l) (sym is) ∙ has.parts;
}

pub all_written : (values : List Value) (left keys : List ℕ) → HasWritten values left keys → left ≡ [] → AreMessages (items_view values) keys
all_written values left keys has none =
    subst (λ (l : List ℕ). AreMessages (items_view values) l) (sym (ap (λ (l : List ℕ). has.written ++ l) none ∙ append-nil has.written) ∙ has.parts) has.are_messages

all_below : (front : List ℕ) (number : ℕ) (next : List ℕ) → AllByRecursion (λ n. n < 2 ^ 63) (front ++ number ∷ next) → number < 2 ^ 63
all_below [] number next all = all.0
all_below (first ∷ front) number next all = all_below front number next all.1

pub too_large : (values : List Value) (number : ℕ) (left next keys : List ℕ) → HasWritten values left keys → left ≡ number ∷ next → (number < 2 ^ 63 → ⊥)
    → ¬ AllByRecursion (λ n. n < 2 ^ 63) keys
too_large values number left next keys has is above all =
    above (all_below has.written number next (subst (λ (l : List ℕ). AllByRecursion (λ n. n < 2 ^ 63) l) (sym has.parts ∙ ap (λ (l : List ℕ). has.written ++ l) is) all))

-- the document

names_are_flat : (items : Items) (names : List (List ℕ)) → AreNames items names → items_depth items ≡ 0
names_are_flat no_items [] are = refl
names_are_flat no_items (name ∷ names) are = refl
names_are_flat (item value more) [] are = absurd are
names_are_flat (item value more) (name ∷ names) are = rw (are.0.0, names_are_flat more names are.1) refl

messages_are_flat : (items : Items) (numbers : List ℕ) → AreMessages items numbers → items_depth items ≡ 0
messages_are_flat no_items [] are = refl
messages_are_flat no_items (number ∷ numbers) are = refl
messages_are_flat (item value more) [] are = absurd are
messages_are_flat (item value more) (number ∷ numbers) are = rw (are.0, messages_are_flat more numbers are.1) refl

pub document_is_flat : (document : Members) (held : Held) → IsDocumentOf document held → members_depth document ≤ 80
document_is_flat document held is =
    rw (is.document_is, names_are_flat is.name_items held.hops.items is.are_names, messages_are_flat is.message_items held.messages.keys is.are_messages) (lit≤ tt)

says_document : (document : Members) (held : Held) → IsDocumentOf document held → SaysHeld document held.hops.items held.messages.keys
says_document document held is = record {
  name_items = is.name_items;
  message_items = is.message_items;
  hops_are = ap (get_member (codes "hops")) is.document_is;
  messages_are = ap (get_member (codes "messages")) is.document_is;
  no_other = ap member_count is.document_is;
  are_names = is.are_names;
  are_messages = is.are_messages;
}

pub held_reads_back : HeldReadsBack
held_reads_back text held back is = (not_bad, same)
  where
    not_bad : ¬ IsBadText text
    not_bad bad = (bad.none is.document is.parsed).none held.hops.items held.messages.keys (says_document is.document held is.is_document)

    same : ReadsHeld text back → ((name : List ℕ) → holds_hop name back ≡ holds_hop name held) × ((number : ℕ) → holds_message number back ≡ holds_message number held)
    same reads =
        let document : reads.document ≡ is.document = cc (sym reads.parsed ∙ is.parsed) in
        let said = says_document is.document held is.is_document in
        let says = reads.holds.says in
        let name_items : says.name_items ≡ said.name_items = same_array says.name_items said.name_items (sym says.hops_are ∙ ap (get_member (codes "hops")) document ∙ said.hops_are) in
        let message_items : says.message_items ≡ said.message_items = same_array says.message_items said.message_items (sym says.messages_are ∙ ap (get_member (codes "messages")) document ∙ said.messages_are) in
        let names = each_is_one IsName name_is_one said.name_items back.hops.items held.hops.items (subst (λ (i : Items). AreNames i back.hops.items) name_items says.are_names) said.are_names in
        let numbers = each_is_one IsMessage message_is_one said.message_items reads.holds.messages held.messages.keys (subst (λ (i : Items). AreMessages i reads.holds.messages) message_items says.are_messages) said.are_messages in
        (λ name. ap (λ (l : List (List ℕ)). list_any (λ hop. bytes_eq hop name) l) names, λ number. reads.holds.holds number ∙ ap (λ (l : List ℕ). list_any (is_at (nat_cmp number)) l) numbers)

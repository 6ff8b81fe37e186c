-- The file of held mail: TOML with the names of next hops at `hops`, and the numbers of messages at `messages`.
use Rattle.std.specs.Prelude.{◌≡◌, ◌≢◌, ℕ, ◌+◌, List, [], ◌∷◌, codes, pos, Some}
use Rattle.std.specs.BTreeMap.{is_at}
use Rattle.std.specs.BTreeSet.{BTreeSet, contains}
use Rattle.std.specs.List.{list_any}
use Rattle.std.specs.Ordering.{nat_cmp}
use Rattle.toml.specs.Data.{Data, string, integer, array, Items, no_items, item, Members, no_members, member}
use Rattle.toml.specs.Data.{get_member}
use Rattle.toml.specs.Parse.{parse_document}
use Rattle.relay_envelope.specs.HostName.{IsHostName}
use Rattle.relay_control.specs.Held.{holds_hop, holds_message}
use Rattle.relay_control.specs.declared.held.Held.{Held}

-- each item is one of a list, in order
abbrev pub AreEach : {X : Type 0} → (Data → X → Type 0) → Items → List X → Type 0
AreEach Is no_items [] = Unit {0}
AreEach Is no_items (x ∷ xs) = ⊥
AreEach Is (item value more) [] = ⊥
AreEach Is (item value more) (x ∷ xs) = Is value x × AreEach Is more xs

-- the value is the name of a next hop; the items are names
abbrev pub IsName : Data → List ℕ → Type 0
IsName value name = (value ≡ string name) × IsHostName name

abbrev pub AreNames : Items → List (List ℕ) → Type 0
AreNames = AreEach IsName

-- the value is the number of a message; the items are numbers
abbrev pub IsMessage : Data → ℕ → Type 0
IsMessage value number = value ≡ integer (pos number)

abbrev pub AreMessages : Items → List ℕ → Type 0
AreMessages = AreEach IsMessage

-- no array is at the key
abbrev pub HasNoArray : List ℕ → Members → Type 0
HasNoArray key document = (items : Items) → get_member key document ≢ Some (array items)

-- how many members a document has
abbrev pub member_count : Members → ℕ
member_count no_members = 0
member_count (member key value more) = member_count more + 1

-- a document says that the mail of these next hops and these messages is held, and nothing else
pub record SaysHeld (document : Members) (names : List (List ℕ)) (messages : List ℕ) : Type 0 where
  pub name_items : Items
  pub message_items : Items
  pub hops_are : get_member (codes "hops") document ≡ Some (array name_items)
  pub messages_are : get_member (codes "messages") document ≡ Some (array message_items)
  pub no_other : member_count document ≡ 2
  pub are_names : AreNames name_items names
  pub are_messages : AreMessages message_items messages

-- it says nothing of held mail
pub record SaysNothing (document : Members) : Type 0 where
  pub none : (names : List (List ℕ)) (messages : List ℕ) → ¬ SaysHeld document names messages

-- the set holds the numbers that the items are
pub record HoldsNumbers (items : Items) (set : BTreeSet ℕ) : Type 0 where
  pub numbers : List ℕ
  pub are_messages : AreMessages items numbers
  pub holds : (number : ℕ) → contains nat_cmp set number ≡ list_any (is_at (nat_cmp number)) numbers

-- exactly the mail is held that a document says
pub record HoldsDocument (document : Members) (held : Held) : Type 0 where
  pub messages : List ℕ
  pub says : SaysHeld document held.hops.items messages
  pub holds : (number : ℕ) → holds_message number held ≡ list_any (is_at (nat_cmp number)) messages

-- exactly the mail is held that a text says
pub record ReadsHeld (text : List ℕ) (held : Held) : Type 0 where
  pub document : Members
  pub parsed : parse_document text ≡ Some document
  pub holds : HoldsDocument document held

-- the text says nothing of held mail
pub record IsBadText (text : List ℕ) : Type 0 where
  pub none : (document : Members) → parse_document text ≡ Some document → SaysNothing document

-- a document of two arrays
abbrev pub document_with : Items → Items → Members
document_with names numbers = member (codes "hops") (array names) (member (codes "messages") (array numbers) no_members)

-- the document of held mail
pub record IsDocumentOf (document : Members) (held : Held) : Type 0 where
  pub name_items : Items
  pub message_items : Items
  pub document_is : document ≡ document_with name_items message_items
  pub are_names : AreNames name_items held.hops.items
  pub are_messages : AreMessages message_items held.messages.keys

-- a text that says what is held
pub record IsTextOf (text : List ℕ) (held : Held) : Type 0 where
  pub document : Members
  pub parsed : parse_document text ≡ Some document
  pub is_document : IsDocumentOf document held

-- What is written of held mail is no bad text, and it is read as the same mail.
abbrev pub HeldReadsBack : Type 0
HeldReadsBack =
    (text : List ℕ) (held back : Held) → IsTextOf text held
    → (¬ IsBadText text)
    × (ReadsHeld text back → ((name : List ℕ) → holds_hop name back ≡ holds_hop name held)
    × ((number : ℕ) → holds_message number back ≡ holds_message number held))

-- Recipients of queued messages, as a request names them: `15:0,3` are the first and the fourth of message 15.
use Rattle.std.specs.Prelude.{◌≡◌, ℕ, ◌+◌, ◌<◌, ◌≤◌, ◌^◌, List, [], ◌∷◌, ◌++◌, decimal, length, map}
use Rattle.std.specs.List.{AllByRecursion, join_with_byte}
use Rattle.relay_control.specs.declared.named.Named.{Named}

-- places with commas between them; the number of a message, a colon and places; several of these with spaces between
abbrev pub places_text : List ℕ → List ℕ
places_text places = join_with_byte 44 (map decimal places)

abbrev pub named_text : Named → List ℕ
named_text named = decimal named.message ++ 58 ∷ places_text named.places.items

abbrev pub names_text : List Named → List ℕ
names_text names = join_with_byte 32 (map named_text names)

-- the places ascend from the least one, and are below 100
abbrev pub AscendFrom : ℕ → List ℕ → Type 0
AscendFrom least [] = Unit {0}
AscendFrom least (place ∷ places) = (least ≤ place) × (place < 100) × AscendFrom (place + 1) places

-- places of recipients: at least one, and each once
pub record ArePlaces (places : List ℕ) : Type 0 where
  pub some_place : 0 < length places
  pub ascend : AscendFrom 0 places

pub record IsNamed (named : Named) : Type 0 where
  pub fits : named.message < 2 ^ 64
  pub are_places : ArePlaces named.places.items

-- a request names 1 to 64 messages
pub record AreNamed (names : List Named) : Type 0 where
  pub some_name : 0 < length names
  pub few_names : length names ≤ 64
  pub each : AllByRecursion IsNamed names

-- the number of a message, and places: what requests have in common that name the same recipients
abbrev pub content_of : Named → ℕ × List ℕ
content_of named = (named.message, named.places.items)

-- the text writes a place that isn't below the least one; it writes none
pub record IsPlaceText (text : List ℕ) (least place : ℕ) : Type 0 where
  pub text_is : text ≡ decimal place
  pub from : least ≤ place
  pub below : place < 100

pub record HasNoPlace (text : List ℕ) (least : ℕ) : Type 0 where
  pub none : (place : ℕ) → ¬ IsPlaceText text least place

-- the text writes these places; it writes none
pub record ArePlacesText (text places : List ℕ) : Type 0 where
  pub valid : ArePlaces places
  pub text_is : text ≡ places_text places

pub record HasNoPlaces (text : List ℕ) : Type 0 where
  pub none : (places : List ℕ) → ¬ ArePlacesText text places

-- the text names recipients of a message; it names none
pub record IsNameText (text : List ℕ) (named : Named) : Type 0 where
  pub valid : IsNamed named
  pub text_is : text ≡ named_text named

pub record HasNoName (text : List ℕ) : Type 0 where
  pub none : (named : Named) → ¬ IsNameText text named

-- the text names recipients of messages; it names none
pub record AreNamesText (text : List ℕ) (names : List Named) : Type 0 where
  pub valid : AreNamed names
  pub text_is : text ≡ names_text names

pub record HasNoNames (text : List ℕ) : Type 0 where
  pub none : (names : List Named) → ¬ AreNamesText text names

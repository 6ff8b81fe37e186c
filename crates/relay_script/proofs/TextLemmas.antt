-- The text of octets: what is read of it, and that it tells its octets.
use Rattle.std.proofs.Common.{◌≡◌, ◌≢◌, ℕ, ◌<◌, ◌^◌, List, [], ◌∷◌, ◌++◌, length, refl, sym, ap, ◌∙◌, arith}
use Rattle.std.proofs.lemmas.List.{append_assoc, append-nil}
use Rattle.std.proofs.lemmas.List.Concat.{flat_map-append}
use Rattle.std.proofs.lemmas.List.Elements.{All-head, All-tail, All-push}
use Rattle.std.specs.List.{All}
use Rattle.relay_script.specs.Text.{spelled, spelled_octet, SpellsOctets, TextTellsOctets}
use Rattle.relay_script.specs.Line.{Operand, IsOperand}
use Rattle.relay_script.specs.Line.Operand.{Node, Number, Count, Time, Text}
use Rattle.relay_script.specs.Reading.{BeginsWithOctet, BeginsWithNoOctet, kind_of, LacksOperand}
use Rattle.relay_script.specs.Reading.Kind.{TextKind}
use Rattle.relay_script.proofs.OctetLemmas.{by_kind, one_octet, none_empty}

-- an octet
abbrev IsOctet : ℕ → Type 0
IsOctet octet = octet < 2 ^ 8

-- the text is the spelling of these octets, and the rest
pub record IsReadTo (text done rest : List ℕ) : Type 0 where
  pub are_octets : All (λ octet. octet < 2 ^ 8) done
  pub text_is : text ≡ spelled done ++ rest

pub read_nothing : (text : List ℕ) → IsReadTo text [] text
read_nothing text = record { are_octets = λ k d h. absurd (omega arith); text_is = refl }

-- one octet more
pub read_more : (text done rest : List ℕ) (octet : ℕ) (more : List ℕ) → IsReadTo text done rest → BeginsWithOctet rest octet more
    → IsReadTo text (done ++ octet ∷ []) more
read_more text done rest octet more read begins = record {
  are_octets = All-push IsOctet done octet read.are_octets begins.within;
  text_is =
      read.text_is ∙ ap (λ l. spelled done ++ l) begins.text_is ∙ sym (append_assoc (spelled done) (spelled_octet octet) more)
      ∙ ap (λ l. (spelled done ++ l) ++ more) (sym (append-nil (spelled_octet octet)))
      ∙ ap (λ l. l ++ more) (sym (flat_map-append spelled_octet done (octet ∷ [])));
}

-- what follows an octet is shorter
pub rest_is_shorter : (text : List ℕ) (octet : ℕ) (rest : List ℕ) → BeginsWithOctet text octet rest → length rest < length text
rest_is_shorter text octet rest begins =
    by_kind text octet rest begins
    (λ p e. let long = ap length e in omega (arith, long))
    (λ p e. let long = ap length e in omega (arith, long))
    (λ p e. let long = ap length e in omega (arith, long))
    (λ p e. let long = ap length e in omega (arith, long))

pub read_all : (text done rest : List ℕ) → IsReadTo text done rest → rest ≡ [] → SpellsOctets text done
read_all text done rest read end = record {
  are_octets = read.are_octets;
  text_is = read.text_is ∙ ap (λ l. spelled done ++ l) end ∙ append-nil (spelled done);
}

-- octets before others, as a text begins with them
begins_with : (octet : ℕ) (octets : List ℕ) → All IsOctet (octet ∷ octets)
    → BeginsWithOctet (spelled (octet ∷ octets)) octet (spelled octets)
begins_with octet octets all = record { within = All-head IsOctet octet octets all; text_is = refl }

-- a text that stops at a rest is no text of octets
stops : (done octets rest : List ℕ) → All IsOctet done → All IsOctet octets → spelled octets ≡ spelled done ++ rest
    → BeginsWithNoOctet rest → rest ≢ [] → ⊥
stops [] [] rest all also same none some = some (sym same)
stops [] (octet ∷ octets) rest all also same none some =
    none.absent octet (spelled octets) (record { within = All-head IsOctet octet octets also; text_is = sym same })
stops (first ∷ done) [] rest all also same none some =
    none_empty.absent first (spelled done ++ rest)
    (record { within = All-head IsOctet first done all; text_is = same ∙ append_assoc (spelled_octet first) (spelled done) rest })
stops (first ∷ done) (octet ∷ octets) rest all also same none some =
    let parts = one_octet (spelled (octet ∷ octets)) octet first (spelled octets) (spelled done ++ rest)
    (begins_with octet octets also)
    (record {
      within = All-head IsOctet first done all;
      text_is = same ∙ append_assoc (spelled_octet first)
          (spelled done) rest;
    }) in
    stops done octets rest (All-tail IsOctet first done all) (All-tail IsOctet octet octets also) parts.1 none some

pub no_text : (text done rest : List ℕ) → IsReadTo text done rest → BeginsWithNoOctet rest → rest ≢ []
    → LacksOperand TextKind text
no_text text done rest read none some = record { absent = λ operand kind is. lacks operand kind is }
  where
    lacks : (operand : Operand) → kind_of operand ≡ TextKind → IsOperand text operand → ⊥
    lacks (Node index) kind is = cc
    lacks (Number number) kind is = cc
    lacks (Count count) kind is = cc
    lacks (Time seconds) kind is = cc
    lacks (Text octets) kind is = stops done octets rest read.are_octets is.are_octets (sym is.text_is ∙ read.text_is) none some

-- octet by octet
pub ruleset reading = (read_nothing, read_more, rest_is_shorter, read_all, no_text)

-- the text of octets tells them
tells : (octets others : List ℕ) → All IsOctet octets → All IsOctet others → spelled octets ≡ spelled others → octets ≡ others
tells [] [] all also same = refl
tells [] (octet ∷ others) all also same =
    absurd (none_empty.absent octet (spelled others) (record { within = All-head IsOctet octet others also; text_is = same }))
tells (octet ∷ octets) [] all also same =
    absurd (none_empty.absent octet (spelled octets) (record { within = All-head IsOctet octet octets all; text_is = sym same }))
tells (octet ∷ octets) (other ∷ others) all also same =
    let parts = one_octet (spelled (octet ∷ octets)) octet other (spelled octets) (spelled others) (begins_with octet octets all)
    (record { within = All-head IsOctet other others also; text_is = same }) in
    let head = parts.0 in
    let tail = tells octets others (All-tail IsOctet octet octets all) (All-tail IsOctet other others also) parts.1 in
    let all_same : octet ∷ octets ≡ other ∷ others = cc in all_same

pub text_tells_octets : TextTellsOctets
text_tells_octets text octets others one two = tells octets others one.are_octets two.are_octets (sym one.text_is ∙ two.text_is)

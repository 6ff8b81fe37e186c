-- Lines are printed one by one.
use Rattle.std.proofs.Common.{◌≡◌, ◌==◌, ℕ, true, false, List, [], ◌∷◌, ◌++◌, Option, None, Some, Bor, option_map, refl, sym, ◌∙◌, ap, subst, append_assoc, append-nil, arith}
use Rattle.std.specs.Io.KnownBytes.{Appends}
use Rattle.std.specs.List.{All, AllByRecursion, flat_map, slice_split}
use Rattle.std.proofs.lemmas.List.Elements.{All-from_recursion}
use Rattle.std.proofs.lemmas.List.Splits.{slice_split_at, slice_split_none}
use Rattle.relay_control.specs.Request.{HasNo, IsCut}
use Rattle.relay_steering.specs.Lines.{printed, printed_line}
use Rattle.relay_steering.proofs.ReportLemmas.{appends_both}

-- the lines of what is left
abbrev pub lines_of : List ℕ → List (List ℕ)
lines_of octets = slice_split (λ octet. octet == 10) octets

abbrev pub lines_left : Option (Bor (List ℕ)) → List (List ℕ)
lines_left None = []
lines_left (Some rest) = lines_of rest.now

-- this was printed, and what is printed of these lines makes it all
pub record HasPrinted (old new : Option (List ℕ)) (all : List ℕ) (left : List (List ℕ)) : Type 0 where
  pub text : List ℕ
  pub appends : Appends old new text
  pub rest : text ++ flat_map printed_line left ≡ printed all

nothing : (known : Option (List ℕ)) → Appends known known []
nothing None = tt
nothing (Some octets) = sym (append-nil octets)

pub none_printed : (known : Option (List ℕ)) (lines : List ℕ) → HasPrinted known known lines (lines_of lines)
none_printed known lines = record { text = []; appends = nothing known; rest = refl }

lacks : (text : List ℕ) → HasNo 10 text → All (λ octet. octet == 10 ≡ false) text
lacks text none = All-from_recursion (λ octet. octet == 10 ≡ false) text none

lines_cut : (text line : List ℕ) (rest : Option (Bor (List ℕ))) → IsCut 10 text line (option_map (λ t. t.now) rest) → lines_of text ≡ line ∷ lines_left rest
lines_cut text line None is = ap lines_of is.text_is ∙ slice_split_none (λ octet. octet == 10) line (lacks line is.front_has_none)
lines_cut text line (Some rest) is =
    ap lines_of is.text_is ∙ slice_split_at (λ octet. octet == 10) line 10 rest.now (lacks line is.front_has_none) refl

pub printed_more : (old between new : Option (List ℕ)) (all : List ℕ) (rest : Option (Bor (List ℕ))) (octets : Bor (List ℕ)) (line : List ℕ) (next : Option (Bor (List ℕ)))
    → HasPrinted old between all (lines_left rest) → rest ≡ Some octets → IsCut 10 octets.now line (option_map (λ t. t.now) next)
    → Appends between new (printed_line line) → HasPrinted old new all (lines_left next)
printed_more old between new all rest octets line next has is cut appends = record {
  text = has.text ++ printed_line line;
  appends = appends_both old between new has.text (printed_line line) has.appends appends;
  rest =
      append_assoc has.text (printed_line line) (flat_map printed_line (lines_left next))
      ∙ ap (λ (lines : List (List ℕ)). has.text ++ flat_map printed_line lines) (sym (ap lines_left is ∙ lines_cut octets.now line next cut))
      ∙ has.rest;
}

pub all_printed : (old new : Option (List ℕ)) (all : List ℕ) (rest : Option (Bor (List ℕ))) → HasPrinted old new all (lines_left rest) → rest ≡ None → Appends old new (printed all)
all_printed old new all rest has none =
    subst (λ (text : List ℕ). Appends old new text)
    (sym (append-nil has.text) ∙ ap (λ (lines : List (List ℕ)). has.text ++ flat_map printed_line lines) (sym (ap lines_left none)) ∙ has.rest)
    has.appends

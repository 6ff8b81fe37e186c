-- What a search for a text answers, and the fields of actions.
use Rattle.std.proofs.Common.{◌≡◌, ℕ, ◌+◌, List, ◌++◌, codes, length, take, drop, Some, None, refl, sym, ap, ◌∙◌, arith, length-append}
use Rattle.std.proofs.lemmas.List.{take_at, drop_at, take-append-drop}
use Rattle.memchr.specs.Find.{FindsNeedle}
use Rattle.memchr.proofs.lemmas.MatchLemmas.{OccursAt-split, OccursAt-from_part}
use Rattle.relay_octets.specs.Line.{crlf}
use Rattle.relay_book.specs.declared.due_report.DueReport.TheVariants.{OfFailure, OfRelay, OfDelay}
use Rattle.relay_report.specs.Boundary.{StandsIn}
use Rattle.relay_report.specs.StatusFields.{action_of, field}

-- a text that was found stands there
pub found_stands : (octets text : List ℕ) (place : ℕ) → FindsNeedle octets text 0 (Some place) → StandsIn text octets
found_stands octets text place found = record {
  before = take place octets;
  after = drop (place + length text) octets;
  text_is = sym (ap (λ (l : List ℕ). take place octets ++ l) (sym (OccursAt-split octets text place found.1)) ∙ take-append-drop place octets);
}

-- a text that wasn't found stands nowhere
pub not_found : (octets text : List ℕ) → FindsNeedle octets text 0 None → StandsIn text octets → ⊥
not_found octets text none stands =
    let e : octets ≡ stands.before ++ (text ++ stands.after) = stands.text_is in
    let here : drop (length stands.before) octets ≡ text ++ stands.after =
    ap (drop (length stands.before)) e ∙ drop_at stands.before (text ++ stands.after) (length stands.before) refl in
    let fits : length octets ≡ length stands.before + (length text + length stands.after) =
    ap length e ∙ length-append stands.before (text ++ stands.after) ∙ ap (λ n. length stands.before + n) (length-append text stands.after) in
    none (length stands.before) (omega arith) (omega (arith, fits))
    (OccursAt-from_part octets text (length stands.before) (omega (arith, fits)) (ap (take (length text)) here ∙ take_at text stands.after (length text) refl))

-- the fields of actions, after the line end before them
pub failure_field : crlf ++ field (codes "Action") (action_of OfFailure) ≡ codes "\r\nAction: failed\r\n"
unfolding field
failure_field = refl

pub delay_field : crlf ++ field (codes "Action") (action_of OfDelay) ≡ codes "\r\nAction: delayed\r\n"
unfolding field
delay_field = refl

pub relay_field : crlf ++ field (codes "Action") (action_of OfRelay) ≡ codes "\r\nAction: relayed\r\n"
unfolding field
relay_field = refl

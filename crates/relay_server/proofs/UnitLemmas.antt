-- Units: none is empty, and of a state none begins another.
use Rattle.std.proofs.Common.{◌≡◌, ℕ, List, ◌++◌, length, take, drop, sym, ap, ◌∙◌, arith, append_assoc, length-append}
use Rattle.std.proofs.Math.Seq.{take-append_seam, drop-append_seam}
use Rattle.relay_octets.specs.Line.{crlf}
use Rattle.relay_octets.proofs.Theorems.{first_line_is_one}
use Rattle.relay_body.proofs.Theorems.{no_text_is_empty, no_text_begins_another}
use Rattle.relay_server.specs.DialogueLaws.{NoUnitIsEmpty, NoUnitBeginsAnother}
use Rattle.relay_server.specs.State.{Command, Receiving, Closed}
use Rattle.relay_server.specs.Unit.{IsCommandUnit, announced_of}

-- after parts of one length lists go on alike
pub same_parts : {A : Type 0} (front other rest more : List A) → length front ≡ length other → front ++ rest ≡ other ++ more → (front ≡ other) × (rest ≡ more)
same_parts front other rest more n e = (
  sym (take-append_seam front rest) ∙ ap (λ l. take (length front) l) e ∙ ap (λ k. take k (other ++ more)) n ∙ take-append_seam other more,
  sym (drop-append_seam front rest) ∙ ap (λ l. drop (length front) l) e ∙ ap (λ k. drop k (other ++ more)) n ∙ drop-append_seam other more,
)

-- a line, CR LF, the octets of its chunk, and what stands after these
after_line : (text octets after : List ℕ) → ((text ++ crlf) ++ octets) ++ after ≡ (text ++ crlf) ++ (octets ++ after)
after_line text octets after = append_assoc (text ++ crlf) octets after

-- no command unit begins another
pub one_command_unit : (unit other after rest text octets line more : List ℕ) → IsCommandUnit unit text octets → IsCommandUnit other line more → unit ++ after ≡ other ++ rest → (text ≡ line) × (octets ≡ more) × (after ≡ rest)
one_command_unit unit other after rest text octets line more one two e =
    let same = first_line_is_one (unit ++ after) text (octets ++ after) line (more ++ rest) (record {
      text = ap (λ u. u ++ after) one.unit_is ∙ after_line text octets after;
      first = one.line;
    }) (record {
      text = e ∙ ap (λ u. u ++ rest) two.unit_is ∙ after_line line more rest;
      first = two.line;
    }) in
    let sizes = one.counted ∙ ap announced_of same.0 ∙ sym two.counted in
    let parts = same_parts octets more after rest sizes same.1 in
    (same.0, parts.0, parts.1)

-- no unit is empty
pub no_unit_is_empty : NoUnitIsEmpty
no_unit_is_empty (Command state) unit is e =
    let text = is.0 in
    let octets = is.1 in
    let long = ap length (sym e ∙ is.2.unit_is) ∙ length-append (text ++ crlf) octets in
    let line = length-append text crlf in
    omega (arith, long, line)
no_unit_is_empty (Receiving client envelope) unit is e = no_text_is_empty unit is.0 is.1 e
no_unit_is_empty Closed unit is e = is

-- of the units of a state none begins another
pub no_unit_begins_another : NoUnitBeginsAnother
no_unit_begins_another (Command state) unit other after rest one two e =
    let same = one_command_unit unit other after rest one.0 one.1 two.0 two.1 one.2 two.2 e in
    (one.2.unit_is ∙ ap (λ t. t ++ crlf ++ one.1) same.0 ∙ ap (λ o. two.0 ++ crlf ++ o) same.1 ∙ sym two.2.unit_is, same.2)
no_unit_begins_another (Receiving client envelope) unit other after rest one two e =
    no_text_begins_another unit one.0 other two.0 after rest one.1 two.1 e
no_unit_begins_another Closed unit other after rest one two e = absurd one

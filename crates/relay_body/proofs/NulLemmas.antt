-- A search finds NUL exactly where it is among the octets.
use Rattle.std.proofs.Common.{◌≡◌, ℕ, false, List, Option, None, Some, get_or, sym, arith}
use Rattle.std.specs.Option.{is_some}
use Rattle.std.proofs.lemmas.Bool.{false_from_ne_true}
use Rattle.std.proofs.lemmas.List.Elements.{All-from_get_or}
use Rattle.std.proofs.lemmas.List.Folds.{list_any_at, list_any_none}
use Rattle.memchr.specs.Find.{IsFirstByte, is_byte}
use Rattle.relay_body.specs.Nul.{has_nul}

pub nul_is_found : (octets : List ℕ) (found : Option ℕ) → IsFirstByte (is_byte 0) octets found → is_some found ≡ has_nul octets
nul_is_found octets None nowhere =
    sym
    (list_any_none (is_byte 0) octets
    (All-from_get_or (λ octet. is_byte 0 octet ≡ false) octets 0
    (λ k within. false_from_ne_true (is_byte 0 (get_or octets k 0)) (λ is. nowhere k (omega arith) within is))))
nul_is_found octets (Some place) first = sym (list_any_at (is_byte 0) octets place 0 first.0.high first.1)

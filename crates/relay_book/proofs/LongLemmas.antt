-- Texts after a length of four octets, with a rest.
use Rattle.std.proofs.Common.{◌≡◌, ℕ, ◌+◌, ◌<◌, ◌^◌, List, ◌++◌, length, sym, ap, ◌∙◌, arith, append_assoc, length-append}
use Rattle.relay_book.specs.Record.{octets_4}
use Rattle.relay_book.specs.SnapshotFields.{HasNoLong}
use Rattle.relay_book.proofs.AcceptLemmas.{long_4}
use Rattle.relay_book.proofs.CodeLemmas.{code_4}

pub none_short : (text : List ℕ) → length text < 4 → HasNoLong text
none_short text short = record {
  none = λ field rest fits e.
      let long = long_4 text (length field) (field ++ rest) (e ∙ append_assoc (octets_4 (length field)) field rest) in
      omega (arith, short, long);
}

pub none_cut : (text : List ℕ) (n : ℕ) (after : List ℕ) → text ≡ octets_4 n ++ after → n < 2 ^ 32 → length after < n → HasNoLong text
none_cut text n after e small less = record {
  none = λ field rest fits other.
      let f = code_4 n (length field) after (field ++ rest) small fits (sym e ∙ other ∙ append_assoc (octets_4 (length field)) field rest) in
      let long : length after ≡ length field + length rest = ap length f.1 ∙ length-append field rest in
      omega (arith, less, f.0, long);
}

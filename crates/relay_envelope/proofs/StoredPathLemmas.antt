-- The domain in a path as it is stored.
use Rattle.std.proofs.Common.{◌≡◌, ◌≤◌, ◌<◌, ℕ, zero, suc, ◌+◌, ◌-◌, not, get_or, Bool, true, false, ◌||◌, List, [], ◌∷◌, ◌++◌, length, drop, Some, None, if◌then◌else◌, refl, sym, ap, ◌∙◌, arith, append_assoc, length-append}
use Rattle.std.specs.Ffi.{without_last}
use Rattle.std.specs.List.{after_last, list_any, suffix_len}
use Rattle.std.proofs.Math.Seq.{get_or-append_seam}
use Rattle.std.proofs.lemmas.Bool.{false≢true}
use Rattle.std.proofs.lemmas.List.{drop_at, take_at, get_or-append_right}
use Rattle.std.proofs.lemmas.List.Folds.{list_any-append}
use Rattle.std.proofs.lemmas.List.Sums.{suffix_len_is}
use Rattle.relay_envelope.specs.Mailbox.{SplitsAtLast, is_at, mailbox_text, stands_in}
use Rattle.relay_envelope.specs.Path.{DomainInIsDomainOf}
use Rattle.relay_envelope.specs.Path.Path.{Null, Postmaster, Mailbox}
use Rattle.relay_envelope.proofs.PathLemmas.{domain_lacks_at, postmaster_lacks_at, stands_between}

abbrev is_not_at : ℕ → Bool
is_not_at octet = not (is_at octet)

neither : (a b : Bool) → a || b ≡ false → (a ≡ false) × (b ≡ false)
neither true b h = absurd (false≢true (sym h))
neither false b h = (refl, h)

-- an octet that stands nowhere is at no place
at_no_place : (text : List ℕ) (place : ℕ) → place < length text → list_any is_at text ≡ false → is_not_at (get_or text place 0) ≡ true
at_no_place [] place within none = absurd (omega arith)
at_no_place (octet ∷ text) zero within none = ap not (neither (is_at octet) (list_any is_at text) none).0
at_no_place (octet ∷ text) (suc place) within none = at_no_place text place (omega arith) (neither (is_at octet) (list_any is_at text) none).1

-- what stands after the last `@`
after_last_is : (text front back : List ℕ) → SplitsAtLast 64 text front back → after_last is_at text ≡ back
after_last_is text front back split =
    let whole : text ≡ (front ++ 64 ∷ []) ++ back = split.text_is ∙ sym (append_assoc front (64 ∷ []) back) in
    let n : ℕ = length front + 1 in
    let long : length (front ++ 64 ∷ []) ≡ n = length-append front (64 ∷ []) in
    let size : length text ≡ n + length back = ap length whole ∙ length-append (front ++ 64 ∷ []) back ∙ ap (λ m. m + length back) long in
    let counted : suffix_len is_not_at text ≡ length text - n =
    suffix_len_is is_not_at text n 0 (omega arith)
    (λ k from below.
    ap (λ l. is_not_at (get_or l k 0)) whole ∙ ap is_not_at (get_or-append_right (front ++ 64 ∷ []) back n k 0 long from)
    ∙ at_no_place back (k - n) (omega arith) split.last)
    (λ some.
    let here : n - 1 ≡ length front = omega arith in
    ap is_not_at (ap (λ m. get_or text m 0) here ∙ ap (λ l. get_or l (length front) 0) split.text_is ∙ get_or-append_seam front 64 back 0)) in
    let place : length text - suffix_len is_not_at text ≡ n = omega arith in
    ap (λ m. drop m text) place ∙ ap (drop n) whole ∙ drop_at (front ++ 64 ∷ []) back n long

-- what a search for the last `@` finds
pub after_found : (text front back : List ℕ) → SplitsAtLast 64 text front back → (list_any is_at text ≡ true) × (back ≡ after_last is_at text) × (length back ≤ length text)
after_found text front back split =
    let size : length text ≡ length front + suc (length back) = ap length split.text_is ∙ length-append front (64 ∷ back) in
    (ap (list_any is_at) split.text_is ∙ stands_between 64 front back, sym (after_last_is text front back split), omega arith)

lacks_at-end : (text : List ℕ) → stands_in 64 text ≡ false → stands_in 64 (text ++ 62 ∷ []) ≡ false
lacks_at-end text none = list_any-append is_at text (62 ∷ []) ∙ ap (λ b. b || false) none

without_end : (text : List ℕ) → without_last (text ++ 62 ∷ []) ≡ text
without_end text =
    let long = length-append text (62 ∷ []) in
    take_at text (62 ∷ []) (length (text ++ 62 ∷ []) - 1) (omega arith)

pub domain_in_is_domain_of : DomainInIsDomainOf
domain_in_is_domain_of Null valid = refl
domain_in_is_domain_of (Postmaster word) valid =
    let text : List ℕ = 60 ∷ word ++ 62 ∷ [] in
    ap (λ b. if b then Some (without_last (after_last is_at text)) else None) (lacks_at-end word (postmaster_lacks_at word valid))
domain_in_is_domain_of (Mailbox route local domain) valid =
    let text : List ℕ = mailbox_text route local domain in
    let front : List ℕ = 60 ∷ (route ++ local) in
    let split : SplitsAtLast 64 text front (domain ++ 62 ∷ []) = record {
      text_is = simp append_assoc;
      last = lacks_at-end domain (domain_lacks_at domain valid.0.is_domain);
    } in
    let found = after_found text front (domain ++ 62 ∷ []) split in
    ap (λ b. if b then Some (without_last (after_last is_at text)) else None) found.0
    ∙ ap (λ l. Some (without_last l)) (sym found.1) ∙ ap (λ l. Some l) (without_end domain)

-- Paths: where a text splits, and that it begins with one path.
use Rattle.std.proofs.Common.{◌≡◌, ◌≢◌, ℕ, suc, ◌+◌, ◌<◌, Bool, true, false, cond, ◌||◌, ◌==◌, inl, inr, List, [], ◌∷◌, ◌++◌, codes, map, length, take, drop, get_or, Option, None, Some, MatchOption, refl, sym, subst, ap, ◌∙◌, arith, append_assoc, length-append}
use Rattle.std.specs.List.{AllPass, list_all, prefix_len}
use Rattle.std.specs.Int.{is_in_range}
use Rattle.std.specs.Char.{to_ascii_lowercase}
use Rattle.std.proofs.Math.Bool.{or-true}
use Rattle.std.proofs.lemmas.List.{get_or-take, get_or-drop, get_or_default, length-take, length-drop, take-append-drop, drop_more, same_from_push}
use Rattle.std.proofs.lemmas.List.Sums.{list_all-from_AllPass, AllPass-from_list_all, prefix_len_passes}
use Rattle.std.proofs.lemmas.List.Folds.{list_any-append, list_any_none}
use Rattle.std.proofs.lemmas.Bool.{and_parts, and_from, eqb-true, eq-eqb, false≢true, true≢false}
use Rattle.std.proofs.lemmas.Bool.Decides.{nat_tests}
use Rattle.memchr.specs.Find.{NoneAfter, Passes, IsLastByte, is_byte}
use Rattle.relay_lines.specs.Word.{is_space, is_domain_octet, is_literal_octet, are_domain_octets}
use Rattle.relay_envelope.specs.Row.{IsRow, is_plain}
use Rattle.relay_envelope.specs.Mailbox.{IsDomain, IsLocalPart, IsMailbox, IsPostmaster, IsSourceRoute, SplitsAtLast, SplitsAfterBracket, SplitsRoute, address_text, begins_with_at, in_brackets, mailbox_text, stands_in}
use Rattle.relay_envelope.specs.Path.{Path, BeginsWithPath, IsPath, PathIsOne, body_of, path_text, stands_apart}
use Rattle.relay_envelope.specs.Path.Path.{Null, Postmaster, Mailbox}
use Rattle.relay_envelope.proofs.RowLemmas.{row_is_one, row_joined, row_weaker, plain_octets, plain_row, empty_row}

-- a test that cannot be true is false
false_by : (b : Bool) → (b ≡ true → ⊥) → b ≡ false
false_by true never = absurd (never refl)
false_by false never = refl

-- an octet that stands at no place does not stand in the text
lacks_by_place : (octet : ℕ) (text : List ℕ) → ((k : ℕ) → k < length text → get_or text k 0 == octet ≡ true → ⊥) → stands_in octet text ≡ false
lacks_by_place octet text nowhere =
    list_any_none (λ other. other == octet) text (λ k d h. false_by _ (λ e. nowhere k h (ap (λ o. o == octet) (get_or_default text k 0 d h) ∙ e)))

-- an octet that a test refuses does not stand where all pass
lacks_by_test : (test : ℕ → Bool) (octet : ℕ) (text : List ℕ) → test octet ≡ false → AllPass test text → stands_in octet text ≡ false
lacks_by_test test octet text refused all =
    lacks_by_place octet text (λ k h e. false≢true (sym refused ∙ ap test (sym (eqb-true (get_or text k 0) octet e)) ∙ all k 0 h))

-- between any octets it is seen
pub stands_between : (octet : ℕ) (front back : List ℕ) → stands_in octet (front ++ octet ∷ back) ≡ true
stands_between octet [] back = ap (λ b. b || stands_in octet back) (eq-eqb octet octet refl)
stands_between octet (other ∷ front) back =
    ap (λ b. (other == octet) || b) (stands_between octet front back) ∙ or-true (other == octet)

-- around the last such octet a text splits once
pub last_is_one : (octet : ℕ) (front back other more : List ℕ) → stands_in octet back ≡ false → stands_in octet more ≡ false → front ++ octet ∷ back ≡ other ++ octet ∷ more → (front ≡ other) × (back ≡ more)
last_is_one octet [] back [] more h k e = (refl, ap (drop 1) e)
last_is_one octet [] back (y ∷ other) more h k e =
    let tail : back ≡ other ++ octet ∷ more = cc in
    absurd (false≢true (sym h ∙ ap (stands_in octet) tail ∙ stands_between octet other more))
last_is_one octet (x ∷ front) back [] more h k e =
    let tail : front ++ octet ∷ back ≡ more = cc in
    absurd (false≢true (sym k ∙ ap (stands_in octet) (sym tail) ∙ stands_between octet front back))
last_is_one octet (x ∷ front) back (y ∷ other) more h k e =
    let head : x ≡ y = cc in
    let tail : front ++ octet ∷ back ≡ other ++ octet ∷ more = cc in
    let same = last_is_one octet front back other more h k tail in
    (ap (λ o. o ∷ front) head ∙ ap (λ l. y ∷ l) same.0, same.1)

-- where a search from the back finds the octet, it is the last
last_found : (octet : ℕ) (text : List ℕ) (place : ℕ) → NoneAfter (Passes (is_byte octet) text) 0 (length text) place → Passes (is_byte octet) text place → SplitsAtLast octet text (take place text) (drop (place + 1) text)
last_found octet text place none here = record {
  text_is = sym (take-append-drop place text) ∙ ap (λ l. take place text ++ l) (drop_more text place 0 none.high ∙ ap (λ o. o ∷ drop (place + 1) text) (eqb-true (get_or text place 0) octet here));
  last = lacks_by_place octet (drop (place + 1) text) (λ k h e.
      let short = length-drop (place + 1) text in
      none.after (place + 1 + k) (omega arith) (omega (arith, short)) (ap (λ o. o == octet) (sym (get_or-drop (place + 1) text k 0)) ∙ e));
}

-- what a search from the back answers
pub last_answer : (octet : ℕ) (text : List ℕ) (answer : Option ℕ) → IsLastByte (is_byte octet) text answer → MatchOption answer (stands_in octet text ≡ false) (λ place. SplitsAtLast octet text (take place text) (drop (place + 1) text))
last_answer octet text None nowhere = lacks_by_place octet text (λ k h e. nowhere k (omega arith) h e)
last_answer octet text (Some place) found = last_found octet text place found.0 found.1

-- an octet of an address literal, or of a domain, is plain
literal_plain : (octet : ℕ) → is_literal_octet octet ≡ true → is_plain octet ≡ true
literal_plain octet test = grind (arith, nat_tests)

domain_plain : (octet : ℕ) → is_domain_octet octet ≡ true → is_plain octet ≡ true
domain_plain octet test = grind (arith, nat_tests)

-- so is a letter

letter_plain : (octet : ℕ) → is_in_range 97 122 (to_ascii_lowercase octet) ≡ true → is_plain octet ≡ true
letter_plain octet test = grind (arith, nat_tests)

letter_no_at : (octet : ℕ) → is_in_range 97 122 (to_ascii_lowercase octet) ≡ true → octet == 64 ≡ false
letter_no_at octet test = grind (arith, nat_tests)

-- a domain has no `@`
pub domain_lacks_at : (domain : List ℕ) → IsDomain domain → stands_in 64 domain ≡ false
unfolding are_domain_octets
domain_lacks_at domain (inl name) = lacks_by_test is_domain_octet 64 domain refl (AllPass-from_list_all is_domain_octet domain name.octets)
domain_lacks_at domain (inr literal) =
    ap (stands_in 64) literal.text_is
    ∙ list_any-append (λ other. other == 64) (91 ∷ literal.inner) (93 ∷ [])
    ∙ ap (λ b. b || false) (lacks_by_test is_literal_octet 64 literal.inner refl literal.octets)

-- a domain is a row
domain_row : (domain : List ℕ) → IsDomain domain → IsRow 62 domain
unfolding are_domain_octets
domain_row domain (inl name) = plain_octets is_domain_octet domain domain_plain name.octets
domain_row domain (inr literal) =
    let inner = plain_octets is_literal_octet literal.inner literal_plain (list_all-from_AllPass is_literal_octet literal.inner literal.octets) in
    let row = plain_row 62 91 (literal.inner ++ 93 ∷ []) refl (row_joined 62 literal.inner (93 ∷ []) inner (plain_row 62 93 [] refl (empty_row 62))) in
    subst (IsRow 62) (sym literal.text_is) row

-- a source route is a row
route_row : (route : List ℕ) → IsSourceRoute route → IsRow 62 route
route_row route source =
    let row = row_joined 62 source.row (58 ∷ []) (row_weaker 58 source.row source.is_row) (plain_row 62 58 [] refl (empty_row 62)) in
    subst (IsRow 62) (sym source.text_is) (plain_row 62 64 (source.row ++ 58 ∷ []) refl row)

address_row : (local domain : List ℕ) → IsLocalPart local → IsDomain domain → IsRow 62 (address_text local domain)
address_row local domain is_local is_domain =
    row_joined 62 local (64 ∷ domain) is_local.is_row (plain_row 62 64 domain refl (domain_row domain is_domain))

mailbox_row : (route local domain : List ℕ) → IsMailbox route local domain → IsRow 62 (route ++ address_text local domain)
mailbox_row route local domain valid =
    let address = address_row local domain valid.is_local_part valid.is_domain in
    elim valid.is_route [
      | inl source ↦ row_joined 62 route (address_text local domain) (route_row route source) address
      | inr none ↦ subst (λ (l : List ℕ). IsRow 62 (l ++ address_text local domain)) (sym none.0) address
    ]

-- the postmaster's word is a row
letters_row : (text other : List ℕ) → map to_ascii_lowercase text ≡ other → list_all (is_in_range 97 122) other ≡ true → IsRow 62 text
letters_row [] other e all = empty_row 62
letters_row (octet ∷ text) [] e all = absurd (let no : ⊥ = cc in no)
letters_row (octet ∷ text) (head ∷ other) e all =
    let first : to_ascii_lowercase octet ≡ head = cc in
    let later : map to_ascii_lowercase text ≡ other = cc in
    let parts = and_parts (is_in_range 97 122 head) (list_all (is_in_range 97 122) other) all in
    let plain = letter_plain octet (ap (is_in_range 97 122) first ∙ parts.0) in
    row_joined 62 (octet ∷ []) text (plain_octets is_plain (octet ∷ []) (λ o h. h) (and_from (is_plain octet) true plain refl)) (letters_row text other later parts.1)

-- what stands between a path's brackets is a row
body_row : (path : Path) → IsPath path → IsRow 62 (body_of path)
body_row Null valid = empty_row 62
body_row (Postmaster word) valid = letters_row word (map to_ascii_lowercase (codes "postmaster")) valid refl
body_row (Mailbox route local domain) valid = mailbox_row route local domain valid.0

-- what stands in brackets is one
brackets_same : (body other : List ℕ) → in_brackets body ≡ in_brackets other → body ≡ other
brackets_same body other e = (same_from_push body other 62 62 (ap (drop 1) e)).0

colon_no_quote : ◌≢◌ {A = ℕ} 58 34
colon_no_quote e = omega arith

bracket_no_quote : ◌≢◌ {A = ℕ} 62 34
bracket_no_quote e = omega arith

-- a body with a source route, around its `:`
source_body : (body route address : List ℕ) (source : IsSourceRoute route) → body ≡ route ++ address → body ≡ 64 ∷ (source.row ++ 58 ∷ address)
source_body body route address source e =
    e ∙ ap (λ l. l ++ address) source.text_is ∙ ap (λ l. 64 ∷ l) (append_assoc source.row (58 ∷ []) address)

-- a body with a source route begins with `@`, and so does no address after none
source_or_none : (body route address other more : List ℕ) → IsSourceRoute route → body ≡ route ++ address → other ≡ [] → begins_with_at more ≡ false → body ≡ other ++ more → ⊥
source_or_none body route address other more source e none begins f =
    let same : more ≡ body = sym (f ∙ ap (λ l. l ++ more) none) in
    true≢false (sym (ap begins_with_at (same ∙ source_body body route address source e)) ∙ begins)

-- a body has one route, and one address after it
route_is_one : (body route address other more : List ℕ) → SplitsRoute body route address → SplitsRoute body other more → (route ≡ other) × (address ≡ more)
route_is_one body route address other more one two =
    elim one.is_route [
      | inl source ↦ elim two.is_route [
        | inl again ↦
            let e = ap (drop 1) (sym (source_body body route address source one.text_is) ∙ source_body body other more again two.text_is) in
            let same = row_is_one 58 source.row address again.row more colon_no_quote source.is_row again.is_row e in
            (source.text_is ∙ ap (λ l. 64 ∷ l ++ 58 ∷ []) same.0 ∙ sym again.text_is, same.1)
        | inr none ↦ absurd (source_or_none body route address other more source one.text_is none.0 none.1 two.text_is)
      ]
      | inr none ↦ elim two.is_route [
        | inl again ↦ absurd (source_or_none body other more route address again two.text_is none.0 none.1 one.text_is)
        | inr nothing ↦
            (none.0 ∙ sym nothing.0, sym (ap (λ l. l ++ address) none.0) ∙ sym one.text_is ∙ two.text_is ∙ ap (λ l. l ++ more) nothing.0)
      ]
    ]

-- the address of a mailbox in brackets
pub address_is : (text body route address other local domain : List ℕ) → text ≡ in_brackets body → SplitsRoute body route address → text ≡ mailbox_text other local domain → IsMailbox other local domain → (route ≡ other) × (address ≡ address_text local domain)
address_is text body route address other local domain e split f valid =
    route_is_one body route address other (address_text local domain) split (record {
      text_is = brackets_same body (other ++ address_text local domain) (sym e ∙ f);
      is_route = valid.is_route;
    })

-- an address has an `@`
pub no_address : (text body route address other local domain : List ℕ) → text ≡ in_brackets body → SplitsRoute body route address → stands_in 64 address ≡ false → text ≡ mailbox_text other local domain → IsMailbox other local domain → ⊥
no_address text body route address other local domain e split none f valid =
    false≢true (sym none ∙ ap (stands_in 64) (address_is text body route address other local domain e split f valid).1 ∙ stands_between 64 local domain)

-- in brackets, a body that splits so is the mailbox of its parts alone
pub parts_are : (text body route address front back other local domain : List ℕ) → text ≡ in_brackets body → SplitsRoute body route address → SplitsAtLast 64 address front back → text ≡ mailbox_text other local domain → IsMailbox other local domain → (front ≡ local) × (back ≡ domain)
parts_are text body route address front back other local domain e split last f valid =
    let address = address_is text body route address other local domain e split f valid in
    last_is_one 64 front back local domain last.last (domain_lacks_at domain valid.is_domain) (sym last.text_is ∙ address.1)

-- spaces before a `<` are skipped
skipped : (spaces tail : List ℕ) → list_all is_space spaces ≡ true → drop (prefix_len is_space (spaces ++ 60 ∷ tail)) (spaces ++ 60 ∷ tail) ≡ 60 ∷ tail
skipped [] tail h = refl
skipped (octet ∷ spaces) tail h =
    let parts = and_parts (is_space octet) (list_all is_space spaces) h in
    let more : 1 + prefix_len is_space (spaces ++ 60 ∷ tail) ≡ suc (prefix_len is_space (spaces ++ 60 ∷ tail)) = omega arith in
    ap (λ b. drop (cond b (1 + prefix_len is_space (spaces ++ 60 ∷ tail)) 0) (octet ∷ (spaces ++ 60 ∷ tail))) parts.0
    ∙ ap (λ n. drop n (octet ∷ (spaces ++ 60 ∷ tail))) more ∙ skipped spaces tail parts.1

-- after its spaces a text is the path and the rest
after_spaces : (text : List ℕ) (path : Path) (rest : List ℕ) → BeginsWithPath text path rest → drop (prefix_len is_space text) text ≡ 60 ∷ (body_of path ++ 62 ∷ rest)
after_spaces text path rest begins =
    let path_is : path_text path ++ rest ≡ 60 ∷ (body_of path ++ 62 ∷ rest) = ap (λ l. 60 ∷ l) (append_assoc (body_of path) (62 ∷ []) rest) in
    let whole : text ≡ begins.spaces ++ 60 ∷ (body_of path ++ 62 ∷ rest) =
    begins.text_is ∙ append_assoc begins.spaces (path_text path) rest ∙ ap (λ l. begins.spaces ++ l) path_is in
    ap (λ l. drop (prefix_len is_space l) l) whole
    ∙ skipped begins.spaces (body_of path ++ 62 ∷ rest) (list_all-from_AllPass is_space begins.spaces begins.are_spaces)

-- without a row in brackets no path begins
pub no_bracket : (text : List ℕ) (path : Path) (rest : List ℕ) → ((row : List ℕ) (more : List ℕ) → IsRow 62 row → drop (prefix_len is_space text) text ≢ 60 ∷ row ++ 62 ∷ more) → BeginsWithPath text path rest → ⊥
no_bracket text path rest none begins =
    none (body_of path) rest (body_row path begins.valid) (after_spaces text path rest begins)

-- the row in brackets that a text begins with is the path
pub split_is_path : (text front back : List ℕ) (path : Path) (rest : List ℕ) → SplitsAfterBracket (drop (prefix_len is_space text) text) front back → BeginsWithPath text path rest → (front ≡ path_text path) × (back ≡ rest)
split_is_path text front back path rest split begins =
    let around : drop (prefix_len is_space text) text ≡ 60 ∷ (split.row ++ 62 ∷ back) =
    split.text_is ∙ ap (λ l. l ++ back) split.front_is ∙ ap (λ l. 60 ∷ l) (append_assoc split.row (62 ∷ []) back) in
    let same = row_is_one 62 split.row back (body_of path) rest bracket_no_quote split.is_row (body_row path begins.valid)
    (ap (drop 1) (sym around ∙ after_spaces text path rest begins)) in
    (split.front_is ∙ ap in_brackets same.0, same.1)

-- where that row is a path, and the rest stands apart, the text begins with the path
pub begins_with_path : (text front back : List ℕ) (path : Path) → SplitsAfterBracket (drop (prefix_len is_space text) text) front back → IsPath path → front ≡ path_text path → stands_apart back ≡ true → BeginsWithPath text path back
begins_with_path text front back path split valid e apart = record {
  spaces = take (prefix_len is_space text) text;
  are_spaces = λ k d h.
      let short = length-take (prefix_len is_space text) text in
      let below : k < prefix_len is_space text = omega (arith, short) in
      ap is_space (get_or-take (prefix_len is_space text) text k d below) ∙ prefix_len_passes is_space text k d below;
  text_is = sym (take-append-drop (prefix_len is_space text) text)
      ∙ ap (λ l. take (prefix_len is_space text) text ++ l) (split.text_is ∙ ap (λ l. l ++ back) e)
      ∙ sym (append_assoc (take (prefix_len is_space text) text) (path_text path) back);
  valid = valid;
  apart = apart;
}

-- letters have no `@`
letters_lack : (text other : List ℕ) → map to_ascii_lowercase text ≡ other → list_all (is_in_range 97 122) other ≡ true → stands_in 64 text ≡ false
letters_lack [] other e all = refl
letters_lack (octet ∷ text) [] e all = absurd (let no : ⊥ = cc in no)
letters_lack (octet ∷ text) (head ∷ other) e all =
    let first : to_ascii_lowercase octet ≡ head = cc in
    let later : map to_ascii_lowercase text ≡ other = cc in
    let parts = and_parts (is_in_range 97 122 head) (list_all (is_in_range 97 122) other) all in
    let no_at : octet == 64 ≡ false = letter_no_at octet (ap (is_in_range 97 122) first ∙ parts.0) in
    ap (λ b. b || stands_in 64 text) no_at ∙ letters_lack text other later parts.1

pub postmaster_lacks_at : (word : List ℕ) → IsPostmaster word → stands_in 64 word ≡ false
postmaster_lacks_at word valid = letters_lack word (map to_ascii_lowercase (codes "postmaster")) valid refl

-- the postmaster's word is no mailbox
postmaster_or_mailbox : (word route local domain : List ℕ) → IsPostmaster word → word ≡ route ++ address_text local domain → ⊥
postmaster_or_mailbox word route local domain valid e =
    false≢true (sym (postmaster_lacks_at word valid) ∙ ap (stands_in 64) (e ∙ sym (append_assoc route local (64 ∷ domain))) ∙ stands_between 64 (route ++ local) domain)

no_mailbox : (route local domain : List ℕ) → [] ≡ route ++ address_text local domain → ⊥
no_mailbox route local domain e =
    omega (arith, ap length e, length-append route (address_text local domain), length-append local (64 ∷ domain))

no_word : IsPostmaster [] → ⊥
no_word valid = let no : ⊥ = cc in no

-- a path has one text
path_by_body : (path other : Path) → IsPath path → IsPath other → body_of path ≡ body_of other → path ≡ other
path_by_body Null Null valid well e = refl
path_by_body Null (Postmaster word) valid well e = absurd (no_word (subst IsPostmaster (sym e) well))
path_by_body Null (Mailbox route local domain) valid well e = absurd (no_mailbox route local domain e)
path_by_body (Postmaster word) Null valid well e = absurd (no_word (subst IsPostmaster e valid))
path_by_body (Postmaster word) (Postmaster other) valid well e = ap Postmaster e
path_by_body (Postmaster word) (Mailbox route local domain) valid well e = absurd (postmaster_or_mailbox word route local domain valid e)
path_by_body (Mailbox route local domain) Null valid well e = absurd (no_mailbox route local domain (sym e))
path_by_body (Mailbox route local domain) (Postmaster word) valid well e = absurd (postmaster_or_mailbox word route local domain well (sym e))
path_by_body (Mailbox route local domain) (Mailbox other front back) valid well e =
    let split = route_is_one (route ++ address_text local domain) route (address_text local domain) other (address_text front back)
    (record { text_is = refl; is_route = valid.0.is_route }) (record { text_is = e; is_route = well.0.is_route }) in
    let parts = last_is_one 64 local domain front back (domain_lacks_at domain valid.0.is_domain) (domain_lacks_at back well.0.is_domain) split.1 in
    ap (λ l. Mailbox l local domain) split.0 ∙ ap (λ l. Mailbox other l domain) parts.0 ∙ ap (λ l. Mailbox other front l) parts.1

pub path_is_one : PathIsOne
path_is_one text path rest other more one two =
    let same = row_is_one 62 (body_of path) rest (body_of other) more bracket_no_quote (body_row path one.valid) (body_row other two.valid)
    (ap (drop 1) (sym (after_spaces text path rest one) ∙ after_spaces text other more two)) in
    (path_by_body path other one.valid two.valid same.0, same.1)

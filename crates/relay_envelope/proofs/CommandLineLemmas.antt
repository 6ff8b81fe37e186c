-- What is written of what may be stored is printable, ends in no blank, and so stands in a line of MAIL or RCPT.
use Rattle.std.proofs.Common.{◌≡◌, ◌≤◌, ◌<◌, ℕ, ◌+◌, not, ◌==◌, Bool, true, false, ◌&&◌, ◌||◌, inl, inr, ◌⊎◌, List, [], ◌∷◌, ◌++◌, codes, length, map, reverse, Option, None, Some, refl, sym, ap, ◌∙◌, subst, cond, arith, append_assoc, append-nil, length-append}
use Rattle.std.specs.List.{flat_map, suffix_len, prefix_len, list_all, AllByRecursion}
use Rattle.std.specs.Char.{to_ascii_lowercase}
use Rattle.std.specs.Int.{is_in_range}
use Rattle.std.proofs.lemmas.Bool.{and_parts, and_from, false≢true}
use Rattle.std.proofs.lemmas.Bool.Decides.{nat_tests}
use Rattle.std.proofs.lemmas.List.{reverse-append}
use Rattle.std.proofs.lemmas.List.Folds.{list_all-append}
use Rattle.std.proofs.lemmas.List.Sums.{AllPass-from_list_all, list_all-from_AllPass}
use Rattle.relay_lines.specs.Word.{are_domain_octets, is_blank, is_domain_octet, is_literal_octet, is_printable}
use Rattle.relay_lines.specs.Command.{Mail, Rcpt}
use Rattle.relay_lines.specs.WrittenCommand.{MayFollow}
use Rattle.relay_lines.proofs.Theorems.{written_command_is_read}
use Rattle.relay_envelope.specs.Row.{Content, IsContent, content_text, Piece, IsPiece, piece_text, IsRow, is_plain, is_text_octet}
use Rattle.relay_envelope.specs.Row.Content.{Text, Pair}
use Rattle.relay_envelope.specs.Row.Piece.{Plain, Quoted}
use Rattle.relay_envelope.specs.Mailbox.{IsDomain, IsRoute, address_text}
use Rattle.relay_envelope.specs.Path.{Path, IsPath, body_of}
use Rattle.relay_envelope.specs.Path.Path.{Null, Postmaster, Mailbox}
use Rattle.relay_envelope.specs.Parameters.{is_address_type, is_envid, is_orcpt, is_readable_xtext}
use Rattle.relay_envelope.specs.Envelope.{IsWrittenPath, envid_text, mail_text, may_be_envid, may_be_notify, may_be_orcpt, notify_text, orcpt_text, outcomes_of, rcpt_text, ret_text, MailIsCommandLine, RcptIsCommandLine}
use Rattle.relay_envelope.specs.declared.parameters.Ret.{Ret}
use Rattle.relay_envelope.specs.declared.parameters.Ret.TheVariants.{Full, Hdrs}
use Rattle.relay_envelope.specs.declared.parameters.Notify.{Notify}
use Rattle.relay_envelope.specs.declared.parameters.Notify.TheVariants.{Never, On}
use Rattle.relay_envelope.proofs.GraphicLemmas.{is_graphic, graphic, all_weaker, envid_graphic, orcpt_graphic}
use Rattle.relay_envelope.proofs.FitLemmas.{mail_fits, rcpt_fits, written_fits}

abbrev printable : List ℕ → Bool
printable text = list_all is_printable text

joined_printable : (front back : List ℕ) → printable front ≡ true → printable back ≡ true → printable (front ++ back) ≡ true
joined_printable front back a b = list_all-append is_printable front back ∙ and_from (printable front) (printable back) a b

more_printable : (octet : ℕ) (text : List ℕ) → is_printable octet ≡ true → printable text ≡ true → printable (octet ∷ text) ≡ true
more_printable octet text a b = and_from (is_printable octet) (printable text) a b

text_is_printable : (octet : ℕ) → is_text_octet octet ≡ true → is_printable octet ≡ true
text_is_printable octet test = grind (arith, nat_tests)

plain_is_printable : (octet : ℕ) → is_plain octet ≡ true → is_printable octet ≡ true
plain_is_printable octet test = grind (arith, nat_tests)

domain_is_printable : (octet : ℕ) → is_domain_octet octet ≡ true → is_printable octet ≡ true
domain_is_printable octet test = grind (arith, nat_tests)

literal_is_printable : (octet : ℕ) → is_literal_octet octet ≡ true → is_printable octet ≡ true
literal_is_printable octet test = grind (arith, nat_tests)

graphic_is_printable : (octet : ℕ) → is_graphic octet ≡ true → is_printable octet ≡ true
graphic_is_printable octet test = grind (arith, nat_tests)

graphic_is_no_blank : (octet : ℕ) → is_graphic octet ≡ true → is_blank octet ≡ false
graphic_is_no_blank octet test = grind (arith, nat_tests)

contents_printable : (contents : List Content) → AllByRecursion IsContent contents → printable (flat_map content_text contents) ≡ true
contents_printable [] valid = refl
contents_printable (Text octet ∷ contents) valid = more_printable octet (flat_map content_text contents) (text_is_printable octet valid.0) (contents_printable contents valid.1)
contents_printable (Pair octet ∷ contents) valid = more_printable octet (flat_map content_text contents) valid.0 (contents_printable contents valid.1)

pieces_printable : (stop : ℕ) (pieces : List Piece) → AllByRecursion (IsPiece stop) pieces → printable (flat_map piece_text pieces) ≡ true
pieces_printable stop [] valid = refl
pieces_printable stop (Plain octet ∷ pieces) valid =
    more_printable octet (flat_map piece_text pieces) (plain_is_printable octet (and_parts (is_plain octet) (not (octet == stop)) valid.0).0) (pieces_printable stop pieces valid.1)
pieces_printable stop (Quoted contents ∷ pieces) valid =
    joined_printable (34 ∷ flat_map content_text contents ++ 34 ∷ []) (flat_map piece_text pieces)
    (joined_printable (flat_map content_text contents) (34 ∷ []) (contents_printable contents valid.0) refl) (pieces_printable stop pieces valid.1)

row_printable : (stop : ℕ) (text : List ℕ) → IsRow stop text → printable text ≡ true
row_printable stop text row = ap printable row.text_is ∙ pieces_printable stop row.pieces row.are_pieces

lower_octet : (octet : ℕ) → is_printable octet ≡ is_printable (to_ascii_lowercase octet)
lower_octet octet = grind (arith, nat_tests)

lower_printable : (text : List ℕ) → printable text ≡ printable (map to_ascii_lowercase text)
lower_printable [] = refl
lower_printable (octet ∷ text) = ap (λ b. b && printable text) (lower_octet octet) ∙ ap (λ b. is_printable (to_ascii_lowercase octet) && b) (lower_printable text)

domain_printable : (domain : List ℕ) → IsDomain domain → printable domain ≡ true
unfolding are_domain_octets
domain_printable domain (inl name) = all_weaker is_domain_octet is_printable domain domain_is_printable name.octets
domain_printable domain (inr literal) =
    let inner = all_weaker is_literal_octet is_printable literal.inner literal_is_printable (list_all-from_AllPass is_literal_octet literal.inner literal.octets) in
    ap printable literal.text_is ∙ joined_printable (codes "[" ++ literal.inner) (codes "]") inner refl

route_printable : (route address : List ℕ) → IsRoute route address → printable route ≡ true
route_printable route address (inl source) =
    ap printable source.text_is ∙ joined_printable source.row (58 ∷ []) (row_printable 58 source.row source.is_row) refl
route_printable route address (inr none) = ap printable none.0

body_printable : (path : Path) → IsPath path → printable (body_of path) ≡ true
body_printable Null valid = refl
body_printable (Postmaster word) valid = lower_printable word ∙ ap printable valid
body_printable (Mailbox route local domain) valid =
    joined_printable route (address_text local domain) (route_printable route (address_text local domain) valid.0.is_route)
    (joined_printable local (64 ∷ domain) (row_printable 62 local valid.0.is_local_part.is_row) (domain_printable domain valid.0.is_domain))

-- the text ends in an octet that is no blank
record EndsWell (text : List ℕ) : Type 0 where
  front : List ℕ
  last : ℕ
  text_is : text ≡ front ++ last ∷ []
  is_no_blank : is_blank last ≡ false

after_well : (front back : List ℕ) → EndsWell back → EndsWell (front ++ back)
after_well front back ends = record {
  front = front ++ ends.front;
  last = ends.last;
  text_is = ap (λ l. front ++ l) ends.text_is ∙ sym (append_assoc front ends.front (ends.last ∷ []));
  is_no_blank = ends.is_no_blank;
}

first_no : (text : List ℕ) (octet : ℕ) → is_blank octet ≡ false → prefix_len is_blank (octet ∷ text) ≡ 0
first_no text octet e = ap (λ b. cond b (1 + prefix_len is_blank text) 0) e

no_suffix : (text : List ℕ) → EndsWell text → suffix_len is_blank text ≡ 0
no_suffix text ends =
    ap (suffix_len is_blank) ends.text_is
    ∙ ap (prefix_len is_blank) (reverse-append ends.front (ends.last ∷ []))
    ∙ first_no (reverse ends.front) ends.last ends.is_no_blank

graphic_well : (octet : ℕ) (text : List ℕ) → graphic (octet ∷ text) ≡ true → EndsWell (octet ∷ text)
graphic_well octet [] all = record { front = []; last = octet; text_is = refl; is_no_blank = graphic_is_no_blank octet (and_parts (is_graphic octet) true all).0 }
graphic_well octet (next ∷ text) all = after_well (octet ∷ []) (next ∷ text) (graphic_well next text (and_parts (is_graphic octet) (graphic (next ∷ text)) all).1)

-- a text that is printable and ends well, and a part that adds nothing or is such a text
record IsGood (text : List ℕ) : Type 0 where
  all : printable text ≡ true
  ends : EndsWell text

abbrev IsPartGood : List ℕ → Type 0
IsPartGood text = (text ≡ []) ⊎ IsGood text

good_more : (front part : List ℕ) → IsGood front → IsPartGood part → IsGood (front ++ part)
good_more front part good (inl none) = subst IsGood (sym (append-nil front) ∙ ap (λ l. front ++ l) (sym none)) good
good_more front part good (inr more) = record { all = joined_printable front part good.all more.all; ends = after_well front part more.ends }

written_good : (is_allowed : Path → Bool) (text : List ℕ) → IsWrittenPath is_allowed text → IsGood text
written_good is_allowed text written =
    let body = written.path in
    subst IsGood (sym written.text_is) (record {
      all = joined_printable (60 ∷ body_of body) (62 ∷ []) (body_printable body written.valid) refl;
      ends = record { front = 60 ∷ body_of body; last = 62; text_is = refl; is_no_blank = refl };
    })

-- a keyword before a value
keyword_good : (keyword value : List ℕ) → printable keyword ≡ true → 0 < length value → graphic value ≡ true → IsGood (keyword ++ value)
keyword_good keyword [] a some all = absurd (omega arith)
keyword_good keyword (octet ∷ value) a some all = record {
  all = joined_printable keyword (octet ∷ value) a (all_weaker is_graphic is_printable (octet ∷ value) graphic_is_printable all);
  ends = after_well keyword (octet ∷ value) (graphic_well octet value all);
}

ret_good : (ret : Option Ret) → IsPartGood (ret_text ret)
ret_good None = inl refl
ret_good (Some Full) = inr (keyword_good (codes " ") (codes "RET=FULL") refl (omega arith) refl)
ret_good (Some Hdrs) = inr (keyword_good (codes " ") (codes "RET=HDRS") refl (omega arith) refl)

in_range_low : (n : ℕ) → is_in_range 1 100 n ≡ true → 0 < n
in_range_low n test = grind (arith, nat_tests)

envid_good : (envid : Option (List ℕ)) → may_be_envid envid ≡ true → IsPartGood (envid_text envid)
unfolding is_envid
envid_good None valid = inl refl
envid_good (Some envid) valid =
    let some = in_range_low (length envid) (and_parts (is_in_range 1 100 (length envid)) (is_readable_xtext envid) valid).0 in
    inr (keyword_good (codes " ENVID=") envid refl some (envid_graphic envid valid))

-- a value of ORCPT isn't empty
orcpt_some : (orcpt : List ℕ) → is_orcpt orcpt ≡ true → 0 < length orcpt
unfolding is_orcpt is_address_type
orcpt_some [] valid = absurd (false≢true valid)
orcpt_some (octet ∷ orcpt) valid = omega arith

orcpt_good : (orcpt : Option (List ℕ)) → may_be_orcpt orcpt ≡ true → IsPartGood (orcpt_text orcpt)
orcpt_good None valid = inl refl
orcpt_good (Some orcpt) valid = inr (keyword_good (codes " ORCPT=") orcpt refl (orcpt_some orcpt valid) (orcpt_graphic orcpt valid))

outcomes_good : (success failure delay : Bool) → success || failure || delay ≡ true → IsPartGood (notify_text (Some (On (outcomes_of success failure delay))))
outcomes_good true true true valid = inr (keyword_good (codes " ") (codes "NOTIFY=SUCCESS,FAILURE,DELAY") refl (omega arith) refl)
outcomes_good true true false valid = inr (keyword_good (codes " ") (codes "NOTIFY=SUCCESS,FAILURE") refl (omega arith) refl)
outcomes_good true false true valid = inr (keyword_good (codes " ") (codes "NOTIFY=SUCCESS,DELAY") refl (omega arith) refl)
outcomes_good true false false valid = inr (keyword_good (codes " ") (codes "NOTIFY=SUCCESS") refl (omega arith) refl)
outcomes_good false true true valid = inr (keyword_good (codes " ") (codes "NOTIFY=FAILURE,DELAY") refl (omega arith) refl)
outcomes_good false true false valid = inr (keyword_good (codes " ") (codes "NOTIFY=FAILURE") refl (omega arith) refl)
outcomes_good false false true valid = inr (keyword_good (codes " ") (codes "NOTIFY=DELAY") refl (omega arith) refl)
outcomes_good false false false valid = absurd (false≢true valid)

notify_good : (notify : Option Notify) → may_be_notify notify ≡ true → IsPartGood (notify_text notify)
notify_good None valid = inl refl
notify_good (Some Never) valid = inr (keyword_good (codes " ") (codes "NOTIFY=NEVER") refl (omega arith) refl)
notify_good (Some (On outcomes)) valid = outcomes_good outcomes.success outcomes.failure outcomes.delay valid

may_follow : (front text : List ℕ) → IsGood text → length (front ++ text) + 2 ≤ 2048 → MayFollow front text
may_follow front text good short = record {
  printable = AllPass-from_list_all is_printable text good.all;
  ends_in_no_blank = no_suffix text good.ends;
  short = short;
}

-- a path after a short keyword
path_follows : (front text : List ℕ) → length text ≤ 256 → length front ≤ 10 → length (front ++ text) + 2 ≤ 2048
path_follows front text short few = omega (arith, length-append front text)

pub mail_is_command_line : MailIsCommandLine
mail_is_command_line envelope valid =
    let path = written_good _ envelope.reverse_path valid.reverse_path in
    let short = written_fits _ envelope.reverse_path valid.reverse_path in
    let whole =
    good_more (envelope.reverse_path ++ ret_text envelope.ret) (envid_text envelope.envid)
    (good_more envelope.reverse_path (ret_text envelope.ret) path (ret_good envelope.ret)) (envid_good envelope.envid valid.envid) in (
      written_command_is_read (Mail (mail_text envelope)) (may_follow (codes "MAIL FROM:") (mail_text envelope) whole (mail_fits envelope valid)),
      written_command_is_read (Mail envelope.reverse_path) (may_follow (codes "MAIL FROM:") envelope.reverse_path path (path_follows (codes "MAIL FROM:") envelope.reverse_path short (omega arith))),
    )

pub rcpt_is_command_line : RcptIsCommandLine
rcpt_is_command_line recipient valid =
    let path = written_good _ recipient.path valid.path in
    let short = written_fits _ recipient.path valid.path in
    let whole =
    good_more (recipient.path ++ notify_text recipient.notify) (orcpt_text recipient.orcpt)
    (good_more recipient.path (notify_text recipient.notify) path (notify_good recipient.notify valid.notify)) (orcpt_good recipient.orcpt valid.orcpt) in (
      written_command_is_read (Rcpt (rcpt_text recipient)) (may_follow (codes "RCPT TO:") (rcpt_text recipient) whole (rcpt_fits recipient valid)),
      written_command_is_read (Rcpt recipient.path) (may_follow (codes "RCPT TO:") recipient.path path (path_follows (codes "RCPT TO:") recipient.path short (omega arith))),
    )

-- Headers don't begin one another, and what isn't a whole one is waited for.
use Rattle.std.proofs.Common.{◌≡◌, ℕ, ◌+◌, ◌<◌, ◌≤◌, List, [], ◌∷◌, ◌++◌, length, get_or, take, drop, Option, None, MatchOption, refl, sym, ap, subst, ◌∙◌, arith, inl, inr, ◌⊎◌, append_assoc, length-append, Bool, true, false, ◌&&◌}
use Rattle.std.specs.Net.Socket.{v4_ip}
use Rattle.std.proofs.lemmas.List.{append-nil, append_cancel_left, same_from_push, take-append-drop, length-take-le, take_at}
use Rattle.relay_octets.specs.Beginning.{Begins}
use Rattle.std.proofs.lemmas.Bool.{cases_lt}
use Rattle.relay_octets.specs.Line.{HasNoCrlf, ReadsLine, crlf, ends_in_cr}
use Rattle.relay_octets.proofs.Theorems.{first_line_is_one, no_crlf_front, no_crlf_joined, no_crlf_one}
use Rattle.relay_proxy.specs.HeaderLine.{IsHeaderLine, SaysOfLine, line_word}
use Rattle.relay_proxy.specs.Block.{IsBlock, SaysOfBlock, other_size, signature, two_octets}
use Rattle.relay_proxy.specs.Header.{IsHeader, IsUnfinished, at_word, at_line, at_signature, at_fields, at_rest}
use Rattle.relay_proxy.specs.Laws.{FrontIsUnfinished, HeaderIsAll, HeaderIsBounded, HeaderIsFinished, HeaderIsOne, HeaderIsRead}
use Rattle.relay_proxy.specs.declared.header.Header.{Header}
use Rattle.relay_proxy.specs.declared.header.Reading.TheVariants.{Found, Unfinished, Missing}
use Rattle.relay_proxy.specs.declared.source.Source.{Source}
use Rattle.relay_proxy.specs.declared.source.Source.TheVariants.{Own, Client, Other}
use Rattle.relay_proxy.proofs.WordLemmas.{address_by}
use Rattle.relay_proxy.proofs.ClientLemmas.{client_by, source_is_one}
use Rattle.relay_proxy.proofs.LineLemmas.{begins_joined, header_is_long, header_line_begins, no_block, waits_for_line}
use Rattle.relay_proxy.proofs.BlockLemmas.{fields, fields_of, no_rest, same_block, waits_for_block}

-- fronts of one length of the same octets
same_fronts : (front other rest more : List ℕ) → front ++ rest ≡ other ++ more → length front ≡ length other → front ≡ other
same_fronts front other rest more same sizes =
    sym (take_at front rest (length front) refl) ∙ ap (λ (l : List ℕ). take (length front) l) same ∙ take_at other more (length front) (sym sizes)

-- what a block says is one thing
no_size_at : (family at : ℕ) (rest : List ℕ) → family ≡ at → other_size at ≡ None → MatchOption (other_size family) ⊥ (λ size. size ≤ length rest) → ⊥
no_size_at family at rest is none has =
    let at_none : MatchOption None ⊥ (λ (size : ℕ). size ≤ length rest) = subst (λ (o : Option ℕ). MatchOption o ⊥ (λ size. size ≤ length rest)) (ap other_size is ∙ none) has in
    at_none

meaning_is_one : (command family : ℕ) (rest : List ℕ) (one two : Source) → SaysOfBlock command family rest one → SaysOfBlock command family rest two → one ≡ two
meaning_is_one command family rest Own Own p q = refl
meaning_is_one command family rest Own (Client client) (inl local) (proxy, at, writes) = absurd (omega arith)
meaning_is_one command family rest Own (Client client) (inr (same, unknown)) (proxy, at, writes) = absurd (omega arith)
meaning_is_one command family rest Own Other (inl local) (proxy, size) = absurd (omega arith)
meaning_is_one command family rest Own Other (inr (same, unknown)) (proxy, size) = absurd (no_size_at family 0 rest unknown refl size)
meaning_is_one command family rest (Client client) Own (proxy, at, writes) (inl local) = absurd (omega arith)
meaning_is_one command family rest (Client client) Own (proxy, at, writes) (inr (same, unknown)) = absurd (omega arith)
meaning_is_one command family rest (Client one) (Client two) (proxy, at, p) (same, again, q) =
    ap Client (client_by one two (address_by (v4_ip one) (v4_ip two) (p.address_is ∙ sym q.address_is)) (p.port_is ∙ sym q.port_is))
meaning_is_one command family rest (Client client) Other (proxy, at, writes) (same, size) = absurd (no_size_at family 0x11 rest at refl size)
meaning_is_one command family rest Other Own (proxy, size) (inl local) = absurd (omega arith)
meaning_is_one command family rest Other Own (proxy, size) (inr (same, unknown)) = absurd (no_size_at family 0 rest unknown refl size)
meaning_is_one command family rest Other (Client client) (proxy, size) (same, at, writes) = absurd (no_size_at family 0x11 rest at refl size)
meaning_is_one command family rest Other Other p q = refl

block_length : (header : List ℕ) (source : Source) (b : IsBlock header source) → length header ≡ 16 + length b.rest
block_length header source b =
    ap length b.header_is ∙ length-append signature (fields b.command b.family b.high b.low b.rest)
    ∙ ap (λ (n : ℕ). 12 + n) (length-append (b.command ∷ b.family ∷ b.high ∷ b.low ∷ []) b.rest) ∙ sixteen (length b.rest)
  where
    sixteen : (n : ℕ) → 12 + (4 + n) ≡ 16 + n
    sixteen n = omega arith

pub header_is_one : HeaderIsOne
header_is_one header other rest more source another (inl h) (inl k) same =
    let one : ReadsLine (header ++ rest) h.line rest = record { text = ap (λ (l : List ℕ). l ++ rest) h.header_is; first = h.one_line } in
    let two : ReadsLine (header ++ rest) k.line more = record { text = same ∙ ap (λ (l : List ℕ). l ++ more) k.header_is; first = k.one_line } in
    let (lines, rests) = first_line_is_one (header ++ rest) h.line rest k.line more one two in
    (h.header_is ∙ ap (λ (l : List ℕ). l ++ crlf) lines ∙ sym k.header_is, source_is_one k.line source another (subst (λ (l : List ℕ). SaysOfLine l source) lines h.says) k.says)
header_is_one header other rest more source another (inl h) (inr c) same =
    absurd (no_block (header ++ rest) other more another (begins_joined line_word header rest (header ++ rest) (header_line_begins header source h) refl) same c)
header_is_one header other rest more source another (inr b) (inl k) same =
    absurd (no_block (other ++ more) header rest source (begins_joined line_word other more (other ++ more) (header_line_begins other another k) refl) (sym same) b)
header_is_one header other rest more source another (inr b) (inr c) same =
    let at : signature ++ fields b.command b.family b.high b.low (b.rest ++ rest) ≡ other ++ more = ap (λ (l : List ℕ). l ++ rest) (sym b.header_is) ∙ same in
    let both = same_block b.command b.family b.high b.low (b.rest ++ rest) more other another c at in
    let sizes : length b.rest ≡ length c.rest = b.whole ∙ sym both.size_is in
    let rests = same_fronts b.rest c.rest rest more both.rest_is sizes in
    let lengths : length header ≡ length other = block_length header source b ∙ ap (λ (n : ℕ). 16 + n) sizes ∙ sym (block_length other another c) in
    (same_fronts header other rest more same lengths, meaning_is_one b.command b.family c.rest source another (subst (λ (l : List ℕ). SaysOfBlock b.command b.family l source) rests b.says) both.says)

pub header_is_bounded : HeaderIsBounded
header_is_bounded header source is = (header_is_long header source is, few is)
  where
    few : IsHeader header source → length header ≤ 536
    few (inl h) = let short = h.short in omega arith
    few (inr b) = let short = b.short in omega (arith, block_length header source b)

pub header_is_finished : HeaderIsFinished
header_is_finished header rest source (inl h) waits =
    let begins = begins_joined line_word header rest (header ++ rest) (header_line_begins header source h) refl in
    (waits_for_line (header ++ rest) begins waits).0.nowhere h.line rest (ap (λ (l : List ℕ). l ++ rest) h.header_is)
header_is_finished header rest source (inr b) waits =
    let octets = fields b.command b.family b.high b.low (b.rest ++ rest) in
    let at : header ++ rest ≡ signature ++ octets = ap (λ (l : List ℕ). l ++ rest) b.header_is in
    let lacks = waits_for_block octets (subst (λ (l : List ℕ). IsUnfinished l) at waits) in
    let (few, small) = no_rest octets (b.rest ++ rest) b.command b.family b.high b.low (length b.rest) refl b.whole lacks in
    absurd (omega (arith, few, length-append b.rest rest))

cons_same : (a b : ℕ) (k l : List ℕ) → a ≡ b → k ≡ l → a ∷ k ≡ b ∷ l
cons_same a b k l p q = cc

-- of two beginnings of the same octets one begins the other
compared : (front other rest more : List ℕ) → front ++ rest ≡ other ++ more → Begins front other ⊎ Begins other front
compared [] other rest more same = inl (other, refl)
compared (octet ∷ front) [] rest more same = inr (octet ∷ front, refl)
compared (octet ∷ front) (next ∷ other) rest more same =
    let heads : octet ≡ next = cc same in
    by heads (compared front other rest more (ap (drop 1) same))
  where
    by : octet ≡ next → Begins front other ⊎ Begins other front → Begins (octet ∷ front) (next ∷ other) ⊎ Begins (next ∷ other) (octet ∷ front)
    by heads (inl (tail, is)) = inl (tail, cons_same next octet other (front ++ tail) (sym heads) is)
    by heads (inr (tail, is)) = inr (tail, cons_same octet next front (other ++ tail) heads is)

-- some octets end with one
last_of : (octet : ℕ) (more : List ℕ) → (front : List ℕ) × (last : ℕ) × (octet ∷ more ≡ front ++ last ∷ [])
last_of octet [] = ([], octet, refl)
last_of octet (next ∷ more) =
    let (front, last, is) = last_of next more in
    (octet ∷ front, last, ap (λ (l : List ℕ). octet ∷ l) is)

and_false : (test : Bool) → test && false ≡ false
and_false true = refl
and_false false = refl

-- no CR LF stands in a line and the CR after it
no_crlf_before_end : (front more text : List ℕ) (octet : ℕ) → HasNoCrlf text → front ++ (octet ∷ more) ≡ text ++ crlf → HasNoCrlf front
no_crlf_before_end front more text octet none is =
    let (others, last, end) = last_of octet more in
    let left : front ++ (octet ∷ more) ≡ (front ++ others) ++ last ∷ [] = ap (λ (l : List ℕ). front ++ l) end ∙ sym (append_assoc front others (last ∷ [])) in
    let right : text ++ crlf ≡ (text ++ 13 ∷ []) ++ 10 ∷ [] = sym (append_assoc text (13 ∷ []) (10 ∷ [])) in
    let (fronts, lasts) = same_from_push (front ++ others) (text ++ 13 ∷ []) last 10 (sym left ∙ is ∙ right) in
    no_crlf_front front others (subst (λ (l : List ℕ). HasNoCrlf l) (sym fronts) (no_crlf_joined text (13 ∷ []) none (no_crlf_one 13) (and_false (ends_in_cr text))))

front_of_line : (front more : List ℕ) (octet : ℕ) (source : Source) → IsHeaderLine (front ++ (octet ∷ more)) source → IsUnfinished front
front_of_line front more octet source h =
    let (rest, begins) = header_line_begins (front ++ (octet ∷ more)) source h in
    by (compared front line_word (octet ∷ more) rest begins)
  where
    by : Begins front line_word ⊎ Begins line_word front → IsUnfinished front
    by (inl begun) = at_word begun
    by (inr begins) =
        let short = h.short in
        at_line begins (no_crlf_before_end front more h.line octet h.one_line h.header_is) (omega (arith, length-append front (octet ∷ more)))

-- what stands after the signature
after_signature : (front more after : List ℕ) (octet : ℕ) (source : Source) (b : IsBlock (front ++ (octet ∷ more)) source) → front ≡ signature ++ after
    → after ++ (octet ∷ more) ≡ fields b.command b.family b.high b.low b.rest
after_signature front more after octet source b is =
    append_cancel_left signature (after ++ (octet ∷ more)) (fields b.command b.family b.high b.low b.rest)
    (sym (ap (λ (l : List ℕ). l ++ (octet ∷ more)) is) ∙ b.header_is)

front_of_fields : (front more after : List ℕ) (octet : ℕ) (source : Source) (b : IsBlock (front ++ (octet ∷ more)) source) → front ≡ signature ++ after
    → (length after < 4) ⊎ (4 ≤ length after) → IsUnfinished front
front_of_fields front more after octet source b is (inl few) = at_fields after is few
front_of_fields front more after octet source b is (inr many) =
    let at = fields_of after many in
    let whole : fields (get_or after 0 0) (get_or after 1 0) (get_or after 2 0) (get_or after 3 0) (drop 4 after ++ (octet ∷ more)) ≡ fields b.command b.family b.high b.low b.rest =
    ap (λ (l : List ℕ). l ++ (octet ∷ more)) (sym at) ∙ after_signature front more after octet source b is in
    let highs : get_or after 2 0 ≡ b.high = cc whole in
    let lows : get_or after 3 0 ≡ b.low = cc whole in
    let rests : drop 4 after ++ (octet ∷ more) ≡ b.rest = cc whole in
    let sizes : two_octets (get_or after 2 0) (get_or after 3 0) ≡ length b.rest =
    ap (λ (n : ℕ). two_octets n (get_or after 3 0)) highs ∙ ap (λ (n : ℕ). two_octets b.high n) lows ∙ sym b.whole in
    let short = b.short in
    let counted = ap length rests in
    at_rest (get_or after 0 0) (get_or after 1 0) (get_or after 2 0) (get_or after 3 0) (drop 4 after) (is ∙ ap (λ (l : List ℕ). signature ++ l) at)
    (omega (arith, sizes, counted, length-append (drop 4 after) (octet ∷ more))) (omega (arith, sizes))

front_of_block : (front more : List ℕ) (octet : ℕ) (source : Source) → IsBlock (front ++ (octet ∷ more)) source → IsUnfinished front
front_of_block front more octet source b =
    by (compared front signature (octet ∷ more) (fields b.command b.family b.high b.low b.rest) b.header_is)
  where
    by : Begins front signature ⊎ Begins signature front → IsUnfinished front
    by (inl begun) = at_signature begun
    by (inr (after, is)) = front_of_fields front more after octet source b is (cases_lt (length after) 4)

pub front_is_unfinished : FrontIsUnfinished
front_is_unfinished front more octet source (inl h) = front_of_line front more octet source h
front_is_unfinished front more octet source (inr b) = front_of_block front more octet source b

pub header_is_read : HeaderIsRead
header_is_read header rest source (Found found) is reads =
    let taken = take-append-drop found.length (header ++ rest) in
    let (headers, sources) = header_is_one (take found.length (header ++ rest)) header (drop found.length (header ++ rest)) rest found.source source reads.is is taken in
    let within = reads.within in
    let size : found.length ≡ length header = sym (length-take-le found.length (header ++ rest) within) ∙ ap length headers in
    ap Found (header_by found (record { source = source; length = length header }) sources size)
  where
    header_by : (one two : Header) → one.source ≡ two.source → one.length ≡ two.length → one ≡ two
    header_by one two sources sizes = λ j. record { source = sources j; length = sizes j }
header_is_read header rest source (Unfinished count) is reads = absurd (header_is_finished header rest source is reads.unfinished)
header_is_read header rest source Missing is reads = absurd (reads.none header source is (rest, refl))

nothing_left : (rest : List ℕ) → length rest ≤ 0 → rest ≡ []
nothing_left [] none = refl
nothing_left (octet ∷ rest) none = absurd (omega arith)

pub header_is_all : HeaderIsAll
header_is_all octets more header count source begun few is (rest, at) = by (compared octets header more rest at)
  where
    by : Begins octets header ⊎ Begins header octets → header ≡ octets ++ more
    by (inl (missing, front)) =
        let least = begun.least missing source (subst (λ (l : List ℕ). IsHeader l source) front is) in
        let others : more ≡ missing ++ rest = append_cancel_left octets more (missing ++ rest) (at ∙ ap (λ (l : List ℕ). l ++ rest) front ∙ append_assoc octets missing rest) in
        let sizes : length more ≡ length missing + length rest = ap length others ∙ length-append missing rest in
        let none = nothing_left rest (omega (arith, least, sizes, few)) in
        front ∙ ap (λ (l : List ℕ). octets ++ l) (sym (others ∙ ap (λ (l : List ℕ). missing ++ l) none ∙ append-nil missing))
    by (inr (tail, front)) =
        absurd (header_is_finished header tail source is (subst (λ (l : List ℕ). IsUnfinished l) front begun.unfinished))

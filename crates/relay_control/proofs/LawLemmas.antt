-- A request is written in one way, and read back.
use Rattle.std.proofs.Common.{◌≡◌, ℕ, ◌+◌, ◌≤◌, ◌==◌, true, List, [], ◌∷◌, ◌++◌, codes, decimal, length, drop, get_or, None, Some, Result, Ok, Err, rules, lit≤, lit<, refl, sym, ap, subst, ◌∙◌, arith, length-append}
use Rattle.std.specs.List.{list_all}
use Rattle.std.proofs.lemmas.Bool.{and_parts, eqb-true, false_from_ne_true, false≢true}
use Rattle.std.proofs.lemmas.Fmt.{decimal_injective, length-decimal-le}
use Rattle.std.proofs.lemmas.List.Sums.{list_all-from_AllPass}
use Rattle.relay_envelope.specs.HostName.{is_host_octet}
use Rattle.relay_control.specs.Laws.{IsReadAs, RequestIsOne, RequestIsRead, RequestIsShort, most_of_names}
use Rattle.relay_control.specs.Named.{names_text}
use Rattle.relay_control.specs.Request.{AsksSame, HasNo, IsAnswered, IsRequest, IsScope, ReadsRequest, arguments_of, line_text, request_text, scope_text, verb_of, verb_text}
use Rattle.relay_control.specs.declared.refusal.Refusal.{Refusal}
use Rattle.relay_control.specs.declared.refusal.Refusal.TheVariants.{TooLong, Unknown, Usage}
use Rattle.relay_control.specs.declared.request.Request.{Request}
use Rattle.relay_control.specs.declared.request.Request.TheVariants as asks
use Rattle.relay_control.specs.declared.scope.Scope.{Scope}
use Rattle.relay_control.specs.declared.scope.Scope.TheVariants.{Hop, Message}
use Rattle.relay_control.specs.declared.verb.Verb.{Verb}
use Rattle.relay_control.specs.declared.verb.Verb.TheVariants.{Flush, Hold, Release, Return, Discard, Reload, Drain}
use Rattle.relay_control.proofs.NamedLemmas.{names_are_one, names_are_short, no_lf_in_names}
use Rattle.relay_control.proofs.NumberLemmas.{has_no-append, has_no-decimal}
use Rattle.relay_control.proofs.RequestLemmas.{has_stop, line_is_one, no_space_in_verb, split_is_one, verb_is_one}

-- a scope is written in one way
scope_is_one : (one other : Scope) → IsScope one → IsScope other → scope_text one ≡ scope_text other → one ≡ other
scope_is_one (Hop one) (Hop other) p q same = ap Hop (ap (drop 4) same)
scope_is_one (Hop one) (Message other) p q same =
    let h : ◌≡◌ {A = ℕ} 104 109 = ap (λ (t : List ℕ). get_or t 0 0) same in absurd (omega arith)
scope_is_one (Message one) (Hop other) p q same =
    let h : ◌≡◌ {A = ℕ} 109 104 = ap (λ (t : List ℕ). get_or t 0 0) same in absurd (omega arith)
scope_is_one (Message one) (Message other) p q same = ap Message (decimal_injective one other p q (ap (drop 8) same))

-- so is a request
same_some : (one other : List ℕ) → Some one ≡ Some other → one ≡ other
same_some one other same = cc same

arguments_are_one : (one other : Request) → IsRequest one → IsRequest other → verb_of one ≡ verb_of other → arguments_of one ≡ arguments_of other → AsksSame one other
arguments_are_one (asks.Flush None) (asks.Flush None) p q v a = refl
arguments_are_one (asks.Flush None) (asks.Flush (Some other)) p q v a = absurd (cc a)
arguments_are_one (asks.Flush (Some one)) (asks.Flush None) p q v a = absurd (cc a)
arguments_are_one (asks.Flush (Some one)) (asks.Flush (Some other)) p q v a =
    ap (λ (s : Scope). asks.Flush (Some s)) (scope_is_one one other p q (same_some (scope_text one) (scope_text other) a))
arguments_are_one (asks.Hold one) (asks.Hold other) p q v a =
    ap asks.Hold (scope_is_one one other p q (same_some (scope_text one) (scope_text other) a))
arguments_are_one (asks.Release one) (asks.Release other) p q v a =
    ap asks.Release (scope_is_one one other p q (same_some (scope_text one) (scope_text other) a))
arguments_are_one (asks.Return one) (asks.Return other) p q v a =
    names_are_one one.items other.items p q (same_some (names_text one.items) (names_text other.items) a)
arguments_are_one (asks.Discard one) (asks.Discard other) p q v a =
    names_are_one one.items other.items p q (same_some (names_text one.items) (names_text other.items) a)
arguments_are_one asks.Reload asks.Reload p q v a = refl
arguments_are_one (asks.Drain one) (asks.Drain other) p q v a =
    ap asks.Drain (decimal_injective one other (omega (arith, p)) (omega (arith, q)) (same_some (decimal one) (decimal other) a))
arguments_are_one (asks.Flush one) (asks.Hold other) p q v a = absurd (cc v)
arguments_are_one (asks.Flush one) (asks.Release other) p q v a = absurd (cc v)
arguments_are_one (asks.Flush one) (asks.Return other) p q v a = absurd (cc v)
arguments_are_one (asks.Flush one) (asks.Discard other) p q v a = absurd (cc v)
arguments_are_one (asks.Flush one) asks.Reload p q v a = absurd (cc v)
arguments_are_one (asks.Flush one) (asks.Drain other) p q v a = absurd (cc v)
arguments_are_one (asks.Hold one) (asks.Flush other) p q v a = absurd (cc v)
arguments_are_one (asks.Hold one) (asks.Release other) p q v a = absurd (cc v)
arguments_are_one (asks.Hold one) (asks.Return other) p q v a = absurd (cc v)
arguments_are_one (asks.Hold one) (asks.Discard other) p q v a = absurd (cc v)
arguments_are_one (asks.Hold one) asks.Reload p q v a = absurd (cc v)
arguments_are_one (asks.Hold one) (asks.Drain other) p q v a = absurd (cc v)
arguments_are_one (asks.Release one) (asks.Flush other) p q v a = absurd (cc v)
arguments_are_one (asks.Release one) (asks.Hold other) p q v a = absurd (cc v)
arguments_are_one (asks.Release one) (asks.Return other) p q v a = absurd (cc v)
arguments_are_one (asks.Release one) (asks.Discard other) p q v a = absurd (cc v)
arguments_are_one (asks.Release one) asks.Reload p q v a = absurd (cc v)
arguments_are_one (asks.Release one) (asks.Drain other) p q v a = absurd (cc v)
arguments_are_one (asks.Return one) (asks.Flush other) p q v a = absurd (cc v)
arguments_are_one (asks.Return one) (asks.Hold other) p q v a = absurd (cc v)
arguments_are_one (asks.Return one) (asks.Release other) p q v a = absurd (cc v)
arguments_are_one (asks.Return one) (asks.Discard other) p q v a = absurd (cc v)
arguments_are_one (asks.Return one) asks.Reload p q v a = absurd (cc v)
arguments_are_one (asks.Return one) (asks.Drain other) p q v a = absurd (cc v)
arguments_are_one (asks.Discard one) (asks.Flush other) p q v a = absurd (cc v)
arguments_are_one (asks.Discard one) (asks.Hold other) p q v a = absurd (cc v)
arguments_are_one (asks.Discard one) (asks.Release other) p q v a = absurd (cc v)
arguments_are_one (asks.Discard one) (asks.Return other) p q v a = absurd (cc v)
arguments_are_one (asks.Discard one) asks.Reload p q v a = absurd (cc v)
arguments_are_one (asks.Discard one) (asks.Drain other) p q v a = absurd (cc v)
arguments_are_one asks.Reload (asks.Flush other) p q v a = absurd (cc v)
arguments_are_one asks.Reload (asks.Hold other) p q v a = absurd (cc v)
arguments_are_one asks.Reload (asks.Release other) p q v a = absurd (cc v)
arguments_are_one asks.Reload (asks.Return other) p q v a = absurd (cc v)
arguments_are_one asks.Reload (asks.Discard other) p q v a = absurd (cc v)
arguments_are_one asks.Reload (asks.Drain other) p q v a = absurd (cc v)
arguments_are_one (asks.Drain one) (asks.Flush other) p q v a = absurd (cc v)
arguments_are_one (asks.Drain one) (asks.Hold other) p q v a = absurd (cc v)
arguments_are_one (asks.Drain one) (asks.Release other) p q v a = absurd (cc v)
arguments_are_one (asks.Drain one) (asks.Return other) p q v a = absurd (cc v)
arguments_are_one (asks.Drain one) (asks.Discard other) p q v a = absurd (cc v)
arguments_are_one (asks.Drain one) asks.Reload p q v a = absurd (cc v)

pub request_is_one : RequestIsOne
request_is_one line one other p q =
    let (verbs, rests) = line_is_one (verb_text (verb_of one)) (verb_text (verb_of other)) (arguments_of one) (arguments_of other) (no_space_in_verb (verb_of one)) (no_space_in_verb (verb_of other)) (sym p.line_is ∙ q.line_is) in
    arguments_are_one one other p.valid q.valid (verb_is_one (verb_of one) (verb_of other) verbs) rests

-- no LF stands in a request
no_lf_in_name : (name : List ℕ) → list_all is_host_octet name ≡ true → HasNo 10 name
no_lf_in_name [] all = tt
no_lf_in_name (octet ∷ name) all =
    let (first, rest) = and_parts (is_host_octet octet) (list_all is_host_octet name) all in
    (false_from_ne_true (octet == 10) (λ h. false≢true (sym (ap is_host_octet (eqb-true octet 10 h)) ∙ first)), no_lf_in_name name rest)

no_lf_in_verb : (verb : Verb) → HasNo 10 (verb_text verb)
no_lf_in_verb Flush = search rules
no_lf_in_verb Hold = search rules
no_lf_in_verb Release = search rules
no_lf_in_verb Return = search rules
no_lf_in_verb Discard = search rules
no_lf_in_verb Reload = search rules
no_lf_in_verb Drain = search rules

no_lf_in_scope : (scope : Scope) → IsScope scope → HasNo 10 (scope_text scope)
no_lf_in_scope (Hop name) p =
    let front : HasNo 10 (codes "hop ") = search rules in
    has_no-append 10 (codes "hop ") name front (no_lf_in_name name (list_all-from_AllPass is_host_octet name p.octets))
no_lf_in_scope (Message number) p =
    let front : HasNo 10 (codes "message ") = search rules in
    has_no-append 10 (codes "message ") (decimal number) front (has_no-decimal 10 number (lit≤ tt) p)

no_lf_in_line : (verb : Verb) (rest : List ℕ) → HasNo 10 rest → HasNo 10 (line_text (verb_text verb) (Some rest))
no_lf_in_line verb rest p =
    has_no-append 10 (verb_text verb) (32 ∷ rest) (no_lf_in_verb verb) (refl, p)

no_lf_in_request : (request : Request) → IsRequest request → HasNo 10 (request_text request)
no_lf_in_request (asks.Flush None) p = no_lf_in_verb Flush
no_lf_in_request (asks.Flush (Some scope)) p = no_lf_in_line Flush (scope_text scope) (no_lf_in_scope scope p)
no_lf_in_request (asks.Hold scope) p = no_lf_in_line Hold (scope_text scope) (no_lf_in_scope scope p)
no_lf_in_request (asks.Release scope) p = no_lf_in_line Release (scope_text scope) (no_lf_in_scope scope p)
no_lf_in_request (asks.Return names) p = no_lf_in_line Return (names_text names.items) (no_lf_in_names names.items p.each)
no_lf_in_request (asks.Discard names) p = no_lf_in_line Discard (names_text names.items) (no_lf_in_names names.items p.each)
no_lf_in_request asks.Reload p = no_lf_in_verb Reload
no_lf_in_request (asks.Drain seconds) p = no_lf_in_line Drain (decimal seconds) (has_no-decimal 10 seconds (lit≤ tt) (omega (arith, p)))

-- what is read of a line that asks for this
reads_request : (request : Request) (answer : Result Request Refusal) → IsRequest request → ReadsRequest (request_text request) answer → IsReadAs request (Some answer)
reads_request request (Ok other) valid p =
    request_is_one (request_text request) other request p (record { valid = valid; line_is = refl })
reads_request request (Err TooLong) valid p = absurd p
reads_request request (Err Unknown) valid p =
    absurd (p.none (verb_of request) (record { arguments = arguments_of request; line_is = refl }))
reads_request request (Err (Usage verb)) valid p =
    absurd (p.1.none request (record { valid = valid; line_is = refl }))

answered : (request : Request) (rest : List ℕ) (answer : Result Request Refusal) → IsRequest request → IsAnswered (request_text request ++ 10 ∷ rest) answer → IsReadAs request (Some answer)
answered request rest answer valid p =
    let (lines, rests) = split_is_one 10 p.line (request_text request) p.rest rest p.begins.first (no_lf_in_request request valid) (sym p.begins.octets_are) in
    reads_request request answer valid (subst (λ (l : List ℕ). ReadsRequest l answer) lines p.reads)

pub request_is_read : RequestIsRead
request_is_read request rest None valid p = absurd (has_stop 10 (request_text request) rest p.0)
request_is_read request rest (Some (Err TooLong)) valid p = absurd (has_stop 10 (request_text request) rest p.0)
request_is_read request rest (Some (Err Unknown)) valid p = answered request rest (Err Unknown) valid p
request_is_read request rest (Some (Err (Usage verb))) valid p = answered request rest (Err (Usage verb)) valid p
request_is_read request rest (Some (Ok other)) valid p = answered request rest (Ok other) valid p

-- how long a request is
scope_is_short : (scope : Scope) → IsScope scope → length (scope_text scope) ≤ 263
scope_is_short (Hop name) p =
    let few = p.few_octets in
    let size = length-append (codes "hop ") name in omega arith
scope_is_short (Message number) p =
    let few = length-decimal-le 20 number (lit< tt) (omega (arith, p)) p in
    let size = length-append (codes "message ") (decimal number) in omega arith

verb_is_short : (verb : Verb) → length (verb_text verb) ≤ 7
verb_is_short Flush = lit≤ tt
verb_is_short Hold = lit≤ tt
verb_is_short Release = lit≤ tt
verb_is_short Return = lit≤ tt
verb_is_short Discard = lit≤ tt
verb_is_short Reload = lit≤ tt
verb_is_short Drain = lit≤ tt

line_is_short : (verb : Verb) (rest : List ℕ) (most : ℕ) → length rest ≤ most → length (line_text (verb_text verb) (Some rest)) ≤ 8 + most
line_is_short verb rest most few =
    let whole = length-append (verb_text verb) (32 ∷ rest) in
    let short = verb_is_short verb in
    omega arith

pub request_is_short : RequestIsShort
request_is_short (asks.Flush None) p = lit≤ tt
request_is_short (asks.Flush (Some scope)) p = line_is_short Flush (scope_text scope) 263 (scope_is_short scope p)
request_is_short (asks.Hold scope) p = line_is_short Hold (scope_text scope) 263 (scope_is_short scope p)
request_is_short (asks.Release scope) p = line_is_short Release (scope_text scope) 263 (scope_is_short scope p)
request_is_short (asks.Return names) p =
    line_is_short Return (names_text names.items) (most_of_names names.items) (names_are_short names.items p.each)
request_is_short (asks.Discard names) p =
    line_is_short Discard (names_text names.items) (most_of_names names.items) (names_are_short names.items p.each)
request_is_short asks.Reload p = lit≤ tt
request_is_short (asks.Drain seconds) p =
    let few = length-decimal-le 5 seconds (lit< tt) (omega (arith, p)) (omega (arith, p)) in
    line_is_short Drain (decimal seconds) 263 (omega arith)

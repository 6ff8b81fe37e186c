-- A line has one first word, and a request is written in one way.
use Rattle.std.proofs.Common.{◌≡◌, ◌≢◌, ℕ, ◌==◌, if◌then◌else◌, List, [], ◌∷◌, ◌++◌, codes, decimal, Option, None, Some, Bor, MatchOption, Result, Ok, Err, drop, get_or, rules, refl, sym, ap, subst, ◌∙◌, arith}
use Rattle.std.proofs.lemmas.Bool.Decides.{nat_tests}
use Rattle.relay_octets.specs.Beginning.{Begins}
use Rattle.relay_envelope.specs.HostName.{IsHostName}
use Rattle.relay_control.specs.Number.{HasNoNumber, IsNumber}
use Rattle.relay_control.specs.Request.{AsksNothing, AsksNothingOf, AsksOf, Asks, BeginsWithLine, HasNo, HasNoScope, HasNoVerb, IsCut, IsOf, IsOfNone, IsScopeText, Judges, ReadsRequest, arguments_of, line_text, verb_of, verb_text}
use Rattle.relay_control.specs.declared.refusal.Refusal.{Refusal}
use Rattle.relay_control.specs.declared.refusal.Refusal.TheVariants.{TooLong, Unknown, Usage}
use Rattle.relay_control.specs.declared.request.Request.{Request}
use Rattle.relay_control.specs.declared.scope.Scope.{Scope}
use Rattle.relay_control.specs.declared.scope.Scope.TheVariants.{Hop, Message}
use Rattle.relay_control.specs.declared.verb.Verb.{Verb}
use Rattle.relay_control.specs.declared.verb.Verb.TheVariants.{Flush, Hold, Release, Return, Discard, Reload, Drain}

pub begun_by : (octets front : List ℕ) (rest : Option (Bor (List ℕ)))
    → MatchOption rest ((rest : List ℕ) → octets ≢ front ++ rest) (λ rest. octets ≡ front ++ rest.now)
    → MatchOption rest (¬ Begins front octets) (λ rest. octets ≡ front ++ rest.now)
begun_by octets front None none = λ begun. none begun.0 begun.1
begun_by octets front (Some rest) is = is

-- no space stands in a verb
pub no_space_in_verb : (verb : Verb) → HasNo 32 (verb_text verb)
no_space_in_verb Flush = search rules
no_space_in_verb Hold = search rules
no_space_in_verb Release = search rules
no_space_in_verb Return = search rules
no_space_in_verb Discard = search rules
no_space_in_verb Reload = search rules
no_space_in_verb Drain = search rules

-- texts that part at the first such octet part in one way
pub split_is_one : (stop : ℕ) (front other back more : List ℕ) → HasNo stop front → HasNo stop other
    → front ++ stop ∷ back ≡ other ++ stop ∷ more → (front ≡ other) × (back ≡ more)
split_is_one stop [] [] back more f o same = (refl, cc same)
split_is_one stop [] (octet ∷ other) back more f o same =
    let h : stop ≡ octet = cc same in absurd (grind (arith, nat_tests, o.0))
split_is_one stop (octet ∷ front) [] back more f o same =
    let h : octet ≡ stop = cc same in absurd (grind (arith, nat_tests, f.0))
split_is_one stop (octet ∷ front) (next ∷ other) back more f o same =
    let h : octet ≡ next = cc same in
    let tails : front ++ stop ∷ back ≡ other ++ stop ∷ more = cc same in
    let (heads, rests) = split_is_one stop front other back more f.1 o.1 tails in
    (cc (h, heads), rests)

-- one of them alone has such an octet
pub has_stop : (stop : ℕ) (front back : List ℕ) → HasNo stop (front ++ stop ∷ back) → ⊥
has_stop stop [] back none = let apart = none.0 in absurd (grind (arith, nat_tests, apart))
has_stop stop (octet ∷ front) back none = has_stop stop front back none.1

-- a line has one word, and one rest
pub line_is_one : (word other : List ℕ) (rest more : Option (List ℕ)) → HasNo 32 word → HasNo 32 other
    → line_text word rest ≡ line_text other more → (word ≡ other) × (rest ≡ more)
line_is_one word other None None w o same = (same, refl)
line_is_one word other None (Some more) w o same =
    absurd (has_stop 32 other more (subst (λ (t : List ℕ). HasNo 32 t) same w))
line_is_one word other (Some rest) None w o same =
    absurd (has_stop 32 word rest (subst (λ (t : List ℕ). HasNo 32 t) (sym same) o))
line_is_one word other (Some rest) (Some more) w o same =
    let (words, rests) = split_is_one 32 word other rest more w o same in
    (words, ap Some rests)

-- verbs are told apart by the fourth octets of their texts
verb_with : ℕ → Verb
verb_with octet =
    if octet == 115 then Flush else
    if octet == 100 then Hold else
    if octet == 101 then Release else
    if octet == 117 then Return else
    if octet == 99 then Discard else
    if octet == 111 then Reload else Drain

verb_again : (verb : Verb) → verb_with (get_or (verb_text verb) 3 0) ≡ verb
unfolding verb_with
verb_again Flush = refl
verb_again Hold = refl
verb_again Release = refl
verb_again Return = refl
verb_again Discard = refl
verb_again Reload = refl
verb_again Drain = refl

pub verb_is_one : (one two : Verb) → verb_text one ≡ verb_text two → one ≡ two
verb_is_one one two same =
    sym (verb_again one) ∙ ap (λ (t : List ℕ). verb_with (get_or t 3 0)) same ∙ verb_again two

-- what a line with this first word asks for
pub line_asks : (line word : List ℕ) (rest : Option (List ℕ)) (verb : Verb) (request : Request) → IsCut 32 line word rest
    → word ≡ verb_text verb → AsksOf verb rest request → Asks line request
line_asks line word rest verb request is named p = record {
  valid = p.valid;
  line_is =
      is.text_is
      ∙ ap (λ (w : List ℕ). line_text w rest) (named ∙ ap verb_text (sym p.verb_is))
      ∙ ap (λ (r : Option (List ℕ)). line_text (verb_text (verb_of request)) r) (sym p.arguments_are);
}

pub line_of : (line word : List ℕ) (rest : Option (List ℕ)) (verb : Verb) → IsCut 32 line word rest → word ≡ verb_text verb → IsOf verb line
line_of line word rest verb is named = record {
  arguments = rest;
  line_is = is.text_is ∙ ap (λ (w : List ℕ). line_text w rest) named;
}

pub line_asks_nothing : (line word : List ℕ) (rest : Option (List ℕ)) (verb : Verb) → IsCut 32 line word rest → word ≡ verb_text verb
    → AsksNothingOf verb rest → AsksNothing line
line_asks_nothing line word rest verb is named nothing = record {
  none = λ request p.
      let (words, rests) = line_is_one word (verb_text (verb_of request)) rest (arguments_of request) is.front_has_none (no_space_in_verb (verb_of request)) (sym is.text_is ∙ p.line_is) in
      nothing.none request (record {
        valid = p.valid;
        verb_is = verb_is_one (verb_of request) verb (sym words ∙ named);
        arguments_are = sym rests;
      });
}

pub line_of_none : (line word : List ℕ) (rest : Option (List ℕ)) → IsCut 32 line word rest → HasNoVerb word → IsOfNone line
line_of_none line word rest is none = record {
  none = λ verb p.
      let (words, rests) = line_is_one word (verb_text verb) rest p.arguments is.front_has_none (no_space_in_verb verb) (sym is.text_is ∙ p.line_is) in
      none.none verb words;
}

-- scopes
pub no_hop : (text name : List ℕ) → text ≡ codes "hop " ++ name → ¬ IsHostName name → HasNoScope text
no_hop text name is none = record { none = λ scope p. by scope p }
  where
    by : (scope : Scope) → IsScopeText text scope → ⊥
    by (Hop other) p =
        let same : name ≡ other = ap (drop 4) (sym is ∙ p.text_is) in
        none (subst IsHostName (sym same) p.valid)
    by (Message number) p =
        let h : ◌≡◌ {A = ℕ} 104 109 = ap (λ (t : List ℕ). get_or t 0 0) (sym is ∙ p.text_is) in absurd (omega arith)

pub no_message : (text digits : List ℕ) → text ≡ codes "message " ++ digits → HasNoNumber digits → HasNoScope text
no_message text digits is none = record { none = λ scope p. by scope p }
  where
    by : (scope : Scope) → IsScopeText text scope → ⊥
    by (Hop name) p =
        let h : ◌≡◌ {A = ℕ} 109 104 = ap (λ (t : List ℕ). get_or t 0 0) (sym is ∙ p.text_is) in absurd (omega arith)
    by (Message number) p =
        let same : digits ≡ decimal number = ap (drop 8) (sym is ∙ p.text_is) in
        none.none number (record { text_is = same; fits = p.valid })

pub neither : (text : List ℕ) → ¬ Begins (codes "hop ") text → ¬ Begins (codes "message ") text → HasNoScope text
neither text no_hop no_message = record { none = λ scope p. by scope p }
  where
    by : (scope : Scope) → IsScopeText text scope → ⊥
    by (Hop name) p = no_hop (name, p.text_is)
    by (Message number) p = no_message (decimal number, p.text_is)

pub is_hop : (text name : List ℕ) → text ≡ codes "hop " ++ name → IsHostName name → IsScopeText text (Hop name)
is_hop text name is valid = record { valid = valid; text_is = is }

pub is_message : (text digits : List ℕ) (number : ℕ) → text ≡ codes "message " ++ digits → IsNumber digits number → IsScopeText text (Message number)
is_message text digits number is p = record {
  valid = p.fits;
  text_is = is ∙ ap (λ (d : List ℕ). codes "message " ++ d) p.text_is;
}

-- what octets are answered whose first line is read so
pub judged : (octets line rest : List ℕ) (answer : Result Request Refusal) → BeginsWithLine octets line rest → ReadsRequest line answer → Judges octets (Some answer)
judged octets line rest (Ok request) begins reads = record { line = line; rest = rest; begins = begins; reads = reads }
judged octets line rest (Err TooLong) begins reads = absurd reads
judged octets line rest (Err Unknown) begins reads = record { line = line; rest = rest; begins = begins; reads = reads }
judged octets line rest (Err (Usage verb)) begins reads = record { line = line; rest = rest; begins = begins; reads = reads }

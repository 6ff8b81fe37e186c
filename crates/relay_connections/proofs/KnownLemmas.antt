-- What is known of the octets that a stream has left, or has taken, as some are used or more come.
use Rattle.std.proofs.Common.{◌≡◌, ℕ, ◌≤◌, List, [], ◌++◌, Option, None, Some, drop, take, length, refl, sym, ap, ◌∙◌, subst, arith, take-append-drop, append_assoc, append-nil}
use Rattle.std.proofs.lemmas.List.{length-take, take-take}
use Rattle.std.specs.Io.KnownBytes.{Appends, Consumes, Keeps, append_known, prepend_known}

pub keeps_itself : (known : Option (List ℕ)) → Keeps known known
keeps_itself None = tt
keeps_itself (Some octets) = refl

pub keeps_same : (one other : Option (List ℕ)) → one ≡ other → Keeps one other
keeps_same one other same = subst (λ (known : Option (List ℕ)). Keeps one known) same (keeps_itself one)

pub consumes_on : (all left later : Option (List ℕ)) (octets : List ℕ) → Consumes all left octets → Keeps left later → Consumes all later octets
consumes_on None left later octets consumes keeps = tt
consumes_on (Some all) None later octets consumes keeps = absurd consumes
consumes_on (Some all) (Some left) None octets consumes keeps = absurd keeps
consumes_on (Some all) (Some left) (Some later) octets consumes keeps = consumes ∙ ap (λ rest. octets ++ rest) (sym keeps)

pub appends_on : (before now later : Option (List ℕ)) (octets : List ℕ) → Appends before now octets → Keeps now later → Appends before later octets
appends_on None now later octets appends keeps = tt
appends_on (Some before) None later octets appends keeps = absurd appends
appends_on (Some before) (Some now) None octets appends keeps = absurd keeps
appends_on (Some before) (Some now) (Some later) octets appends keeps = keeps ∙ appends

-- more of what is left is consumed
pub consumes_more : (all left : Option (List ℕ)) (octets used rest unread more : List ℕ) → Consumes all (prepend_known unread left) octets → unread ≡ used ++ rest → more ≡ octets ++ used
    → Consumes all (prepend_known rest left) more
consumes_more None left octets used rest unread more consumes parts is = tt
consumes_more (Some all) None octets used rest unread more consumes parts is = absurd consumes
consumes_more (Some all) (Some left) octets used rest unread more consumes parts is =
    consumes ∙ ap (λ (list : List ℕ). octets ++ (list ++ left)) parts ∙ ap (λ (list : List ℕ). octets ++ list) (append_assoc used rest left) ∙ sym (append_assoc octets used (rest ++ left))
    ∙ ap (λ (list : List ℕ). list ++ (rest ++ left)) (sym is)

-- more is appended, where nothing else was to be
pub appends_more : (before now : Option (List ℕ)) (octets waiting more later : List ℕ) → Appends before (append_known now waiting) octets → waiting ≡ [] → later ≡ octets ++ more
    → Appends before (append_known now more) later
appends_more None now octets waiting more later appends none is = tt
appends_more (Some before) None octets waiting more later appends none is = absurd appends
appends_more (Some before) (Some now) octets waiting more later appends none is =
    let all : now ≡ before ++ octets = sym (append-nil now) ∙ ap (λ (list : List ℕ). now ++ list) (sym none) ∙ appends in
    ap (λ (list : List ℕ). list ++ more) all ∙ append_assoc before octets more ∙ ap (λ (list : List ℕ). before ++ list) (sym is)

-- nothing was consumed yet
pub consumes_none : (all left : Option (List ℕ)) → Keeps all left → Consumes all left []
consumes_none None left keeps = tt
consumes_none (Some all) None keeps = absurd keeps
consumes_none (Some all) (Some left) keeps = sym keeps

-- the first output
pub appends_first : (before now : Option (List ℕ)) (octets : List ℕ) → Keeps (append_known before octets) now → Appends before now octets
appends_first None now octets keeps = tt
appends_first (Some before) None octets keeps = absurd keeps
appends_first (Some before) (Some now) octets keeps = keeps

-- some octets of a beginning, and the rest of all
pub used_and_rest : (count many : ℕ) (octets : List ℕ) → count ≤ length (take many octets) → octets ≡ take count (take many octets) ++ drop count octets
used_and_rest count many octets within =
    let below : count ≤ many = omega (arith, within, length-take many octets) in
    sym (take-append-drop count octets) ∙ ap (λ (list : List ℕ). list ++ drop count octets) (sym (take-take count many octets below))

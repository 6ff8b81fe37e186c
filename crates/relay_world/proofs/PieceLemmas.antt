-- Of pieces of octets, answers, and what stays of an attempt.
use Rattle.std.proofs.Common.{inl, inr, ◌≡◌, ◌≢◌, ◌≤◌, ◌+◌, ℕ, zero, suc, nat_eq, Bool, true, false, cond, List, [], ◌∷◌, ◌++◌, length, take, drop, Option, None, Some, refl, sym, subst, ap, ◌∙◌, arith}
use Rattle.std.specs.Prelude.{slice_get}
use Rattle.std.specs.List.{AllByRecursion}
use Rattle.std.proofs.Math.Seq.{take-add}
use Rattle.std.proofs.lemmas.Bool.Decides.{eqb_tells}
use Rattle.std.proofs.lemmas.List.{append_assoc, append-nil, length-append, length-take-le, take-append-drop, take-append-le}
use Rattle.std.proofs.lemmas.Option.{none-some}
use Rattle.relay_octets.specs.Beginning.{Begins}
use Rattle.relay_disk.specs.Device.{DiskWords}
use Rattle.relay_server.specs.declared.offer.Answer.{Answer}
use Rattle.relay_server.specs.Dialogue.{Offered, Said}
use Rattle.relay_server.specs.DialogueLaws.{AreNumbered}
use Rattle.relay_book.specs.declared.change.Accept.{Accept}
use Rattle.relay_book.specs.declared.change.Change.{Change}
use Rattle.relay_records.specs.Records.{Keeps, Kept}
use Rattle.relay_node.specs.Attempts.{Tells}
use Rattle.relay_node.specs.Room.{AnswersMore, refusals}
use Rattle.relay_report.specs.Report.{Reported, Reporter}
use Rattle.relay_course.specs.Course.{IsCourse}
use Rattle.relay_book.specs.declared.change.Verdict.{Verdict}
use Rattle.relay_world.specs.declared.attempt.Attempt.{Attempt}
use Rattle.relay_world.specs.declared.attempt.Fate.{Fate}
use Rattle.relay_world.specs.declared.attempt.Fate.TheVariants.{Running, Replied, Lost, Dropped}
use Rattle.relay_world.specs.declared.link.Link.{Link}
use Rattle.relay_world.specs.Bound.{HasFate, told_by, PassesOn, ReportsAfter}
use Rattle.relay_world.specs.Steps.{IsPut, unless_broken}
use Rattle.relay_world.specs.World.{Host}

pub take_within : {A : Type 0} (few many : ℕ) (xs : List A) → few ≤ length (take many xs) → take few (take many xs) ≡ take few xs
take_within few many xs within =
    sym (take-append-le few (take many xs) (drop many xs) within) ∙ ap (λ l. take few l) (take-append-drop many xs)

-- what is read after what was read: of the octets that wait the first that were used
pub read_more : {A : Type 0} (read used count : ℕ) (xs : List A) → used ≤ length (take count (drop read xs))
    → take (read + used) xs ≡ take read xs ++ take used (take count (drop read xs))
read_more read used count xs within =
    take-add read used xs ∙ ap (λ l. take read xs ++ l) (sym (take_within used count (drop read xs) within))

pub all_append : {A : Type 0} (P : A → Type 0) (xs ys : List A) → AllByRecursion P xs → AllByRecursion P ys
    → AllByRecursion P (xs ++ ys)
all_append P [] ys first second = second
all_append P (x ∷ xs) ys first second = (first.0, all_append P xs ys first.1 second)

pub refusals_numbered : (offers : List Offered) → AreNumbered (refusals offers)
refusals_numbered [] = tt
refusals_numbered (offer ∷ offers) = (tt, refusals_numbered offers)

pub refusals_length : (offers : List Offered) → length (refusals offers) ≡ length offers
refusals_length [] = refl
refusals_length (offer ∷ offers) = ap suc (refusals_length offers)

-- after a dialogue with an answer for each offer there is an answer for each
pub still_answered : (said later : Said) (refused last : List Offered) (given : List Answer) → AnswersMore said later refused last given
    → length said.answers ≡ length said.offers → length given ≡ length last → length later.answers ≡ length later.offers
still_answered said later refused last given more even same =
    let answers = ap length more.answers ∙ length-append said.answers (refusals refused ++ given) in
    let first = length-append (refusals refused) given in
    let offers = ap length more.offers ∙ length-append said.offers (refused ++ last) in
    let second = length-append refused last in
    let none = refusals_length refused in
    omega (arith, answers, first, offers, second, none, even, same)

pub still_numbered : (said later : Said) (refused last : List Offered) (given : List Answer) → AnswersMore said later refused last given
    → AreNumbered said.answers → AreNumbered given → AreNumbered later.answers
still_numbered said later refused last given more numbered also =
    subst AreNumbered (sym more.answers)
    (all_append _ said.answers (refusals refused ++ given) numbered
    (all_append _ (refusals refused) given (refusals_numbered refused) also))

pub reports_more : (reporter : Reporter) (front changes : List Change) (change : Change) → ReportsAfter reporter front changes
    → Reported reporter (front ++ changes) change → ReportsAfter reporter front (changes ++ change ∷ [])
reports_more reporter front [] change reports also = (subst (λ l. Reported reporter l change) (append-nil front) also, tt)
reports_more reporter front (first ∷ changes) change reports also = (
  reports.0,
  reports_more reporter (front ++ first ∷ []) changes change reports.1
      (subst (λ l. Reported reporter l change) (sym (append_assoc front (first ∷ []) changes)) also),
)

-- a row with another value at a place
pub with_at : {A : Type 0} → List A → ℕ → A → List A
with_at [] n x = []
with_at (y ∷ ys) zero x = x ∷ ys
with_at (y ∷ ys) (suc n) x = y ∷ with_at ys n x

pub with_at-there : {A : Type 0} (xs : List A) (n : ℕ) (x y : A) → slice_get xs n ≡ Some y → slice_get (with_at xs n x) n ≡ Some x
unfolding with_at
with_at-there [] n x y is = absurd (none-some y is)
with_at-there (z ∷ zs) zero x y is = refl
with_at-there (z ∷ zs) (suc n) x y is = with_at-there zs n x y is

pub with_at-other : {A : Type 0} (xs : List A) (n other : ℕ) (x : A) → other ≢ n → slice_get (with_at xs n x) other ≡ slice_get xs other
unfolding with_at
with_at-other [] n other x off = refl
with_at-other (z ∷ zs) zero zero x off = absurd (off refl)
with_at-other (z ∷ zs) zero (suc other) x off = refl
with_at-other (z ∷ zs) (suc n) zero x off = refl
with_at-other (z ∷ zs) (suc n) (suc other) x off = with_at-other zs n other x (λ same. off (ap suc same))

pub with_at-length : {A : Type 0} (xs : List A) (n : ℕ) (x : A) → length (with_at xs n x) ≡ length xs
unfolding with_at
with_at-length [] n x = refl
with_at-length (z ∷ zs) zero x = refl
with_at-length (z ∷ zs) (suc n) x = ap suc (with_at-length zs n x)

pub with_at-put : {A : Type 0} (xs : List A) (n : ℕ) (x y : A) → slice_get xs n ≡ Some y → IsPut xs (with_at xs n x) n x
with_at-put xs n x y is = record {
  at = with_at-there xs n x y is;
  others = λ other off. with_at-other xs n other x off;
}

pub same_number : (n : ℕ) → nat_eq n n ≡ true
same_number n = elim (eqb_tells n n) [ inl same ↦ same.0 | inr off ↦ absurd (off.1 refl) ]

-- a note that was taken changes nothing of what is kept
pub kept_without_note : {D : Type 0} (honest : Type 0) (words : DiskWords D) (records : Kept D) (changes : List Change)
    → Keeps honest words records changes → Keeps honest words (record records { noted = None }) changes
kept_without_note honest words records changes keeps = record {
  live = keeps.live;
  fitting = keeps.fitting;
  queue = keeps.queue;
  bodies = keeps.bodies;
  images = keeps.images;
}

-- what became of an attempt stays where what it has read stays
fate_as : {D : Type 0} (host : Host D) (changes : List Change) (link same : Link) (attempt : Attempt) (accept : Accept)
    (output : List ℕ) (told : Bool) (verdicts : Option (List Verdict)) (fate : Fate)
    → take link.down_read link.down ≡ take same.down_read same.down
    → HasFate host changes link attempt accept output told verdicts fate
    → HasFate host changes same attempt accept output told verdicts fate
fate_as {D} host changes link same attempt accept output told verdicts (Running slot) read is = (
  is.0,
  is.1,
  (
    is.2.0,
    is.2.1,
    subst (λ l. Tells host.config.host changes is.2.0.attempts slot (told_by attempt accept l output)) read is.2.2,
  ),
)
fate_as host changes link same attempt accept output told verdicts (Replied number) read is = is
fate_as host changes link same attempt accept output told verdicts (Lost number) read is = is
fate_as host changes link same attempt accept output told verdicts Dropped read is = is

-- a client end stays what it is where what it has read and written stays
pub passes_whole : {D : Type 0} (host : Host D) (changes : List Change) (link same : Link) (attempt : Attempt)
    → take link.down_read link.down ≡ take same.down_read same.down → link.up ≡ same.up
    → (same.broken ≡ false → link.broken ≡ false)
    → PassesOn host changes link attempt → PassesOn host changes same attempt
passes_whole host changes link same attempt read wrote broken passes = record {
  accept = passes.accept;
  accepted = passes.accepted;
  valid = passes.valid;
  some = passes.some;
  few = passes.few;
  within = passes.within;
  told = passes.told;
  output = passes.output;
  verdicts = passes.verdicts;
  course = subst (λ l. IsCourse host.config.host passes.accept.envelope passes.accept.stored_text attempt.places.items l
      passes.told passes.output passes.verdicts) read passes.course;
  wrote = subst (λ l. Begins l passes.output) wrote passes.wrote;
  whole = λ is. sym wrote ∙ passes.whole (broken is);
  fate = fate_as host changes link same attempt passes.accept passes.output passes.told passes.verdicts attempt.fate read
      passes.fate;
}

pub passes_as : {D : Type 0} (host : Host D) (changes : List Change) (link same : Link) (attempt : Attempt)
    → take link.down_read link.down ≡ take same.down_read same.down → link.up ≡ same.up → link.broken ≡ same.broken
    → PassesOn host changes link attempt → PassesOn host changes same attempt
passes_as host changes link same attempt read wrote broken passes =
    passes_whole host changes link same attempt read wrote (λ is. broken ∙ is) passes

-- what is read of octets stays where more is written after them
pub read_stays : {A : Type 0} (read : ℕ) (xs ys : List A) → read ≤ length xs → take read xs ≡ take read (xs ++ ys)
read_stays read xs ys within = sym (take-append-le read xs ys within)

pub few_within : {A : Type 0} (read : ℕ) (xs ys : List A) → read ≤ length xs → read ≤ length (xs ++ ys)
few_within read xs ys within = let both = length-append xs ys in omega (arith, within, both)

-- what was used of what waits was written
pub read_within : {A : Type 0} (read used count : ℕ) (xs : List A) → read ≤ length xs → used ≤ length (take count (drop read xs))
    → read + used ≤ length xs
read_within read used count xs within few =
    let whole = ap length (take-append-drop read xs) in
    let parts = length-append (take read xs) (drop read xs) in
    let first = length-take-le read xs within in
    let rest = ap length (take-append-drop count (drop read xs)) in
    let pieces = length-append (take count (drop read xs)) (drop count (drop read xs)) in
    omega (arith, within, few, whole, parts, first, rest, pieces)

-- what an end writes is on its link, where that is whole, and begins what was written, where it isn't
pub written_whole : (link : Link) (octets : List ℕ) → link.broken ≡ false → unless_broken link octets ≡ octets
written_whole link octets whole = ap (λ b. cond b [] octets) whole

pub written_broken : (link : Link) (octets : List ℕ) → link.broken ≡ true → unless_broken link octets ≡ []
written_broken link octets broken = ap (λ b. cond b [] octets) broken

pub begins_more : (broken : Bool) (was output more : List ℕ) → Begins was output → (broken ≡ false → was ≡ output)
    → Begins (was ++ cond broken [] more) (output ++ more)
begins_more true was output more begins whole = (
  begins.0 ++ more,
  ap (λ l. l ++ more) begins.1 ∙ append_assoc was begins.0 more
      ∙ ap (λ l. l ++ (begins.0 ++ more)) (sym (append-nil was)),
)
begins_more false was output more begins whole =
    ([], ap (λ l. l ++ more) (sym (whole refl)) ∙ sym (append-nil (was ++ more)))

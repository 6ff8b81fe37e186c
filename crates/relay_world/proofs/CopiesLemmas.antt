-- Copies are few, where each place is tried once at a time.
use Rattle.std.proofs.Common.{◌≡◌, ◌⊎◌, inl, inr, ◌+◌, ◌≤◌, ℕ, zero, suc, ◌==◌, Bool, true, false, ◌&&◌, ◌||◌, List, [], ◌∷◌, length, take, Option, None, Some, refl, sym, subst, ap, ◌∙◌, arith, cond}
use Rattle.std.specs.Prelude.{slice_get}
use Rattle.std.specs.List.{Contains, filter, list_any}
use Rattle.std.proofs.lemmas.Bool.{cases_eq, eq-eqb}
use Rattle.std.proofs.lemmas.Option.{none-some, same_Some}
use Rattle.relay_disk.specs.Device.{DiskWords}
use Rattle.relay_lines.specs.Reply.{Reply}
use Rattle.relay_lines.specs.ReplyReading.{CutsAllReplies}
use Rattle.relay_lines.proofs.Theorems.{cut_is_one}
use Rattle.relay_book.specs.declared.change.Change.{Change}
use Rattle.relay_book.specs.declared.change.Verdict.{Verdict}
use Rattle.relay_book.specs.declared.change.Verdict.TheVariants.{Taken, Refused, Later, CantSend, NoRoute, Withdrawn}
use Rattle.relay_attempts.specs.Outcomes.{rulings_of}
use Rattle.relay_course.specs.Course.{IsCourse}
use Rattle.relay_course.specs.Laws.{accepted_places}
use Rattle.relay_course.proofs.Theorems.{verdict_for_each_place}
use Rattle.relay_world.specs.GivingUp.{Withdrawing}
use Rattle.relay_world.specs.declared.attempt.Attempt.{Attempt}
use Rattle.relay_world.specs.declared.attempt.Fate.{Fate}
use Rattle.relay_world.specs.declared.attempt.Fate.TheVariants.{Running, Replied, Lost, Dropped}
use Rattle.relay_world.specs.declared.link.Link.{Link}
use Rattle.relay_world.specs.declared.link.ServerEnd.{ServerEnd}
use Rattle.relay_world.specs.Bound.{HasFate, IsBound, IsServed, PassesOn}
use Rattle.relay_world.specs.Children.{AreChildPlaces, IsAttempt, children_of}
use Rattle.relay_world.specs.Copies.{CopiesAreFew, CopiesBy, CopiesByAll, HasFewCopies, IsDecidedBy, PassesPlace, is_lost, is_lost_reply}
use Rattle.relay_world.specs.Once.{Claims, ClaimsAt, IsTriedOnce}
use Rattle.relay_world.specs.Passing.{RepliesGave, Rules}
use Rattle.relay_world.specs.World.{Host, World}
use Rattle.relay_world.proofs.AmongLemmas.{found_in, in_cons, in_found, in_none, in_rest, ruled_at}
use Rattle.relay_world.proofs.ChildrenLemmas.{all_cut, at_most_one_child, child_place_tried, child_places, its_answers, one_row, passes_of}
use Rattle.relay_world.proofs.ContentLemmas.{delivery_by}
use Rattle.relay_world.proofs.ClaimLemmas.{claims_running, known_at, known_attempt, there_too}
use Rattle.relay_world.proofs.PassingLemmas.{others_are_not_held}

-- a number is among others or it isn't
among : (xs : List ℕ) (x : ℕ) → Contains xs x ⊎ (Contains xs x → ⊥)
among [] x = inr (λ has. in_none x has)
among (y ∷ xs) x = elim (cases_eq y x) [
  | inl same ↦ inl (in_found (y ∷ xs) x 0 (ap (λ z. Some z) same))
  | inr off ↦ elim (among xs x) [
    | inl has ↦ inl (in_rest y x xs has)
    | inr none ↦ inr (λ has. elim (in_cons y x xs has) [ inl same ↦ off same | inr after ↦ none after ])
  ]
]

-- a test of numbers finds one that is there
any_there : (xs : List ℕ) (k x : ℕ) → slice_get xs k ≡ Some x → list_any (λ y. y == x) xs ≡ true
any_there [] k x is = absurd (none-some x is)
any_there (y ∷ xs) zero x is = ap (λ b. b || list_any (λ z. z == x) xs) (eq-eqb y x (same_Some y x is))
any_there (y ∷ xs) (suc k) x is = or_true (y == x) (list_any (λ z. z == x) xs) (any_there xs k x is)
  where
    or_true : (a b : Bool) → b ≡ true → (a || b) ≡ true
    or_true true b e = refl
    or_true false b e = e

-- as many verdicts as places
verdict_there : (places : List ℕ) (verdicts : List Verdict) (k place : ℕ) → length verdicts ≡ length places
    → slice_get places k ≡ Some place → (verdict : Verdict) × (slice_get verdicts k ≡ Some verdict)
verdict_there places verdicts k place even is = there_too places verdicts k place (sym even) is

-- a verdict is Taken or another
taken_or_other : (verdict : Verdict) → ((dsn : Bool) × (verdict ≡ Taken dsn)) ⊎ ((dsn : Bool) → verdict ≡ Taken dsn → ⊥)
taken_or_other (Taken dsn) = inl (dsn, refl)
taken_or_other (Refused code text) = inr (λ dsn e. cc)
taken_or_other Later = inr (λ dsn e. cc)
taken_or_other CantSend = inr (λ dsn e. cc)
taken_or_other NoRoute = inr (λ dsn e. cc)
taken_or_other (Withdrawn withdrawal) = inr (λ dsn e. cc)

-- who is lost is counted
kept_more : (is : Bool) (one : Attempt) (rest : List Attempt) → length rest ≤ length (cond is (one ∷ rest) rest)
kept_more true one rest = omega arith
kept_more false one rest = omega arith

lost_counts : (node message place : ℕ) (attempt : Attempt) → attempt.node ≡ node → attempt.message ≡ message
    → Contains attempt.places.items place → is_lost attempt.fate ≡ true → is_lost_reply node message place attempt ≡ true
lost_counts node message place attempt its_node its_message has lost =
    let tried = found_in attempt.places.items place has in
    let any : Bool = list_any (λ tried. tried == place) attempt.places.items in
    ap (λ b. b && (attempt.message == message && (any && is_lost attempt.fate))) (eq-eqb attempt.node node its_node)
    ∙ ap (λ b. b && (any && is_lost attempt.fate)) (eq-eqb attempt.message message its_message)
    ∙ ap (λ b. b && is_lost attempt.fate) (any_there attempt.places.items tried.0 place tried.1)
    ∙ lost

module _ {D : Type 0} (honest : Type 0) (words : DiskWords D) (world : World D) (lists : List (List Change))
    (bound : IsBound honest words world lists) {asked : List Withdrawing} (once : IsTriedOnce world lists asked) (node message place : ℕ) where
  abbrev Passing : Attempt → Type 0
  Passing attempt = PassesPlace world lists node message place attempt

  abbrev By : Attempt → ℕ → Type 0
  By attempt count = CopiesBy world lists node message place attempt count

  abbrev ByAll : List Attempt → ℕ → Type 0
  ByAll attempts count = CopiesByAll world lists node message place attempts count

  abbrev lost : Attempt → Bool
  lost attempt = is_lost_reply node message place attempt

  -- an attempt there passes the place, or it doesn't
  module _ (host : Host D) (changes : List Change) (link : Link) (attempt : Attempt)
      (is : IsAttempt world lists host changes link attempt) where
    passes : PassesOn host changes link attempt
    passes = passes_of honest words world lists bound host changes link attempt is

    abbrev row : List ℕ
    row = accepted_places (its_answers host changes link attempt passes)

    row_is : (passing : Passing attempt) → passing.places ≡ row
    row_is passing =
        let its_host : passing.host ≡ host =
        same_Some passing.host host (sym passing.stands.host_at ∙ is.stands.host_at) in
        let its_list : passing.changes ≡ changes =
        same_Some passing.changes changes (sym passing.stands.list_at ∙ is.stands.list_at) in
        let its_link : passing.link ≡ link = same_Some passing.link link (sym passing.its_link ∙ is.its_link) in
        one_row host changes link attempt passes passing.places
        (subst (λ h. AreChildPlaces h changes link attempt passing.places) its_host
        (subst (λ l. AreChildPlaces passing.host l link attempt passing.places) its_list
        (subst (λ l. AreChildPlaces passing.host passing.changes l attempt passing.places) its_link passing.are_its)))

    -- by all replies that it has read
    pub decided_by : (replies : List Reply) (rest : List ℕ) → attempt.node ≡ node → attempt.message ≡ message
        → CutsAllReplies (take link.down_read link.down) replies rest
        → IsDecidedBy world lists node message place attempt replies
    decided_by replies rest its_node its_message cut =
        let runs = passes.course.runs in
        let same : runs.replies ≡ replies =
        (cut_is_one (take link.down_read link.down) runs.rest rest runs.replies replies
        (all_cut host changes link attempt passes) cut).0 in
        subst (λ (l : List Reply). IsDecidedBy world lists node message place attempt l) same (record {
          delivery = delivery_by host changes link attempt passes;
          places_are = refl;
          each = runs.each;
          passes = (
            (λ passing. subst (λ l. Contains l place) (row_is passing) passing.holds),
            (λ holds. record {
              its_node = its_node;
              its_message = its_message;
              host = host;
              changes = changes;
              stands = is.stands;
              link = link;
              its_link = is.its_link;
              places = row;
              are_its = child_places host changes link attempt passes;
              holds = holds;
            }),
          );
        })

    copies_here : (count : ℕ) × By attempt count
    copies_here = elim (cases_eq attempt.node node) [
      | inl its_node ↦ elim (cases_eq attempt.message message) [
        | inl its_message ↦ elim (among row place) [
          | inl holds ↦ (
            length (children_of world attempt),
            inl (
              record {
                its_node = its_node;
                its_message = its_message;
                host = host;
                changes = changes;
                stands = is.stands;
                link = link;
                its_link = is.its_link;
                places = row;
                are_its = child_places host changes link attempt passes;
                holds = holds;
              },
              refl,
            ),
          )
          | inr none ↦ (0, inr (λ passing. none (subst (λ l. Contains l place) (row_is passing) passing.holds), refl))
        ]
        | inr off ↦ (0, inr (λ passing. off passing.its_message, refl))
      ]
      | inr off ↦ (0, inr (λ passing. off passing.its_node, refl))
    ]

    -- a passing attempt with a child is a lost reply, or claims the place
    abbrev IsPaid : Type 0
    IsPaid = (lost attempt ≡ true) ⊎ ClaimsAt world lists is.at node message place

    module _ (passing : Passing attempt) where
      tried : Contains attempt.places.items place
      tried = child_place_tried host changes link attempt passes place
          (subst (λ l. Contains l place) (row_is passing) passing.holds)

      list_here : slice_get lists node ≡ Some changes
      list_here = ap (λ n. slice_get lists n) (sym passing.its_node) ∙ is.stands.list_at

      claimed : Claims changes place attempt.fate → ClaimsAt world lists is.at node message place
      claimed claims = record {
        attempt = attempt;
        is_there = is.is_there;
        its_node = passing.its_node;
        its_message = passing.its_message;
        tries = tried;
        changes = changes;
        list_at = list_here;
        claims = claims;
      }

      -- its replies gave the place a verdict
      gave : (number : ℕ) → attempt.fate ≡ Replied number
          → (verdict : Verdict) × RepliesGave changes attempt place verdict
      gave number replied =
          let fate : HasFate host changes link attempt passes.accept passes.output passes.told passes.verdicts (Replied number) =
          subst (λ f. HasFate host changes link attempt passes.accept passes.output passes.told passes.verdicts f) replied
          passes.fate in
          let there = found_in attempt.places.items place tried in
          let even : length fate.1.0 ≡ length attempt.places.items =
          verdict_for_each_place host.config.host passes.accept.envelope passes.accept.stored_text attempt.places.items
          (take link.down_read link.down) passes.told passes.output fate.1.0
          (subst (λ v. IsCourse host.config.host passes.accept.envelope passes.accept.stored_text attempt.places.items
          (take link.down_read link.down) passes.told passes.output v) fate.1.1 passes.course) in
          let verdict = verdict_there attempt.places.items fate.1.0 there.0 place even there.1 in (
            verdict.0,
            record {
              number = number;
              replied = replied;
              rules = record {
                outcome = _;
                found = fate.1.2.found;
                ruling = in_found (rulings_of attempt.places.items fate.1.0) (record { place = place; verdict = verdict.0 })
                    there.0
                    (ruled_at attempt.places.items fate.1.0 there.0 place verdict.0 there.1 verdict.1);
              };
            },
          )

      paid_by_replies : (end : ServerEnd) → link.server ≡ Some end → (number : ℕ) → attempt.fate ≡ Replied number
          → (children_of world attempt ≡ []) ⊎ IsPaid
      paid_by_replies end server number replied =
          let given = gave number replied in
          elim (taken_or_other given.0) [
            | inl taken ↦ inr (inr (claimed (subst (λ f. Claims changes place f) (sym given.1.replied)
                (taken.0, subst (λ v. Rules changes given.1.number place v) taken.1 given.1.rules))))
            | inr other ↦
                elim (others_are_not_held honest words world lists bound host changes link attempt is end server place given.0
                given.1 other) [
                  | inl none ↦ inl none
                  | inr apart ↦ absurd (apart row (child_places host changes link attempt passes)
                      (subst (λ l. Contains l place) (row_is passing) passing.holds))
                ]
          ]

      paid : (end : ServerEnd) → link.server ≡ Some end → (fate : Fate) → attempt.fate ≡ fate
          → (children_of world attempt ≡ []) ⊎ IsPaid
      paid end server (Running slot) is_fate = inr (inr (claimed (claims_running changes place slot attempt.fate is_fate)))
      paid end server (Replied number) is_fate = paid_by_replies end server number is_fate
      paid end server (Lost number) is_fate =
          inr (inl (lost_counts node message place attempt passing.its_node passing.its_message tried (ap is_lost is_fate)))
      paid end server Dropped is_fate =
          inr (inl (lost_counts node message place attempt passing.its_node passing.its_message tried (ap is_lost is_fate)))

      -- it has no child, or one, which is paid for
      one_paid : (server : Option ServerEnd) → link.server ≡ server
          → (children_of world attempt ≡ []) ⊎ ((length (children_of world attempt) ≡ 1) × IsPaid)
      one_paid None outside = inl (once.outside attempt.link link is.its_link outside)
      one_paid (Some end) server =
          let served : IsServed world lists attempt.link link end = bound.servers attempt.link link end is.its_link server in
          elim (at_most_one_child honest words world lists bound host changes link attempt is end served.changes server
          served.stands.list_at) [
            | inl none ↦ inl none
            | inr one ↦ elim (paid end server attempt.fate refl) [
              | inl none ↦ inl none
              | inr pays ↦ inr (ap length one.one, pays)
            ]
          ]

    abbrev IsFew : ℕ → Type 0
    IsFew count = (count ≡ 0) ⊎ ((count ≡ 1) × IsPaid)

    few_here : (count : ℕ) → By attempt count → IsFew count
    few_here count (inr none) = inl none.1
    few_here count (inl passing) = elim (one_paid passing.0 link.server refl) [
      | inl none ↦ inl (passing.1 ∙ ap length none)
      | inr one ↦ inr (passing.1 ∙ one.0, one.1)
    ]

  -- one number of copies by each, and by all
  one_by : (attempt : Attempt) (count other : ℕ) → By attempt count → By attempt other → other ≡ count
  one_by attempt count other (inl mine) (inl yours) = yours.1 ∙ sym mine.1
  one_by attempt count other (inl mine) (inr yours) = absurd (yours.0 mine.0)
  one_by attempt count other (inr mine) (inl yours) = absurd (mine.0 yours.0)
  one_by attempt count other (inr mine) (inr yours) = yours.1 ∙ sym mine.1

  one_by_all : (attempts : List Attempt) (count other : ℕ) → ByAll attempts count → ByAll attempts other → other ≡ count
  one_by_all [] count other mine yours = yours ∙ sym mine
  one_by_all (attempt ∷ attempts) count other mine yours =
      let first : yours.0 ≡ mine.0 = one_by attempt mine.0 yours.0 mine.2 yours.2 in
      let rest : yours.1 ≡ mine.1 = one_by_all attempts mine.1 yours.1 mine.3 yours.3 in
      let a = mine.4 in
      let b = yours.4 in
      omega (arith, first, rest, a, b)

  some_by_all : (attempts : List Attempt)
      → ((k : ℕ) (attempt : Attempt) → slice_get attempts k ≡ Some attempt → (count : ℕ) × By attempt count)
      → (count : ℕ) × ByAll attempts count
  some_by_all [] each = (0, refl)
  some_by_all (attempt ∷ attempts) each =
      let first = each 0 attempt refl in
      let rest = some_by_all attempts (λ k one is. each (suc k) one is) in
      (first.0 + rest.0, (first.0, rest.0, first.1, rest.1, refl))

  -- each is paid for by a lost reply or a claim
  abbrev EachIsPaid : (ℕ → Type 0) → List Attempt → Type 0
  EachIsPaid claims attempts =
      (k : ℕ) (attempt : Attempt) → slice_get attempts k ≡ Some attempt → (count : ℕ) → By attempt count
      → (count ≡ 0) ⊎ ((count ≡ 1) × ((lost attempt ≡ true) ⊎ claims k))

  lost_first : (attempt : Attempt) (attempts : List Attempt) → lost attempt ≡ true
      → length (filter lost (attempt ∷ attempts)) ≡ suc (length (filter lost attempts))
  lost_first attempt attempts is = ap (λ b. length (cond b (attempt ∷ filter lost attempts) (filter lost attempts))) is

  -- where none claims, each is a lost reply
  all_lost : (claims : ℕ → Type 0) (attempts : List Attempt) → EachIsPaid claims attempts → ((k : ℕ) → claims k → ⊥)
      → (count : ℕ) → ByAll attempts count → count ≤ length (filter lost attempts)
  all_lost claims [] each none count by = omega (arith, by)
  all_lost claims (attempt ∷ attempts) each none count by =
      let rest = all_lost (λ k. claims (suc k)) attempts (λ k one is. each (suc k) one is) (λ k claim. none (suc k) claim)
      by.1 by.3 in
      let more = kept_more (lost attempt) attempt (filter lost attempts) in
      let sum = by.4 in
      elim (each 0 attempt refl by.0 by.2) [
        | inl zero_here ↦ omega (arith, rest, more, sum, zero_here)
        | inr one ↦ elim one.1 [
          | inl is ↦
              let one_here = one.0 in
              let first = lost_first attempt attempts is in
              omega (arith, rest, sum, one_here, first)
          | inr claim ↦ absurd (none 0 claim)
        ]
      ]

  -- and where one at most claims, each but one is
  one_more : (claims : ℕ → Type 0) (attempts : List Attempt) → EachIsPaid claims attempts
      → ((k other : ℕ) → claims k → claims other → k ≡ other)
      → (count : ℕ) → ByAll attempts count → count ≤ 1 + length (filter lost attempts)
  one_more claims [] each one count by = omega (arith, by)
  one_more claims (attempt ∷ attempts) each one count by =
      let rest = one_more (λ k. claims (suc k)) attempts (λ k a is. each (suc k) a is)
      (λ k other first second. let same = one (suc k) (suc other) first second in omega (arith, same)) by.1 by.3 in
      let more = kept_more (lost attempt) attempt (filter lost attempts) in
      let sum = by.4 in
      elim (each 0 attempt refl by.0 by.2) [
        | inl zero_here ↦ omega (arith, rest, more, sum, zero_here)
        | inr here ↦ elim here.1 [
          | inl is ↦
              let one_here = here.0 in
              let first = lost_first attempt attempts is in
              omega (arith, rest, sum, one_here, first)
          | inr claim ↦
              let others = all_lost (λ k. claims (suc k)) attempts (λ k a is. each (suc k) a is)
              (λ k second. let same = one 0 (suc k) claim second in omega (arith, same)) by.1 by.3 in
              let one_here = here.0 in
              omega (arith, others, more, sum, one_here)
        ]
      ]

  pub few_copies : HasFewCopies world lists node message place
  few_copies =
      let some = some_by_all world.attempts (λ k attempt is.
      let has = known_attempt honest words world lists bound k attempt is in copies_here has.0 has.1 has.2 attempt has.3) in
      record {
        count = some.0;
        copies = some.1;
        one = λ other copies. one_by_all world.attempts some.0 other some.1 copies;
        few = one_more (λ k. ClaimsAt world lists k node message place) world.attempts
            (λ k attempt is count by.
            let has = known_attempt honest words world lists bound k attempt is in
            subst (λ n. (count ≡ 0) ⊎ ((count ≡ 1) × ((lost attempt ≡ true) ⊎ ClaimsAt world lists n node message place)))
            (known_at honest words world lists bound k attempt is) (few_here has.0 has.1 has.2 attempt has.3 count by))
            (λ k other first second. once.once k other node message place first second) some.0 some.1;
      }

pub copies_are_few : {D : Type 0} (honest : Type 0) (words : DiskWords D) → CopiesAreFew honest words
copies_are_few honest words world lists asked bound once node message place =
    few_copies honest words world lists bound once node message place

-- What stays of an end of a link while others change.
use Rattle.std.proofs.Common.{◌≡◌, ℕ, zero, suc, Bool, List, [], ◌∷◌, ◌++◌, length, take, Option, Some, refl, sym, subst, ap, ◌∙◌}
use Rattle.std.specs.Prelude.{slice_get}
use Rattle.std.specs.List.{AllByRecursion}
use Rattle.std.specs.Option.{is_some}
use Rattle.std.proofs.lemmas.Bool.{false≢true}
use Rattle.std.proofs.lemmas.List.{append-nil, append_assoc}
use Rattle.std.proofs.lemmas.List.Concat.{flat_map-append}
use Rattle.relay_server.specs.Dialogue.{IsDialogue, Offered, Said}
use Rattle.relay_server.specs.Setup.{setup_for}
use Rattle.relay_routes.specs.declared.config.Config.{Config}
use Rattle.relay_book.specs.declared.change.Accept.{Accept}
use Rattle.relay_book.specs.declared.change.Change.{Change}
use Rattle.relay_book.specs.declared.change.Change.TheVariants as change
use Rattle.relay_book.specs.declared.change.Verdict.{Verdict}
use Rattle.relay_book.specs.Marks.{change_at, message_at}
use Rattle.relay_attempts.specs.Reply.{Told}
use Rattle.relay_course.specs.Course.{IsCourse}
use Rattle.relay_node.specs.Attempts.{Tells}
use Rattle.relay_node.specs.Node.{NodeState}
use Rattle.relay_node.specs.Queued.{queued_in}
use Rattle.relay_world.specs.declared.attempt.Attempt.{Attempt}
use Rattle.relay_world.specs.declared.attempt.Fate.{Fate}
use Rattle.relay_world.specs.declared.attempt.Fate.TheVariants.{Running, Replied, Lost, Dropped}
use Rattle.relay_world.specs.declared.line.Line.{Line}
use Rattle.relay_world.specs.declared.link.Link.{Link}
use Rattle.relay_world.specs.declared.link.ServerEnd.{ServerEnd}
use Rattle.relay_world.specs.Bound.{HasFate, IsItsOutcome, IsStored, PassesOn, SaysThere, ServesLink, told_by}
use Rattle.relay_world.specs.Ledger.{accepts_on, if_accepted_on, if_of_node, steps_after, steps_by, steps_in, steps_of}
use Rattle.relay_world.specs.World.{Host, Up}

-- changes of the one list are those of the other
abbrev pub ChangesStay : List Change → List Change → Type 0
ChangesStay old new = (k : ℕ) (c : Change) → change_at old k ≡ Some c → change_at new k ≡ Some c

abbrev pub MessagesStay : List Change → List Change → Type 0
MessagesStay old new = (k : ℕ) (a : Accept) → message_at old k ≡ Some a → message_at new k ≡ Some a

get_front : {A : Type 0} (xs ys : List A) (n : ℕ) (x : A) → slice_get xs n ≡ Some x → slice_get (xs ++ ys) n ≡ Some x
get_front [] ys n x is = absurd (false≢true (ap is_some is))
get_front (y ∷ xs) ys zero x is = is
get_front (y ∷ xs) ys (suc n) x is = get_front xs ys n x is

pub get_last : {A : Type 0} (xs : List A) (x : A) → slice_get (xs ++ x ∷ []) (length xs) ≡ Some x
get_last [] x = refl
get_last (y ∷ xs) x = get_last xs x

pub changes_stay : (changes : List Change) (change : Change) → ChangesStay changes (changes ++ change ∷ [])
changes_stay changes change zero c is = is
changes_stay changes change (suc k) c is = get_front changes (change ∷ []) k c is

pub stored_on : (config : Config) (peer : List ℕ) (old new : List Change) (all : List (ℕ × Offered)) → ChangesStay old new
    → AllByRecursion (IsStored config peer old) all → AllByRecursion (IsStored config peer new) all
stored_on config peer old new [] stay stored = stored
stored_on config peer old new (one ∷ all) stay stored = (
  record {
    accept = stored.0.accept;
    found = stay one.0 (change.Accept stored.0.accept) stored.0.found;
    at = stored.0.at;
    is = stored.0.is;
  },
  stored_on config peer old new all stay stored.1,
)

outcome_on : (attempt : Attempt) (verdicts : List Verdict) (old new : List Change) (number : ℕ) → ChangesStay old new
    → IsItsOutcome attempt verdicts old number → IsItsOutcome attempt verdicts new number
outcome_on attempt verdicts old new number stay is =
    record { at = is.at; report = is.report; found = stay number _ is.found }

module _ {D : Type 0} where
  -- a server end stays, where its node stays what it is to it, and the list and the ledger keep what was theirs
  pub serves_on : (host new : Host D) (changes later : List Change) (ledger grown : List Line) (number : ℕ) (link : Link)
      (end : ServerEnd) → new.config ≡ host.config → ChangesStay changes later
      → accepts_on number grown ≡ accepts_on number ledger
      → ((said : Said) → SaysThere host end.session end.peer said → SaysThere new end.session end.peer said)
      → ServesLink host changes ledger number link end → ServesLink new later grown number link end
  serves_on host new changes later ledger grown number link end config stay same says serves = record {
    said = serves.said;
    dialogue = subst (λ c. IsDialogue (setup_for c end.peer) serves.said) (sym config) serves.dialogue;
    numbered = serves.numbered;
    answered = serves.answered;
    input = serves.input;
    closing = serves.closing;
    closes = serves.closes;
    closed = serves.closed;
    wrote = serves.wrote;
    whole = serves.whole;
    accepts = same ∙ serves.accepts;
    stored = subst (λ c. AllByRecursion (IsStored c end.peer later) (queued_in serves.said)) (sym config)
        (stored_on host.config end.peer changes later (queued_in serves.said) stay serves.stored);
    live = says serves.said serves.live;
  }

  -- what an attempt that runs at a node is told of stays so at another value of the node
  abbrev pub TellsOn : Host D → Host D → List Change → List Change → ℕ → Type 0
  TellsOn host new changes later slot =
      (told : Told) → (node : NodeState D) × (host.state ≡ Up node) × Tells host.config.host changes node.attempts slot told
      → (node : NodeState D) × (new.state ≡ Up node) × Tells new.config.host later node.attempts slot told

  fate_on : (host new : Host D) (changes later : List Change) (link : Link) (attempt : Attempt) (accept : Accept)
      (output : List ℕ) (told : Bool) (verdicts : Option (List Verdict)) (fate : Fate) → ChangesStay changes later
      → ((slot : ℕ) → fate ≡ Running slot → TellsOn host new changes later slot)
      → HasFate host changes link attempt accept output told verdicts fate
      → HasFate new later link attempt accept output told verdicts fate
  fate_on host new changes later link attempt accept output told verdicts (Running slot) stay tells is =
      (is.0, is.1, tells slot refl (told_by attempt accept (take link.down_read link.down) output) is.2)
  fate_on host new changes later link attempt accept output told verdicts (Replied number) stay tells is =
      (is.0, (is.1.0, is.1.1, outcome_on attempt is.1.0 changes later number stay is.1.2))
  fate_on host new changes later link attempt accept output told verdicts (Lost number) stay tells is =
      (is.0, (is.1.0, is.1.1, outcome_on attempt is.1.0 changes later number stay is.1.2))
  fate_on host new changes later link attempt accept output told verdicts Dropped stay tells is = is

  -- a client end stays, where its node stays what it is to it, and the list keeps what was its own
  pub passes_on : (host new : Host D) (changes later : List Change) (link : Link) (attempt : Attempt)
      → new.config ≡ host.config → ChangesStay changes later → MessagesStay changes later
      → ((slot : ℕ) → attempt.fate ≡ Running slot → TellsOn host new changes later slot)
      → PassesOn host changes link attempt → PassesOn new later link attempt
  passes_on host new changes later link attempt config stay messages tells passes = record {
    accept = passes.accept;
    accepted = messages attempt.message passes.accept passes.accepted;
    valid = passes.valid;
    some = passes.some;
    few = passes.few;
    within = passes.within;
    told = passes.told;
    output = passes.output;
    verdicts = passes.verdicts;
    course = subst (λ (c : Config). IsCourse c.host passes.accept.envelope passes.accept.stored_text attempt.places.items
        (take link.down_read link.down) passes.told passes.output passes.verdicts) (sym config) passes.course;
    wrote = passes.wrote;
    whole = passes.whole;
    fate = fate_on host new changes later link attempt passes.accept passes.output passes.told passes.verdicts attempt.fate
        stay tells passes.fate;
  }

-- the steps of one change more
steps_after_more : (front changes : List Change) (change : Change)
    → steps_after front (changes ++ change ∷ []) ≡ steps_after front changes ++ steps_by (front ++ changes) change
steps_after_more front [] change =
    append-nil (steps_by front change) ∙ ap (λ l. steps_by l change) (sym (append-nil front))
steps_after_more front (first ∷ changes) change =
    ap (λ l. steps_by front first ++ l) (steps_after_more (front ++ first ∷ []) changes change
    ∙ ap (λ l. steps_after (front ++ first ∷ []) changes ++ steps_by l change) (append_assoc front (first ∷ []) changes))
    ∙ sym (append_assoc (steps_by front first) (steps_after (front ++ first ∷ []) changes) (steps_by (front ++ first ∷ changes) change))

pub steps_more : (changes : List Change) (change : Change)
    → steps_of (changes ++ change ∷ []) ≡ steps_of changes ++ steps_by changes change
steps_more changes change = steps_after_more [] changes change

pub steps_in_more : (node : ℕ) (ledger more : List Line) → steps_in node (ledger ++ more) ≡ steps_in node ledger ++ steps_in node more
steps_in_more node ledger more = flat_map-append (if_of_node node) ledger more

pub accepts_on_more : (number : ℕ) (ledger more : List Line)
    → accepts_on number (ledger ++ more) ≡ accepts_on number ledger ++ accepts_on number more
accepts_on_more number ledger more = flat_map-append (if_accepted_on number) ledger more

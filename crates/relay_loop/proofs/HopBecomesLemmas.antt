-- What replies leave of a next hop that mail was handed to.
use Rattle.std.proofs.Common.{◌≡◌, ◌≢◌, ◌⊎◌, inl, inr, ℕ, ◌+◌, ◌==◌, false, true, List, [], ◌∷◌, ◌++◌, length, take, Option, None, Some, Result, Ok, Err, refl, sym, ap, ◌∙◌, subst, append_assoc, append-nil, length-append, arith}
use Rattle.std.proofs.lemmas.Bool.{cases_eq}
use Rattle.std.proofs.lemmas.Bool.Decides.{nat_tests}
use Rattle.std.specs.Result.{IsErr}
use Rattle.relay_disk.specs.Device.{DiskWords}
use Rattle.relay_slots.specs.Slots.{slot_at}
use Rattle.relay_routes.specs.declared.config.Config.{Config}
use Rattle.relay_book.specs.declared.change.Change.{Change}
use Rattle.relay_book.specs.Queue.{Fitting, empty_queue}
use Rattle.relay_records.specs.Staged.{Row}
use Rattle.relay_records.specs.declared.fault.NodeFault.{NodeFault}
use Rattle.relay_records.specs.declared.fault.NodeFault.TheVariants.{NoMemory, Stopped, Unknown, TooMany, NotDue, Busy, Open, Full, NoSecond}
use Rattle.relay_report.specs.Report.{Reported, reporter_of}
use Rattle.relay_attempts.specs.AddedOutcome.{reported_as}
use Rattle.relay_attempts.specs.Reply.{IsItsCourse, Told, outcome_at, told_more}
use Rattle.relay_node.specs.Node.{NodeState}
use Rattle.relay_node.specs.StagedReplies.{RefusesToReplyInto}
use Rattle.relay_loop.specs.declared.hops.Answered.{Answered}
use Rattle.relay_loop.specs.declared.replying.ReplyPiece.{ReplyPiece}
use Rattle.relay_loop.specs.GroupHopLaws.{Becomes, HandsOut, used_by, used_of}
use Rattle.relay_loop.specs.GroupPieces.{IsLaden}
use Rattle.relay_loop.specs.GroupReplies.{HandsBy, RefusesReply, RepliesBy, RepliesEach, RepliesOne, unheard}
use Rattle.relay_loop.specs.Hops.{HandsTo, IsUnknown}
use Rattle.relay_loop.specs.Outboxes.{unwritten_at}
use Rattle.relay_loop.specs.Relay.{RelayState}
use Rattle.relay_loop.proofs.AwaitedLemmas.{awaited_fit, front_fits}
use Rattle.relay_loop.proofs.BecomesLemmas.{chooses_all, chooses_none, laden_or_not, none_or_some}
use Rattle.relay_loop.proofs.LawLemmas.{hands_stay}
use Rattle.relay_loop.proofs.LeaveLemmas.{replies_leave}

module _ {D : Type 0} (relay : RelayState D) (attempt : ℕ) (told : Told) (written : List ℕ) where
  -- while changes are added
  hands_after : (list added : List Change) → Fitting (list ++ added) → HandsTo list relay attempt told written
      → HandsTo (list ++ added) relay attempt told written
  hands_after list [] fitting t =
      subst (λ (l : List Change). HandsTo l relay attempt told written) (sym (append-nil list)) t
  hands_after list (change ∷ added) fitting t =
      let is = append_assoc list (change ∷ []) added in
      let fits = subst Fitting (sym is) fitting in
      let one = hands_stay list (list ++ change ∷ []) relay relay attempt told written
      (inr (change, refl, front_fits empty_queue (list ++ change ∷ []) added fits)) refl refl refl t in
      subst (λ (l : List Change). HandsTo l relay attempt told written) is
      (hands_after (list ++ change ∷ []) added fits one)

-- while changes are added, as long as its attempt, its connection and the configuration are the same
pub hands_later : {D : Type 0} (list added : List Change) (old new : RelayState D) (attempt : ℕ) (told : Told)
    (written : List ℕ) → Fitting (list ++ added)
    → slot_at new.node.attempts attempt ≡ slot_at old.node.attempts attempt
    → slot_at new.hops attempt ≡ slot_at old.hops attempt → new.node.config ≡ old.node.config
    → HandsTo list old attempt told written → HandsTo (list ++ added) new attempt told written
hands_later list added old new attempt told written fitting attempts hops config t =
    hands_after new attempt told written list added fitting
    (hands_stay list list old new attempt told written (inl refl) attempts hops config t)

-- what is told with nothing more
told_nothing : (told : Told) → told_more told [] [] ≡ told
told_nothing told = ap (λ i. set i (told.output ++ [])) (append-nil told.input) ∙ ap (set told.input) (append-nil told.output)
  where
    set : List ℕ → List ℕ → Told
    set i o = record told { input = i; output = o }

-- with more after more
told_twice : (told : Told) (i j o p : List ℕ) → told_more (told_more told i o) j p ≡ told_more told (i ++ j) (o ++ p)
told_twice told i j o p = ap (λ l. set l ((told.output ++ o) ++ p)) (append_assoc told.input i j) ∙ ap (set (told.input ++ (i ++ j))) (append_assoc told.output o p)
  where
    set : List ℕ → List ℕ → Told
    set i o = record told { input = i; output = o }

module _ (attempt : ℕ) (reply : ReplyPiece) (replies : List ReplyPiece) (answer : Result Answered NodeFault)
    (rest : List (Result Answered NodeFault)) where
  -- a reply to another attempt
  used_alike : attempt ≢ reply.attempt
      → used_of attempt (reply ∷ replies) (answer ∷ rest) ≡ [] ++ used_of attempt replies rest
  used_alike other =
      let differs : reply.attempt ≢ attempt = λ e. other (sym e) in
      let test : (reply.attempt == attempt) ≡ false = grind (arith, nat_tests) in
      ap (λ l. l ++ used_of attempt replies rest) (chooses_none (reply.attempt == attempt) (used_by reply answer) test)

  -- a reply to this one
  used_more : reply.attempt ≡ attempt
      → used_of attempt (reply ∷ replies) (answer ∷ rest) ≡ used_by reply answer ++ used_of attempt replies rest
  used_more same =
      let test : (reply.attempt == attempt) ≡ true = grind (arith, nat_tests) in
      ap (λ l. l ++ used_of attempt replies rest) (chooses_all (reply.attempt == attempt) (used_by reply answer) test)

-- what stands nowhere isn't there
is_nowhere : {A : Type 0} (slots : List (Option A)) (number : ℕ) (x : A) → slot_at slots number ≡ Some x
    → slot_at slots number ≡ None → ⊥
is_nowhere slots number x there none = none_some (sym none ∙ there)
  where
    none_some : None ≡ Some x → ⊥
    none_some e = cc

-- an attempt that is handed to is known
is_known : {D : Type 0} (list : List Change) (old : RelayState D) (attempt : ℕ) (told : Told) (written : List ℕ)
    → HandsTo list old attempt told written → IsUnknown old attempt → ⊥
is_known list old attempt told written t (inl none) = is_nowhere old.hops attempt t.waiting t.connection none
is_known list old attempt told written t (inr none) = is_nowhere old.node.attempts attempt t.tells.run t.tells.at none

module _ {D : Type 0} (honest : Type 0) (words : DiskWords D) (changes : List Change) (at : ℕ) where
  -- only an unknown attempt has no connection
  same_attempts : (pending : List Change) (reply : ReplyPiece) (old mid : RelayState D) (row between : Row)
      (more : List Change) (fault : NodeFault) → slot_at old.hops reply.attempt ≡ None
      → RefusesReply honest words changes at pending reply old row mid between more fault
      → mid.node.attempts ≡ old.node.attempts
  same_attempts pending reply old mid row between more NoMemory none by = absurd (by.known (λ e. cc) none)
  same_attempts pending reply old mid row between more Stopped none by = absurd (by.known (λ e. cc) none)
  same_attempts pending reply old mid row between more Unknown none by = ap (λ (n : NodeState D). n.attempts) by.leaves.0
  same_attempts pending reply old mid row between more TooMany none by = absurd (by.known (λ e. cc) none)
  same_attempts pending reply old mid row between more NotDue none by = absurd (by.known (λ e. cc) none)
  same_attempts pending reply old mid row between more Busy none by = absurd (by.known (λ e. cc) none)
  same_attempts pending reply old mid row between more NoSecond none by = absurd (by.known (λ e. cc) none)
  same_attempts pending reply old mid row between more (Open cause) none by = absurd (by.known (λ e. cc) none)
  same_attempts pending reply old mid row between more Full none by = absurd (by.known (λ e. cc) none)

  -- a reply to an attempt without a connection is refused, and uses nothing
  record IsDropped (reply : ReplyPiece) (old mid : RelayState D) (answer : Result Answered NodeFault) : Type 0 where
    pub connection : slot_at mid.hops reply.attempt ≡ None
    pub attempts : mid.node.attempts ≡ old.node.attempts
    pub used : used_by reply answer ≡ []

  dropped_by : (pending : List Change) (reply : ReplyPiece) (old mid : RelayState D) (row between : Row)
      (more : List Change) (answer : Result Answered NodeFault) → slot_at old.hops reply.attempt ≡ None
      → RepliesBy honest words changes at pending reply old row mid between more answer
      → IsDropped reply old mid answer
  dropped_by pending reply old mid row between more (Ok answered) none by = absurd (by.known none)
  dropped_by pending reply old mid row between more (Err fault) none by = record {
    connection = by.gone;
    attempts = same_attempts pending reply old mid row between more fault none by;
    used = refl;
  }

  -- what replies leave of an attempt without a connection
  record Leaves (attempt : ℕ) (replies : List ReplyPiece) (answers : List (Result Answered NodeFault))
      (old new : RelayState D) : Type 0 where
    pub connection : slot_at new.hops attempt ≡ None
    pub run : slot_at new.node.attempts attempt ≡ slot_at old.node.attempts attempt
    pub used : used_of attempt replies answers ≡ []

  leaves : (attempt : ℕ) (replies : List ReplyPiece) (answers : List (Result Answered NodeFault))
      (pending : List Change) (old : RelayState D) (row : Row) (new : RelayState D) (left : Row) (all : List Change)
      → slot_at old.hops attempt ≡ None
      → RepliesEach honest words changes at replies answers pending old row new left all
      → Leaves attempt replies answers old new
  leaves attempt [] answers pending old row new left all none (nothing, same, unmoved, is) = record {
    connection = ap (λ (s : RelayState D). slot_at s.hops attempt) same ∙ none;
    run = ap (λ (s : RelayState D). slot_at s.node.attempts attempt) same;
    used = refl;
  }
  leaves attempt (reply ∷ replies) answers pending old row new left all none
      (answer, rest, is, mid, between, more, one, each) =
      by (λ gone. leaves attempt replies rest (pending ++ more) mid between new left all gone each)
      (cases_eq attempt reply.attempt)
    where
      join : (slot_at mid.hops attempt ≡ None → Leaves attempt replies rest mid new) → slot_at mid.hops attempt ≡ None
          → slot_at mid.node.attempts attempt ≡ slot_at old.node.attempts attempt
          → used_of attempt (reply ∷ replies) (answer ∷ rest) ≡ [] ++ used_of attempt replies rest
          → Leaves attempt (reply ∷ replies) answers old new
      join next gone run used =
          let so = next gone in
          record {
            connection = so.connection;
            run = so.run ∙ run;
            used = ap (used_of attempt (reply ∷ replies)) is ∙ used ∙ so.used;
          }

      by : (slot_at mid.hops attempt ≡ None → Leaves attempt replies rest mid new)
          → (attempt ≡ reply.attempt) ⊎ (attempt ≡ reply.attempt → ⊥) → Leaves attempt (reply ∷ replies) answers old new
      by next (inr other) =
          join next (one.only.hops attempt other ∙ none) (one.only.attempts attempt other)
          (used_alike attempt reply replies answer rest other)
      by next (inl same) =
          let dropped = dropped_by pending reply old mid row between more answer
          (ap (slot_at old.hops) (sym same) ∙ none) one.by in
          join next (ap (slot_at mid.hops) same ∙ dropped.connection) (ap (λ l. slot_at l attempt) dropped.attempts)
          (used_more attempt reply replies answer rest (sym same)
          ∙ ap (λ l. l ++ used_of attempt replies rest) dropped.used)

  -- what becomes of an attempt after the first reply becomes of it after all
  module _ (list : List Change) (new : RelayState D) (attempt : ℕ) (told : Told) (written : List ℕ)
      (reply : ReplyPiece) (replies : List ReplyPiece) (answer : Result Answered NodeFault)
      (rest : List (Result Answered NodeFault)) (first out : List ℕ)
      (used : used_of attempt (reply ∷ replies) (answer ∷ rest) ≡ first ++ used_of attempt replies rest) where
    all_told : (more : List ℕ) → told_more (told_more told first out) (used_of attempt replies rest) more
        ≡ told_more told (used_of attempt (reply ∷ replies) (answer ∷ rest)) (out ++ more)
    all_told more =
        told_twice told first (used_of attempt replies rest) out more
        ∙ ap (λ i. told_more told i (out ++ more)) (sym used)

    becomes_more : Becomes list at new attempt (told_more told first out) written replies rest
        → Becomes list at new attempt told written (reply ∷ replies) (answer ∷ rest)
    becomes_more (inl still) = inl (record {
      out = out ++ still.out;
      hands = subst (λ (t : Told). HandsTo list new attempt t written) (all_told still.out) still.hands;
    })
    becomes_more (inr (inl ended)) = inr (inl (record {
      out = out ++ ended.out;
      verdicts = ended.verdicts;
      course =
          subst (λ (t : Told). IsItsCourse new.node.config.host t false ended.verdicts) (all_told ended.out)
          ended.course;
      last = ended.last;
      output = sym (append_assoc told.output out ended.out) ∙ ended.output;
      front = ended.front;
      report = ended.report;
      reported = ended.reported;
      rest = ended.rest;
      list_is = ended.list_is;
      gone = ended.gone;
      connection = ended.connection;
      handed = inr ended.handed;
    }))
    becomes_more (inr (inr refused)) =
        inr (inr (record { gone = refused.gone; connection = refused.connection; refused = inr refused.refused }))

  -- a refused attempt that was known is gone
  is_gone : (number : ℕ) (old mid : NodeState D) (row between : Row) (fault : NodeFault) → fault ≢ Unknown
      → RefusesToReplyInto number old mid row between fault → slot_at mid.attempts number ≡ None
  is_gone number old mid row between NoMemory known refused = refused.attempt
  is_gone number old mid row between Stopped known refused = absurd refused
  is_gone number old mid row between Unknown known refused = absurd (known refl)
  is_gone number old mid row between TooMany known refused = absurd refused
  is_gone number old mid row between NotDue known refused = absurd refused
  is_gone number old mid row between Busy known refused = absurd refused
  is_gone number old mid row between NoSecond known refused = absurd refused
  is_gone number old mid row between (Open cause) known refused = absurd refused
  is_gone number old mid row between Full known refused = refused.attempt

  -- a reply to the attempt itself
  module _ (pending : List Change) (reply : ReplyPiece) (replies : List ReplyPiece)
      (answer : Result Answered NodeFault) (rest : List (Result Answered NodeFault)) (old mid new : RelayState D)
      (row between left : Row) (more all : List Change)
      (one : RepliesOne honest words changes at pending reply old row mid between more answer)
      (each : RepliesEach honest words changes at replies rest (pending ++ more) mid between new left all)
      (told : Told) (written : List ℕ) (t : HandsTo (changes ++ pending) old reply.attempt told written)
      (next : (later : Told) → HandsTo (changes ++ (pending ++ more)) mid reply.attempt later written
      → Becomes (changes ++ all) at new reply.attempt later written replies rest) where
    abbrev Here : Type 0
    Here = Becomes (changes ++ all) at new reply.attempt told written (reply ∷ replies) (answer ∷ rest)

    used_here : used_of reply.attempt (reply ∷ replies) (answer ∷ rest)
        ≡ used_by reply answer ++ used_of reply.attempt replies rest
    used_here = used_more reply.attempt reply replies answer rest refl

    -- it is handed to still, and this is told of it then
    on : (later : Told) → HandsTo (changes ++ pending) mid reply.attempt later written
        → HandsTo (changes ++ (pending ++ more)) mid reply.attempt later written
    on later hands =
        let is = append_assoc changes pending more in
        let fits = awaited_fit honest words changes (pending ++ more) mid.node.records between one.awaits in
        subst (λ (l : List Change). HandsTo l mid reply.attempt later written) is
        (hands_after mid reply.attempt later written (changes ++ pending) more (subst Fitting (sym is) fits) hands)

    stays : (answered : Answered) → answer ≡ Ok answered → answered ≡ unheard → mid ≡ old → Here
    stays answered is nothing same =
        let none : used_by reply answer ≡ [] =
        ap (used_by reply) is ∙ ap (λ (a : Answered). take a.used reply.octets.now) nothing in
        let hands = subst (λ (s : RelayState D). HandsTo (changes ++ pending) s reply.attempt told written) (sym same) t in
        becomes_more (changes ++ all) new reply.attempt told written reply replies answer rest [] []
        (used_here ∙ ap (λ l. l ++ used_of reply.attempt replies rest) none)
        (next (told_more told [] [])
        (subst (λ (x : Told). HandsTo (changes ++ (pending ++ more)) mid reply.attempt x written)
        (sym (told_nothing told)) (on told hands)))

    -- it goes on, or has ended
    by_change : (answered : Answered) → answer ≡ Ok answered → (change : Option ℕ) → answered.change ≡ change
        → HandsBy honest words changes at pending reply.attempt told written reply.octets.now old row mid between more
        answered change
        → Here
    by_change answered is None its h =
        let first = take answered.used reply.octets.now in
        becomes_more (changes ++ all) new reply.attempt told written reply replies answer rest first h.out
        (used_here ∙ ap (λ l. l ++ used_of reply.attempt replies rest) (ap (used_by reply) is))
        (next (told_more told first h.out) (on (told_more told first h.out) h.hands))
    by_change answered is (Some number) its h =
        let so = leaves reply.attempt replies rest (pending ++ more) mid between new left all h.connection each in
        let so_all = replies_leave honest words changes at replies rest (pending ++ more) mid between new left all each in
        let config = so_all.config ∙ one.only.config in
        let change = reported_as (outcome_at at told h.verdicts) h.stages.report in
        let used = sym (used_here ∙ ap (λ l. used_by reply answer ++ l) so.used
        ∙ append-nil (used_by reply answer) ∙ ap (used_by reply) is) in
        let grown : all ≡ pending ++ (change ∷ so_all.added) =
        so_all.grows ∙ ap (λ (l : List Change). (pending ++ l) ++ so_all.added) h.more_is
        ∙ append_assoc pending (change ∷ []) so_all.added in
        inr (inl (record {
          out = h.last;
          verdicts = h.verdicts;
          course =
              subst (λ (c : Config). IsItsCourse c.host
              (told_more told (used_of reply.attempt (reply ∷ replies) (answer ∷ rest)) h.last) false h.verdicts)
              (sym config)
              (subst (λ l. IsItsCourse old.node.config.host (told_more told l h.last) false h.verdicts) used h.course);
          last = h.last;
          output = h.output;
          front = changes ++ pending;
          report = h.stages.report;
          reported =
              subst (λ (c : Config). Reported (reporter_of c) (changes ++ pending) change) (sym config) h.stages.reported;
          rest = so_all.added;
          list_is =
              ap (λ (l : List Change). changes ++ l) grown
              ∙ sym (append_assoc changes pending (change ∷ so_all.added));
          gone = so.run ∙ h.gone;
          connection = so.connection;
          handed = inl (refl, hands (sym is) h.last_is (its ∙ ap Some (numbered h.stages.number_is)));
        }))
      where
        hands : Ok answered ≡ answer → answered.last ≡ Some h.last
            → answered.change ≡ Some (length (changes ++ pending) + 1)
            → HandsOut h.last (length (changes ++ pending) + 1) answer
        hands e last_is its_change = subst (HandsOut h.last (length (changes ++ pending) + 1)) e (last_is, its_change)

        numbered : number ≡ length changes + length pending + 1 → number ≡ length (changes ++ pending) + 1
        numbered is = is ∙ ap (λ n. n + 1) (sym (length-append changes pending))

    by_answer : (its : Result Answered NodeFault) → answer ≡ its
        → RepliesBy honest words changes at pending reply old row mid between more its → Here
    by_answer (Err fault) is by =
        let so = leaves reply.attempt replies rest (pending ++ more) mid between new left all by.gone each in
        let known : fault ≢ Unknown =
        λ e. is_known (changes ++ pending) old reply.attempt told written t (by.unknown e) in
        inr (inr (record {
          gone = so.run ∙ is_gone reply.attempt old.node mid.node row between fault known by.leaves;
          connection = so.connection;
          refused = inl (refl, subst IsErr (sym is) refl);
        }))
    by_answer (Ok answered) is by = where_waits (none_or_some (unwritten_at old.hops reply.attempt))
      where
        where_laden : unwritten_at old.hops reply.attempt ≡ [] → IsLaden row ⊎ (IsLaden row → ⊥) → Here
        where_laden drained (inl laden) = let so = by.unread (inr laden) in stays answered is so.0 so.1
        where_laden drained (inr light) =
            by_change answered is answered.change refl (by.hands drained light told written t)

        where_waits : (unwritten_at old.hops reply.attempt ≡ []) ⊎ (unwritten_at old.hops reply.attempt ≢ []) → Here
        where_waits (inr waits) = let so = by.unread (inl waits) in stays answered is so.0 so.1
        where_waits (inl drained) = where_laden drained (laden_or_not row)

    becomes_here : Here
    becomes_here = by_answer answer refl one.by

  -- what becomes of an attempt after replies
  pub each_becomes : (replies : List ReplyPiece) (answers : List (Result Answered NodeFault)) (pending : List Change)
      (old : RelayState D) (row : Row) (new : RelayState D) (left : Row) (all : List Change) (attempt : ℕ)
      (told : Told) (written : List ℕ) → RepliesEach honest words changes at replies answers pending old row new left all
      → HandsTo (changes ++ pending) old attempt told written
      → Becomes (changes ++ all) at new attempt told written replies answers
  each_becomes [] answers pending old row new left all attempt told written (nothing, same, unmoved, is) t =
      inl (record {
        out = [];
        hands =
            subst (λ (x : Told). HandsTo (changes ++ all) new attempt x written) (sym (told_nothing told))
            (subst (λ (l : List Change). HandsTo (changes ++ l) new attempt told written) (sym is)
            (subst (λ (s : RelayState D). HandsTo (changes ++ pending) s attempt told written) (sym same) t));
      })
  each_becomes (reply ∷ replies) answers pending old row new left all attempt told written
      (answer, rest, is, mid, between, more, one, each) t =
      subst (λ (l : List (Result Answered NodeFault)). Becomes (changes ++ all) at new attempt told written
      (reply ∷ replies) l) (sym is)
      (by (λ later hands. each_becomes replies rest (pending ++ more) mid between new left all attempt later written
      each hands) (cases_eq reply.attempt attempt))
    where
      by : ((later : Told) → HandsTo (changes ++ (pending ++ more)) mid attempt later written
          → Becomes (changes ++ all) at new attempt later written replies rest)
          → (reply.attempt ≡ attempt) ⊎ (reply.attempt ≡ attempt → ⊥)
          → Becomes (changes ++ all) at new attempt told written (reply ∷ replies) (answer ∷ rest)
      by next (inl same) =
          let Here : ℕ → Type 0 = λ a. HandsTo (changes ++ pending) old a told written
          → ((later : Told) → HandsTo (changes ++ (pending ++ more)) mid a later written
          → Becomes (changes ++ all) at new a later written replies rest)
          → Becomes (changes ++ all) at new a told written (reply ∷ replies) (answer ∷ rest) in
          subst Here same
          (λ hands on. becomes_here pending reply replies answer rest old mid new row between left more all one each told
          written hands on) t next
      by next (inr other) =
          let differs : attempt ≢ reply.attempt = λ e. other (sym e) in
          let assoc = append_assoc changes pending more in
          let fits = awaited_fit honest words changes (pending ++ more) mid.node.records between one.awaits in
          let hands = subst (λ (l : List Change). HandsTo l mid attempt told written) assoc
          (hands_later (changes ++ pending) more old mid attempt told written (subst Fitting (sym assoc) fits)
          (one.only.attempts attempt differs) (one.only.hops attempt differs) one.only.config t) in
          becomes_more (changes ++ all) new attempt told written reply replies answer rest [] []
          (used_alike attempt reply replies answer rest differs)
          (next (told_more told [] [])
          (subst (λ (x : Told). HandsTo (changes ++ (pending ++ more)) mid attempt x written)
          (sym (told_nothing told)) hands))

-- A script, the client that writes it, and the server that reads it.
use Rattle.std.proofs.Common.{◌≡◌, ◌≤◌, ◌<◌, ◌⊎◌, ℕ, ◌+◌, suc, List, [], ◌∷◌, ◌++◌, length, inl, inr, refl, sym, ap, ◌∙◌, subst, arith}
use Rattle.std.proofs.lemmas.List.{append_assoc, append-nil, append_cancel_left, length-append, map-append}
use Rattle.std.proofs.lemmas.List.Concat.{flat_map-append}
use Rattle.relay_lines.specs.Reply.{Reply}
use Rattle.relay_server.specs.Dialogue.{Answers, Comes, Takes, Turn, Turns, read_by}
use Rattle.relay_server.specs.ReplyTable.{Course, Replies, Offers}
use Rattle.relay_server.specs.Setup.{Setup}
use Rattle.relay_server.specs.State.{State, Closed, start}
use Rattle.relay_server.specs.Unit.{IsUnit}
use Rattle.relay_server.proofs.Theorems.{asked_is_a_unit, no_unit_is_empty, turn_is_of_its_unit}
use Rattle.relay_octets.specs.Beginning.{Begins}
use Rattle.relay_course.specs.Course.{joined}
use Rattle.relay_meeting.specs.Meeting.{Meeting, Step, IsScript, IsExpected, AreExpected, Writes, Meets, commands_in, replies_by, state_after}

-- of two lists that begin one list, one begins the other
either_after : {A : Type 0} (x y : A) (one two : List A) → Begins one two ⊎ Begins two one → x ≡ y
    → Begins (x ∷ one) (y ∷ two) ⊎ Begins (y ∷ two) (x ∷ one)
either_after x y one two (inl begins) e = inl (begins.0, cc)
either_after x y one two (inr begins) e = inr (begins.0, cc)

pub either_begins : {A : Type 0} (one two rest more : List A) → one ++ rest ≡ two ++ more → Begins one two ⊎ Begins two one
either_begins [] two rest more e = inl (two, refl)
either_begins (x ∷ one) [] rest more e = inr (x ∷ one, refl)
either_begins (x ∷ one) (y ∷ two) rest more e =
    let head : x ≡ y = cc in
    let tail : one ++ rest ≡ two ++ more = cc in
    either_after x y one two (either_begins one two rest more tail) head

begins_trans : {A : Type 0} (one two three : List A) → Begins one two → Begins two three → Begins one three
begins_trans one two three a b = (a.0 ++ b.0, b.1 ∙ ap (λ l. l ++ b.0) a.1 ∙ append_assoc one a.0 b.0)

expected_after : (host : List ℕ) (done todo : List Step) (replies more : List Reply) → length replies ≡ length done
    → AreExpected host done replies → AreExpected host todo more → AreExpected host (done ++ todo) (replies ++ more)
expected_after host [] todo [] more n a b = b
expected_after host [] todo (reply ∷ replies) more n a b = absurd a
expected_after host (step ∷ done) todo [] more n a b = absurd (omega arith)
expected_after host (step ∷ done) todo (reply ∷ replies) more n a b =
    (a.0, expected_after host done todo replies more (omega arith) a.1 b)

pub taken_expected : (host : List ℕ) (course : Course) (turn : Turn) (new : State) → Takes host course turn new
    → IsExpected host course turn.reply
taken_expected host (Replies row next) turn new takes = takes.0
taken_expected host (Offers client envelope content) turn new takes = (takes.0, takes.1)

taken_state : (host : List ℕ) (course : Course) (turn : Turn) (new : State) → Takes host course turn new
    → new ≡ state_after course
taken_state host (Replies row next) turn new takes = takes.2
taken_state host (Offers client envelope content) turn new takes = takes.3

-- what was written after the replies read so far, of the commands of a script: more than the commands done
pub record Written (commands : List (List ℕ)) (all : List (List ℕ)) (least : ℕ) : Type 0 where
  pub front : List (List ℕ)
  pub of_script : Begins front all
  pub of_client : Begins front commands
  pub enough : (least ≤ length front) ⊎ (front ≡ commands)

written_from : (commands front all : List (List ℕ)) (least : ℕ) → Begins front all → Begins front commands
    → (least ≤ length front) ⊎ (front ≡ commands) → Written commands all least
written_from commands front all least a b c = record { front = front; of_script = a; of_client = b; enough = c }

enough_of : (commands : List Reply → List (List ℕ)) (so_far heard more : List Reply) → heard ≡ so_far ++ more
    → (length so_far ≤ length (commands so_far)) ⊎ (commands (so_far ++ more) ≡ commands so_far)
    → (length so_far ≤ length (commands so_far)) ⊎ (commands so_far ≡ commands heard)
enough_of commands so_far heard more is (inl h) = inl h
enough_of commands so_far heard more is (inr e) = inr (sym e ∙ ap commands (sym is))

-- the client has read all replies so far, or only some of them
written_so_far : (host : List ℕ) (greeting : Reply) (commands : List Reply → List (List ℕ)) (script : List Step)
    → Writes host greeting commands script → (replies heard : List Reply) → AreExpected host script replies
    → Begins heard (greeting ∷ replies) ⊎ Begins (greeting ∷ replies) heard
    → Written (commands heard) (commands_in script) (length (greeting ∷ replies))
written_so_far host greeting commands script writes replies heard expected (inl part) =
    let begins = writes.expected replies expected in
    let stays = subst (λ (l : List Reply). Begins (commands heard) (commands l)) (sym part.1) (writes.stays heard part.0) in
    written_from (commands heard) (commands heard) (commands_in script) (length (greeting ∷ replies))
    (begins_trans (commands heard) (commands (greeting ∷ replies)) (commands_in script) stays begins)
    ([], sym (append-nil (commands heard))) (inr refl)
written_so_far host greeting commands script writes replies heard expected (inr whole) =
    let so_far : List Reply = greeting ∷ replies in
    written_from (commands heard) (commands so_far) (commands_in script) (length (greeting ∷ replies))
    (writes.expected replies expected)
    (subst (λ (l : List Reply). Begins (commands so_far) (commands l)) (sym whole.1) (writes.stays so_far whole.0))
    (enough_of commands so_far heard whole.0 whole.1 (writes.keeps_up so_far whole.0))

pub joined-append : (one two : List (List ℕ)) → joined (one ++ two) ≡ joined one ++ joined two
joined-append one two = flat_map-append (λ command. command) one two

-- the front of two lists that reaches into the second
pub record Reaches (front one two : List (List ℕ)) : Type 0 where
  pub tail : List (List ℕ)
  pub front_is : front ≡ one ++ tail
  pub begins : Begins tail two
  pub some : 0 < length tail

reaches : (front one two : List (List ℕ)) → Begins front (one ++ two) → length one < length front → Reaches front one two
reaches front [] two begins h = record { tail = front; front_is = refl; begins = begins; some = h }
reaches [] (x ∷ one) two begins h = absurd (omega arith)
reaches (y ∷ front) (x ∷ one) two begins h =
    let whole = begins.1 in
    let head : x ≡ y = cc in
    let tail : one ++ two ≡ front ++ begins.0 = cc in
    let r = reaches front one two (begins.0, tail) (omega arith) in
    record {
      tail = r.tail;
      front_is = ap (λ c. c ∷ front) (sym head) ∙ ap (λ l. x ∷ l) r.front_is;
      begins =
          r.begins;
      some = r.some;
    }

-- where octets were written after the commands done, so was a command
not_all_done : (front done : List (List ℕ)) (after : List ℕ) → Begins front done → joined front ≡ joined done ++ after
    → 0 < length after → ⊥
not_all_done front done after begins e h =
    let whole =
    ap length (ap joined begins.1 ∙ joined-append front begins.0) ∙ length-append (joined front) (joined begins.0) in
    let part = ap length e ∙ length-append (joined done) after in
    omega (arith, whole, part)

reached_by : (front done todo : List (List ℕ)) (after : List ℕ) → Begins front (done ++ todo)
    → joined front ≡ joined done ++ after → 0 < length after → Begins front done ⊎ Begins done front
    → length done < length front
reached_by front done todo after begins e h (inl part) = absurd (not_all_done front done after part e h)
reached_by front done todo after begins e h (inr ([], is)) =
    absurd (not_all_done front done after ([], sym (append-nil done) ∙ sym is ∙ sym (append-nil front)) e h)
reached_by front done todo after begins e h (inr (command ∷ tail, is)) =
    let n = ap length is ∙ length-append done (command ∷ tail) in
    omega (arith, n)

reached : (commands front done todo : List (List ℕ)) (after : List ℕ) → Begins front (done ++ todo)
    → joined commands ≡ joined done ++ after → 0 < length after → (suc (length done) ≤ length front) ⊎ (front ≡ commands)
    → length done < length front
reached commands front done todo after begins e h (inl long) = omega arith
reached commands front done todo after begins e h (inr is) =
    reached_by front done todo after begins (ap joined is ∙ e) h (either_begins front done begins.0 todo (sym begins.1))

-- what comes next of the client's octets is the script's next command
pub record IsNext (commands done : List (List ℕ)) (next : List ℕ) (after : List ℕ) : Type 0 where
  pub later : List ℕ
  pub after_is : after ≡ next ++ later

next_of_tail : (tail later done commands todo : List (List ℕ)) (next after : List ℕ) → Begins tail (next ∷ todo)
    → 0 < length tail → commands ≡ (done ++ tail) ++ later → joined commands ≡ joined done ++ after
    → IsNext commands done next after
next_of_tail [] later done commands todo next after begins h is e = absurd (omega arith)
next_of_tail (command ∷ tail) later done commands todo next after begins h is e =
    let whole = begins.1 in
    let same : next ≡ command = cc in
    let all : joined commands ≡ joined done ++ (command ++ joined (tail ++ later)) =
    ap joined (is ∙ append_assoc done (command ∷ tail) later) ∙ joined-append done (command ∷ (tail ++ later)) in
    record {
      later = joined (tail ++ later);
      after_is = append_cancel_left (joined done) after (command ++ joined (tail ++ later)) (sym e ∙ all)
          ∙ ap (λ c. c ++ joined (tail ++ later)) (sym same);
    }

next_is : (done todo : List (List ℕ)) (commands : List (List ℕ)) (next after : List ℕ)
    → Written commands (done ++ next ∷ todo) (suc (length done)) → joined commands ≡ joined done ++ after
    → 0 < length after → IsNext commands done next after
next_is done todo commands next after written e h =
    let long = reached commands written.front done (next ∷ todo) after written.of_script e h written.enough in
    let r = reaches written.front done (next ∷ todo) written.of_script long in
    next_of_tail r.tail written.of_client.0 done commands todo next after r.begins r.some
    (written.of_client.1 ∙ ap (λ l. l ++ written.of_client.0) r.front_is) e

-- no unit stands after a close
none_closed : (setup : Setup) (old new : State) (turn : Turn) → old ≡ Closed → Answers setup old turn new → ⊥
none_closed setup old new turn e is = subst (λ (s : State). IsUnit s turn.asked) e (asked_is_a_unit setup old new turn is)

some_octets : (octets : List ℕ) → (octets ≡ [] → ⊥) → 0 < length octets
some_octets [] h = absurd (h refl)
some_octets (octet ∷ octets) h = omega arith

-- the turn after those done is of the script's next command
pub record TurnIs (setup : Setup) (step : Step) (turn : Turn) (new : State) : Type 0 where
  pub asked_is : turn.asked ≡ step.command
  pub takes : Takes setup.host step.course turn new
  pub new_is : new ≡ state_after step.course

turn_is : (setup : Setup) (old new : State) (step : Step) (turn : Turn) (rest later : List ℕ)
    → Comes setup old step.command step.course → Answers setup old turn new → turn.asked ++ rest ≡ step.command ++ later
    → TurnIs setup step turn new
turn_is setup old new step turn rest later comes is e =
    let same = turn_is_of_its_unit setup old new step.command rest later step.course turn comes is e in
    record {
      asked_is = same.asked;
      takes = same.takes;
      new_is = taken_state setup.host step.course turn new same.takes;
    }

-- the octets of the commands done, with one more
done_more : (done : List Step) (step : Step) (turn : Turn) → turn.asked ≡ step.command
    → joined (commands_in done) ++ turn.asked ≡ joined (commands_in (done ++ step ∷ []))
done_more done step turn e =
    ap (λ l. joined (commands_in done) ++ l) (e ∙ sym (append-nil step.command))
    ∙ sym (joined-append (commands_in done) (step.command ∷ []))
    ∙ ap joined (sym (map-append (λ s. s.command) done (step ∷ [])))

length-commands : (script : List Step) → length (commands_in script) ≡ length script
length-commands [] = refl
length-commands (step ∷ script) = ap suc (length-commands script)

pub meet : (setup : Setup) (greeting : Reply) (commands : List Reply → List (List ℕ)) (done todo : List Step)
    → Writes setup.host greeting commands (done ++ todo)
    → (replies : List Reply) (old new : State) (turns : List Turn) (after heard more : List Reply) (unread : List ℕ)
    → length replies ≡ length done → AreExpected setup.host done replies → IsScript setup old todo → Turns setup old turns new
    → joined (commands heard) ≡ joined (commands_in done) ++ (read_by turns ++ unread)
    → (greeting ∷ replies) ++ (replies_by turns ++ after) ≡ heard ++ more
    → Meets setup todo turns new
meet setup greeting commands done todo writes replies old new [] after heard more unread n expected script runs e r =
    record { plays = tt; goes_on = subst (λ (s : State). IsScript setup s todo) runs script }
meet setup greeting commands done [] writes replies old new (turn ∷ turns) after heard more unread n expected script runs e r =
    absurd (none_closed setup old runs.0 turn script runs.1)
meet setup greeting commands done (step ∷ todo) writes replies old new (turn ∷ turns) after heard more unread n expected
    script runs e r =
    let mid : State = runs.0 in
    let last : List ℕ = turn.asked ++ (read_by turns ++ unread) in
    let octets : joined (commands heard) ≡ joined (commands_in done) ++ last =
    e ∙ ap (λ l. joined (commands_in done) ++ l) (append_assoc turn.asked (read_by turns) unread) in
    let some_asked = some_octets turn.asked (no_unit_is_empty old turn.asked (asked_is_a_unit setup old mid turn runs.1)) in
    let some = length-append turn.asked (read_by turns ++ unread) in
    let all =
    subst (λ (l : List Reply). AreExpected setup.host (done ++ step ∷ todo) l) (append-nil replies)
    (expected_after setup.host done (step ∷ todo) replies [] n expected tt) in
    let either = either_begins heard (greeting ∷ replies) more (replies_by (turn ∷ turns) ++ after) (sym r) in
    let written = written_so_far setup.host greeting commands (done ++ step ∷ todo) writes replies heard all either in
    let count : length (greeting ∷ replies) ≡ suc (length (commands_in done)) = ap suc (n ∙ sym (length-commands done)) in
    let here = subst (λ k. Written (commands heard) (commands_in done ++ step.command ∷ commands_in todo) k) count
    (subst (λ l. Written (commands heard) l (length (greeting ∷ replies)))
    (map-append (λ s. s.command) done (step ∷ todo)) written) in
    let next =
    next_is (commands_in done) (commands_in todo) (commands heard) step.command last here octets
    (omega (arith, some, some_asked)) in
    let is = turn_is setup old mid step turn (read_by turns ++ unread) next.later script.0 runs.1 next.after_is in
    let later = meet setup greeting commands (done ++ step ∷ []) todo
    (subst (λ (s : List Step). Writes setup.host greeting commands s) (sym (append_assoc done (step ∷ []) todo)) writes)
    (replies ++ turn.reply ∷ []) mid new turns after heard more unread
    (length-append replies (turn.reply ∷ []) ∙ ap (λ k. k + 1) n ∙ sym (length-append done (step ∷ [])))
    (expected_after setup.host done (step ∷ []) replies (turn.reply ∷ []) n expected
    (taken_expected setup.host step.course turn mid is.takes, tt))
    (subst (λ (s : State). IsScript setup s todo) (sym is.new_is) script.1) runs.2
    (octets ∙ sym (append_assoc (joined (commands_in done)) turn.asked (read_by turns ++ unread))
    ∙ ap (λ l. l ++ (read_by turns ++ unread)) (done_more done step turn is.asked_is))
    (append_assoc (greeting ∷ replies) (turn.reply ∷ []) (replies_by turns ++ after) ∙ r) in
    record {
      plays = (is.asked_is, subst (λ (s : State). Takes setup.host step.course turn s) is.new_is is.takes, later.plays);
      goes_on = later.goes_on;
    }

pub meeting : Meeting
meeting setup greeting commands script new turns after heard more unread writes is runs e r =
    meet setup greeting commands [] script writes [] start new turns after heard more unread refl tt is runs e r

-- What a conversation does: the steps between one progress and the next.
use Rattle.std.proofs.Common.{◌≡◌, ◌≤◌, ℕ, zero, suc, ◌+◌, Bool, true, false, List, [], ◌∷◌, ◌++◌, length, map, drop, Option, Some, None, refl, sym, ap, ◌∙◌, subst, cond, arith}
use Rattle.std.proofs.lemmas.List.{append_assoc, append-nil, drop_all}
use Rattle.std.proofs.lemmas.List.Concat.{flat_map-append}
use Rattle.relay_lines.specs.Reply.{Reply}
use Rattle.relay_envelope.specs.declared.envelope.Recipient.{Recipient}
use Rattle.relay_book.specs.declared.change.Verdict.{Verdict}
use Rattle.relay_course.specs.declared.awaited.Awaited.{Awaited}
use Rattle.relay_course.specs.declared.awaited.Awaited.TheVariants as awaited
use Rattle.relay_course.specs.declared.extensions.Extensions.{Extensions}
use Rattle.relay_course.specs.WrittenLine.{mail_line, quit_line, rcpt_line_at}
use Rattle.relay_course.specs.VerdictTable.{kind_of, rcpt_verdict, some_accepted}
use Rattle.relay_course.specs.Progress.{Delivery, Answered, Progress, answer_of, with_answer, with_command, with_mail, with_rcpt, with_rcpts, after_reply, ended_by, if_rcpt, rcpt_replies, after_answer}
use Rattle.relay_course.specs.Course.{joined}
use Rattle.relay_client.specs.declared.conversation.Conversation.{Conversation}
use Rattle.relay_client.specs.Conversation.{AsksOn, Does, Holds, SettlesOne, has_open, verdicts_from}
use Rattle.relay_client.proofs.SettledLemmas.{open_is, verdicts_are}

-- one step after another
pub does_trans : (delivery : Delivery) (a b c : Progress) (talk next : Conversation) (ended : Option (List Verdict))
    (out middle more : List ℕ)
    → Does delivery a b talk None out middle → Does delivery b c next ended middle more → Does delivery a c next ended out more
does_trans delivery a b c talk next ended out middle more one two = record {
  commands = one.commands ++ two.commands;
  commands_are = two.commands_are ∙ ap (λ (k : List (List ℕ)). k ++ two.commands) one.commands_are
      ∙ append_assoc a.commands one.commands two.commands;
  written = two.written ∙ ap (λ (o : List ℕ). o ++ joined two.commands) one.written
      ∙ append_assoc out (joined one.commands) (joined two.commands)
      ∙ ap (λ (o : List ℕ). out ++ o) (sym (flat_map-append (λ (command : List ℕ). command) one.commands two.commands));
  stands = two.stands;
}

-- what a test chooses is done
pub does_then : (delivery : Delivery) (a b c : Progress) (test : Bool) (talk : Conversation) (ended : Option (List Verdict))
    (out more : List ℕ)
    → test ≡ true → Does delivery a b talk ended out more → Does delivery a (cond test b c) talk ended out more
does_then delivery a b c true talk ended out more e d = d
does_then delivery a b c false talk ended out more e d = absurd cc

pub does_else : (delivery : Delivery) (a b c : Progress) (test : Bool) (talk : Conversation) (ended : Option (List Verdict))
    (out more : List ℕ)
    → test ≡ false → Does delivery a c talk ended out more → Does delivery a (cond test b c) talk ended out more
does_else delivery a b c true talk ended out more e d = absurd cc
does_else delivery a b c false talk ended out more e d = d

-- the old progress counts by its commands alone
pub does_from : (delivery : Delivery) (a b c : Progress) (talk : Conversation) (ended : Option (List Verdict)) (out more : List ℕ)
    → a.commands ≡ b.commands → Does delivery a c talk ended out more → Does delivery b c talk ended out more
does_from delivery a b c talk ended out more e d = record {
  commands = d.commands;
  commands_are = d.commands_are ∙ ap (λ (k : List (List ℕ)). k ++ d.commands) e;
  written = d.written;
  stands = d.stands;
}

-- no RCPT was asked yet
pub asks_on_start : (delivery : Delivery) (c : Progress) (talk : Conversation) (out : List ℕ) → Holds talk delivery c
    → AsksOn delivery c talk out out
asks_on_start delivery c talk out h = record {
  so_far = c;
  does = record { commands = []; commands_are = sym (append-nil c.commands); written = sym (append-nil out); stands = h };
  rest = refl;
}

-- one RCPT more
pub asks_on_step : (delivery : Delivery) (c : Progress) (old new : Conversation) (out middle more : List ℕ) (place : ℕ)
    (places : List ℕ)
    → drop old.asked old.places.items ≡ place ∷ places
    → ((k : Progress) → Holds old delivery k → Does delivery k (with_rcpt delivery place places k) new None middle more)
    → AsksOn delivery c old out middle → AsksOn delivery c new out more
asks_on_step delivery c old new out middle more place places e does on =
    let k : Progress = on.so_far in
    record {
      so_far = with_rcpt delivery place places k;
      does = does_trans delivery c k (with_rcpt delivery place places k) old new None out middle more on.does (does k on.does.stands);
      rest = ap (λ (p : List ℕ). with_rcpts delivery p k) (sym e ∙ on.does.stands.unasked_are) ∙ on.rest;
    }

-- and all of them
pub asks_on_end : (delivery : Delivery) (c : Progress) (talk : Conversation) (out more : List ℕ)
    → drop talk.asked talk.places.items ≡ []
    → AsksOn delivery c talk out more → Does delivery c (with_rcpts delivery c.unasked c) talk None out more
asks_on_end delivery c talk out more e on =
    subst (λ (k : Progress). Does delivery c k talk None out more)
    (ap (λ (p : List ℕ). with_rcpts delivery p on.so_far) (sym e ∙ on.does.stands.unasked_are) ∙ on.rest) on.does

-- one command
does_one : (delivery : Delivery) (c new : Progress) (talk : Conversation) (command out more : List ℕ)
    → new.commands ≡ c.commands ++ command ∷ [] → more ≡ out ++ command → Holds talk delivery new
    → Does delivery c new talk None out more
does_one delivery c new talk command out more e w h = record {
  commands = command ∷ [];
  commands_are = e;
  written = w ∙ ap (λ (o : List ℕ). out ++ o) (sym (append-nil command));
  stands = h;
}

drop_suc : (xs : List ℕ) (n place : ℕ) (more : List ℕ) → drop n xs ≡ place ∷ more → drop (suc n) xs ≡ more
drop_suc [] zero place more e = absurd cc
drop_suc [] (suc n) place more e = absurd cc
drop_suc (x ∷ xs) zero place more e = cc
drop_suc (x ∷ xs) (suc n) place more e = drop_suc xs n place more e

-- the RCPT of the next place
pub does_place : (delivery : Delivery) (k : Progress) (old new : Conversation) (recipients : List Recipient) (place : ℕ)
    (more out after : List ℕ)
    → Holds old delivery k → recipients ≡ delivery.envelope.recipients
    → after ≡ out ++ rcpt_line_at old.extensions.dsn recipients place
    → new.host ≡ old.host → new.places.items ≡ old.places.items → new.waits ≡ old.waits ++ awaited.Rcpt place ∷ []
    → new.asked ≡ old.asked + 1
    → new.extensions ≡ old.extensions → new.settled ≡ old.settled → drop old.asked old.places.items ≡ place ∷ more
    → Does delivery k (with_rcpt delivery place more k) new None out after
does_place delivery k old new recipients place more out after h r w host places waits asked extensions settled e =
    let on : old.asked + 1 ≡ suc old.asked = omega arith in
    does_one delivery k (with_rcpt delivery place more k) new
    (rcpt_line_at k.extensions.dsn delivery.envelope.recipients place) out after refl
    (w ∙ ap (λ (l : List Recipient). out ++ rcpt_line_at old.extensions.dsn l place) r
    ∙ ap (λ (x : Extensions). out ++ rcpt_line_at x.dsn delivery.envelope.recipients place) h.extensions_are)
    (record {
      host_is = host ∙ h.host_is;
      places_are = places ∙ h.places_are;
      waits_are = waits ∙ ap (λ (l : List Awaited). l ++ awaited.Rcpt place ∷ []) h.waits_are;
      unasked_are = ap (λ (n : ℕ). drop n new.places.items) (asked ∙ on) ∙ ap (λ (l : List ℕ). drop (suc old.asked) l) places
          ∙ drop_suc old.places.items old.asked place more e;
      extensions_are = extensions ∙ h.extensions_are;
      settled_is = settled ∙ h.settled_is;
      running = h.running;
    })

-- QUIT, and the verdicts
pub does_end : (delivery : Delivery) (k : Progress) (old new : Conversation) (last : Verdict) (verdicts : List Verdict)
    (out after : List ℕ)
    → Holds old delivery k → after ≡ out ++ quit_line → verdicts ≡ verdicts_from old.places.items old.settled last
    → Does delivery k (ended_by delivery last k) new (Some verdicts) out after
does_end delivery k old new last verdicts out after h w v = record {
  commands = quit_line ∷ [];
  commands_are = refl;
  written = w ∙ ap (λ (o : List ℕ). out ++ o) (sym (append-nil quit_line));
  stands = ap Some (sym (v ∙ ap (λ (p : List ℕ). verdicts_from p old.settled last) h.places_are
      ∙ ap (λ (s : List (Option Verdict)). verdicts_from delivery.places s last) h.settled_is
      ∙ verdicts_are delivery.places (rcpt_replies k.answered) last));
}

-- MAIL and the RCPTs in one group
pub does_group : (delivery : Delivery) (k : Progress) (first second : Conversation) (out middle more : List ℕ)
    → first.extensions.pipelining ≡ true
    → Does delivery k (with_command (mail_line k.extensions.dsn delivery.envelope) awaited.Mail k) first None out middle
    → ((c : Progress) → Holds first delivery c → Does delivery c (with_rcpts delivery c.unasked c) second None middle more)
    → Does delivery k (with_mail delivery k) second None out more
does_group delivery k first second out middle more e d f =
    let mail : Progress = with_command (mail_line k.extensions.dsn delivery.envelope) awaited.Mail k in
    does_then delivery k (with_rcpts delivery k.unasked mail) mail k.extensions.pipelining second None out more
    (sym (ap (λ (x : Extensions). x.pipelining) d.stands.extensions_are) ∙ e)
    (does_trans delivery k mail (with_rcpts delivery k.unasked mail) first second None out middle more d (f mail d.stands))

-- a place is left, or not
pub left_is : (delivery : Delivery) (k : Progress) (talk : Conversation) (test : Bool) → Holds talk delivery k
    → has_open talk.settled ≡ test → some_accepted (rcpt_replies k.answered) ≡ test
left_is delivery k talk test h e = sym (open_is (rcpt_replies k.answered)) ∙ sym (ap has_open h.settled_is) ∙ e

-- a reply answers what waits first
pub does_answer : (delivery : Delivery) (k : Progress) (old middle new : Conversation) (waited : Awaited) (waits : List Awaited)
    (reply : Reply) (ended : Option (List Verdict)) (out after : List ℕ)
    → Holds old delivery k → old.waits ≡ waited ∷ waits → SettlesOne old middle waited waits reply
    → ((c : Progress) → Holds middle delivery c
    → Does delivery c (after_answer delivery waited (kind_of reply.code) reply c) new ended out after)
    → Does delivery k (after_reply delivery k reply) new ended out after
does_answer delivery k old middle new waited waits reply ended out after h e s f =
    let one : Progress = record k { waits = waits; answered = k.answered ++ answer_of waited reply ∷ [] } in
    let holds : Holds middle delivery one = record {
      host_is = s.host_stays ∙ h.host_is;
      places_are = s.places_stay ∙ h.places_are;
      waits_are = s.waits_are;
      unasked_are = ap (λ (n : ℕ). drop n middle.places.items) s.asked_stays
          ∙ ap (λ (l : List ℕ). drop old.asked l) s.places_stay ∙ h.unasked_are;
      extensions_are = s.extensions_stay ∙ h.extensions_are;
      settled_is = s.settles (rcpt_replies k.answered) h.settled_is
          ∙ ap (λ (l : List Reply). map rcpt_verdict (rcpt_replies k.answered ++ l)) (sym (append-nil (if_rcpt waited reply)))
          ∙ sym (ap (map rcpt_verdict) (flat_map-append
          (λ (a : Answered). if_rcpt a.waited a.reply) k.answered (answer_of waited reply ∷ [])));
      running = h.running;
    } in
    let first : waited ∷ waits ≡ k.waits = sym e ∙ h.waits_are in
    subst (λ (w : List Awaited). Does delivery k (with_answer delivery w reply k) new ended out after) first
    (does_from delivery one k (after_answer delivery waited (kind_of reply.code) reply one) new ended out after refl (f one holds))

pub drop_past : (xs : List ℕ) (n : ℕ) → length xs ≤ n → drop n xs ≡ []
drop_past xs n le = drop_all n xs le

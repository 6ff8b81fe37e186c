-- One answer more is taken.
use Rattle.std.proofs.Common.{rules, ◌≡◌, ◌⊎◌, inl, inr, ℕ, List, [], ◌∷◌, length, Option, Some, Result, refl, sym, ap, ◌∙◌, subst, arith}
use Rattle.std.proofs.lemmas.List.{nil_from_length}
use Rattle.std.specs.Iterator.Adapters.{zip_first, zip_second}
use Rattle.std.specs.List.{zip}
use Rattle.std.specs.Vec.Iter.{into_iter_items}
use Rattle.relay_records.specs.declared.fault.NodeFault.{NodeFault}
use Rattle.relay_loop.specs.declared.clients.Heard.{Heard}
use Rattle.relay_slots.specs.Slots.{slot_at}
use Rattle.relay_connections.specs.Served.{HasAnswered, HasAnsweredOr, HaveAnswered, WorksWith, answer_to}
use Rattle.relay_connections.proofs.AnsweredLemmas.{answer_first, answered_end, answered_on}
use Rattle.relay_connections.proofs.CarriedLemmas.{more_join, none_join}
use Rattle.relay_connections.proofs.RepliesLemmas.{mail_same, mail_then}
use Rattle.relay_connections.proofs.WaitLemmas.{all_same, all_then}
use Rattle.relay_connections.proofs.clients.Clients.answer_each.Goals as goal

pub loop-session-init : goal.loop-session-init
loop-session-init g c =
    let gives = c.into_iter-session-iterator.ensures.into_iter_gives in
    let first : into_iter_items (zip_first c.into_iter-session-iterator.result) ≡ c.args.sessions.items =
    ap (λ it. into_iter_items (zip_first it)) gives ∙ ap into_iter_items c.zip-session-items.ensures.first ∙ c.into_iter.ensures.rest in
    let second : into_iter_items (zip_second c.into_iter-session-iterator.result) ≡ c.args.heard.items =
    ap (λ it. into_iter_items (zip_second it)) gives ∙ c.zip-session-items.ensures.second.0 in
    record {
      have = λ changes setting have. (
        subst (λ (sessions : List ℕ). HaveAnswered g.D.Disk.honest g.D.Disk.words g.S.Stream.remaining g.S.Stream.contents changes setting c.args.self.now.clients c.args.relay.now (zip sessions (into_iter_items (zip_second c.into_iter-session-iterator.result)))) (sym first)
            (subst (λ (heard : List (Result Heard NodeFault)). HaveAnswered g.D.Disk.honest g.D.Disk.words g.S.Stream.remaining g.S.Stream.contents changes setting c.args.self.now.clients c.args.relay.now (zip c.args.sessions.items heard)) (sym second) have),
        none_join g.S.Stream.remaining g.S.Stream.contents setting c.args.leaving.now.leavers,
      );
      first = search rules;
      second = search rules;
      mail = mail_same c.args.relay.now;
      turn = refl;
      waits = all_same c.args.turn.now.now.tick c.args.self.now;
      full = λ is. is;
    }

pub loop-session-preserved : goal.loop-session-preserved
loop-session-preserved g c =
    let i = c.loop-session.invariant in
    let one = c.in-Some.ensures.steps.0 in
    let other = c.in-Some.ensures.steps.1 in
    let pairs : zip (into_iter_items (zip_first c.loop-session.session-iterator)) (into_iter_items (zip_second c.loop-session.session-iterator))
    ≡ (c.in-Some.session, c.in-Some.heard) ∷ zip (into_iter_items (zip_first c.next.new.self)) (into_iter_items (zip_second c.next.new.self)) =
    ap (λ (sessions : List ℕ). zip sessions (into_iter_items (zip_second c.loop-session.session-iterator))) one.0
    ∙ ap (λ (heard : List (Result Heard NodeFault)). zip (c.in-Some.session ∷ into_iter_items (zip_first c.next.new.self)) heard) other.0 in
    record {
      have = λ changes setting have.
          let had = i.have changes setting have in
          let so = subst (λ (pairs : List (ℕ × Result Heard NodeFault)). HaveAnswered g.D.Disk.honest g.D.Disk.words g.S.Stream.remaining g.S.Stream.contents changes setting c.loop-session.self.clients c.loop-session.relay pairs) pairs had.0 in
          let works : WorksWith setting.setups c.loop-session.relay = record { live = so.keeps.live; setups_are = so.setups_are } in
          let first : answer_to c.in-Some.session ((c.in-Some.session, c.in-Some.heard) ∷ zip (into_iter_items (zip_first c.next.new.self)) (into_iter_items (zip_second c.next.new.self))) ≡ Some c.in-Some.heard =
          answer_first c.in-Some.session c.in-Some.heard (zip (into_iter_items (zip_first c.next.new.self)) (into_iter_items (zip_second c.next.new.self))) in
          let here : HasAnswered g.S.Stream.remaining g.S.Stream.contents changes setting c.loop-session.relay c.in-Some.session (slot_at c.loop-session.self.clients c.in-Some.session) c.in-Some.heard =
          subst (λ (to : Option (Result Heard NodeFault)). HasAnsweredOr g.S.Stream.remaining g.S.Stream.contents changes setting c.loop-session.relay c.in-Some.session (slot_at c.loop-session.self.clients c.in-Some.session) to) first (so.each c.in-Some.session) in
          let serves = c.in_ok-hears.ensures.serves changes setting works here in (
            answered_on g.D.Disk.honest g.D.Disk.words g.S.Stream.remaining g.S.Stream.contents changes setting c.loop-session.self.clients c.answer_one.new.self.clients c.loop-session.relay c.answer_one.new.relay c.in-Some.session c.in-Some.heard
                (zip (into_iter_items (zip_first c.next.new.self)) (into_iter_items (zip_second c.next.new.self))) so c.in_ok-hears.ensures.only serves.0,
            more_join g.S.Stream.remaining g.S.Stream.contents setting c.args.leaving.now.leavers c.loop-session.leaving.leavers c.answer_one.new.leaving.leavers had.1 serves.1,
          );
      first = omega (arith, i.first, ap (λ (l : List ℕ). length l) one.0, one.1);
      second = omega (arith, i.second, ap (λ (l : List (Result Heard NodeFault)). length l) other.0, other.1);
      mail = mail_then c.args.relay.now c.loop-session.relay c.answer_one.new.relay i.mail c.in_ok-hears.ensures.mail;
      turn = c.in_ok-hears.ensures.turn ∙ i.turn;
      waits = all_then c.args.turn.now.now.tick c.args.self.now c.loop-session.self c.answer_one.new.self i.turn i.waits c.in_ok-hears.ensures.waits;
      full = λ is. c.in_ok-hears.ensures.full (i.full is);
    }

pub returns-clause-served : goal.returns-clause-served
returns-clause-served g c = λ changes setting have.
    let i = c.loop-session.invariant in
    let firsts = into_iter_items (zip_first c.loop-session.session-iterator) in
    let seconds = into_iter_items (zip_second c.loop-session.session-iterator) in
    let had = i.have changes setting have in
    let none : (firsts ≡ []) ⊎ (seconds ≡ []) = elim c.in-None.ensures.steps [
      | inl ended ↦ inl (nil_from_length firsts (omega (arith, i.first, ended.1.0)))
      | inr ended ↦ inr (nil_from_length seconds (omega (arith, i.second, ended.1.0)))
    ] in
    (answered_end g.D.Disk.honest g.D.Disk.words g.S.Stream.remaining g.S.Stream.contents changes setting c.loop-session.self.clients c.loop-session.relay firsts seconds none had.0, had.1)

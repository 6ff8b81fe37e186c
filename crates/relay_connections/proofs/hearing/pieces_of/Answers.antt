use Rattle.std.proofs.Common.{◌≡◌, All, List, ◌%◌, ◌+◌, ◌-◌, [], ◌∷◌, ◌++◌, map, length, false, sym, subst, ap, ◌∙◌}
use Rattle.std.specs.List.{filter}
use Rattle.std.proofs.lemmas.List.{map-append}
use Rattle.std.proofs.lemmas.List.Elements.{All-append, All-cons, All-nil}
use Rattle.relay_loop.specs.declared.group.Piece.{Piece}
use Rattle.relay_connections.specs.Hearing.{IsOwn, hears, hears_at, hearing_from, session_of, turned}
use Rattle.relay_connections.specs.Share.{share_of}
use Rattle.relay_connections.proofs.HearingLemmas.{found_next, is_none, passed_next}
use Rattle.relay_connections.proofs.hearing.pieces_of.Goals as goal
use Rattle.relay_connections.proofs.hearing.pieces_of.Goals.{in-Some+then-deref+in_ok-push, in-Some+else-deref, in_default}

pub loop-step-preserved : goal.loop-step-preserved
loop-step-preserved g c =
    let clients = c.args.clients.now in
    let number = (c.args.first + c.loop-step.step) % length clients in
    let before = c.loop-step.pieces.items in
    let Holds : List Piece → Type 0 = λ pieces. All (IsOwn clients) pieces × (map session_of pieces ++ filter (hears_at clients) (turned (length clients) (c.args.first + (c.loop-step.step + 1)) (length clients - (c.loop-step.step + 1))) ≡ hearing_from clients c.args.first) in
    let passed : hears_at clients number ≡ false → Holds before = λ none. (c.loop-step.invariant.0, passed_next (length clients) c.args.first c.loop-step.step (hears_at clients) (map session_of before) (hearing_from clients c.args.first) c.loop-step-test.true none c.loop-step.invariant.1) in
    elim c.match-client_at.branch [
      | in-Some+then-deref+in_ok-push w ↦
          let one : Piece = record { session = number; octets = w.share.result } in
          let own : IsOwn clients one = record { client = w.in-Some.client.now; there = w.in-Some.ensures; octets = w.share.ensures ∙ ap share_of (w.piece.ensures ∙ ap (λ client. client.channel.block) w.deref-then-deref.ensures) } in
          let all = All-append (IsOwn clients) before (one ∷ []) c.loop-step.invariant.0 (All-cons (IsOwn clients) one [] own (All-nil (IsOwn clients))) in
          let each = ap (λ sessions. sessions ++ filter (hears_at clients) (turned (length clients) (c.args.first + (c.loop-step.step + 1)) (length clients - (c.loop-step.step + 1)))) (map-append session_of before (one ∷ []))
          ∙ found_next (length clients) c.args.first c.loop-step.step (hears_at clients) (map session_of before) (hearing_from clients c.args.first) c.loop-step-test.true (ap hears w.in-Some.ensures ∙ ap (λ client. client.hears) (sym w.deref.ensures) ∙ w.if-deref.true) c.loop-step.invariant.1 in
          subst Holds (sym (ap (λ pieces. pieces.items) w.pieces-is ∙ w.in_ok-push.ensures.items)) (all, each)
      | in-Some+else-deref w ↦ subst (λ pieces. Holds pieces.items) (sym w.pieces-is) (passed (ap hears w.in-Some.ensures ∙ ap (λ client. client.hears) (sym w.deref.ensures) ∙ w.if-deref.false))
      | in_default w ↦ subst (λ pieces. Holds pieces.items) (sym w.pieces-is) (passed (ap hears (is_none _ c.client_at.result c.client_at.ensures w.in_default.not-Some)))
    ]

-- The copies of one attempt, by the replies that it has read.
use Rattle.std.proofs.Common.{◌≡◌, ◌≤◌, length, take, sym, subst, ap, ◌∙◌, rules}
use Rattle.std.specs.Prelude.{slice_index_or}
use Rattle.std.proofs.lemmas.List.{length-take-le}
use Rattle.std.proofs.lemmas.Option.{none-some}
use Rattle.relay_world.specs.declared.link.Link.{Link}
use Rattle.relay_world.specs.Copies.{CopiesBy}
use Rattle.relay_world.specs.Ledger.{accepts_on}
use Rattle.relay_world.specs.World.{link_at}
use Rattle.relay_pair.specs.Copied.{AreReplies, accepts_place, after_mail}
use Rattle.relay_events.specs.Relays.{world_of}
use Rattle.relay_pair.proofs.CopyLemmas.{copied, link_read, not_copied}
use Rattle.relay_pair.proofs.copies.count_copies_by.Goals as goal

pub unreachable-requires : goal.unreachable-requires
unreachable-requires g c =
    let has = c.requires.bound.bound.attempts c.args.at c.args.attempt.now c.requires.is_there in
    none-some has.link
    (sym c.in_default.ensures ∙ ap (λ l. link_at l c.args.attempt.now.link) c.as_slice.ensures.value ∙ has.is_there)

pub slice_bounds-replies_in-end : goal.slice_bounds-replies_in-end
slice_bounds-replies_in-end g c =
    let links = c.args.relays.now.links.items in
    let number = c.args.attempt.now.link in
    let has = c.requires.bound.bound.attempts c.args.at c.args.attempt.now c.requires.is_there in
    let value = c.index-link.result.now in
    let there : value ≡ slice_index_or links c.in-Some.link value = search rules in
    let same = link_read links number c.in-Some.link has.link value c.in-Some.ensures.0 has.is_there there in
    let down = (c.requires.bound.bound.reads number has.link has.is_there).down in
    let within : value.down_read ≤ length c.as_slice-2.result.now =
    subst (λ l. value.down_read ≤ length l) (sym c.as_slice-2.ensures)
    (subst (λ (l : Link). l.down_read ≤ length l.down) (sym same) down) in
    sym (length-take-le value.down_read c.as_slice-2.result.now within)

pub returns-then-accepts_place : goal.returns-then-accepts_place
returns-then-accepts_place g c = λ lists asked bound once.
    let old = world_of c.args.relays.now in
    let attempt = c.args.attempt.now in
    let replies = c.in_ok-replies.replies.items in
    let has = c.requires.bound.bound.attempts c.args.at attempt c.requires.is_there in
    let value = c.index-link.result.now in
    let there : value ≡ slice_index_or old.links c.in-Some.link value = search rules in
    let same = link_read old.links attempt.link c.in-Some.link has.link value c.in-Some.ensures.0 has.is_there there in
    let its_node : attempt.node ≡ c.args.node = search rules in
    let its_message : attempt.message ≡ c.args.message = search rules in
    let read : AreReplies (take has.link.down_read has.link.down) replies =
    subst (λ (l : Link). AreReplies (take l.down_read l.down) replies) same
    (subst (λ l. AreReplies (take value.down_read l) replies) c.as_slice-2.ensures c.in_ok-replies.ensures) in
    let tested : c.accepts_place.result ≡ accepts_place c.args.place attempt.places.items (after_mail replies) =
    c.accepts_place.ensures ∙ ap (λ l. accepts_place c.args.place l c.rcpt_replies.result.now) c.as_slice-3.ensures.value
    ∙ ap (λ l. accepts_place c.args.place attempt.places.items l)
    (c.rcpt_replies.ensures ∙ ap after_mail c.as_slice-4.ensures.value) in
    subst (λ n. CopiesBy old lists c.args.node c.args.message c.args.place attempt n)
    (sym (c.accepts_on.ensures ∙ ap (λ l. length (accepts_on attempt.link l)) c.as_slice-then-accepts_place.ensures.value))
    (copied g.D.Disk.honest g.D.Disk.words old lists bound once c.args.node c.args.message c.args.place c.args.at attempt
    c.requires.is_there has.link has.is_there its_node its_message replies read (sym tested ∙ c.if-accepts_place.true))

pub returns : goal.returns
returns g c = λ lists asked bound once.
    let old = world_of c.args.relays.now in
    let attempt = c.args.attempt.now in
    let replies = c.in_ok-replies.replies.items in
    let has = c.requires.bound.bound.attempts c.args.at attempt c.requires.is_there in
    let value = c.index-link.result.now in
    let there : value ≡ slice_index_or old.links c.in-Some.link value = search rules in
    let same = link_read old.links attempt.link c.in-Some.link has.link value c.in-Some.ensures.0 has.is_there there in
    let its_node : attempt.node ≡ c.args.node = search rules in
    let its_message : attempt.message ≡ c.args.message = search rules in
    let read : AreReplies (take has.link.down_read has.link.down) replies =
    subst (λ (l : Link). AreReplies (take l.down_read l.down) replies) same
    (subst (λ l. AreReplies (take value.down_read l) replies) c.as_slice-2.ensures c.in_ok-replies.ensures) in
    let tested : c.accepts_place.result ≡ accepts_place c.args.place attempt.places.items (after_mail replies) =
    c.accepts_place.ensures ∙ ap (λ l. accepts_place c.args.place l c.rcpt_replies.result.now) c.as_slice-3.ensures.value
    ∙ ap (λ l. accepts_place c.args.place attempt.places.items l)
    (c.rcpt_replies.ensures ∙ ap after_mail c.as_slice-4.ensures.value) in
    not_copied g.D.Disk.honest g.D.Disk.words old lists bound once c.args.node c.args.message c.args.place c.args.at attempt
    c.requires.is_there has.link has.is_there its_node its_message replies read (sym tested ∙ c.if-accepts_place.false)

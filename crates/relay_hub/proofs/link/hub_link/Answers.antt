-- The session and its greeting, and what follows them.
use Rattle.std.proofs.Common.{◌≡◌, ◌∙◌, [], rules, refl, subst, sym}
use Rattle.std.specs.Io.KnownBytes.{Appends}
use Rattle.relay_server.specs.Setup.{setup_for}
use Rattle.relay_links.specs.declared.fault.LinkFault.TheVariants.{NoMemory}
use Rattle.relay_hub.specs.Link.{HasBegun, link_start}
use Rattle.relay_hub.proofs.LinkLemmas.{cut_off, ended_by, greeted, not_begun, sent}
use Rattle.relay_hub.proofs.link.hub_link.Goals as goal

pub returns-in_err-session : goal.returns-in_err-session
returns-in_err-session g c =
    let left = g.R.Read.remaining c.args.reader.now in
    let held = g.W.Write.contents c.args.writer.now in
    ended_by g.J.Opening.has_answered c.args.config.now c.args.peer c.args.now (link_start left held c.args.pass.now) left held c.args.pass.now NoMemory _ c.from_residual.ensures.1
    (not_begun g.J.Opening.has_answered c.args.config.now c.args.peer c.args.now left held c.args.pass.now)

pub returns-in_err-send : goal.returns-in_err-send
returns-in_err-send g c =
    let left = g.R.Read.remaining c.args.reader.now in
    let held = g.W.Write.contents c.args.writer.now in
    let new_held = g.W.Write.contents c.send.new.writer in
    let start = link_start left held c.args.pass.now in
    let greeting = c.in_ok-session.greeting.items in
    let text : c.as_slice.result.now ≡ c.in_ok-session.greeting.items = search rules in
    let said = greeted g.J.Opening.has_answered c.args.config.now c.args.peer c.args.now left held c.args.pass.now c.in_ok-session.session greeting (c.in_ok-session.ensures.stands (setup_for c.args.config.now c.args.peer) refl refl refl refl) in
    let part = c.in_err-send.ensures.err in
    let begun = cut_off g.J.Opening.has_answered c.args.config.now c.args.peer c.args.now start c.in_ok-session.session left held new_held [] greeting c.args.pass.now said part.0 part.1 (sym text ∙ part.2) part.3 in
    ended_by g.J.Opening.has_answered c.args.config.now c.args.peer c.args.now start left new_held c.args.pass.now _ _ c.from_residual-in_err-send.ensures.1
    (subst (HasBegun g.J.Opening.has_answered c.args.config.now c.args.peer c.args.now start left new_held c.args.pass.now) (sym c.in_err-send.ensures.output) begun)

pub converse-requires : goal.converse-requires
converse-requires g c = (_, record { stands = c.in_ok-session.ensures.stands (setup_for c.args.config.now c.args.peer) refl refl refl refl; settled = c.in_ok-session.ensures.settled })

pub returns : goal.returns
returns g c =
    let left = g.R.Read.remaining c.args.reader.now in
    let held = g.W.Write.contents c.args.writer.now in
    let new_held = g.W.Write.contents c.send.new.writer in
    let start = link_start left held c.args.pass.now in
    let greeting = c.in_ok-session.greeting.items in
    let text : c.as_slice.result.now ≡ c.in_ok-session.greeting.items = search rules in
    let wrote = subst (Appends held new_held) text c.in_ok-send.ensures.ok in
    let said = greeted g.J.Opening.has_answered c.args.config.now c.args.peer c.args.now left held c.args.pass.now c.in_ok-session.session greeting (c.in_ok-session.ensures.stands (setup_for c.args.config.now c.args.peer) refl refl refl refl) in
    c.converse.ensures start (sent g.J.Opening.has_answered c.args.config.now c.args.peer c.args.now start c.in_ok-session.session left held new_held [] greeting c.args.pass.now said wrote)

use Rattle.std.proofs.Common.{◌≡◌, length, map, ap, ◌∙◌, rules}
use Rattle.std.specs.Vec.{with_items}
use Rattle.std.proofs.lemmas.List.{length-map, with_items_is}
use Rattle.relay_world.specs.Crashes.{let_go_link}
use Rattle.relay_world.specs.HangUp.{hung_up_attempt}
use Rattle.relay_events.proofs.CrashLemmas.{same_world}
use Rattle.relay_events.proofs.relays.Relays.let_go.Goals as goal

pub returns-clause-world : goal.returns-clause-world
returns-clause-world g c =
    let old = c.args.self.now in
    let node = c.args.node in
    let links_now = (with_items old.links c.let_go_links.new.links).items in
    let attempts_now = (with_items old.attempts c.hang_up_attempts.new.attempts).items in
    let gone : c.let_go_links.new.links ≡ map (let_go_link node old.attempts.items) old.links.items = search rules in
    let dropped : c.hang_up_attempts.new.attempts ≡ map (hung_up_attempt node) old.attempts.items = search rules in
    let links_len : length old.links.items ≡ old.links.len = search rules in
    let attempts_len : length old.attempts.items ≡ old.attempts.len = search rules in
    let links : links_now ≡ map (let_go_link node old.attempts.items) old.links.items =
    with_items_is old.links c.let_go_links.new.links
    (ap length gone ∙ length-map old.links.items (let_go_link node old.attempts.items) ∙ links_len) ∙ gone in
    let attempts : attempts_now ≡ map (hung_up_attempt node) old.attempts.items =
    with_items_is old.attempts c.hang_up_attempts.new.attempts
    (ap length dropped ∙ length-map old.attempts.items (hung_up_attempt node) ∙ attempts_len) ∙ dropped in
    same_world old.hosts.items links_now (map (let_go_link node old.attempts.items) old.links.items) attempts_now
    (map (hung_up_attempt node) old.attempts.items) old.ledger.items old.clock links attempts

-- An attempt that has begun is handed on, and is gone; without a connection nothing was done.
use Rattle.std.proofs.Common.{refl}
use Rattle.relay_disk.specs.File.{file_words}
use Rattle.relay_attempts.specs.declared.work.Work.TheVariants.{Try}
use Rattle.relay_node.specs.Attempts.{begun_with}
use Rattle.relay_service.proofs.PushingLemmas.{handed_over, keeps_here, stays_due, tells_here, whatever}
use Rattle.relay_service.proofs.pushing.try_hop.Goals as goal

pub returns-in_err-stream-in-Some : goal.returns-in_err-stream-in-Some
returns-in_err-stream-in-Some g c = λ changes keeps.
    let node = c.args.node.now in
    let work = Try c.args.number c.args.hop.now in
    whatever ⊥ file_words c.args.round.now.now work changes node node c.from_residual.result (stays_due ⊥ file_words c.args.round.now.now work changes node node keeps refl)

pub returns : goal.returns
returns g c = λ changes keeps.
    let old = c.args.node.now in
    let mid = c.start.new.self in
    let new = c.hand_on-handed.new.node in
    let hop = c.args.hop.now in
    let started = c.in-Ok.started in
    let rest = c.in-Ok.ensures.rest in
    let begins = c.in-Ok.ensures.begins changes keeps in
    let told = begun_with c.args.number hop started.places.items begins.message in
    let after = c.hand_on-handed.ensures in
    let pushed = after.pushed changes told (keeps_here ⊥ file_words changes old mid keeps rest.0) (tells_here changes old mid started.attempt told rest.1 begins.tells) in
    handed_over ⊥ file_words c.args.round.now.now c.args.number hop changes old mid new started begins rest.1 rest.2 after.gone after.rest.0 after.rest.1 after.rest.2
    c.hand_on-handed.result.pushed c.conclude.new.node c.conclude.result pushed c.conclude.ensures.rest c.conclude.ensures.device

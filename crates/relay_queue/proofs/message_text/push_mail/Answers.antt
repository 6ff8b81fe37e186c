-- the reverse path and the parameters, one after another
use Rattle.std.proofs.Common.{◌≡◌, ◌++◌, codes, subst}
use Rattle.std.proofs.lemmas.Result.{on_ok_weaker}
use Rattle.relay_queue.specs.Message.{field_line}
use Rattle.relay_queue.proofs.JoinLemmas.{joined3}
use Rattle.relay_queue.proofs.message_text.push_mail.Goals as goal

pub returns : goal.returns
returns c =
    let path = subst (λ text. c.push_field.new.screen ≡ c.args.screen.now ++ field_line (codes "reverse path") text) c.as_slice.ensures.value c.in_ok-push_field.ensures in
    let ret = subst (λ text. c.push_field-2.new.screen ≡ c.push_field.new.screen ++ field_line (codes "RET") text) c.ret_text.ensures c.in_ok-push_field-2.ensures in
    on_ok_weaker c.push_field-3.result
    (λ last. joined3 c.args.screen.now _ _ _ _ _ _ path ret
    (subst (λ text. c.push_field-3.new.screen ≡ c.push_field-2.new.screen ++ field_line (codes "ENVID") text) c.envid_of.ensures last))
    c.push_field-3.ensures

use Rattle.std.proofs.Common.{◌≡◌, [], rules}
use Rattle.std.proofs.lemmas.Result.{on_ok_weaker}
use Rattle.relay_book.specs.Record.{ret_number, written}
use Rattle.relay_book.proofs.WriteLemmas.{mail_written}
use Rattle.relay_book.proofs.encode.push_mail.Goals as goal

pub returns-in-Some : goal.returns-in-Some
returns-in-Some c =
    let at_is : c.seconds.result ≡ c.args.accept.now.at = search rules in
    let path_is : c.as_slice.result.now ≡ c.args.accept.now.envelope.reverse_path = search rules in
    let ret_is : c.number_of_ret.result ≡ ret_number c.args.accept.now.envelope.ret = search rules in
    let envid_is : c.as_slice-in-Some.result.now ≡ written c.args.accept.now.envelope.envid = search rules in
    on_ok_weaker c.push_sized_2-in-Some.result
    (mail_written c.args.out.now.items c.push_8.new.out.items c.push_sized_2.new.out.items c.push_1.new.out.items c.push_sized_2-in-Some.new.out.items
    c.seconds.result c.args.accept.now.at c.as_slice.result.now c.args.accept.now.envelope.reverse_path c.number_of_ret.result (ret_number c.args.accept.now.envelope.ret) c.as_slice-in-Some.result.now (written c.args.accept.now.envelope.envid)
    at_is path_is ret_is envid_is c.in_ok-push_8.ensures c.in_ok-push_sized_2.ensures c.in_ok-push_1.ensures) c.push_sized_2-in-Some.ensures

pub returns-in-None : goal.returns-in-None
returns-in-None c =
    let at_is : c.seconds.result ≡ c.args.accept.now.at = search rules in
    let path_is : c.as_slice.result.now ≡ c.args.accept.now.envelope.reverse_path = search rules in
    let ret_is : c.number_of_ret.result ≡ ret_number c.args.accept.now.envelope.ret = search rules in
    let envid_is : [] ≡ written c.args.accept.now.envelope.envid = search rules in
    on_ok_weaker c.push_sized_2-in-None.result
    (mail_written c.args.out.now.items c.push_8.new.out.items c.push_sized_2.new.out.items c.push_1.new.out.items c.push_sized_2-in-None.new.out.items
    c.seconds.result c.args.accept.now.at c.as_slice.result.now c.args.accept.now.envelope.reverse_path c.number_of_ret.result (ret_number c.args.accept.now.envelope.ret) [] (written c.args.accept.now.envelope.envid)
    at_is path_is ret_is envid_is c.in_ok-push_8.ensures c.in_ok-push_sized_2.ensures c.in_ok-push_1.ensures) c.push_sized_2-in-None.ensures

-- What was used of the octets after is heard.
use Rattle.std.proofs.Common.{◌≡◌, ◌+◌, ◌≤◌, length, rules, sym, ◌∙◌, arith}
use Rattle.std.proofs.lemmas.List.{length-drop, take_rest}
use Rattle.relay_server.specs.Session.{next_of, open_offers}
use Rattle.relay_server.proofs.StandsLemmas.{heard_after, more_than, offers_need_octets, reads_on, waits_reads}
use Rattle.relay_server.proofs.session.Session.hear.Goals as goal

pub returns : goal.returns
returns c =
    let old = c.args.self.now in
    let new = c.read.new.self in
    let piece = c.args.piece.now in
    let used = c.args.used.now in
    let count = c.in_ok-used.field-0 in
    let stands = rw take_rest at c.in_ok-used.ensures.stands in
    let short = rw take_rest at c.in_ok-used.ensures.within in
    let whole = rw take_rest at c.in_ok-used.ensures.whole in
    let after = length-drop used piece in
    let low = c.requires in
    let end : used + count ≤ length piece = omega (arith, short, after, low) in
    let next_is : c.next.result ≡ next_of new = c.next.ensures in
    record {
      hears = λ setup said same stood. heard_after setup said old new piece used count c.args.out.now.items c.read.new.out.items (stands setup said same stood);
      used = record {
        no_less = omega arith;
        within = end;
        whole = λ more. let all = whole (reads_on new (sym next_is ∙ more)) in omega (arith, all, after, low);
        some = λ told.
            more_than (open_offers old) used (used + count) (omega arith) (λ none.
            let some = offers_need_octets old new count c.in_ok-used.ensures.idle none (sym next_is ∙ told) in
            omega (arith, some));
      };
      next = next_is;
      waits = λ waiting.
          let still = c.in_ok-used.ensures.waits (waits_reads old waiting) in
          let nothing = still.2 in
          let same : used + count ≡ used = omega (arith, nothing) in
          (still.0, (same, still.1));
      failed = search rules;
      again = search rules;
    }

use Rattle.std.proofs.Common.{◌≡◌, ◌&&◌, ◌==◌, ◌+◌, Bool, get_or, take, sym, ap, subst, ◌∙◌, arith}
use Rattle.std.proofs.lemmas.List.{take_all}
use Rattle.relay_body.proofs.PlainLemmas.{WritesFront, writes_next, writes_whole}
use Rattle.relay_body.proofs.plain.write_dots.Goals as goal
use Rattle.relay_body.proofs.plain.write_dots.Goals.{then-after_cr, else-after_cr}

pub loop-place-preserved : goal.loop-place-preserved
loop-place-preserved c =
    let content = c.args.content.now in
    let place = c.loop-place.place in
    let octet = get_or content place 0 in
    let begins : c.if-after_cr.begins_line ≡ c.loop-place.after_cr && octet == 10 = elim c.if-after_cr.branch [
      | then-after_cr w ↦ w.begins_line-is ∙ ap (λ b. b && octet == 10) (sym w.if-after_cr.true)
      | else-after_cr w ↦
          w.begins_line-is ∙ w.if-after_cr.false
          ∙ ap (λ b. b && octet == 10) (sym w.if-after_cr.false)
    ] in
    record {
      within = omega arith;
      writes = subst
          (λ (b : Bool). WritesFront (take (place + 1) content) c.write_octet.new.text.items b (octet == 13))
          (sym begins)
          (writes_next content c.loop-place.text.items c.write_octet.new.text.items place c.loop-place.begins_line c.loop-place.after_cr c.loop-place.invariant.writes c.loop-place-test.true c.in_ok-write_octet.ensures);
    }

pub returns : goal.returns
returns c =
    let content = c.args.content.now in
    let all = take_all c.loop-place.place content (omega arith) in
    writes_whole content
    (take c.loop-place.place content) c.loop-place.text.items c.extend_from_slice.new.self.items c.loop-place.begins_line c.loop-place.after_cr c.loop-place.invariant.writes all c.requires c.in_ok-extend_from_slice.ensures.items

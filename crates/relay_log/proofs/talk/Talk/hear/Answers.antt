-- Each step hears the next octets, up to the end or to where the talk doesn't listen any more.
use Rattle.std.proofs.Common.{◌≤◌, ◌+◌, ◌++◌, ◌∙◌, length, take, arith}
use Rattle.std.proofs.lemmas.List.{length-drop, take_rest}
use Rattle.relay_log.proofs.TalkLemmas.{heard_all, heard_enough, heard_on}
use Rattle.relay_log.proofs.talk.Talk.hear.Goals as goal

pub loop-self-preserved : goal.loop-self-preserved
loop-self-preserved c =
    let octets = c.args.octets.now in
    let used = c.loop-self.used in
    let one = c.hear_one-used in
    let short = rw take_rest at one.ensures.within.1 in
    record {
      within = omega (arith, short, c.loop-self.invariant.within, length-drop used octets);
      by_data = one.ensures.by_data ∙ c.loop-self.invariant.by_data;
      heard = λ before heard.
          heard_on one.new.self before octets used one.result
          (one.ensures.heard (before ++ take used octets) (c.loop-self.invariant.heard before heard));
    }

pub returns-else-used-octets-clause-heard : goal.returns-else-used-octets-clause-heard
returns-else-used-octets-clause-heard c = λ before heard.
    let all : length c.args.octets.now ≤ c.loop-self.used = omega (arith, c.if-used-octets.false) in
    heard_all c.loop-self.self before c.args.octets.now c.loop-self.used all (c.loop-self.invariant.heard before heard)

pub returns-after-loop-self-clause-heard : goal.returns-after-loop-self-clause-heard
returns-after-loop-self-clause-heard c = λ before heard.
    heard_enough c.loop-self.self before c.args.octets.now c.loop-self.used c.loop-self-test.false
    (c.loop-self.invariant.heard before heard)

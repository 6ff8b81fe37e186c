-- each octet is encoded after those before it
use Rattle.std.proofs.Common.{ap, ◌∙◌}
use Rattle.std.proofs.lemmas.List.{take_all}
use Rattle.relay_envelope.specs.Xtext.{encoded}
use Rattle.relay_envelope.proofs.XtextLemmas.{encoded_more}
use Rattle.relay_envelope.proofs.xtext.Xtext.encode.Goals as goal

pub loop-octet-preserved : goal.loop-octet-preserved
loop-octet-preserved c =
    encoded_more c.args.octets.now c.loop-octet.text.items c.push_encoded.new.text.items c.loop-octet.octet-index
    c.loop-octet-test.true c.loop-octet.invariant c.in_ok-push_encoded.ensures.ok

pub returns : goal.returns
returns c =
    c.new.ensures ∙ c.loop-octet.invariant ∙ ap encoded (take_all c.loop-octet.octet-index c.args.octets.now c.loop-octet-test.false)

-- What is wrong with some words, by what the argument reader makes of them.
use Rattle.std.proofs.Common.{refl}
use Rattle.clap.proofs.OnLiterals.{clap_on_literals}
use Rattle.relay_arguments.proofs.words.words_are_taken.Goals as goal

pub returns : goal.returns
unfolding clap_on_literals
returns c = λ name. (refl, refl, refl, refl, refl, refl, refl, refl, refl, refl, refl, refl, refl, refl, (refl, refl, refl, refl, refl, refl, refl, refl, refl, refl, refl, refl, refl), (refl, refl, refl), (refl, refl, refl, refl), (refl, refl, refl, refl, refl, refl), (refl, refl, refl, refl, refl, refl, refl, refl, refl, refl), (refl, refl, refl, refl, refl, refl, refl, refl, refl, refl, refl), (refl, refl, refl, refl, refl, refl, refl, refl))

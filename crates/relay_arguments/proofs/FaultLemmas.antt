-- The errors of a parse come before those of a wrong choice of mail.
use Rattle.std.proofs.Common.{◌≡◌, [], ◌∷◌, inl, inr, ap, List}
use Rattle.clap.specs.Words.{Kinds, Text, fault_of, subcommand_of}
use Rattle.clap.specs.Kinds.{HasKind, or_else}
use Rattle.clap.specs.declared.error.Error.{Error}
use Rattle.relay_arguments.specs.Arguments.{choice_kinds, faults_in, relayd}

-- an error of the first kinds
pub fails_first : (kinds next : Kinds) (error : Error) → HasKind kinds error → HasKind (or_else kinds next) error
fails_first [] next error (inl memory) = inl memory
fails_first [] next error (inr none) = absurd none
fails_first (kind ∷ kinds) next error has = has

-- words in which the parser finds nothing wrong
pub chosen : (words : List Text) → fault_of relayd words ≡ [] → faults_in words ≡ choice_kinds (subcommand_of relayd words)
chosen words none = ap (λ kinds. or_else kinds (choice_kinds (subcommand_of relayd words))) none

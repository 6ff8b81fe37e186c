-- The status for an error of the words, by its kind.
use Rattle.std.proofs.Common.{◌≡◌, ◌≢◌, ◌⊎◌, inl, inr, ℕ, [], ◌∷◌, subst}
use Rattle.clap.specs.Words.{HasKind, IsAmong, Kinds, kind_of}
use Rattle.clap.specs.declared.error.Error.{Error}
use Rattle.clap.specs.declared.error.kind.ErrorKind.{ErrorKind}
use Rattle.clap.specs.declared.error.kind.ErrorKind.TheVariants as kind

-- an error of words without a fault is lack of memory
pub only_memory : (error : Error) (kinds : Kinds) → HasKind kinds error → kinds ≡ [] → kind_of error ≡ kind.OutOfMemory
only_memory error kinds has none = by_kind (subst (λ (l : Kinds). HasKind l error) none has)
  where
    by_kind : HasKind [] error → kind_of error ≡ kind.OutOfMemory
    by_kind (inl e) = e
    by_kind (inr e) = absurd e

-- an error of words that don't ask for help isn't help
pub no_help : (error : Error) (kinds : Kinds) → HasKind kinds error → ¬ IsAmong kind.DisplayHelp kinds → kind_of error ≢ kind.DisplayHelp
no_help error kinds (inl memory) none = λ is. absurd (cc (is, memory))
no_help error kinds (inr among) none = λ is. none (subst (λ (k : ErrorKind). IsAmong k kinds) is among)

-- nor the version
pub no_version : (error : Error) (kinds : Kinds) → HasKind kinds error → ¬ IsAmong kind.DisplayVersion kinds → kind_of error ≢ kind.DisplayVersion
no_version error kinds (inl memory) none = λ is. absurd (cc (is, memory))
no_version error kinds (inr among) none = λ is. none (subst (λ (k : ErrorKind). IsAmong k kinds) is among)

-- lack of memory is neither help nor the version
pub memory_no_help : (error : Error) → kind_of error ≡ kind.OutOfMemory → kind_of error ≢ kind.DisplayHelp
memory_no_help error memory = λ is. absurd (cc (is, memory))

pub memory_no_version : (error : Error) → kind_of error ≡ kind.OutOfMemory → kind_of error ≢ kind.DisplayVersion
memory_no_version error memory = λ is. absurd (cc (is, memory))

-- an error of words with one fault has its kind, or is lack of memory
pub by_one : (error : Error) (kinds : Kinds) (one : ErrorKind) → HasKind kinds error → kinds ≡ one ∷ [] → (kind_of error ≡ kind.OutOfMemory) ⊎ (kind_of error ≡ one)
by_one error kinds one has is = by_kind (subst (λ (l : Kinds). HasKind l error) is has)
  where
    by_kind : HasKind (one ∷ []) error → (kind_of error ≡ kind.OutOfMemory) ⊎ (kind_of error ≡ one)
    by_kind (inl e) = inl e
    by_kind (inr (inl e)) = inr e
    by_kind (inr (inr e)) = absurd e

-- the status for an error of words that ask for help or for the version
pub of_help
    : (error : Error) (kinds : Kinds) (status : ℕ) → HasKind kinds error
    → (kinds ≡ kind.DisplayHelp ∷ []) ⊎ (kinds ≡ kind.DisplayVersion ∷ [])
    → ((kind_of error ≡ kind.DisplayHelp) ⊎ (kind_of error ≡ kind.DisplayVersion) → (status ≡ 0) ⊎ (status ≡ 1))
    → (kind_of error ≡ kind.OutOfMemory → status ≡ 1)
    → (status ≡ 0) ⊎ (status ≡ 1)
of_help error kinds status has asks shown memory = by_asked asks
  where
    by_help : (kind_of error ≡ kind.OutOfMemory) ⊎ (kind_of error ≡ kind.DisplayHelp) → (status ≡ 0) ⊎ (status ≡ 1)
    by_help (inl none) = inr (memory none)
    by_help (inr help) = shown (inl help)

    by_version : (kind_of error ≡ kind.OutOfMemory) ⊎ (kind_of error ≡ kind.DisplayVersion) → (status ≡ 0) ⊎ (status ≡ 1)
    by_version (inl none) = inr (memory none)
    by_version (inr version) = shown (inr version)

    by_asked : (kinds ≡ kind.DisplayHelp ∷ []) ⊎ (kinds ≡ kind.DisplayVersion ∷ []) → (status ≡ 0) ⊎ (status ≡ 1)
    by_asked (inl is) = by_help (by_one error kinds kind.DisplayHelp has is)
    by_asked (inr is) = by_version (by_one error kinds kind.DisplayVersion has is)

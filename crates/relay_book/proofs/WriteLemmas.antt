-- What is written, field after field.
use Rattle.std.proofs.Common.{◌≡◌, ℕ, List, [], ◌∷◌, ◌++◌, ap, ◌∙◌, append_assoc}
use Rattle.std.specs.List.{zip}
use Rattle.relay_book.specs.declared.change.Accept.{Accept as AcceptFields}
use Rattle.relay_book.specs.declared.message.Message.{Message}
use Rattle.relay_book.specs.declared.version.SnapshotVersion.TheVariants.{WithDelay}
use Rattle.relay_book.specs.Record.{accept_octets, counted, octets_8, recipient_octets, ret_number, sized_2, sized_4, written}
use Rattle.relay_book.specs.Snapshot.{entry_octets, placed_octets}

-- two fields
grows : (old mid new first second : List ℕ) → mid ≡ old ++ first → new ≡ mid ++ second → new ≡ old ++ (first ++ second)
grows old mid new first second one two = two ∙ ap (λ (l : List ℕ). l ++ second) one ∙ append_assoc old first second

-- what an accept says before its recipients
abbrev pub mail_octets : ℕ → List ℕ → ℕ → List ℕ → List ℕ
mail_octets at path ret envid = octets_8 at ++ (sized_2 path ++ (ret ∷ sized_2 envid))

pub mail_written : (old first second third new : List ℕ) (moment at : ℕ) (reverse path : List ℕ) (number ret : ℕ) (given envid : List ℕ)
    → moment ≡ at → reverse ≡ path → number ≡ ret → given ≡ envid
    → first ≡ old ++ octets_8 moment → second ≡ first ++ sized_2 reverse → third ≡ second ++ number ∷ [] → new ≡ third ++ sized_2 given → new ≡ old ++ mail_octets at path ret envid
mail_written old first second third new moment at reverse path number ret given envid at_is path_is ret_is envid_is one two three four =
    grows old first new (octets_8 moment) (sized_2 reverse ++ (number ∷ sized_2 given)) one
    (grows first second new (sized_2 reverse) (number ∷ sized_2 given) two (grows second third new (number ∷ []) (sized_2 given) three four))
    ∙ (λ i. old ++ mail_octets (at_is i) (path_is i) (ret_is i) (envid_is i))

after_mail : (at : ℕ) (path : List ℕ) (ret : ℕ) (envid rest : List ℕ)
    → mail_octets at path ret envid ++ rest ≡ octets_8 at ++ (sized_2 path ++ (ret ∷ (sized_2 envid ++ rest)))
after_mail at path ret envid rest =
    append_assoc (octets_8 at) (sized_2 path ++ (ret ∷ sized_2 envid)) rest
    ∙ ap (λ (l : List ℕ). octets_8 at ++ l) (append_assoc (sized_2 path) (ret ∷ sized_2 envid) rest)

module _ (accept : AcceptFields) where
  fields_written : (old mid next new middle last : List ℕ) → mid ≡ old ++ mail_octets accept.at accept.envelope.reverse_path (ret_number accept.envelope.ret) (written accept.envelope.envid)
      → next ≡ mid ++ middle → new ≡ next ++ last
      → new ≡ old ++ (octets_8 accept.at ++ (sized_2 accept.envelope.reverse_path ++ (ret_number accept.envelope.ret ∷ (sized_2 (written accept.envelope.envid) ++ (middle ++ last)))))
  fields_written old mid next new middle last one two three =
      grows old mid new (mail_octets accept.at accept.envelope.reverse_path (ret_number accept.envelope.ret) (written accept.envelope.envid)) (middle ++ last) one
      (grows mid next new middle last two three)
      ∙ ap (λ (l : List ℕ). old ++ l) (after_mail accept.at accept.envelope.reverse_path (ret_number accept.envelope.ret) (written accept.envelope.envid) (middle ++ last))

  -- its recipients, and its stored text
  pub accept_written : (old mid next new : List ℕ) → mid ≡ old ++ mail_octets accept.at accept.envelope.reverse_path (ret_number accept.envelope.ret) (written accept.envelope.envid)
      → next ≡ mid ++ counted recipient_octets accept.envelope.recipients → new ≡ next ++ sized_4 accept.stored_text → new ≡ old ++ accept_octets accept
  accept_written old mid next new one two three =
      fields_written old mid next new (counted recipient_octets accept.envelope.recipients) (sized_4 accept.stored_text) one two three

-- a message after its number, with its places
pub entry_written : (number : ℕ) (message : Message) (old first mid next new : List ℕ) → first ≡ old ++ octets_8 number
    → mid ≡ first ++ mail_octets message.accept.at message.accept.envelope.reverse_path (ret_number message.accept.envelope.ret) (written message.accept.envelope.envid)
    → next ≡ mid ++ counted (placed_octets WithDelay) (zip message.accept.envelope.recipients message.places) → new ≡ next ++ sized_4 message.accept.stored_text
    → new ≡ old ++ entry_octets WithDelay (number, message)
unfolding entry_octets
entry_written number message old first mid next new one two three four =
    grows old first new (octets_8 number) _ one
    (fields_written message.accept first mid next new (counted (placed_octets WithDelay) (zip message.accept.envelope.recipients message.places)) (sized_4 message.accept.stored_text) two three four)

-- A record is short enough to be a body.
use Rattle.std.proofs.Common.{◌≡◌, ℕ, suc, ◌+◌, ◌*◌, ◌<◌, ◌≤◌, ◌^◌, true, false, List, [], ◌∷◌, ◌++◌, length, refl, arith, length-append}
use Rattle.std.specs.List.{flat_map, AllByRecursion}
use Rattle.relay_envelope.specs.declared.envelope.Recipient.{Recipient}
use Rattle.relay_envelope.specs.Envelope.{IsRecipient}
use Rattle.relay_book.specs.declared.change.Accept.{Accept as AcceptFields}
use Rattle.relay_book.specs.declared.change.Outcome.{Outcome as OutcomeFields}
use Rattle.relay_book.specs.declared.change.Ruling.{Ruling}
use Rattle.relay_book.specs.declared.change.Verdict.{Verdict}
use Rattle.relay_book.specs.declared.change.Withdrawal.TheVariants.{Return, Discard}
use Rattle.relay_book.specs.declared.change.Verdict.TheVariants.{Taken, Refused, Later, CantSend, NoRoute, Withdrawn}
use Rattle.relay_book.specs.declared.change.Change.TheVariants.{Accept, Outcome}
use Rattle.relay_book.specs.Record.{IsAccept, IsOutcome, IsRuling, IsVerdict, accept_octets, counted, notify_number, octets_2, octets_4, octets_8, outcome_octets, recipient_octets, ret_number, ruling_octets, sized_2, sized_4, verdict_octets, written}
use Rattle.relay_book.specs.StandsFor.{RecordIsShort}
use Rattle.relay_book.proofs.FitLemmas.{hop_fits, limit_fits, path_fits, reverse_path_fits, written_envid_fits, written_orcpt_fits}

pub length_8 : (n : ℕ) → length (octets_8 n) ≡ 8
unfolding octets_8
length_8 n = refl

pub length_sized_2 : (text : List ℕ) → length (sized_2 text) ≡ 2 + length text
unfolding octets_2
length_sized_2 text = let is : length (sized_2 text) ≡ suc (suc (length text)) = refl in omega (arith, is)

pub length_sized_4 : (text : List ℕ) → length (sized_4 text) ≡ 4 + length text
unfolding octets_4
length_sized_4 text = let is : length (sized_4 text) ≡ suc (suc (suc (suc (length text)))) = refl in omega (arith, is)

-- rows of short elements are short
rows_short : {A : Type 0} (Valid : A → Type 0) (octets_of : A → List ℕ) (most : ℕ) → ((element : A) → Valid element → length (octets_of element) ≤ most)
    → (elements : List A) → AllByRecursion Valid elements → length (flat_map octets_of elements) ≤ most * length elements
rows_short Valid octets_of most each [] valid = omega arith
rows_short Valid octets_of most each (element ∷ elements) valid =
    let first = each element valid.0 in
    let rest = rows_short Valid octets_of most each elements valid.1 in
    let parts = length-append (octets_of element) (flat_map octets_of elements) in
    omega (arith, first, rest, parts)

recipient_short : (recipient : Recipient) → IsRecipient recipient → length (recipient_octets recipient) ≤ 2 ^ 18
recipient_short recipient valid =
    let path = path_fits recipient valid in
    let orcpt = written_orcpt_fits recipient.orcpt valid.orcpt in
    let first = length_sized_2 recipient.path in
    let second = length_sized_2 (written recipient.orcpt) in
    let parts = length-append (sized_2 recipient.path) (notify_number recipient.notify ∷ sized_2 (written recipient.orcpt)) in
    omega (arith, path, orcpt, first, second, parts)

accept_short : (accept : AcceptFields) → IsAccept accept → length (accept_octets accept) + 1 < 2 ^ 32
accept_short accept valid =
    let envelope = accept.envelope in
    let path = reverse_path_fits envelope valid.envelope in
    let envid = written_envid_fits envelope.envid valid.envelope.envid in
    let rows = rows_short IsRecipient recipient_octets (2 ^ 18) recipient_short envelope.recipients valid.envelope.recipients in
    let few = valid.envelope.within in
    let text = valid.text in
    let limit = limit_fits envelope.reverse_path in
    let at = length_8 accept.at in
    let path_is = length_sized_2 envelope.reverse_path in
    let envid_is = length_sized_2 (written envelope.envid) in
    let text_is = length_sized_4 accept.stored_text in
    let recipients = counted recipient_octets envelope.recipients in
    let stored = sized_4 accept.stored_text in
    let one = length-append recipients stored in
    let two = length-append (sized_2 (written envelope.envid)) (recipients ++ stored) in
    let three = length-append (sized_2 envelope.reverse_path) (ret_number envelope.ret ∷ (sized_2 (written envelope.envid) ++ (recipients ++ stored))) in
    let four = length-append (octets_8 accept.at) (sized_2 envelope.reverse_path ++ (ret_number envelope.ret ∷ (sized_2 (written envelope.envid) ++ (recipients ++ stored)))) in
    omega (arith, path, envid, rows, few, text, limit, at, path_is, envid_is, text_is, one, two, three, four)

verdict_short : (verdict : Verdict) → IsVerdict verdict → length (verdict_octets verdict) ≤ 204
unfolding octets_2
verdict_short (Taken true) valid = omega arith
verdict_short (Taken false) valid = omega arith
verdict_short (Refused code text) valid = let fits = valid.text_fits in omega (arith, fits)
verdict_short Later valid = omega arith
verdict_short CantSend valid = omega arith
verdict_short NoRoute valid = omega arith
verdict_short (Withdrawn Return) valid = omega arith
verdict_short (Withdrawn Discard) valid = omega arith

ruling_short : (ruling : Ruling) → IsRuling ruling → length (ruling_octets ruling) ≤ 205
ruling_short ruling valid = let verdict = verdict_short ruling.verdict valid.verdict in omega (arith, verdict)

outcome_short : (outcome : OutcomeFields) → IsOutcome outcome → length (outcome_octets outcome) + 1 < 2 ^ 32
outcome_short outcome valid =
    let hop = hop_fits outcome.hop valid.hop in
    let rows = rows_short IsRuling ruling_octets 205 ruling_short outcome.rulings valid.rulings in
    let few = valid.within in
    let report = valid.report in
    let message_is = length_8 outcome.message in
    let at_is = length_8 outcome.at in
    let hop_is = length_sized_2 outcome.hop in
    let report_is = length_sized_4 outcome.report in
    let rulings = counted ruling_octets outcome.rulings in
    let text = sized_4 outcome.report in
    let one = length-append rulings text in
    let two = length-append (sized_2 outcome.hop) (rulings ++ text) in
    let three = length-append (octets_8 outcome.at) (sized_2 outcome.hop ++ (rulings ++ text)) in
    let four = length-append (octets_8 outcome.message) (octets_8 outcome.at ++ (sized_2 outcome.hop ++ (rulings ++ text))) in
    omega (arith, hop, rows, few, report, message_is, at_is, hop_is, report_is, one, two, three, four)

pub record_is_short : RecordIsShort
record_is_short (Accept accept) valid = let short = accept_short accept valid in omega (arith, short)
record_is_short (Outcome outcome) valid = let short = outcome_short outcome valid in omega (arith, short)

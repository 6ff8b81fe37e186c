-- What a feed makes of a piece, step by step, and what it adds to what was read.
use Rattle.std.proofs.Common.{◌≡◌, ℕ, ◌+◌, ◌-◌, ◌<◌, ◌≤◌, false, List, [], ◌∷◌, ◌++◌, length, take, drop, Option, None, Some, refl, sym, ap, ◌∙◌, subst, arith, append_assoc}
use Rattle.std.specs.Prelude.{MatchOption, is_some}
use Rattle.std.proofs.lemmas.List.{append-nil, take_all, take-append-drop, take_rest, take-take, drop-take}
use Rattle.std.proofs.lemmas.Bool.{false≢true}
use Rattle.relay_lines.specs.Reply.{Reply, ReadsReply}
use Rattle.relay_lines.specs.ReplyReading.{CutsReplies, HasFault}
use Rattle.relay_lines.specs.ReplySteps.{HasMade, HasRead, HoldsRest}
use Rattle.relay_lines.specs.declared.reply_reader.ReplyFault.{ReplyFault}
use Rattle.relay_lines.specs.declared.reply_reader.ReplyReader.{ReplyReader}

-- where no reply was made, the octets are held
held_unless_made : (new : ReplyReader) (reply : Option Reply) (octets : List ℕ)
    → is_some reply ≡ false → HasMade new reply octets → HoldsRest new octets
held_unless_made new None octets none made = made
held_unless_made new (Some reply) octets none made = absurd (false≢true (sym none))

-- what is used of a piece, and then of its rest
taken_both : (piece : List ℕ) (used more : ℕ)
    → take used piece ++ take more (take (length piece - used) (drop used piece)) ≡ take
    (used + more) piece
taken_both piece used more =
    ap (λ rest. take used piece ++ take more rest) (take_rest piece used)
    ∙ ap (λ l. l ++ take more (drop used piece)) (sym (take-take used (used + more) piece (omega arith)))
    ∙ ap (λ l. take used (take (used + more) piece) ++ l) (sym (drop-take used more piece))
    ∙ take-append-drop used (take (used + more) piece)

both_after : (rest piece : List ℕ) (used more : ℕ)
    → (rest ++ take used piece) ++ take more
    (take (length piece - used) (drop used piece)) ≡ rest ++ take (used + more) piece
both_after rest piece used more =
    append_assoc rest (take used piece) (take more (take (length piece - used) (drop used piece)))
    ∙ ap (λ l. rest ++ l) (taken_both piece used more)

-- what a step makes of the rest of a piece
pub step_made : (new : ReplyReader) (reply : Option Reply) (rest piece : List ℕ) (used more : ℕ)
    → HasMade new reply
    ((rest ++ take used piece) ++ take more (take (length piece - used) (drop used piece)))
    → HasMade new reply (rest ++ take (used + more) piece)
step_made new reply rest piece used more made =
    let P : List ℕ → Type 0 = λ l. HasMade new reply l in
    subst P (both_after rest piece used more) made

-- what a step holds of the rest of a piece
pub step_held : (new : ReplyReader) (reply : Option Reply) (rest piece : List ℕ) (used more : ℕ)
    → is_some reply ≡ false
    → HasMade new reply
    ((rest ++ take used piece) ++ take more (take (length piece - used) (drop used piece)))
    → HoldsRest new (rest ++ take (used + more) piece)
step_held new reply rest piece used more none made =
    held_unless_made new reply (rest ++ take (used + more) piece) none
    (step_made new reply rest piece used more made)

-- the fault of a step is one of the whole piece
pub step_fault : (rest piece : List ℕ) (used : ℕ) (fault : ReplyFault)
    → HasFault ((rest ++ take used piece) ++ take (length piece - used) (drop used piece)) fault
    → HasFault (rest ++ piece) fault
step_fault rest piece used fault has =
    let P : List ℕ → Type 0 = λ l. HasFault l fault in
    let all =
    append_assoc rest (take used piece) (take (length piece - used) (drop used piece))
    ∙ ap (λ l. rest ++ (take used piece ++ l)) (take_rest piece used)
    ∙ ap (λ l. rest ++ l) (take-append-drop used piece) in
    subst P all has

-- what comes after replies comes after the rest
pub cut_more : (octets : List ℕ) (replies : List Reply) (rest more : List ℕ)
    → CutsReplies octets replies rest → CutsReplies (octets ++ more) replies (rest ++ more)
cut_more octets [] rest more cut = ap (λ l. l ++ more) cut
cut_more octets (reply ∷ replies) rest more cut = (
  cut.0,
  cut.1 ++ more,
  cut.2,
  ap (λ l. l ++ more) cut.3 ∙ append_assoc cut.0 cut.1 more,
  cut_more cut.1 replies rest more cut.4,
)

-- the rest becomes a reply
cut_ends : (octets : List ℕ) (replies : List Reply) (rest used : List ℕ) (reply : Reply)
    → CutsReplies octets replies rest → ReadsReply (rest ++ used) reply
    → CutsReplies (octets ++ used) (replies ++ reply ∷ []) []
cut_ends octets [] rest used reply cut reads = (
  rest ++ used,
  [],
  reads,
  ap (λ l. l ++ used) cut ∙ sym (append-nil (rest ++ used)),
  refl,
)
cut_ends octets (first ∷ replies) rest used reply cut reads = (
  cut.0,
  cut.1 ++ used,
  cut.2,
  ap (λ l. l ++ used) cut.3 ∙ append_assoc cut.0 cut.1 used,
  cut_ends cut.1 replies rest used reply cut.4 reads,
)

-- what a feed has read, by what it made of the rest
pub feed_reads : (old new : ReplyReader) (made : Option Reply) (used : ℕ) (octets : List ℕ)
    (replies : List Reply) (rest piece : List ℕ)
    → ((rest : List ℕ) → HoldsRest old rest → HasMade new made (rest ++ take used piece))
    → MatchOption made (used ≡ length piece) (λ _. (0 < used) × (used ≤ length piece))
    → HasRead old octets replies rest
    → MatchOption made (HasRead new (octets ++ piece) replies (rest ++ piece))
    (λ reply. HasRead new (octets ++ take used piece) (replies ++ reply ∷ []) [])
feed_reads old new None used octets replies rest piece makes whole read =
    let P : List ℕ → Type 0 = λ l. HoldsRest new (rest ++ l) in
    let all = ap (λ n. take n piece) whole ∙ take_all (length piece) piece (omega arith) in
    record {
      cut = cut_more octets replies rest piece read.cut;
      holds = subst P all (makes rest read.holds);
    }
feed_reads old new (Some reply) used octets replies rest piece makes whole read =
    let made = makes rest read.holds in
    record {
      cut = cut_ends octets replies rest (take used piece) reply read.cut made.0;
      holds = made.1;
    }

-- Replies cut from octets: in one way, and what is cut stays cut.
use Rattle.std.proofs.Common.{◌≡◌, ◌≢◌, ℕ, List, [], ◌∷◌, ◌++◌, length, inl, inr, refl, sym, ap, ◌∙◌, subst, arith, append_assoc}
use Rattle.std.specs.List.{AllByRecursion}
use Rattle.std.proofs.lemmas.List.{length-append}
use Rattle.relay_octets.specs.Line.{crlf}
use Rattle.relay_lines.specs.Reply.{Reply, IsReply, ReadsReply, followed_lines, reply_text}
use Rattle.relay_lines.specs.Reply.{written_replies}
use Rattle.relay_lines.specs.ReplyReading.{CutsReplies, EndsCut, HasFault, IsUnfinished}
use Rattle.relay_lines.specs.ReplyLaws.{BeginningIsCut, CutIsOne}
use Rattle.relay_lines.specs.declared.reply_reader.ReplyFault.{ReplyFault}
use Rattle.relay_lines.proofs.ReplyLawLemmas.{no_reply_begins_another, written_is_read}
use Rattle.relay_lines.specs.ReplyReading.{CutsAllReplies}
use Rattle.relay_lines.specs.ReplyLaws.{CutGoesOn, CutStays, ReadIsCut}
use Rattle.relay_lines.proofs.ReplyFeedLemmas.{cut_more}
use Rattle.relay_lines.proofs.ReplyFaultLemmas.{fault_stays, held_is_unfinished, reply_has_no_fault, unfinished_has_no_reply}

-- no octets have no fault
nothing_has_no_fault : (octets : List ℕ) (fault : ReplyFault) → octets ≡ []
    → ¬ HasFault octets fault
nothing_has_no_fault octets fault nothing has =
    let size =
    ap length (sym nothing ∙ has.octets_are)
    ∙ length-append (followed_lines has.code has.lines) has.rest in
    elim has.shows [
      | inl whole ↦
          let long = ap length whole.1.text ∙ length-append (has.line ++ crlf) whole.0 in
          let end = length-append has.line crlf in
          omega arith
      | inr long ↦
          let full = ap length long.1 ∙ length-append has.line long.0 in
          let count = long.3 in
          omega arith
    ]

-- a part of no octets is none
front_of_none : (front back : List ℕ) → front ++ back ≡ [] → front ≡ []
front_of_none [] back none = refl
front_of_none (octet ∷ front) back none = cc

-- octets that begin written replies have no fault
written_has_no_fault : (octets more : List ℕ) (replies : List Reply) (fault : ReplyFault)
    → AllByRecursion IsReply replies → octets ++ more ≡ written_replies replies
    → ¬ HasFault octets fault
written_has_no_fault octets more [] fault each e has =
    nothing_has_no_fault octets fault (front_of_none octets more e) has
written_has_no_fault octets more (reply ∷ replies) fault each e has =
    let P : List ℕ → Type 0 = λ l. HasFault l fault in
    reply_has_no_fault (reply_text reply) (written_replies replies) reply fault
    (written_is_read reply each.0) (subst P e (fault_stays octets more fault has))

-- no reply is empty
reply_is_some : (octets : List ℕ) (reply : Reply) → ReadsReply octets reply → octets ≢ []
reply_is_some octets reply reads none =
    let size =
    ap length (sym none ∙ reads.octets_are)
    ∙ length-append (followed_lines reply.code reads.middle) (reads.line ++ crlf) in
    let end = length-append reads.line crlf in
    omega arith

-- what is cut from the beginning of written replies begins those
pub beginning_is_cut : BeginningIsCut
beginning_is_cut octets more rest [] replies each e cut = (
  (replies, refl),
  λ fault has.
      let P : List ℕ → Type 0 = λ l. HasFault l fault in
      written_has_no_fault octets more replies fault each e (subst P (sym cut) has),
)
beginning_is_cut octets more rest (reply ∷ cut) [] each e cuts =
    absurd
    (reply_is_some cuts.0 reply cuts.2 (front_of_none cuts.0 (cuts.1 ++ more) (sym (append_assoc cuts.0 cuts.1 more) ∙ ap (λ l. l ++ more) (sym cuts.3) ∙ e)))
beginning_is_cut octets more rest (reply ∷ cut) (first ∷ replies) each e cuts =
    let all = sym (append_assoc cuts.0 cuts.1 more) ∙ ap (λ l. l ++ more) (sym cuts.3) ∙ e in
    let same =
    no_reply_begins_another cuts.0 (reply_text first) (cuts.1 ++ more)
    (written_replies replies) reply first cuts.2 (written_is_read first each.0) all in
    let later = beginning_is_cut cuts.1 more rest cut replies each.1 same.1 cuts.4 in (
      (later.0.0, ap (λ r. r ∷ replies) (sym same.2) ∙ ap (λ rs. reply ∷ rs) later.0.1),
      later.1,
    )

-- where a cut ends there is no reply
no_reply_there : (octets text more : List ℕ) (reply : Reply) → EndsCut octets
    → ReadsReply text reply → octets ≡ text ++ more → ⊥
no_reply_there octets text more reply (inl rests) reads e =
    unfinished_has_no_reply text more reply reads (subst IsUnfinished e rests)
no_reply_there octets text more reply (inr has) reads e =
    let P : List ℕ → Type 0 = λ l. HasFault l has.0 in
    reply_has_no_fault text more reply has.0 reads (subst P e has.1)

one_cut : (octets rest more : List ℕ) (replies others : List Reply)
    → CutsReplies octets replies rest
    → CutsReplies octets others more → EndsCut rest → EndsCut more → (replies ≡ others) × (rest ≡ more)
one_cut octets rest more [] [] cut second ends ends_second = (refl, sym cut ∙ second)
one_cut octets rest more [] (other ∷ others) cut second ends ends_second =
    absurd (no_reply_there rest second.0 second.1 other ends second.2 (sym cut ∙ second.3))
one_cut octets rest more (reply ∷ replies) [] cut second ends ends_second =
    absurd (no_reply_there more cut.0 cut.1 reply ends_second cut.2 (sym second ∙ cut.3))
one_cut octets rest more (reply ∷ replies) (other ∷ others) cut second ends ends_second =
    let same =
    no_reply_begins_another cut.0 second.0 cut.1 second.1 reply other cut.2 second.2
    (sym cut.3 ∙ second.3) in
    let P : List ℕ → Type 0 = λ l. CutsReplies l replies rest in
    let later = one_cut second.1 rest more replies others (subst P same.1 cut.4) second.4 ends ends_second in
    (ap (λ r. r ∷ replies) same.2 ∙ ap (λ rs. other ∷ rs) later.0, later.1)

-- octets are cut in one way
pub cut_is_one : CutIsOne
cut_is_one octets rest more replies others one two =
    one_cut octets rest more replies others one.cut two.cut one.ends two.ends

-- what a reader has used is cut
pub read_is_cut : ReadIsCut
read_is_cut reader octets rest replies read = record {
  cut = read.cut;
  ends = inl (held_is_unfinished reader rest read.holds);
}

-- a cut goes on when more comes after
pub cut_goes_on : CutGoesOn
cut_goes_on octets rest more replies cut = cut_more octets replies rest more cut

-- and stays what it was
pub cut_stays : CutStays
cut_stays octets rest more left [] others cut all =
    let P : List ℕ → Type 0 = λ l. CutsReplies (l ++ more) others left in
    (others, refl, record { cut = subst P cut all.cut; ends = all.ends })
cut_stays octets rest more left (reply ∷ replies) [] cut all =
    let e = sym all.cut ∙ ap (λ l. l ++ more) cut.3 ∙ append_assoc cut.0 cut.1 more in
    absurd (no_reply_there left cut.0 (cut.1 ++ more) reply all.ends cut.2 e)
cut_stays octets rest more left (reply ∷ replies) (other ∷ others) cut all =
    let second = all.cut in
    let e = sym (append_assoc cut.0 cut.1 more) ∙ ap (λ l. l ++ more) (sym cut.3) ∙ second.3 in
    let same = no_reply_begins_another cut.0 second.0 (cut.1 ++ more) second.1 reply other cut.2 second.2 e in
    let P : List ℕ → Type 0 = λ l. CutsReplies l others left in
    let here : CutsAllReplies (cut.1 ++ more) others left =
    record { cut = subst P (sym same.1) second.4; ends = all.ends } in
    let later = cut_stays cut.1 rest more left replies others cut.4 here in
    (later.0, ap (λ r. r ∷ others) (sym same.2) ∙ ap (λ rs. reply ∷ rs) later.1, later.2)

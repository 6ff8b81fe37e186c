-- What was read fixes the course.
use Rattle.std.proofs.Common.{◌≡◌, inl, inr, ℕ, Bool, true, false, MatchBool, List, [], ◌++◌, length, Option, Some, None, refl, sym, ap, ◌∙◌, subst, arith, lit<, lit≤}
use Rattle.std.proofs.lemmas.List.{length-append}
use Rattle.relay_octets.specs.Line.{HasNoCrlf, crlf}
use Rattle.relay_lines.specs.Reply.{Reply}
use Rattle.relay_lines.specs.ReplyReading.{EndsCut, IsUnfinished}
use Rattle.relay_lines.proofs.Theorems.{cut_is_one, unfinished_has_no_fault}
use Rattle.relay_body.specs.DotText.{WritesDotText, ends_in_line_end}
use Rattle.relay_body.proofs.Theorems.{one_text}
use Rattle.relay_book.specs.declared.change.Verdict.{Verdict}
use Rattle.relay_course.specs.Progress.{Delivery, progress}
use Rattle.relay_course.specs.Course.{Concludes, Runs, delivery_of, joined}
use Rattle.relay_course.specs.Laws.{CourseIsOne}

no-crlf : HasNoCrlf []
no-crlf = record {
  nowhere = λ front after e. absurd (omega (arith, ap length e, length-append (front ++ crlf) after, length-append front crlf));
}

-- no octets are a rest that isn't whole
none-unfinished : IsUnfinished []
none-unfinished = record {
  code = 200;
  lines = [];
  part = [];
  followed = record { code_is = record { low = lit≤ tt; high = lit< tt }; few = lit≤ tt; each = tt };
  unended = no-crlf;
  short = lit< tt;
  octets_are = refl;
}

-- nothing more can be cut from the rest of a course
rest-ends : (places : List ℕ) (told : Bool) (rest : List ℕ) (ended verdicts : Option (List Verdict))
    → Concludes places told rest ended verdicts → EndsCut rest
rest-ends places told rest (Some all) verdicts so =
    subst (λ (r : List ℕ). EndsCut r) (sym so.1) (inl none-unfinished)
rest-ends places told rest None verdicts (inl so) = inl so.1
rest-ends places told rest None verdicts (inr (inl so)) = inl so.1
rest-ends places told rest None verdicts (inr (inr so)) = inr so.1

one-dot_text : (text one two : List ℕ) (test : Bool) → MatchBool test (WritesDotText text one) (one ≡ [])
    → MatchBool test (WritesDotText text two) (two ≡ []) → one ≡ two
one-dot_text text one two true a b = one_text text one two a b
one-dot_text text one two false a b = a ∙ sym b

one-conclusion : (places : List ℕ) (told : Bool) (rest : List ℕ) (ended verdicts others : Option (List Verdict))
    → Concludes places told rest ended verdicts → Concludes places told rest ended others → verdicts ≡ others
one-conclusion places told rest (Some all) verdicts others a b = a.2 ∙ sym b.2
one-conclusion places told rest None verdicts others (inl a) (inl b) = a.2 ∙ sym b.2
one-conclusion places told rest None verdicts others (inl a) (inr (inl b)) =
    let yes_told = b.0 in let not_told = a.0 in absurd (cc)
one-conclusion places told rest None verdicts others (inl a) (inr (inr b)) =
    absurd (unfinished_has_no_fault rest b.1.0 a.1 b.1.1)
one-conclusion places told rest None verdicts others (inr (inl a)) (inl b) =
    let yes_told = a.0 in let not_told = b.0 in absurd (cc)
one-conclusion places told rest None verdicts others (inr (inl a)) (inr (inl b)) = a.2 ∙ sym b.2
one-conclusion places told rest None verdicts others (inr (inl a)) (inr (inr b)) = a.2 ∙ sym b.2
one-conclusion places told rest None verdicts others (inr (inr a)) (inl b) =
    absurd (unfinished_has_no_fault rest a.1.0 b.1 a.1.1)
one-conclusion places told rest None verdicts others (inr (inr a)) (inr (inl b)) = a.2 ∙ sym b.2
one-conclusion places told rest None verdicts others (inr (inr a)) (inr (inr b)) = a.2 ∙ sym b.2

one-run : (delivery : Delivery) (input : List ℕ) (told : Bool) (output other : List ℕ)
    (verdicts others : Option (List Verdict))
    → Runs delivery input told output verdicts → Runs delivery input told other others
    → (output ≡ other) × (verdicts ≡ others)
one-run delivery input told output other verdicts others a b =
    let ended : List Reply → Option (List Verdict) = λ replies. (progress delivery replies).verdicts in
    let same = cut_is_one input a.rest b.rest a.replies b.replies
    (record { cut = a.cut; ends = rest-ends delivery.places told a.rest (ended a.replies) verdicts a.concludes })
    (record { cut = b.cut; ends = rest-ends delivery.places told b.rest (ended b.replies) others b.concludes }) in
    let here = subst (λ (r : List ℕ). Concludes delivery.places told r (ended b.replies) others) (sym same.1) b.concludes in
    let there = subst (λ (l : List Reply). Concludes delivery.places told a.rest (ended l) others) (sym same.0) here in (
      a.written ∙ ap (λ (l : List Reply). joined (progress delivery l).commands) same.0 ∙ sym b.written,
      one-conclusion delivery.places told a.rest (ended a.replies) verdicts others a.concludes there,
    )

pub course_is_one : CourseIsOne
course_is_one host envelope text places input told output other verdicts others a b =
    let same = one-dot_text text b.dot_text a.dot_text (ends_in_line_end text) b.sent a.sent in
    one-run (delivery_of host envelope text a.dot_text places) input told output other verdicts others a.runs
    (subst (λ (d : List ℕ). Runs (delivery_of host envelope text d places) input told other others) same b.runs)

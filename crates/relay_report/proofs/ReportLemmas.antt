-- A report from its pieces.
use Rattle.std.proofs.Common.{◌≡◌, ℕ, Bool, List, Option, ◌++◌, codes, ap, subst, ◌∙◌}
use Rattle.relay_octets.specs.Line.{crlf}
use Rattle.relay_trace.specs.DateTime.{IsDateText}
use Rattle.relay_report.specs.Boundary.{IsBoundary}
use Rattle.relay_report.specs.StatusFields.{field}
use Rattle.relay_report.specs.Multipart.{Told, encoding_of, first_part, header_fields, multipart_text, report_text, report_type, returned, returned_type, returns_whole, second_part, third_part}
use Rattle.relay_report.specs.Report.{IsReport, IsUntil}

-- the text of these parts
abbrev pub joined_text : Told → List ℕ → List ℕ → List ℕ → List ℕ → Bool → List ℕ → List ℕ → List ℕ
joined_text told date boundary one two whole encoding three =
    header_fields told date encoding ++ field (codes "Content-Type") (report_type boundary) ++ crlf
    ++ multipart_text boundary one two (returned_type whole) encoding three

same_text : (told : Told) (date arrival : List ℕ) (until : Option (List ℕ)) (boundary one two three text encoding : List ℕ) (whole : Bool)
    → one ≡ first_part told arrival until → two ≡ second_part told date arrival until → whole ≡ returns_whole told → three ≡ third_part told → encoding ≡ encoding_of told.form three
    → text ≡ joined_text told date boundary one two whole encoding three → text ≡ report_text told date arrival until boundary
unfolding report_text
same_text told date arrival until boundary one two three text encoding whole a b w d is e =
    e ∙ ap (λ l. joined_text told date boundary l two whole encoding three) a ∙ ap (λ l. joined_text told date boundary (first_part told arrival until) l whole encoding three) b
    ∙ ap (λ l. joined_text told date boundary (first_part told arrival until) (second_part told date arrival until) l encoding three) w
    ∙ ap (λ l. joined_text told date boundary (first_part told arrival until) (second_part told date arrival until) (returns_whole told) l three)
    (is ∙ ap (encoding_of told.form) d)
    ∙ ap (joined_text told date boundary (first_part told arrival until) (second_part told date arrival until) (returns_whole told) (encoding_of told.form (third_part told))) d

-- the pieces make the report
pub is_report : (told : Told) (date arrival : List ℕ) (until : Option (List ℕ)) (boundary one two three text encoding : List ℕ) (whole : Bool)
    → IsDateText told.at date → IsDateText told.message.accept.at arrival → IsUntil told.message.accept.at until
    → one ≡ first_part told arrival until → two ≡ second_part told date arrival until → whole ≡ returns_whole told
    → three ≡ returned whole told.message.accept.stored_text → encoding ≡ encoding_of told.form three → IsBoundary told.number one two three boundary
    → text ≡ joined_text told date boundary one two whole encoding three → IsReport told text
is_report told date arrival until boundary one two three text encoding whole at came days a b w d is bound e = record {
  date = date;
  arrival = arrival;
  until = until;
  boundary = boundary;
  date_is = at;
  arrival_is = came;
  until_is = days;
  boundary_is = subst (λ l. IsBoundary told.number l (second_part told date arrival until) (third_part told) boundary) a
      (subst (λ l. IsBoundary told.number one l (third_part told) boundary) b (subst (λ l. IsBoundary told.number one two l boundary) third bound));
  text_is = same_text told date arrival until boundary one two three text encoding whole a b w third is e;
}
  where
    third : three ≡ third_part told
    third = d ∙ ap (λ l. returned l told.message.accept.stored_text) w

-- the same where some of them are named twice
pub is_report_by : (told : Told) (date arrival : List ℕ) (until : Option (List ℕ)) (boundary one two three text encoding : List ℕ) (whole : Bool)
    (arrival_0 : List ℕ) (until_0 : Option (List ℕ)) (date_1 arrival_1 : List ℕ) (until_1 : Option (List ℕ)) (one_1 two_1 stored date_2 boundary_2 : List ℕ)
    → IsDateText told.at date → IsDateText told.message.accept.at arrival → IsUntil told.message.accept.at until
    → arrival_0 ≡ arrival → until_0 ≡ until → one ≡ first_part told arrival_0 until_0
    → date_1 ≡ date → arrival_1 ≡ arrival → until_1 ≡ until → two ≡ second_part told date_1 arrival_1 until_1 → whole ≡ returns_whole told
    → one_1 ≡ one → two_1 ≡ two → stored ≡ told.message.accept.stored_text → three ≡ returned whole stored → encoding ≡ encoding_of told.form three
    → IsBoundary told.number one_1 two_1 three boundary → date_2 ≡ date → boundary_2 ≡ boundary
    → text ≡ joined_text told date_2 boundary_2 one_1 two_1 whole encoding three → IsReport told text
is_report_by told date arrival until boundary one two three text encoding whole arrival_0 until_0 date_1 arrival_1 until_1 one_1 two_1 stored date_2 boundary_2 at came days a0 u0 first d1 a1 u1 second w o1 t1 s third is bound d2 b2 e =
    is_report told date arrival until boundary one_1 two_1 three text encoding whole at came days
    (o1 ∙ first ∙ ap (λ l. first_part told l until_0) a0 ∙ ap (first_part told arrival) u0)
    (t1 ∙ second ∙ ap (λ l. second_part told l arrival_1 until_1) d1 ∙ ap (λ l. second_part told date l until_1) a1 ∙ ap (second_part told date arrival) u1) w
    (third ∙ ap (returned whole) s) is bound
    (subst (λ l. text ≡ joined_text told l boundary one_1 two_1 whole encoding three) d2 (subst (λ l. text ≡ joined_text told date_2 l one_1 two_1 whole encoding three) b2 e))

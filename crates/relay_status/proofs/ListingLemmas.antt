-- A list of all recipients, and one that is cut.
use Rattle.std.proofs.Common.{◌≡◌, ℕ, ◌<◌, ◌≤◌, Bool, true, false, nat_lt, min, List, [], ◌++◌, length, take, refl, sym, ap, ◌∙◌, append-nil, arith}
use Rattle.std.specs.Prelude.{if◌then◌else◌}
use Rattle.std.proofs.Math.Nat.{min-eq_left, min-eq_right}
use Rattle.std.proofs.lemmas.Bool.Decides.{nat_tests}
use Rattle.std.proofs.lemmas.List.{take_min}
use Rattle.relay_routes.specs.Routes.{RouteTable}
use Rattle.relay_book.specs.Queue.{Queue}
use Rattle.relay_page.specs.Listing.{cut_line, lines_of, listing}

first_lines : (now : ℕ) (table : RouteTable) (queue : Queue) (marks : List (ℕ × ℕ)) (listed : ℕ) (before lines : List ℕ) → listed ≡ min 500 (length marks)
    → before ≡ [] → lines ≡ before ++ lines_of now table queue (take listed marks) → lines ≡ lines_of now table queue (take 500 marks)
first_lines now table queue marks listed before lines is_min empty is =
    is ∙ ap (λ l. l ++ lines_of now table queue (take listed marks)) empty
    ∙ ap (lines_of now table queue) (ap (λ n. take n marks) is_min ∙ take_min 500 marks)

pub cut_list : (now : ℕ) (table : RouteTable) (queue : Queue) (marks : List (ℕ × ℕ)) (listed : ℕ) (before lines text : List ℕ)
    → listed ≡ min 500 (length marks) → listed < length marks → before ≡ [] → lines ≡ before ++ lines_of now table queue (take listed marks)
    → text ≡ lines ++ cut_line listed (length marks) → text ≡ listing now table queue marks
cut_list now table queue marks listed before lines text is_min more empty lines_is is = by (nat_lt 500 (length marks)) refl
  where
    first : List ℕ
    first = lines_of now table queue (take 500 marks)

    by : (b : Bool) → nat_lt 500 (length marks) ≡ b → text ≡ first ++ (if b then cut_line 500 (length marks) else [])
    by true long =
        let above : 500 ≤ length marks = grind (arith, nat_tests, long) in
        is ∙ ap (λ l. l ++ cut_line listed (length marks)) (first_lines now table queue marks listed before lines is_min empty lines_is)
        ∙ ap (λ n. first ++ cut_line n (length marks)) (is_min ∙ min-eq_left above)
    by false short =
        let within : length marks ≤ 500 = grind (arith, nat_tests, short) in
        let all : listed ≡ length marks = is_min ∙ min-eq_right within in
        absurd (omega (arith, more, all))

pub whole_list : (now : ℕ) (table : RouteTable) (queue : Queue) (marks : List (ℕ × ℕ)) (listed : ℕ) (before lines text : List ℕ)
    → listed ≡ min 500 (length marks) → length marks ≤ listed → before ≡ [] → lines ≡ before ++ lines_of now table queue (take listed marks)
    → text ≡ lines → text ≡ listing now table queue marks
whole_list now table queue marks listed before lines text is_min all empty lines_is is = by (nat_lt 500 (length marks)) refl
  where
    first : List ℕ
    first = lines_of now table queue (take 500 marks)

    by : (b : Bool) → nat_lt 500 (length marks) ≡ b → text ≡ first ++ (if b then cut_line 500 (length marks) else [])
    by true long =
        let above : 500 < length marks = grind (arith, nat_tests, long) in
        let at : listed ≡ 500 = is_min ∙ min-eq_left (omega (arith, above)) in
        absurd (omega (arith, all, at, above))
    by false short = is ∙ first_lines now table queue marks listed before lines is_min empty lines_is ∙ sym (append-nil first)

-- A text spells one line: its first octets tell the keyword, and the words tell the operands.
use Rattle.std.proofs.Common.{◌≡◌, ℕ, ◌+◌, ◌*◌, ◌≤◌, ◌==◌, ◌&&◌, Bool, true, if◌then◌else◌, List, [], ◌∷◌, ◌++◌, codes, map, get_or, refl, sym, ap, subst, ◌∙◌, arith, append-nil}
use Rattle.std.proofs.lemmas.Bool.{and_parts}
use Rattle.std.proofs.lemmas.List.{append_cancel_left}
use Rattle.std.specs.List.{join_with_byte}
use Rattle.relay_script.specs.Line.{Operand, IsOperand, SpellsWords, Spells, IsSkipped, TextTellsLine}
use Rattle.relay_script.specs.Line.Operand.{Node, Number, Count, Time, Text}
use Rattle.relay_script.specs.Reading.{kind_of, SpellsOperands}
use Rattle.relay_script.specs.declared.event.Event.TheVariants.{Connect, Send, Carry, Break, Tick, Give, Compact, Stop, Return, Discard}
use Rattle.relay_script.specs.declared.event.ScriptLine.{ScriptLine}
use Rattle.relay_script.specs.declared.event.ScriptLine.TheVariants.{Skipped, Nodes, Event as Happens, Ledger, Marks, Copies, Lost}
use Rattle.relay_script.proofs.TextLemmas.{text_tells_octets}
use Rattle.relay_script.proofs.WordLemmas.{one_cut}
use Rattle.relay_script.proofs.OperandLemmas.{is_word_kind, cut_of, first_and_more, word_of_one}
use Rattle.relay_script.proofs.LineLemmas.{after_keyword}

-- a line's keyword
abbrev keyword_of : ScriptLine → List ℕ
keyword_of Skipped = []
keyword_of (Nodes count) = codes "nodes"
keyword_of (Happens (Connect node)) = codes "connect"
keyword_of (Happens (Send link octets)) = codes "send"
keyword_of (Happens (Carry link node count)) = codes "carry"
keyword_of (Happens (Break link)) = codes "break"
keyword_of (Happens (Tick moment)) = codes "tick"
keyword_of (Happens (Give node)) = codes "give"
keyword_of (Happens (Compact node)) = codes "compact"
keyword_of (Happens (Stop node calls pick)) = codes "stop"
keyword_of (Happens (Return node number place)) = codes "return"
keyword_of (Happens (Discard node number place)) = codes "discard"
keyword_of Ledger = codes "ledger"
keyword_of Marks = codes "marks"
keyword_of (Copies node number place) = codes "copies"
keyword_of (Lost node number place) = codes "lost"

-- a line's operands
abbrev operands_of : ScriptLine → List Operand
operands_of Skipped = []
operands_of (Nodes count) = Count count ∷ []
operands_of (Happens (Connect node)) = Node node ∷ []
operands_of (Happens (Send link octets)) = Number link ∷ Text octets ∷ []
operands_of (Happens (Carry link node count)) = Number link ∷ Node node ∷ Number count ∷ []
operands_of (Happens (Break link)) = Number link ∷ []
operands_of (Happens (Tick moment)) = Time moment ∷ []
operands_of (Happens (Give node)) = Node node ∷ []
operands_of (Happens (Compact node)) = Node node ∷ []
operands_of (Happens (Stop node calls pick)) = Node node ∷ Number calls ∷ Number pick ∷ []
operands_of (Happens (Return node number place)) = Node node ∷ Number number ∷ Number place ∷ []
operands_of (Happens (Discard node number place)) = Node node ∷ Number number ∷ Number place ∷ []
operands_of Ledger = []
operands_of Marks = []
operands_of (Copies node number place) = Node node ∷ Number number ∷ Number place ∷ []
operands_of (Lost node number place) = Node node ∷ Number number ∷ Number place ∷ []

-- a line has words, or is skipped
pub data Form (text : List ℕ) (line : ScriptLine) : Type 0 where
  Empty : line ≡ Skipped → IsSkipped text → Form text line
  Worded : 98 ≤ get_or (keyword_of line) 0 0 → SpellsWords text (keyword_of line) (operands_of line) → Form text line

form_of : (text : List ℕ) (line : ScriptLine) → Spells text line → Form text line
form_of text Skipped is = Empty refl is
form_of text (Nodes count) is = Worded (omega arith) is
form_of text (Happens (Connect node)) is = Worded (omega arith) is
form_of text (Happens (Send link octets)) is = Worded (omega arith) is
form_of text (Happens (Carry link node count)) is = Worded (omega arith) is
form_of text (Happens (Break link)) is = Worded (omega arith) is
form_of text (Happens (Tick moment)) is = Worded (omega arith) is
form_of text (Happens (Give node)) is = Worded (omega arith) is
form_of text (Happens (Compact node)) is = Worded (omega arith) is
form_of text (Happens (Stop node calls pick)) is = Worded (omega arith) is
form_of text (Happens (Return node number place)) is = Worded (omega arith) is
form_of text (Happens (Discard node number place)) is = Worded (omega arith) is
form_of text Ledger is = Worded (omega arith) is
form_of text Marks is = Worded (omega arith) is
form_of text (Copies node number place) is = Worded (omega arith) is
form_of text (Lost node number place) is = Worded (omega arith) is

-- the first three octets of a text, which tell the keyword
abbrev front_of : List ℕ → ℕ
front_of text = get_or text 0 0 * 65536 + get_or text 1 0 * 256 + get_or text 2 0

-- the number in an operand, and its octets
abbrev number_in : List Operand → ℕ
number_in [] = 0
number_in (Node index ∷ operands) = index
number_in (Number number ∷ operands) = number
number_in (Count count ∷ operands) = count
number_in (Time seconds ∷ operands) = seconds
number_in (Text octets ∷ operands) = 0

abbrev octets_in : List Operand → List ℕ
octets_in [] = []
octets_in (Node index ∷ operands) = []
octets_in (Number number ∷ operands) = []
octets_in (Count count ∷ operands) = []
octets_in (Time seconds ∷ operands) = []
octets_in (Text octets ∷ operands) = octets

abbrev after_first : List Operand → List Operand
after_first [] = []
after_first (operand ∷ operands) = operands

-- the line of a keyword's first octets and operands
line_of : ℕ → List Operand → ScriptLine
line_of front operands =
    let next = after_first operands in
    let last = after_first next in
    if front == front_of (codes "nodes") then Nodes (number_in operands)
    else if front == front_of (codes "connect") then Happens (Connect (number_in operands))
    else if front == front_of (codes "send") then Happens (Send (number_in operands) (octets_in next))
    else if front == front_of (codes "carry") then Happens (Carry (number_in operands) (number_in next) (number_in last))
    else if front == front_of (codes "break") then Happens (Break (number_in operands))
    else if front == front_of (codes "tick") then Happens (Tick (number_in operands))
    else if front == front_of (codes "give") then Happens (Give (number_in operands))
    else if front == front_of (codes "compact") then Happens (Compact (number_in operands))
    else if front == front_of (codes "stop") then Happens (Stop (number_in operands) (number_in next) (number_in last))
    else if front == front_of (codes "return") then Happens (Return (number_in operands) (number_in next) (number_in last))
    else if front == front_of (codes "discard") then Happens (Discard (number_in operands) (number_in next) (number_in last))
    else if front == front_of (codes "ledger") then Ledger
    else if front == front_of (codes "marks") then Marks
    else if front == front_of (codes "copies") then Copies (number_in operands) (number_in next) (number_in last)
    else if front == front_of (codes "lost") then Lost (number_in operands) (number_in next) (number_in last)
    else Skipped

line_is : (line : ScriptLine) → line_of (front_of (keyword_of line)) (operands_of line) ≡ line
unfolding line_of
line_is Skipped = refl
line_is (Nodes count) = refl
line_is (Happens (Connect node)) = refl
line_is (Happens (Send link octets)) = refl
line_is (Happens (Carry link node count)) = refl
line_is (Happens (Break link)) = refl
line_is (Happens (Tick moment)) = refl
line_is (Happens (Give node)) = refl
line_is (Happens (Compact node)) = refl
line_is (Happens (Stop node calls pick)) = refl
line_is (Happens (Return node number place)) = refl
line_is (Happens (Discard node number place)) = refl
line_is Ledger = refl
line_is Marks = refl
line_is (Copies node number place) = refl
line_is (Lost node number place) = refl

-- the first octets tell the keyword and the kinds of the operands
keyword_is : (line : ScriptLine) → keyword_of (line_of (front_of (keyword_of line)) []) ≡ keyword_of line
unfolding line_of
keyword_is Skipped = refl
keyword_is (Nodes count) = refl
keyword_is (Happens (Connect node)) = refl
keyword_is (Happens (Send link octets)) = refl
keyword_is (Happens (Carry link node count)) = refl
keyword_is (Happens (Break link)) = refl
keyword_is (Happens (Tick moment)) = refl
keyword_is (Happens (Give node)) = refl
keyword_is (Happens (Compact node)) = refl
keyword_is (Happens (Stop node calls pick)) = refl
keyword_is (Happens (Return node number place)) = refl
keyword_is (Happens (Discard node number place)) = refl
keyword_is Ledger = refl
keyword_is Marks = refl
keyword_is (Copies node number place) = refl
keyword_is (Lost node number place) = refl

kinds_are : (line : ScriptLine)
    → map kind_of (operands_of (line_of (front_of (keyword_of line)) [])) ≡ map kind_of (operands_of line)
unfolding line_of
kinds_are Skipped = refl
kinds_are (Nodes count) = refl
kinds_are (Happens (Connect node)) = refl
kinds_are (Happens (Send link octets)) = refl
kinds_are (Happens (Carry link node count)) = refl
kinds_are (Happens (Break link)) = refl
kinds_are (Happens (Tick moment)) = refl
kinds_are (Happens (Give node)) = refl
kinds_are (Happens (Compact node)) = refl
kinds_are (Happens (Stop node calls pick)) = refl
kinds_are (Happens (Return node number place)) = refl
kinds_are (Happens (Discard node number place)) = refl
kinds_are Ledger = refl
kinds_are Marks = refl
kinds_are (Copies node number place) = refl
kinds_are (Lost node number place) = refl

-- what stands after a keyword says nothing of its first octets
front_append : (line : ScriptLine) → 98 ≤ get_or (keyword_of line) 0 0 → (tail : List ℕ)
    → front_of (keyword_of line ++ tail) ≡ front_of (keyword_of line)
front_append Skipped some tail = absurd (omega arith)
front_append (Nodes count) some tail = refl
front_append (Happens (Connect node)) some tail = refl
front_append (Happens (Send link octets)) some tail = refl
front_append (Happens (Carry link node count)) some tail = refl
front_append (Happens (Break link)) some tail = refl
front_append (Happens (Tick moment)) some tail = refl
front_append (Happens (Give node)) some tail = refl
front_append (Happens (Compact node)) some tail = refl
front_append (Happens (Stop node calls pick)) some tail = refl
front_append (Happens (Return node number place)) some tail = refl
front_append (Happens (Discard node number place)) some tail = refl
front_append Ledger some tail = refl
front_append Marks some tail = refl
front_append (Copies node number place) some tail = refl
front_append (Lost node number place) some tail = refl

-- all operands but the last are words without a space
abbrev are_words_but_last : List Operand → Bool
are_words_but_last [] = true
are_words_but_last (operand ∷ []) = true
are_words_but_last (first ∷ second ∷ more) = is_word_kind (kind_of first) && are_words_but_last (second ∷ more)

line_has_words : (line : ScriptLine) → are_words_but_last (operands_of line) ≡ true
line_has_words Skipped = refl
line_has_words (Nodes count) = refl
line_has_words (Happens (Connect node)) = refl
line_has_words (Happens (Send link octets)) = refl
line_has_words (Happens (Carry link node count)) = refl
line_has_words (Happens (Break link)) = refl
line_has_words (Happens (Tick moment)) = refl
line_has_words (Happens (Give node)) = refl
line_has_words (Happens (Compact node)) = refl
line_has_words (Happens (Stop node calls pick)) = refl
line_has_words (Happens (Return node number place)) = refl
line_has_words (Happens (Discard node number place)) = refl
line_has_words Ledger = refl
line_has_words Marks = refl
line_has_words (Copies node number place) = refl
line_has_words (Lost node number place) = refl

-- a word tells the operand of a kind
same_operand : (word : List ℕ) (operand other : Operand) → kind_of operand ≡ kind_of other → IsOperand word operand
    → IsOperand word other
    → operand ≡ other
same_operand word (Node index) (Node next) kind is also =
    let letters : 97 + index ≡ 97 + next = ap (λ l. get_or l 0 0) (sym is.letter ∙ also.letter) in
    ap Node (omega (arith, letters))
same_operand word (Node index) (Number number) kind is also = cc
same_operand word (Node index) (Count count) kind is also = cc
same_operand word (Node index) (Time seconds) kind is also = cc
same_operand word (Node index) (Text octets) kind is also = cc
same_operand word (Number number) (Node index) kind is also = cc
same_operand word (Number number) (Number other) kind is also = ap Number (sym is.value ∙ also.value)
same_operand word (Number number) (Count count) kind is also = cc
same_operand word (Number number) (Time seconds) kind is also = cc
same_operand word (Number number) (Text octets) kind is also = cc
same_operand word (Count count) (Node index) kind is also = cc
same_operand word (Count count) (Number number) kind is also = cc
same_operand word (Count count) (Count other) kind is also = ap Count (sym is.number.value ∙ also.number.value)
same_operand word (Count count) (Time seconds) kind is also = cc
same_operand word (Count count) (Text octets) kind is also = cc
same_operand word (Time seconds) (Node index) kind is also = cc
same_operand word (Time seconds) (Number number) kind is also = cc
same_operand word (Time seconds) (Count count) kind is also = cc
same_operand word (Time seconds) (Time other) kind is also = ap Time (sym is.number.value ∙ also.number.value)
same_operand word (Time seconds) (Text octets) kind is also = cc
same_operand word (Text octets) (Node index) kind is also = cc
same_operand word (Text octets) (Number number) kind is also = cc
same_operand word (Text octets) (Count count) kind is also = cc
same_operand word (Text octets) (Time seconds) kind is also = cc
same_operand word (Text octets) (Text others) kind is also = ap Text (text_tells_octets word octets others is also)

-- a text tells the operands of kinds
same_operands : (text : List ℕ) (operands others : List Operand) → map kind_of operands ≡ map kind_of others
    → are_words_but_last operands ≡ true → SpellsOperands text operands → SpellsOperands text others → operands ≡ others
same_operands text [] [] kinds words one two = refl
same_operands text [] (other ∷ others) kinds words one two = cc
same_operands text (operand ∷ operands) [] kinds words one two = cc
same_operands text (operand ∷ []) (other ∷ []) kinds words one two =
    ap (λ o. o ∷ [])
    (same_operand text operand other (let same : kind_of operand ≡ kind_of other = cc in same)
    (word_of_one text operand one) (word_of_one text other two))
same_operands text (operand ∷ []) (other ∷ next ∷ others) kinds words one two = cc
same_operands text (operand ∷ second ∷ operands) (other ∷ []) kinds words one two = cc
same_operands text (operand ∷ second ∷ operands) (other ∷ next ∷ others) kinds words one two =
    let kind : kind_of operand ≡ kind_of other = cc in
    let rest_kinds : map kind_of (second ∷ operands) ≡ map kind_of (next ∷ others) = cc in
    let parts = and_parts (is_word_kind (kind_of operand)) (are_words_but_last (second ∷ operands)) words in
    let first = first_and_more text operand second operands one in
    let also = first_and_more text other next others two in
    let cut =
    one_cut text first.word also.word first.rest also.rest
    (cut_of text (kind_of operand) operand (second ∷ operands) parts.0 refl first)
    (cut_of text (kind_of operand) other (next ∷ others) parts.0 (sym kind) also) in
    let IsFirst : List ℕ → Type 0 = λ w. IsOperand w other in
    let IsRest : List ℕ → Type 0 = λ r. SpellsOperands r (next ∷ others) in
    let head = same_operand first.word operand other kind first.first_is (subst IsFirst (sym cut.0) also.first_is) in
    let tail = same_operands first.rest (second ∷ operands) (next ∷ others) rest_kinds parts.1 first.rest_is
    (subst IsRest (sym cut.1) also.rest_is) in
    let all : operand ∷ second ∷ operands ≡ other ∷ next ∷ others = cc in all

-- after one keyword
same_words : (text keyword : List ℕ) (operands others : List Operand) → map kind_of operands ≡ map kind_of others
    → are_words_but_last operands ≡ true → SpellsWords text keyword operands → SpellsWords text keyword others → operands ≡ others
same_words text keyword [] [] kinds words one two = refl
same_words text keyword [] (other ∷ others) kinds words one two = cc
same_words text keyword (operand ∷ operands) [] kinds words one two = cc
same_words text keyword (operand ∷ operands) (other ∷ others) kinds words one two =
    let after = after_keyword keyword text operand operands one in
    let also = after_keyword keyword text other others two in
    let rests = append_cancel_left keyword (32 ∷ after.rest) (32 ∷ also.rest) (sym after.text_is ∙ also.text_is) in
    let rest : after.rest ≡ also.rest = cc in
    let IsRest : List ℕ → Type 0 = λ r. SpellsOperands r (other ∷ others) in
    same_operands after.rest (operand ∷ operands) (other ∷ others) kinds words after.spells
    (subst IsRest (sym rest) also.spells)

-- a line of words begins with its keyword
begins_with_keyword : (text keyword : List ℕ) (operands : List Operand) → SpellsWords text keyword operands
    → (tail : List ℕ) × (text ≡ keyword ++ tail)
begins_with_keyword text keyword operands spells = by_words spells.words spells.text_is
  where
    by_words : (words : List (List ℕ)) → text ≡ join_with_byte 32 (keyword ∷ words) → (tail : List ℕ) × (text ≡ keyword ++ tail)
    by_words [] is = ([], is ∙ sym (append-nil keyword))
    by_words (word ∷ words) is = (32 ∷ join_with_byte 32 (word ∷ words), is)

front_is : (text : List ℕ) (line : ScriptLine) → 98 ≤ get_or (keyword_of line) 0 0
    → SpellsWords text (keyword_of line) (operands_of line)
    → front_of text ≡ front_of (keyword_of line)
front_is text line some spells =
    let begins = begins_with_keyword text (keyword_of line) (operands_of line) spells in
    ap front_of begins.1 ∙ front_append line some begins.0

-- a skipped line has no keyword
not_skipped : (text : List ℕ) (line : ScriptLine) → 98 ≤ get_or (keyword_of line) 0 0
    → SpellsWords text (keyword_of line) (operands_of line)
    → IsSkipped text → ⊥
not_skipped text line some spells skipped =
    let begins = begins_with_keyword text (keyword_of line) (operands_of line) spells in
    by_keyword (keyword_of line) begins.0 some (subst IsSkipped begins.1 skipped)
  where
    by_keyword : (keyword tail : List ℕ) → 98 ≤ get_or keyword 0 0 → IsSkipped (keyword ++ tail) → ⊥
    by_keyword [] tail some skipped = omega arith
    by_keyword (octet ∷ keyword) tail some skipped = omega (arith, skipped)

same_line : (text : List ℕ) (line other : ScriptLine) → front_of (keyword_of line) ≡ front_of (keyword_of other)
    → SpellsWords text (keyword_of line) (operands_of line) → SpellsWords text (keyword_of other)
    (operands_of other) → line ≡ other
same_line text line other front one two =
    let keywords : keyword_of line ≡ keyword_of other =
    sym (keyword_is line) ∙ ap (λ f. keyword_of (line_of f [])) front ∙ keyword_is other in
    let kinds : map kind_of (operands_of line) ≡ map kind_of (operands_of other) =
    sym (kinds_are line) ∙ ap (λ f. map kind_of (operands_of (line_of f []))) front ∙ kinds_are other in
    let Spelled : List ℕ → Type 0 = λ k. SpellsWords text k (operands_of other) in
    let operands =
    same_words text (keyword_of line) (operands_of line) (operands_of other) kinds (line_has_words line) one
    (subst Spelled (sym keywords) two) in
    sym (line_is line) ∙ ap (λ f. line_of f (operands_of line)) front ∙ ap (line_of (front_of (keyword_of other))) operands
    ∙ line_is other

pub text_tells_line : TextTellsLine
text_tells_line text line other one two =
    elim (form_of text line one) [
      | Empty is skipped ↦ elim (form_of text other two) [
        | Empty also more ↦ is ∙ sym also
        | Worded some words ↦ absurd (not_skipped text other some words skipped)
      ]
      | Worded some words ↦ elim (form_of text other two) [
        | Empty also skipped ↦ absurd (not_skipped text line some words skipped)
        | Worded more others ↦
            same_line text line other (sym (front_is text line some words) ∙ front_is text other more others) words others
      ]
    ]

-- Lines of a script, without their LF: a keyword and its operands, one space apart.
use Rattle.std.specs.Prelude.{◌≡◌, ℕ, List, [], ◌∷◌, codes, ⊤}
use Rattle.std.specs.List.{join_with_byte}
use Rattle.relay_script.specs.Text.{SpellsOctets}
use Rattle.relay_script.specs.Word.{IsMoment, IsNode, IsNodeCount, IsNumber}
use Rattle.relay_script.specs.declared.event.Event.{Event}
use Rattle.relay_script.specs.declared.event.Event.TheVariants.{Connect, Send, Carry, Break, Tick, Give, Compact, Stop}
use Rattle.relay_script.specs.declared.event.Event.TheVariants.{Return, Discard}
use Rattle.relay_script.specs.declared.event.ScriptLine.{ScriptLine}
use Rattle.relay_script.specs.declared.event.ScriptLine.TheVariants.{Skipped, Nodes, Event as Happens, Ledger, Marks}
use Rattle.relay_script.specs.declared.event.ScriptLine.TheVariants.{Copies, Lost}

-- what is after a keyword
pub data Operand : Type 0 where
  Node : ℕ → Operand
  Number : ℕ → Operand
  Count : ℕ → Operand
  Time : ℕ → Operand
  Text : List ℕ → Operand

-- the word that spells an operand; the text of octets is one word here, with the spaces in it
abbrev pub IsOperand : List ℕ → Operand → Type 0
IsOperand word (Node index) = IsNode word index
IsOperand word (Number number) = IsNumber word number
IsOperand word (Count count) = IsNodeCount word count
IsOperand word (Time seconds) = IsMoment word seconds
IsOperand word (Text octets) = SpellsOctets word octets

-- each word spells its operand
abbrev pub AreOperands : List (List ℕ) → List Operand → Type 0
AreOperands [] [] = ⊤
AreOperands [] (operand ∷ operands) = ⊥
AreOperands (word ∷ words) [] = ⊥
AreOperands (word ∷ words) (operand ∷ operands) = IsOperand word operand × AreOperands words operands

-- the text is the keyword and the words of the operands, one space apart
pub record SpellsWords (text keyword : List ℕ) (operands : List Operand) : Type 0 where
  pub words : List (List ℕ)
  pub are_operands : AreOperands words operands
  pub text_is : text ≡ join_with_byte 32 (keyword ∷ words)

-- the text spells an event
abbrev pub SpellsEvent : List ℕ → Event → Type 0
SpellsEvent text (Connect node) = SpellsWords text (codes "connect") (Node node ∷ [])
SpellsEvent text (Send link octets) = SpellsWords text (codes "send") (Number link ∷ Text octets ∷ [])
SpellsEvent text (Carry link node count) =
    SpellsWords text (codes "carry") (Number link ∷ Node node ∷ Number count ∷ [])
SpellsEvent text (Break link) = SpellsWords text (codes "break") (Number link ∷ [])
SpellsEvent text (Tick moment) = SpellsWords text (codes "tick") (Time moment ∷ [])
SpellsEvent text (Give node) = SpellsWords text (codes "give") (Node node ∷ [])
SpellsEvent text (Compact node) = SpellsWords text (codes "compact") (Node node ∷ [])
SpellsEvent text (Stop node calls pick) =
    SpellsWords text (codes "stop") (Node node ∷ Number calls ∷ Number pick ∷ [])
SpellsEvent text (Return node number place) =
    SpellsWords text (codes "return") (Node node ∷ Number number ∷ Number place ∷ [])
SpellsEvent text (Discard node number place) =
    SpellsWords text (codes "discard") (Node node ∷ Number number ∷ Number place ∷ [])

-- the text is empty, or begins with `#`
abbrev pub IsSkipped : List ℕ → Type 0
IsSkipped [] = ⊤
IsSkipped (octet ∷ rest) = octet ≡ 35

-- the text spells a line
abbrev pub Spells : List ℕ → ScriptLine → Type 0
Spells text Skipped = IsSkipped text
Spells text (Nodes count) = SpellsWords text (codes "nodes") (Count count ∷ [])
Spells text (Happens event) = SpellsEvent text event
Spells text Ledger = SpellsWords text (codes "ledger") []
Spells text Marks = SpellsWords text (codes "marks") []
Spells text (Copies node number place) =
    SpellsWords text (codes "copies") (Node node ∷ Number number ∷ Number place ∷ [])
Spells text (Lost node number place) =
    SpellsWords text (codes "lost") (Node node ∷ Number number ∷ Number place ∷ [])

-- the text spells no line
pub record SpellsNoLine (text : List ℕ) : Type 0 where
  pub absent : (line : ScriptLine) → ¬ Spells text line

-- A text spells one line at most.
abbrev pub TextTellsLine : Type 0
TextTellsLine = (text : List ℕ) (line other : ScriptLine) → Spells text line → Spells text other → line ≡ other

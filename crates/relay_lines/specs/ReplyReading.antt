-- Replies that are read (RFC 5321, section 4.2): whole ones, a rest that isn't whole, and where a
-- rest has a fault.
use Rattle.std.specs.Prelude.{◌≡◌, ◌≢◌, ◌⊎◌, ℕ, ◌<◌, ◌≤◌, Bool, List, [], ◌∷◌, ◌++◌, length}
use Rattle.std.specs.List.{AllByRecursion}
use Rattle.relay_octets.specs.Line.{HasNoCrlf, ReadsLine}
use Rattle.relay_lines.specs.Reply.{Reply, IsReplyLine, IsCode, SpellsLine, ReadsReply, followed_lines}
use Rattle.relay_lines.specs.declared.reply_reader.ReplyFault.{ReplyFault}
use Rattle.relay_lines.specs.declared.reply_reader.ReplyFault.TheVariants.{BadLine, MixedCodes, TooLong, NoMemory}

-- lines of one reply, each of which another follows
pub record AreFollowed (code : ℕ) (lines : List (List ℕ)) : Type 0 where
  pub code_is : IsCode code
  pub few : length lines ≤ 100
  pub each : AllByRecursion IsReplyLine lines

-- The octets begin a reply and aren't whole: lines that another follows, and a part of the next
-- line, which may still be short enough. profile: a line is judged when it is whole, or 2,048
-- octets of it have come
pub record IsUnfinished (octets : List ℕ) : Type 0 where
  pub code : ℕ
  pub lines : List (List ℕ)
  pub part : List ℕ
  pub followed : AreFollowed code lines
  pub unended : HasNoCrlf part
  pub short : length part < 2048
  pub octets_are : octets ≡ followed_lines code lines ++ part

-- the octets begin with this line and its CR LF, 2,048 octets at most; or it is their first 2,048 octets, and no CR LF
-- is in it
abbrev pub ShowsLine : List ℕ → List ℕ → Type 0
ShowsLine octets line =
    ((rest : List ℕ) × ReadsLine octets line rest × (length line ≤ 2046))
    ⊎ ((rest : List ℕ) × (octets ≡ line ++ rest) × HasNoCrlf line × (length line ≡ 2048))

-- the line is none of a reply: it has no code, or another octet after that than a hyphen or a
-- space
pub record IsNoReplyLine (line : List ℕ) : Type 0 where
  pub none : (code : ℕ) (is_last : Bool) (text : List ℕ) → ¬ SpellsLine line code is_last text

-- the line is one of a reply with this code, the last one or not
pub record IsLineOf (line : List ℕ) (code : ℕ) : Type 0 where
  pub is_last : Bool
  pub text : List ℕ
  pub spells : SpellsLine line code is_last text

-- The rule that a line breaks after these lines of a reply. Of two that it breaks the first
-- counts: a line that is none, then another code, then a line that is too long or the 101st.
abbrev pub Breaks : ReplyFault → ℕ → List (List ℕ) → List ℕ → Type 0
Breaks BadLine code lines line = IsNoReplyLine line
Breaks MixedCodes code lines line =
    (other : ℕ) × IsLineOf line other × (0 < length lines) × (other ≢ code)
Breaks TooLong code lines line =
    (other : ℕ) × IsLineOf line other × (0 < length lines → other ≡ code)
    × ((2046 < length line) ⊎ (100 ≤ length lines))
Breaks NoMemory code lines line = ⊥

-- the octets begin with lines of a reply, and the line after them breaks a rule
pub record HasFault (octets : List ℕ) (fault : ReplyFault) : Type 0 where
  pub code : ℕ
  pub lines : List (List ℕ)
  pub line : List ℕ
  pub rest : List ℕ
  pub followed : AreFollowed code lines
  pub octets_are : octets ≡ followed_lines code lines ++ rest
  pub shows : ShowsLine rest line
  pub breaks : Breaks fault code lines line

-- the octets are these replies, one after another, and a rest
abbrev pub CutsReplies : List ℕ → List Reply → List ℕ → Type 0
CutsReplies octets [] rest = octets ≡ rest
CutsReplies octets (reply ∷ replies) rest =
    (text more : List ℕ) × ReadsReply text reply × (octets ≡ text ++ more) × CutsReplies more replies rest

-- no reply can be cut from the octets: they aren't whole, or have a fault
abbrev pub EndsCut : List ℕ → Type 0
EndsCut octets = IsUnfinished octets ⊎ ((fault : ReplyFault) × HasFault octets fault)

-- the octets are these replies and a rest from which no further one can be cut
pub record CutsAllReplies (octets : List ℕ) (replies : List Reply) (rest : List ℕ) : Type 0 where
  pub cut : CutsReplies octets replies rest
  pub ends : EndsCut rest

-- The rows of the page's tables, in which octets from elsewhere are escaped.
use Rattle.std.specs.Prelude.{ℕ, ◌-◌, List, [], ◌∷◌, ◌++◌, codes, decimal}
use Rattle.std.specs.List.{flat_map}
use Rattle.relay_listing.specs.Amounts.{size_text, span_text, wait_text}
use Rattle.relay_listing.specs.Pieces.{escaped, joined}
use Rattle.relay_page.specs.declared.rows.LastReply.{LastReply}
use Rattle.relay_page.specs.declared.rows.LastReply.TheVariants.{Failed, NoneYet, Replied}
use Rattle.relay_page.specs.declared.rows.Waiting.{Waiting}
use Rattle.relay_listing.specs.declared.load.Load.{Load}

-- profile: the text for recipients without a next hop
abbrev pub shown_name : List ℕ → List ℕ
shown_name [] = codes "no route"
shown_name (octet ∷ octets) = octet ∷ octets

-- what a next hop has replied last, or why its last connection failed, and how long ago
unfoldable pub reply_text : LastReply → ℕ → List ℕ
reply_text NoneYet now = codes "none yet"
reply_text (Replied reply at) now = joined (
    escaped reply.now ∷ codes " <small>" ∷ span_text (now - at) ∷ codes " ago</small>" ∷ [])
reply_text (Failed reason at) now = joined (
    codes "no reply: " ∷ escaped reason.now ∷ codes " <small>" ∷ span_text (now - at) ∷ codes " ago</small>" ∷ [])

-- the cells of a next hop's load: its name, what is queued for it, the age of the oldest message, and the next try
unfoldable pub load_cells : List ℕ → Load → ℕ → List ℕ
load_cells name load now = joined (
    codes "<tr><th scope=\"row\">" ∷ escaped (shown_name name)
    ∷ codes "</th><td data-name=\"Messages\">" ∷ decimal load.messages
    ∷ codes "</td><td data-name=\"Recipients\">" ∷ decimal load.recipients
    ∷ codes "</td><td data-name=\"Size\">" ∷ size_text load.octets
    ∷ codes "</td><td data-name=\"Oldest\">" ∷ span_text (now - load.oldest)
    ∷ codes "</td><td data-name=\"Next try\">" ∷ wait_text (load.due - now)
    ∷ codes "</td><td class=\"l\" data-name=\"Last reply\"><span>" ∷ [])

-- the row of a next hop: its load, and its last reply
abbrev pub hop_row : List ℕ → Load → LastReply → ℕ → List ℕ
hop_row name load reply now =
    load_cells name load now ++ reply_text reply now ++ codes "</span></td></tr>\n"

-- the row of a recipient: its message's number and age, its paths, how often it was tried, and its next try
unfoldable pub waiting_row : Waiting → ℕ → List ℕ
waiting_row waiting now = joined (
    codes "<tr><th scope=\"row\">" ∷ decimal waiting.number
    ∷ codes "</th><td class=\"l\" data-name=\"From\">" ∷ escaped waiting.reverse_path.now
    ∷ codes "</td><td class=\"l\" data-name=\"To\">" ∷ escaped waiting.path.now
    ∷ codes "</td><td data-name=\"Age\">" ∷ span_text (now - waiting.accepted)
    ∷ codes "</td><td data-name=\"Tries\">" ∷ decimal waiting.tries
    ∷ codes "</td><td data-name=\"Next try\">" ∷ wait_text (waiting.due - now)
    ∷ codes "</td></tr>\n" ∷ [])

-- the rows of recipients
abbrev pub waiting_rows : List Waiting → ℕ → List ℕ
waiting_rows all now = flat_map (λ waiting. waiting_row waiting now) all

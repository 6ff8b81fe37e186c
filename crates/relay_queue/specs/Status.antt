-- The summary of the queue by next hop: a heading, a line for each, and how full the spool is.
use Rattle.std.specs.Prelude.{◌≡◌, ℕ, ◌*◌, ◌/◌, ◌-◌, ◌^◌, min, max, List, [], ◌∷◌, ◌++◌, codes, decimal, map}
use Rattle.std.specs.List.{flat_map}
use Rattle.relay_listing.specs.Amounts.{size_text, span_text}
use Rattle.relay_listing.specs.Metrics.{head_of, metrics_by_hop, sample_text}
use Rattle.relay_listing.specs.declared.load.Load.{Load}
use Rattle.relay_listing.specs.declared.metrics.Course.TheVariants.{Gauge}
use Rattle.relay_queue.specs.Screen.{padding, shown, shown_lines}
use Rattle.relay_queue.specs.Table.{left_cell, right_cell}

-- profile: the text for recipients without a next hop
abbrev pub shown_name : List ℕ → List ℕ
shown_name [] = codes "-"
shown_name (octet ∷ octets) = octet ∷ octets

-- how many messages and recipients are queued
abbrev pub counts_text : Load → List ℕ
counts_text load = right_cell 12 (decimal load.messages) ++ right_cell 12 (decimal load.recipients)

-- how many octets the messages have, and how old the oldest is
abbrev pub amounts_text : ℕ → Load → List ℕ
amounts_text now load = right_cell 12 (size_text load.octets) ++ right_cell 8 (span_text (now - load.oldest))

-- when a recipient is due first, as this text shows that time
abbrev pub next_try_text : List ℕ → List ℕ
next_try_text time = padding 2 ++ shown time ++ codes "\n"

-- the line of a next hop, with a text for the time at which a recipient is due first
abbrev pub load_line : ℕ → (List ℕ × Load) × List ℕ → List ℕ
load_line now row =
    left_cell 24 (shown_name row.0.0) ++ counts_text row.0.1 ++ amounts_text now row.0.1 ++ next_try_text row.1

-- the line of headings
abbrev pub hop_headings : List ℕ
hop_headings =
    left_cell 24 (codes "HOP") ++ right_cell 12 (codes "MESSAGES") ++ right_cell 12 (codes "RECIPIENTS")

abbrev pub amount_headings : List ℕ
amount_headings = right_cell 12 (codes "SIZE") ++ right_cell 8 (codes "OLDEST")

abbrev pub load_headings : List ℕ
load_headings = hop_headings ++ amount_headings ++ codes "  NEXT TRY\n"

-- no next hops have no headings
abbrev pub headings_of : List (List ℕ × Load) → List ℕ
headings_of [] = []
headings_of (load ∷ loads) = load_headings

-- how full a spool of a size is, by a limit, both in octets
abbrev pub fill_text : ℕ → ℕ → List ℕ
fill_text size limit =
    codes "spool " ++ size_text size ++ codes " of " ++ size_text limit ++ codes ", "
    ++ decimal (min (size * 100) (2 ^ 64 - 1) / max limit 1) ++ codes " %\n"

-- the lines of next hops with these loads were added
abbrev pub AddsLoads : ℕ → List (List ℕ × Load) → List ℕ → List ℕ → Type 0
AddsLoads now loads old new =
    (rows : List ((List ℕ × Load) × List ℕ)) × (map (λ row. row.0) rows ≡ loads)
    × (new ≡ old ++ flat_map (load_line now) rows)

-- the summary of next hops with these loads, for people
pub record IsSummary (now : ℕ) (loads : List (List ℕ × Load)) (size limit : ℕ) (text : List ℕ) : Type 0 where
  pub rows : List ((List ℕ × Load) × List ℕ)
  pub rows_are : map (λ row. row.0) rows ≡ loads
  pub text_is : text ≡ headings_of loads ++ flat_map (load_line now) rows ++ fill_text size limit

-- a gauge with one sample
abbrev pub gauge_text : List ℕ → List ℕ → ℕ → List ℕ
gauge_text name help value = head_of name Gauge help ++ sample_text name value

-- the gauges of a spool
abbrev pub spool_metrics : ℕ → ℕ → List ℕ
spool_metrics size limit =
    gauge_text (codes "relayd_spool_bytes") (codes "Octets of the spool file in use.") size
    ++ gauge_text (codes "relayd_spool_limit_bytes") (codes "Octets that the spool file may take.") limit

-- the same as metrics, as a terminal shows them
abbrev pub metrics_text : ℕ → List (List ℕ × Load) → ℕ → ℕ → List ℕ
metrics_text now loads size limit = shown_lines (metrics_by_hop now loads ++ spool_metrics size limit)

-- Metrics in Prometheus' text exposition format, version 0.0.4.
use Rattle.std.specs.Prelude.{ℕ, ◌-◌, List, [], ◌∷◌, ◌++◌, codes, decimal}
use Rattle.std.specs.List.{flat_map}
use Rattle.relay_listing.specs.Pieces.{escaped, joined}
use Rattle.relay_listing.specs.declared.load.Load.{Load}
use Rattle.relay_listing.specs.declared.metrics.ByHop.{ByHop}
use Rattle.relay_listing.specs.declared.metrics.ByHop.TheVariants.{Messages, Recipients, Octets, OldestAge, NextTry}
use Rattle.relay_listing.specs.declared.metrics.Course.{Course}
use Rattle.relay_listing.specs.declared.metrics.Course.TheVariants.{Counter, Gauge}

-- the type of a metric, in words
abbrev pub kind_text : Course → List ℕ
kind_text Counter = codes "counter"
kind_text Gauge = codes "gauge"

-- the lines that give a metric's description and type
abbrev pub head_of : List ℕ → Course → List ℕ → List ℕ
head_of name course help = joined (
    codes "# HELP " ∷ name ∷ codes " " ∷ help
    ∷ codes "\n# TYPE " ∷ name ∷ codes " " ∷ kind_text course ∷ codes "\n" ∷ [])

-- a sample's line: its metric's name and its value
abbrev pub sample_text : List ℕ → ℕ → List ℕ
sample_text name value = joined (name ∷ codes " " ∷ decimal value ∷ codes "\n" ∷ [])

-- a sample's line, with a label
abbrev pub labelled_text : List ℕ → List ℕ → List ℕ → ℕ → List ℕ
labelled_text name label of value = joined (
    name ∷ codes "{" ∷ label ∷ codes "=\"" ∷ escaped of ∷ codes "\"} " ∷ decimal value ∷ codes "\n" ∷ [])

-- the metrics of a next hop: what is queued for it, how old its oldest message is, and when a recipient is due first
abbrev pub name_by_hop : ByHop → List ℕ
name_by_hop Messages = codes "relayd_queue_messages"
name_by_hop Recipients = codes "relayd_queue_recipients"
name_by_hop Octets = codes "relayd_queue_bytes"
name_by_hop OldestAge = codes "relayd_queue_oldest_age_seconds"
name_by_hop NextTry = codes "relayd_queue_next_try_timestamp_seconds"

abbrev pub help_by_hop : ByHop → List ℕ
help_by_hop Messages = codes "Queued messages by next hop."
help_by_hop Recipients = codes "Queued recipients by next hop."
help_by_hop Octets = codes "Octets of queued messages by next hop."
help_by_hop OldestAge = codes "Age of the oldest queued message by next hop."
help_by_hop NextTry = codes "Time at which a recipient is due first, by next hop."

abbrev pub value_by_hop : ByHop → ℕ → Load → ℕ
value_by_hop Messages now load = load.messages
value_by_hop Recipients now load = load.recipients
value_by_hop Octets now load = load.octets
value_by_hop OldestAge now load = now - load.oldest
value_by_hop NextTry now load = load.due

-- the sample of a next hop, with its name as the label
abbrev pub sample_by_hop : ByHop → ℕ → List ℕ × Load → List ℕ
sample_by_hop metric now load =
    labelled_text (name_by_hop metric) (codes "hop") load.0 (value_by_hop metric now load.1)

-- a metric of these next hops
abbrev pub metric_by_hop : ByHop → ℕ → List (List ℕ × Load) → List ℕ
metric_by_hop metric now loads =
    head_of (name_by_hop metric) Gauge (help_by_hop metric) ++ flat_map (sample_by_hop metric now) loads

-- all metrics of these next hops
abbrev pub metrics_by_hop : ℕ → List (List ℕ × Load) → List ℕ
metrics_by_hop now loads =
    metric_by_hop Messages now loads ++ metric_by_hop Recipients now loads ++ metric_by_hop Octets now loads
    ++ metric_by_hop OldestAge now loads ++ metric_by_hop NextTry now loads

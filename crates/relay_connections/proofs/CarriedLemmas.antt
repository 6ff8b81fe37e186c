-- What a connection carries, as its octets are read and written, and what the peers of those that leave get.
use Rattle.std.proofs.Common.{◌≡◌, ◌≤◌, ◌⊎◌, inl, inr, ℕ, List, [], ◌++◌, Option, None, Some, Box, drop, take, length, refl, sym, ap, ◌∙◌, subst, append-nil}
use Rattle.std.specs.Global.{Global}
use Rattle.std.specs.Io.KnownBytes.{Appends, Consumes, Keeps, append_known, prepend_known}
use Rattle.relay_slots.specs.Slots.{slot_at}
use Rattle.relay_server.specs.Dialogue.{Said}
use Rattle.relay_server.specs.Setup.{Setup}
use Rattle.relay_loop.specs.Outboxes.{unwritten_at}
use Rattle.relay_loop.specs.Relay.{RelayState}
use Rattle.relay_connections.specs.Carried.{Beginning, Begins, Carries, CarriesLast, GetsDialogue, IsLastLine, Setting, beginning_of, input_after, output_and, setup_at}
use Rattle.relay_connections.specs.Channel.{KeepsInput, KeepsOutput, held_of, output_of, unread_of}
use Rattle.relay_connections.specs.Exchange.{Hands, Uses}
use Rattle.relay_connections.specs.Leaving.{ClientsJoin, MayJoin, MayTake, whole_output}
use Rattle.relay_connections.specs.declared.channel.Channel.{Channel}
use Rattle.relay_connections.specs.declared.leaving.Leaver.{Leaver}
use Rattle.relay_connections.proofs.KnownLemmas.{appends_first, appends_more, appends_on, consumes_more, consumes_none, consumes_on, keeps_same, used_and_rest}

module _ {S : Type 0} (remaining contents : S → Option (List ℕ)) where
  -- nothing of it is lost, and nothing else is heard or said
  pub carries_on : (beginning : Beginning) (heard later : ℕ) (before after : Channel S) (said : Said) (waiting left : List ℕ)
      → Keeps (input_after remaining contents heard before) (input_after remaining contents later after)
      → Keeps (output_and remaining contents before waiting) (output_and remaining contents after left)
      → Carries remaining contents beginning heard before said waiting → Carries remaining contents beginning later after said left
  carries_on beginning heard later before after said waiting left input output carries = record {
    input = consumes_on beginning.input (input_after remaining contents heard before) (input_after remaining contents later after) said.input carries.input input;
    output = appends_on beginning.output (output_and remaining contents before waiting) (output_and remaining contents after left) said.output carries.output output;
  }

  -- what was heard is used
  pub uses_heard : (count : ℕ) (before after : Channel S) → Uses remaining count before after
      → Keeps (input_after remaining contents count before) (input_after remaining contents 0 after)
  uses_heard count before after uses =
      keeps_same (input_after remaining contents count before) (input_after remaining contents 0 after)
      (ap (λ (octets : List ℕ). prepend_known octets (remaining before.stream)) (sym uses.unread)
      ∙ ap (λ known. prepend_known (unread_of after) known) (sym uses.left))

  -- nothing was written
  pub keeps_output : (before after : Channel S) (waiting : List ℕ) → KeepsOutput remaining contents before after
      → Keeps (output_and remaining contents before waiting) (output_and remaining contents after waiting)
  keeps_output before after waiting output =
      keeps_same (output_and remaining contents before waiting) (output_and remaining contents after waiting)
      (ap (λ (held : List ℕ). append_known (append_known (contents before.stream) held) waiting) (sym output.held)
      ∙ ap (λ known. append_known (append_known known after.held) waiting) (sym output.taken))

  -- a connection has begun, and was greeted
  pub carries_first : (address : List ℕ) (stream : S) (channel : Channel S) (said : Said) (output waiting : List ℕ) → said.input ≡ [] → said.output ≡ output
      → Begins remaining contents stream output channel waiting → Carries remaining contents (beginning_of remaining contents address stream) 0 channel said waiting
  carries_first address stream channel said output waiting none first begins = record {
    input =
        subst (λ (octets : List ℕ). Consumes (remaining stream) (input_after remaining contents 0 channel) octets) (sym none)
        (consumes_none (remaining stream) (input_after remaining contents 0 channel) begins.input);
    output =
        subst (λ (octets : List ℕ). Appends (contents stream) (output_and remaining contents channel waiting) octets) (sym first)
        (appends_first (contents stream) (output_and remaining contents channel waiting) output begins.said);
  }

  -- more was heard, of which nothing had been, and more is said, where nothing waited
  pub carries_more : (beginning : Beginning) (channel : Channel S) (said later : Said) (waiting left : List ℕ) (count many : ℕ)
      → count ≤ length (take many (unread_of channel)) → later.input ≡ said.input ++ take count (take many (unread_of channel))
      → waiting ≡ [] → later.output ≡ said.output ++ left
      → Carries remaining contents beginning 0 channel said waiting → Carries remaining contents beginning count channel later left
  carries_more beginning channel said later waiting left count many within input none output carries = record {
    input = consumes_more beginning.input (remaining channel.stream) said.input (take count (take many (unread_of channel))) (drop count (unread_of channel)) (unread_of channel) later.input
        carries.input (used_and_rest count many (unread_of channel) within) input;
    output = appends_more beginning.output (output_of remaining contents channel) said.output waiting left later.output carries.output none output;
  }

  -- the same connection, of which something more is used
  pub last_on : (setup : Setup) (beginning : Beginning) (heard later : ℕ) (before after : Channel S) (last : List ℕ)
      → Keeps (input_after remaining contents heard before) (input_after remaining contents later after)
      → ((waiting : List ℕ) → Keeps (output_and remaining contents before waiting) (output_and remaining contents after waiting))
      → CarriesLast remaining contents setup beginning heard before last → CarriesLast remaining contents setup beginning later after last
  last_on setup beginning heard later before after last input output carries = record {
    said = carries.said;
    dialogue = carries.dialogue;
    carries = by carries.carries;
  }
    where
      Its : Type 0
      Its = Carries remaining contents beginning heard before carries.said last
          ⊎ (Carries remaining contents beginning heard before carries.said [] × IsLastLine setup.host last)

      by : Its → Carries remaining contents beginning later after carries.said last
          ⊎ (Carries remaining contents beginning later after carries.said [] × IsLastLine setup.host last)
      by (inl all) = inl (carries_on beginning heard later before after carries.said last last input (output last) all)
      by (inr (all, line)) = inr (carries_on beginning heard later before after carries.said [] [] input (output []) all, line)

  -- what the peer of such a connection gets
  gets_last : (setup : Setup) (beginning : Beginning) (channel : Channel S) (last : List ℕ)
      → CarriesLast remaining contents setup beginning 0 channel last → GetsDialogue setup beginning (output_and remaining contents channel last)
  gets_last setup beginning channel last carries = record {
    said = carries.said;
    dialogue = carries.dialogue;
    gets = by carries.carries;
  }
    where
      by : (Carries remaining contents beginning 0 channel carries.said last)
          ⊎ (Carries remaining contents beginning 0 channel carries.said [] × IsLastLine setup.host last)
          → Appends beginning.output (output_and remaining contents channel last) carries.said.output
          ⊎ ((line : List ℕ) × IsLastLine setup.host line × Appends beginning.output (output_and remaining contents channel last) (carries.said.output ++ line))
      by (inl all) = inl all.output
      by (inr (all, line)) =
          inr (last, line, appends_more beginning.output (output_of remaining contents channel) carries.said.output [] last (carries.said.output ++ last) all.output refl refl)

  gets_on : (setup : Setup) (beginning : Beginning) (output later : Option (List ℕ)) → Keeps output later → GetsDialogue setup beginning output → GetsDialogue setup beginning later
  gets_on setup beginning output later keeps gets = record {
    said = gets.said;
    dialogue = gets.dialogue;
    gets = elim gets.gets [
      | inl all ↦ inl (appends_on beginning.output output later gets.said.output all keeps)
      | inr all ↦ inr (all.0, all.1, appends_on beginning.output output later (gets.said.output ++ all.0) all.2 keeps)
    ];
  }

  -- none joins those that leave
  pub none_join : (setting : Setting) (leavers : List (Option (Box (Leaver S) Global))) → ClientsJoin remaining contents setting leavers leavers
  none_join setting leavers number = by (slot_at leavers number) where
    by : (slot : Option (Box (Leaver S) Global)) → MayJoin remaining contents setting slot slot
    by None = tt
    by (Some leaver) = refl

  -- more join them
  pub more_join : (setting : Setting) (one two three : List (Option (Box (Leaver S) Global)))
      → ClientsJoin remaining contents setting one two → ClientsJoin remaining contents setting two three → ClientsJoin remaining contents setting one three
  more_join setting one two three first second number = by (slot_at one number) (slot_at two number) (slot_at three number) (first number) (second number) where
    by : (was is new : Option (Box (Leaver S) Global)) → MayJoin remaining contents setting was is → MayJoin remaining contents setting is new → MayJoin remaining contents setting was new
    by None None new may joins = joins
    by None (Some leaver) new may same = subst (λ (slot : Option (Box (Leaver S) Global)). MayJoin remaining contents setting None slot) (sym same) may
    by (Some leaver) None new same joins = absurd (cc same)
    by (Some leaver) (Some other) new same joins = joins ∙ same

  -- one that leaves with its last octets joins them
  pub leaves_join : (setting : Setting) (session : ℕ) (channel : Channel S) (last : List ℕ) (old new : List (Option (Box (Leaver S) Global)))
      → CarriesLast remaining contents (setup_at setting session) (setting.beginnings session) 0 channel last
      → ((number : ℕ) → MayTake remaining contents channel last None (slot_at old number) (slot_at new number)) → ClientsJoin remaining contents setting old new
  leaves_join setting session channel last old new carries takes number = by (slot_at old number) (slot_at new number) (takes number) where
    by : (was is : Option (Box (Leaver S) Global)) → MayTake remaining contents channel last None was is → MayJoin remaining contents setting was is
    by None None may = tt
    by None (Some leaver) one = (
      one.place_is,
      session,
      gets_on (setup_at setting session) (setting.beginnings session) (output_and remaining contents channel last) (whole_output remaining contents leaver.value) one.output_is
          (gets_last (setup_at setting session) (setting.beginnings session) channel last carries),
    )
    by (Some leaver) is same = same

nothing_before : (known : Option (List ℕ)) → prepend_known [] known ≡ known
nothing_before None = refl
nothing_before (Some octets) = refl

nothing_after : (known : Option (List ℕ)) → append_known known [] ≡ known
nothing_after None = refl
nothing_after (Some octets) = ap Some (append-nil octets)

-- a connection has begun, and of what waited for it something may have been written
module _ {D S : Type 0} (remaining contents : S → Option (List ℕ)) where
  pub begins_on : (session : ℕ) (old new : RelayState D) (stream : S) (first told after : Channel S)
      → remaining first.stream ≡ remaining stream → contents first.stream ≡ contents stream → unread_of first ≡ [] → held_of first ≡ []
      → KeepsInput remaining contents first told → KeepsOutput remaining contents first told → Hands remaining contents session old new told after
      → Begins remaining contents stream (unwritten_at old.clients session) after (unwritten_at new.clients session)
  begins_on session old new stream first told after left taken unread held input output hands = record {
    input = keeps_same (remaining stream) (prepend_known after.block (remaining after.stream)) (sym all);
    said = subst (λ known. Keeps known (output_and remaining contents after (unwritten_at new.clients session))) greeted hands.handed.said;
  }
    where
      all : prepend_known after.block (remaining after.stream) ≡ remaining stream
      all =
          ap (λ (octets : List ℕ). prepend_known octets (remaining after.stream)) (hands.input.unread ∙ input.unread ∙ unread)
          ∙ nothing_before (remaining after.stream) ∙ hands.input.left ∙ input.left ∙ left

      greeted : append_known (append_known (contents told.stream) told.held) (unwritten_at old.clients session) ≡ append_known (contents stream) (unwritten_at old.clients session)
      greeted =
          ap (λ known. append_known known (unwritten_at old.clients session))
          (ap (λ (octets : List ℕ). append_known (contents told.stream) octets) (output.held ∙ held) ∙ nothing_after (contents told.stream) ∙ output.taken ∙ taken)

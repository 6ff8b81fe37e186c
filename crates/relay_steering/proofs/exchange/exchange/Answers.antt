-- The octets that were read after the request are those of the stream, up to the most of an answer.
use Rattle.std.proofs.Common.{◌≡◌, ◌∙◌, ap, subst, ℕ, List, [], ◌∷◌, ◌++◌, Option, None, Some, option_map, take}
use Rattle.std.specs.Prelude.{IfSome}
use Rattle.std.specs.Io.KnownBytes.{Appends}
use Rattle.std.specs.Io.Take.{take_inner, take_limit, take_remaining}
use Rattle.std.specs.declared.io.traits.Take.{Take}
use Rattle.relay_control.specs.Request.{request_text}
use Rattle.relay_steering.specs.declared.exchange.TheConstants.{MOST_OCTETS}
use Rattle.relay_steering.proofs.exchange.exchange.Goals as goal

up_to : (known : Option (List ℕ)) (most : ℕ) (old new : List ℕ) → old ≡ [] → IfSome (option_map (take most) known) (λ given. new ≡ old ++ given)
    → IfSome known (λ left. new ≡ take most left)
up_to None most old new empty is = tt
up_to (Some left) most old new empty is = is ∙ ap (λ front. front ++ take most left) empty

taken : {S : Type 0} (remaining : S → Option (List ℕ)) (stream : S) (reader : Take S) (old new : List ℕ) → take_inner reader ≡ stream → take_limit reader ≡ MOST_OCTETS
    → old ≡ [] → IfSome (take_remaining remaining reader) (λ given. new ≡ old ++ given) → IfSome (remaining stream) (λ left. new ≡ take MOST_OCTETS left)
taken {S} remaining stream reader old new inner limit empty given =
    subst (λ (it : S). IfSome (remaining it) (λ left. new ≡ take MOST_OCTETS left)) inner
    (subst (λ (most : ℕ). IfSome (remaining (take_inner reader)) (λ left. new ≡ take most left)) limit
    (up_to (remaining (take_inner reader)) (take_limit reader) old new empty given))

pub returns : goal.returns
returns g c =
    let text : c.as_slice.result.now ≡ request_text c.args.request.now ++ 10 ∷ [] = c.as_slice.ensures.value ∙ c.in_ok-octets.ensures in
    record {
      asked = c.write_all.new.self;
      written = subst (λ (octets : List ℕ). Appends (g.S.Write.contents c.args.stream) (g.S.Write.contents c.write_all.new.self) octets) text c.in_ok-write_all.ensures.bytes;
      read =
          taken g.S.Read.remaining c.write_all.new.self c.take.result c.new-answer.result.items c.read_to_end.new.buf.items c.take.ensures.inner c.take.ensures.limit
          c.new-answer.ensures.items c.in_ok-read_to_end.ensures.bytes;
    }

-- What a call adds to the offers that were queued.
use Rattle.std.proofs.Common.{◌≡◌, List, [], ◌∷◌, ◌++◌, length, refl, ap, ◌∙◌, arith}
use Rattle.relay_server.specs.declared.offer.Answer.{Answer}
use Rattle.relay_server.specs.declared.offer.Answer.TheVariants.{Queued, Full}
use Rattle.relay_server.specs.Dialogue.{Offered}
use Rattle.relay_node.specs.Queued.{QueuedGrows, queued_by}
use Rattle.relay_node.specs.Room.{refusals}

-- of two rows, of which the first has an answer for each offer
queued_by-append : (answers more : List Answer) (offers others : List Offered) → length offers ≡ length answers → queued_by (answers ++ more) (offers ++ others) ≡ queued_by answers offers ++ queued_by more others
queued_by-append [] more [] others even = refl
queued_by-append [] more (offer ∷ offers) others even = absurd (omega (arith, even))
queued_by-append (answer ∷ answers) more [] others even = absurd (omega (arith, even))
queued_by-append (Queued number ∷ answers) more (offer ∷ offers) others even =
    let rest : length offers ≡ length answers = omega (arith, even) in
    ap (λ l. (number, offer) ∷ l) (queued_by-append answers more offers others rest)
queued_by-append (Full ∷ answers) more (offer ∷ offers) others even =
    let rest : length offers ≡ length answers = omega (arith, even) in
    queued_by-append answers more offers others rest

-- refused offers are not queued
queued_by-refusals : (refused last : List Offered) (given : List Answer) → queued_by (refusals refused ++ given) (refused ++ last) ≡ queued_by given last
queued_by-refusals [] last given = refl
queued_by-refusals (offer ∷ refused) last given = queued_by-refusals refused last given

pub queued_grows : QueuedGrows
queued_grows said later refused last given even more =
    ap (λ l. queued_by l later.offers) more.answers ∙ ap (λ l. queued_by (said.answers ++ (refusals refused ++ given)) l) more.offers
    ∙ queued_by-append said.answers (refusals refused ++ given) said.offers (refused ++ last) even
    ∙ ap (λ l. queued_by said.answers said.offers ++ l) (queued_by-refusals refused last given)

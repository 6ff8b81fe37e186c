use Rattle.relay_loop.proofs.relay.Relay.lose.Goals as goal

pub returns-clause-full : goal.returns-clause-full
returns-clause-full g c = rw (← c.self.view_is) (λ changes told written keeps hands full. c.lost.ensures.full changes told keeps hands.tells full)

pub returns-clause-loses : goal.returns-clause-loses
returns-clause-loses g c = rw (← c.self.view_is) (λ changes told keeps tells. c.lost.ensures.lost changes told keeps tells)

use Rattle.relay_body.proofs.plain.DotReader.finish.Goals as goal

pub returns-clause-content : goal.returns-clause-content
returns-clause-content c = rw (← c.self.view_is) c.finish.ensures.content

pub returns-clause-within : goal.returns-clause-within
returns-clause-within c = rw (← c.self.view_is) c.finish.ensures.within

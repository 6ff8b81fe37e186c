-- a refused request has the response with its status code
use Rattle.std.proofs.Common.{rules, not, [], ◌∷◌, ◌++◌, Some, Err, ap, ◌∙◌}
use Rattle.relay_page.specs.Request.{IsJudged}
use Rattle.relay_page.specs.Response.{code_text, response_text}
use Rattle.relay_page.specs.declared.response.Kind.TheVariants.{Plain}
use Rattle.relay_page.proofs.visitors.AskedQuestion.judge.Goals as goal

pub returns-in_ok-response-in-Some-Err : goal.returns-in_ok-response-in-Some-Err
returns-in_ok-response-in-Some-Err c =
    let judged : IsJudged c.args.octets.now (Some (Err c.in-Some-Err.refusal)) = search rules in
    record {
      refusal = c.in-Some-Err.refusal;
      has_body = not c.starts_with-has_body.result;
      judged = judged;
      answer_is =
          c.in_ok-response-in-Some-Err.ensures
          ∙ ap (λ code. response_text code Plain (not c.starts_with-has_body.result) (code_text code ++ 10 ∷ [])) c.code_of.ensures;
    }

-- the text of a line, part by part
use Rattle.std.proofs.Common.{◌≡◌, ℕ, List, [], ◌∷◌, ◌++◌, OnOk, decimal, string_bytes, append_assoc, ap, subst, sym, ◌∙◌, rules}
use Rattle.relay_check.specs.declared.findings.Finding.{Finding}
use Rattle.relay_check.specs.Check.{finding_line, severity_text}
use Rattle.relay_check.proofs.findings.Finding.push_line.Goals as goal

regrouped : (file line column severity message : List ℕ)
    → file ++ 58 ∷ [] ++ line ++ 58 ∷ [] ++ column ++ 58 ∷ 32 ∷ [] ++ severity ++ 58 ∷ 32 ∷ [] ++ message ++ 10 ∷ []
    ≡ file ++ (58 ∷ (line ++ (58 ∷ (column ++ (58 ∷ 32 ∷ (severity ++ (58 ∷ 32 ∷ (message ++ 10 ∷ []))))))))
regrouped file line column severity message = simp append_assoc

is_line : (file text message : List ℕ) (finding : Finding)
    → text ≡ file ++ (58 ∷ (decimal finding.position.line ++ (58 ∷ (decimal finding.position.column
    ++ (58 ∷ 32 ∷ (severity_text finding.severity ++ (58 ∷ 32 ∷ (message ++ 10 ∷ []))))))))
    → message ≡ string_bytes finding.message → text ≡ finding_line file finding
is_line file text message finding is stored =
    let place : List ℕ = file ++ 58 ∷ [] ++ decimal finding.position.line ++ 58 ∷ [] ++ decimal finding.position.column ++ 58 ∷ 32 ∷ [] in
    is ∙ sym (regrouped file (decimal finding.position.line) (decimal finding.position.column) (severity_text finding.severity) message)
    ∙ ap (λ shown. place ++ severity_text finding.severity ++ 58 ∷ 32 ∷ [] ++ shown ++ 10 ∷ []) stored

pub returns : goal.returns
returns c =
    let line : c.as_bytes.result.now ≡ finding_line c.args.file.now c.args.self.now =
    is_line c.args.file.now c.as_bytes.result.now c.as_str-message.result.now c.args.self.now (c.as_bytes.ensures.value ∙ c.in_ok-text.ensures.ok)
    c.as_str-message.ensures.value in
    let added : OnOk c.extend_from_slice.result (c.extend_from_slice.new.self.items ≡ c.args.lines.now.items ++ c.as_bytes.result.now) = search rules in
    subst (λ text. OnOk c.extend_from_slice.result (c.extend_from_slice.new.self.items ≡ c.args.lines.now.items ++ text)) line added

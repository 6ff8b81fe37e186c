-- The line begins with the code and ends with the words.
use Rattle.std.proofs.Common.{◌≡◌, List, ℕ, ◌++◌, ◌-◌, codes, length, take, drop, ap, sym, ◌∙◌, true≢false, Some, None}
use Rattle.std.specs.Cmp.{unsigned_Decides}
use Rattle.std.proofs.lemmas.Slice.Eq.{strip_prefix_is, ends_is}
use Rattle.relay_log.proofs.RefusedLemmas.{refuses_bdat, bdat_by}
use Rattle.relay_log.proofs.refused.refuses_bdat.Goals as goal

pub returns-in-Some : goal.returns-in-Some
returns-in-Some c =
    let line : List ℕ = c.args.reply.now in
    let text : List ℕ = c.in-Some.text.now in
    let words : List ℕ = codes " bad chunk size, closing" in
    let begins : line ≡ codes "421 " ++ text = strip_prefix_is unsigned_Decides line (codes "421 ") (Some c.in-Some.text) c.in-Some.ensures.cases in
    let ends = ends_is unsigned_Decides text words c.ends_with.result c.ends_with.ensures.value in (
      λ is. bdat_by line (take (length text - length words) text) (begins ∙ ap (λ (it : List ℕ). codes "421 " ++ it) (ends.0 is)),
      λ refuses. let found = refuses_bdat line refuses in ends.1 found.0 (ap (drop 4) (sym begins ∙ found.1)),
    )

pub returns-in-None : goal.returns-in-None
returns-in-None c =
    let line : List ℕ = c.args.reply.now in
    let never = strip_prefix_is unsigned_Decides line (codes "421 ") None c.in-None.ensures.cases in (
      λ is. absurd (true≢false (sym is)),
      λ refuses. let found = refuses_bdat line refuses in absurd (never (found.0 ++ codes " bad chunk size, closing") found.1),
    )

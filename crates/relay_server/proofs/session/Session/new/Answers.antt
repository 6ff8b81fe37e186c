-- A session that has just begun stands after its greeting.
use Rattle.std.proofs.Common.{◌≡◌, ℕ, List, [], ◌++◌, refl, sym, ap, ◌∙◌}
use Rattle.std.proofs.lemmas.List.{append-nil}
use Rattle.std.proofs.lemmas.Result.{IfOk-from_err}
use Rattle.relay_lines.specs.Reply.{reply_text}
use Rattle.relay_routes.specs.declared.bare_newlines.BareNewlines.{BareNewlines}
use Rattle.relay_routes.specs.declared.routed_paths.RoutedPaths.{RoutedPaths}
use Rattle.relay_server.specs.declared.reply_table.Row.TheVariants.{Greeting}
use Rattle.relay_server.specs.Reply.{reply_of}
use Rattle.relay_server.specs.Setup.{Setup}
use Rattle.relay_server.specs.State.{start}
use Rattle.relay_server.proofs.session.Session.new.Goals as goal

-- a setup is its values
setup_by : (setup : Setup) (host : List ℕ) (max_content : ℕ) (bare_newlines : BareNewlines) (routed_paths : RoutedPaths)
    → setup.host ≡ host → setup.max_content ≡ max_content → setup.bare_newlines ≡ bare_newlines
    → setup.routed_paths ≡ routed_paths
    → setup ≡ record { host = host; max_content = max_content; bare_newlines = bare_newlines; routed_paths = routed_paths; routes = setup.routes }
setup_by setup host max_content bare_newlines routed_paths a b d e =
    λ j. record { host = a j; max_content = b j; bare_newlines = d j; routed_paths = e j; routes = setup.routes }

-- the greeting by this name is that of the host
greeted : (host name : List ℕ) (before after : List ℕ) → before ≡ [] → after ≡ before ++ reply_text (reply_of name Greeting)
    → name ≡ host → after ≡ reply_text (reply_of host Greeting) ++ []
greeted host name before after none written is =
    written ∙ ap (λ octets. octets ++ reply_text (reply_of name Greeting)) none
    ∙ ap (λ octets. reply_text (reply_of octets Greeting)) is ∙ sym (append-nil (reply_text (reply_of host Greeting)))

pub returns-clause-stands : goal.returns-clause-stands
returns-clause-stands c = λ setup host max_content bare_newlines routed_paths. record {
  setup_is = setup_by setup _ _ _ _ (host ∙ sym c.in_ok-copy.ensures) max_content bare_newlines (routed_paths ∙ sym c.accepted_paths.ensures);
  turns = [];
  state = start;
  rest = [];
  runs = refl;
  input = refl;
  output = greeted setup.host c.as_slice.result.now c.new-greeting.result.items c.write.new.out.items c.new-greeting.ensures.items c.in_ok-write.ensures.ok (c.as_slice.ensures.value ∙ sym host);
  answers = refl;
  offers = refl;
  keeps = (refl, c.new.ensures);
}

pub returns-in_err-write-clause-stands : goal.returns-in_err-write-clause-stands
returns-in_err-write-clause-stands c = IfOk-from_err c.from_residual.result _ c.from_residual.ensures.0

pub returns-in_err-write-clause-settled : goal.returns-in_err-write-clause-settled
returns-in_err-write-clause-settled c = IfOk-from_err c.from_residual.result _ c.from_residual.ensures.0

pub returns-in_err-copy-clause-stands : goal.returns-in_err-copy-clause-stands
returns-in_err-copy-clause-stands c = IfOk-from_err c.from_residual-in_err-copy.result _ c.from_residual-in_err-copy.ensures.0

pub returns-in_err-copy-clause-settled : goal.returns-in_err-copy-clause-settled
returns-in_err-copy-clause-settled c = IfOk-from_err c.from_residual-in_err-copy.result _ c.from_residual-in_err-copy.ensures.0

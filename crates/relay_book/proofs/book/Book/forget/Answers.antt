use Rattle.std.proofs.Common.{ℕ, sym, ap, ◌∙◌, nat_cmp}
use Rattle.std.specs.Ordering.{ordering_then}
use Rattle.std.specs.BTreeMap.{is_at}
use Rattle.std.proofs.lemmas.Map.Lookups.{exact_pairs, exact_unsigned}
use Rattle.std.proofs.lemmas.Map.Views.{tells_apart}
use Rattle.std.specs.List.{list_any}
use Rattle.std.specs.Option.{option_map_or}
use Rattle.std.proofs.Common.{false}
use Rattle.relay_book.specs.declared.message.Message.{Message}
use Rattle.relay_book.specs.Queue.{message_of}
use Rattle.relay_book.specs.Book.{Shown, is_held_until, live}
use Rattle.relay_book.proofs.LiveLemmas.{rise_live}
use Rattle.relay_book.proofs.ToldLemmas.{all_told_removed}
use Rattle.relay_book.proofs.book.Book.forget.Goals as goal

pub invariant_of-self : goal.invariant_of-self
invariant_of-self c = (
  c.self.invariant.0,
  all_told_removed (is_at (λ (key : ℕ × ℕ). ordering_then (nat_cmp c.args.due key.0) (nat_cmp c.args.number key.1)))
      c.self.inside.waiting.keys c.remove.new.self.keys c.args.due c.args.number c.self.inside.next (live c.self.inside.messages.entries)
      (λ key e.
      let same = tells_apart (exact_pairs nat_cmp nat_cmp exact_unsigned exact_unsigned) (c.args.due, c.args.number) key e in
      (ap (λ (k : ℕ × ℕ). k.0) (sym same), ap (λ (k : ℕ × ℕ). k.1) (sym same)))
      c.remove.ensures.keys (rise_live 0 c.self.inside.next c.self.inside.messages.entries c.self.invariant.0)
      (ap (λ (shown : Shown). option_map_or (λ (message : Message). list_any (is_held_until c.args.due) message.places) (message_of shown.queue.messages c.args.number) false) c.self.view_is
      ∙ sym c.is_due_then.ensures ∙ c.if-is_due_then.false) c.self.invariant.1,
)

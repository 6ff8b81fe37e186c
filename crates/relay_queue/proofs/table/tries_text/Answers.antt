-- a digit is the decimal of its number
use Rattle.std.proofs.Common.{sym, lit<}
use Rattle.std.proofs.lemmas.Fmt.{decimal_digit}
use Rattle.relay_queue.proofs.table.tries_text.Goals as goal

pub returns-in-0 : goal.returns-in-0
returns-in-0 c = rw c.in-0.is (sym (decimal_digit 0 (lit< tt)))

pub returns-in-1 : goal.returns-in-1
returns-in-1 c = rw c.in-1.is (sym (decimal_digit 1 (lit< tt)))

pub returns-in-2 : goal.returns-in-2
returns-in-2 c = rw c.in-2.is (sym (decimal_digit 2 (lit< tt)))

pub returns-in-3 : goal.returns-in-3
returns-in-3 c = rw c.in-3.is (sym (decimal_digit 3 (lit< tt)))

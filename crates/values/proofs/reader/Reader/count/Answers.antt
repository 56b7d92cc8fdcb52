use Rattle.values.specs.Values.{count_at}
use Rattle.values.proofs.Littles.{below_word}
use Rattle.values.proofs.Answers.{at_exit, stopped, passed}
use Rattle.values.proofs.reader.Reader.count.Goals as goal

pub returns-in_err-number : goal.returns-in_err-number
unfolding count_at
returns-in_err-number c = at_exit c.from_residual.ensures.1 (stopped c.in_err-number.ensures c.in_err-number.ensures.place (λ b. rw (b, count_at)))

pub overflow_cast-result : goal.overflow_cast-result
overflow_cast-result c = record { fits = below_word _ _ c.requires c.in_ok-number.ensures.2 }

pub returns : goal.returns
unfolding count_at
returns c = let t = c.in_ok-number.ensures in passed t.0 (λ b. rw (b, count_at, ← t.1))

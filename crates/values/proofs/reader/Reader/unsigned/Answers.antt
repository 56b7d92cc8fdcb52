use Rattle.values.specs.Values.{unsigned_at}
use Rattle.values.proofs.Answers.{at_exit, stopped, passed}
use Rattle.values.proofs.reader.Reader.unsigned.Goals as goal

pub returns-in_err-number : goal.returns-in_err-number
unfolding unsigned_at
returns-in_err-number c = at_exit c.from_residual.ensures.1 (stopped c.in_err-number.ensures c.in_err-number.ensures.place (λ b. rw (b, unsigned_at)))

pub returns : goal.returns
unfolding unsigned_at
returns c = let t = c.in_ok-number.ensures in passed t.0 (λ b. rw (b, unsigned_at, ← t.1, c.into.ensures))

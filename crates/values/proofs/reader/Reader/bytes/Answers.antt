use Rattle.values.specs.Values.{bytes_at}
use Rattle.values.proofs.Answers.{at_exit, stopped, passed}
use Rattle.values.proofs.reader.Reader.bytes.Goals as goal

pub returns-in_err-take : goal.returns-in_err-take
unfolding bytes_at
returns-in_err-take c = at_exit c.from_residual.ensures.1 (stopped c.in_err-take.ensures c.in_err-take.ensures.place (λ b. rw (b, bytes_at)))

pub returns : goal.returns
unfolding bytes_at
returns c = passed c.in_ok-take.ensures.0 (λ b. rw (b, bytes_at))

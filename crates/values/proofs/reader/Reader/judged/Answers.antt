use Rattle.std.proofs.Common.{sym, ◌∙◌, refl}
use Rattle.values.specs.Values.{judged, bytes_at}
use Rattle.values.proofs.Answers.{at_exit, stopped, passed, broken}
use Rattle.values.proofs.reader.Reader.judged.Goals as goal

pub returns-in_err-take : goal.returns-in_err-take
unfolding judged bytes_at
returns-in_err-take c = at_exit c.from_residual.ensures.1 (stopped c.in_err-take.ensures refl (λ b. rw (b, bytes_at, judged)))

pub returns-then-not-valid : goal.returns-then-not-valid
unfolding judged bytes_at
returns-then-not-valid c = let t = c.in_ok-take.ensures in broken t.0 (λ b. rw (b, bytes_at, judged, ← t.1, sym c.valid.ensures ∙ c.if-not-valid.true))

pub returns : goal.returns
unfolding judged bytes_at
returns c = let t = c.in_ok-take.ensures in passed t.0 (λ b. rw (b, bytes_at, judged, ← t.1, sym c.valid.ensures ∙ c.if-not-valid.false))

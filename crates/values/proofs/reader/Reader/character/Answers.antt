use Rattle.std.proofs.Common.{arith, refl, sym, ◌∙◌}
use Rattle.values.specs.Values.{char_at}
use Rattle.values.proofs.Answers.{at_exit, stopped, passed, broken, words_small}
use Rattle.values.proofs.reader.Reader.character.Goals as goal

pub returns-in_err-v : goal.returns-in_err-v
unfolding char_at
returns-in_err-v c = at_exit c.from_residual.ensures.1 (stopped c.in_err-v.ensures refl (λ b. rw (b, char_at)))

pub returns-then-is_scalar : goal.returns-then-is_scalar
unfolding char_at
returns-then-is_scalar c = let t = c.in_ok-v.ensures in passed t.0 (λ b. rw (b, char_at, ← t.1, sym c.is_scalar.ensures ∙ c.if-is_scalar.true, c.into.ensures, words_small c.in_ok-v.v (omega (arith, t.2)), ← t.1))

pub returns-else-is_scalar : goal.returns-else-is_scalar
unfolding char_at
returns-else-is_scalar c = let t = c.in_ok-v.ensures in broken t.0 (λ b. rw (b, char_at, ← t.1, sym c.is_scalar.ensures ∙ c.if-is_scalar.false))

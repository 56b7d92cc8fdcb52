use Rattle.values.specs.Values.{bits_at, bits_width}
use Rattle.values.proofs.Wides.{bytes_bits}
use Rattle.values.proofs.Answers.{at_exit, stopped, passed}
use Rattle.values.proofs.reader.Reader.bits.Goals as goal

pub returns-in_err-v : goal.returns-in_err-v
unfolding bits_at bits_width
returns-in_err-v c = at_exit c.from_residual.ensures.1 (stopped c.in_err-v.ensures c.in_err-v.ensures.place (λ b. rw (← c.width_of.ensures.0, b, bits_at)))

pub returns : goal.returns
unfolding bits_at bits_width
returns c = let t = c.in_ok-v.ensures in passed t.0 (λ b. rw (← c.width_of.ensures.0, b, bits_at, c.into.ensures, t.1, bytes_bits, ← c.width_of.ensures.0))

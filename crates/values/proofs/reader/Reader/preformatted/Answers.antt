use Rattle.values.proofs.Answers.{at_exit, run_from, run_short, run_bad, run_ends, run_good}
use Rattle.values.proofs.reader.Reader.preformatted.Goals as goal

pub returns-then-end-message : goal.returns-then-end-message
returns-then-end-message c = run_short c.next_byte-end.ensures c.if-end-message.true

pub overflow_sub-end : goal.overflow_sub-end
overflow_sub-end c = run_from _ _ _ c.next_byte-end.ensures

pub returns-in_err-w : goal.returns-in_err-w
returns-in_err-w c = at_exit c.from_residual.ensures.1 (run_bad c.next_byte-end.ensures c.if-end-message.false c.judged.ensures c.in_err-w.was)

pub returns-in_err-take : goal.returns-in_err-take
returns-in_err-take c = absurd (run_ends c.next_byte-end.ensures c.if-end-message.false c.judged.ensures c.in_ok-w.was c.in_err-take.ensures)

pub returns : goal.returns
returns c = run_good c.next_byte-end.ensures c.if-end-message.false c.judged.ensures c.in_ok-w.was c.in_ok-take.ensures.0

use Rattle.values.specs.Values.{slice_at, bytes_at}
use Rattle.values.proofs.Answers.{at_exit, no_count, behind_count, fault_behind}
use Rattle.values.proofs.reader.Reader.slice.Goals as goal

pub returns-in_err-n : goal.returns-in_err-n
unfolding slice_at
returns-in_err-n c = at_exit c.from_residual.ensures.1 (no_count c.count.ensures c.in_err-n.was (λ b. rw (b, slice_at)))

pub returns-in_err-w : goal.returns-in_err-w
unfolding slice_at
returns-in_err-w c = at_exit c.from_residual-in_err-w.ensures.1 (fault_behind c.count.ensures c.in_ok-n.was bytes_at c.bytes.ensures (λ b. rw (b, slice_at)) c.in_err-w.was)

pub returns : goal.returns
unfolding slice_at
returns c = behind_count c.count.ensures c.in_ok-n.was bytes_at c.bytes.ensures (λ b. rw (b, slice_at)) c.in_ok-w.was

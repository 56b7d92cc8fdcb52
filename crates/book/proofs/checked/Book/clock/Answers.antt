use Rattle.std.proofs.Common.{ap, ◌∙◌}
use Rattle.book.specs.Book.{clock}
use Rattle.book.proofs.Clocks.{clock_inside, stamp_inside, stamp_after, clock_found, clock_no}
use Rattle.book.proofs.checked.Book.clock.Goals as goal

pub bounds-bytes-13 : goal.bounds-bytes-13
bounds-bytes-13 c = clock_inside _ c.self.invariant

pub line_end-requires : goal.line_end-requires
line_end-requires c = stamp_inside _ c.self.invariant c.if-bytes-eq121.true

pub overflow_sub-result : goal.overflow_sub-result
overflow_sub-result c = stamp_after _ c.self.invariant c.if-bytes-eq121.true c.line_end.ensures.value

pub returns-then-bytes-eq121 : goal.returns-then-bytes-eq121
returns-then-bytes-eq121 c = clock_found _ c.self.invariant c.if-bytes-eq121.true c.line_end.ensures.value ∙ ap clock c.self.view_is

pub returns : goal.returns
returns c = clock_no _ c.self.invariant c.if-bytes-eq121.false ∙ ap clock c.self.view_is

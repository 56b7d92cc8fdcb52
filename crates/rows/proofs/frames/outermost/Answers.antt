use Rattle.std.proofs.Common.{arith, ap, length}
use Rattle.parts.specs.Parts.{Bytes}
use Rattle.rows.specs.Sources.{Source}
use Rattle.rows.proofs.Framing.{stored_part}
use Rattle.rows.proofs.frames.outermost.Goals as goal

abbrev book : Source → Bytes
book s = s.book

pub overflow_add-text : goal.overflow_add-text
overflow_add-text c =
    let p = c.requires.inside (rw (ap book c.source.view_is) at c.bytes.ensures.is_book) in
    omega (arith, p, ap length c.bytes.ensures.same, ap (λ (s : Source). length s.book) c.source.view_is)

pub returns : goal.returns
returns c = rw (c.bytes.ensures.same, stored_part _ _ _, ap book c.source.view_is) at c.arguments.ensures

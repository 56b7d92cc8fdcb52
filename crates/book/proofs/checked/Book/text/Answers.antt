use Rattle.std.proofs.Common.{sym, ap, ◌∙◌, arith}
use Rattle.parts.specs.Parts.{Bytes}
use Rattle.book.specs.Book.{find}
use Rattle.book.proofs.Texts.{found_inside}
use Rattle.book.proofs.checked.Book.text.Goals as goal

pub overflow_add-result : goal.overflow_add-result
overflow_add-result c = let w = (found_inside _ c.args.index c.self.invariant (ap (λ (b : Bytes). find b c.args.index) c.self.view_is ∙ sym c.find.ensures ∙ c.in_ok-start.was)).within in omega arith

pub slice_bounds-result-end : goal.slice_bounds-result-end
slice_bounds-result-end c = let w = (found_inside _ c.args.index c.self.invariant (ap (λ (b : Bytes). find b c.args.index) c.self.view_is ∙ sym c.find.ensures ∙ c.in_ok-start.was)).within in omega arith

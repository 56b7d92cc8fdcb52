use Rattle.std.proofs.Common.{arith, ap, ◌∙◌}
use Rattle.parts.specs.Parts.{Bytes}
use Rattle.book.specs.Book.{find}
use Rattle.book.proofs.Halving.{halved_first, halved_above, is_below, halved_below, is_here, halved_here, halved_end}
use Rattle.book.proofs.checked.Book.find.Goals as goal

pub loop-from-init : goal.loop-from-init
loop-from-init c = (halved_first _ _ c.self.invariant, omega arith, omega arith)

pub loop-from-preserved-in-Above : goal.loop-from-preserved-in-Above
loop-from-preserved-in-Above c = (halved_above _ _ _ _ c.loop-from.invariant.0 c.side_of.ensures c.place-at.ensures c.in-Above.is, c.loop-from.invariant.1, omega arith)

pub prove-unreachable-requires : goal.prove-unreachable-requires
prove-unreachable-requires c = let b = is_below _ _ _ _ c.loop-from.invariant.0 c.side_of.ensures c.place-at.ensures c.in-Below.is in let k = b.smaller in let f = b.further in let p = c.place-at.ensures in omega arith

pub loop-from-preserved : goal.loop-from-preserved
loop-from-preserved c = (halved_below _ _ _ _ c.loop-from.invariant.0 c.side_of.ensures c.place-at.ensures c.in-Below.is, omega arith, omega arith)

pub overflow_add-stop : goal.overflow_add-stop
overflow_add-stop c = let t = is_here _ _ _ _ c.loop-from.invariant.0 c.side_of.ensures c.place-at.ensures c.in-Here.is in let a = t.tag in let b = t.text in let i = t.inside in omega arith

pub text_of-requires : goal.text_of-requires
text_of-requires c = is_here _ _ _ _ c.loop-from.invariant.0 c.side_of.ensures c.place-at.ensures c.in-Here.is

pub returns-in-Here : goal.returns-in-Here
returns-in-Here c = c.text_of.ensures ∙ halved_here _ _ _ _ c.loop-from.invariant.0 c.side_of.ensures c.place-at.ensures c.in-Here.is ∙ ap (λ (b : Bytes). find b c.args.index) c.self.view_is

pub returns : goal.returns
returns c = halved_end _ _ _ _ c.loop-from.invariant.0 c.loop-from-test.false ∙ ap (λ (b : Bytes). find b c.args.index) c.self.view_is

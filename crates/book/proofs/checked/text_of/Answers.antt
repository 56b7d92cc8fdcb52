use Rattle.std.proofs.Common.{arith}
use Rattle.parts.specs.Parts.{part}
use Rattle.book.proofs.Following.{tag_ends, text_ends, found_as}
use Rattle.book.proofs.checked.text_of.Goals as goal

pub line_end-requires : goal.line_end-requires
line_end-requires c = let t = c.requires in let a = t.tag in let b = t.text in let i = t.inside in let e = tag_ends c.args.book.now c.args.at c.requires c.line_end-stop.ensures.value in omega arith

pub returns : goal.returns
unfolding part
returns c = let e = tag_ends c.args.book.now c.args.at c.requires c.line_end-stop.ensures.value in let f = text_ends c.args.book.now c.args.at c.requires e c.line_end.ensures.value in found_as c.args.book.now c.args.at _ _ _ e f c.carries_level-level.ensures

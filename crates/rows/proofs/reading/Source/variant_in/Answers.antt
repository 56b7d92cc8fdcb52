use Rattle.std.proofs.Common.{arith, ap, sym, ◌∙◌}
use Rattle.book.proofs.Pieces.{piece_inside}
use Rattle.rows.specs.Steps.{variant_by}
use Rattle.rows.proofs.Readings.{variant_within}
use Rattle.rows.proofs.reading.Source.variant_in.Goals as goal

pub slice_bounds-result-end : goal.slice_bounds-result-end
slice_bounds-result-end c = let p = piece_inside c.args.text.now c.in_ok-number.number (omega (arith, c.requires.1)) c.piece-p.ensures in omega (arith, p.0, p.1)

pub returns : goal.returns
returns c =
    variant_within c.args.text.now c.in_ok-number.number _ (omega (arith, c.requires.1)) c.piece-p.ensures
    ∙ ap (variant_by c.args.text.now) (sym c.in_ok-number.was ∙ c.count_at.ensures)

use Rattle.std.proofs.Common.{◌≡◌, ◌-◌, ◌∷◌, drop}
use Rattle.utf8.specs.Utf8.{valid, formed}
use Rattle.utf8.specs.Steps.{tails}
use Rattle.utf8.proofs.behind.Given as goal

abbrev pub invariant-loop-i : goal.invariant-loop-i
invariant-loop-i l = valid (l.fn.x ∷ l.after) ≡ formed (drop l.i l.after) (tails (l.n - l.i) l.low l.high)

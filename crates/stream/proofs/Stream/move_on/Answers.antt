use Rattle.std.proofs.Common.{arith}
use Rattle.stream.proofs.Onward.{moved_on}
use Rattle.stream.proofs.Stream.move_on.Goals as goal

pub returns-clause-store_after : goal.returns-clause-store_after
returns-clause-store_after c = moved_on _ _ _ c.requires (omega arith) _ _ c.shift.ensures c.clear.ensures

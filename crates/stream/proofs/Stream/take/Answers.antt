use Rattle.stream.proofs.Onward.{take_done}
use Rattle.stream.proofs.Stream.take.Goals as goal

pub returns : goal.returns
returns c = take_done _ _ _ _ _ _ _ c.take_from-up.ensures c.move_on.ensures.value c.move_on.ensures.store_after

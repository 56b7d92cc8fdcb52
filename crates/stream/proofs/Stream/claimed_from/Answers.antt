use Rattle.stream.proofs.Onward.{claims_start, claims_later}
use Rattle.stream.proofs.Stream.claimed_from.Goals as goal

pub returns-then-from-eq0 : goal.returns-then-from-eq0
returns-then-from-eq0 c = claims_start _ _ _ c.requires c.if-from-eq0.true c.claimed.ensures

pub returns : goal.returns
returns c = claims_later _ _ _ c.requires c.if-from-eq0.false

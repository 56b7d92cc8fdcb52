use Rattle.stream.proofs.Pieces.{hunt_ends}
use Rattle.stream.proofs.Stream.hunt.Goals as goal

pub returns : goal.returns
returns c = rw c.if-not-self.false (let p = c.in_ok-z.ensures in hunt_ends c.args.piece.now c.in_ok-z.z p.0 p.1)

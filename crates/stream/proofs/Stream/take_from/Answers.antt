use Rattle.stream.proofs.Results.{ok}
use Rattle.stream.proofs.Onward.{from_refused, from_inside, from_waits, from_small, from_free, from_stays, from_leaves}
use Rattle.stream.proofs.Stream.take_from.Goals as goal

pub returns-in-Err : goal.returns-in-Err
returns-in-Err c = let r = c.refuse.ensures in rw r.value (from_refused _ _ _ c.requires _ _ _ _ c.claimed_from.ensures c.in-Err.is r.out_after)

pub slice_bounds-bytes-end : goal.slice_bounds-bytes-end
slice_bounds-bytes-end c = from_inside _ _ _ c.requires (ok c.claimed_from.ensures c.in_default.is)

pub returns-in_default-first : goal.returns-in_default-first
returns-in_default-first c =
    let r = c.refuse-in_default-first.ensures in
    rw r.value (from_waits _ _ _ c.requires (ok c.claimed_from.ensures c.in_default.is) c.in_default-first.ensures _ _ r.out_after)

pub decode_zero_free-up-requires-clause-coding_len_bound : goal.decode_zero_free-up-requires-clause-coding_len_bound
decode_zero_free-up-requires-clause-coding_len_bound c =
    let z = c.in-Some.ensures in
    from_small _ _ _ c.requires (ok c.claimed_from.ensures c.in_default.is) _ z.0 z.1

pub decode_zero_free-up-requires-clause-coding_value : goal.decode_zero_free-up-requires-clause-coding_value
decode_zero_free-up-requires-clause-coding_value c =
    let z = c.in-Some.ensures in
    from_free _ _ _ c.requires (ok c.claimed_from.ensures c.in_default.is) _ z.0 z.1

pub returns-then-leaves : goal.returns-then-leaves
returns-then-leaves c =
    let z = c.in-Some.ensures in
    let k = c.leading.ensures in
    from_leaves _ _ _ c.requires (ok c.claimed_from.ensures c.in_default.is) _ z.0 z.1 _ _ _ c.decode_zero_free-up.ensures _ c.leaves.ensures _ k.0 k.1 c.if-leaves.true

pub returns-else-leaves : goal.returns-else-leaves
returns-else-leaves c =
    let z = c.in-Some.ensures in
    from_stays _ _ _ c.requires (ok c.claimed_from.ensures c.in_default.is) _ z.0 z.1 _ _ _ c.decode_zero_free-up.ensures _ c.leaves.ensures c.if-leaves.false

use Rattle.std.proofs.Common.{sym, arith}
use Rattle.stream.proofs.Claims.{too_large, past_store, none_held, zero_first, some_held}
use Rattle.stream.proofs.Stream.claimed.Goals as goal

pub returns-then-store-gt-LIMIT : goal.returns-then-store-gt-LIMIT
returns-then-store-gt-LIMIT c = sym (too_large _ _ (omega arith))

pub returns-then-store-held : goal.returns-then-store-held
returns-then-store-held c = sym (past_store _ _ (omega arith) (omega arith))

pub returns-then-held-eq0 : goal.returns-then-held-eq0
returns-then-held-eq0 c = sym (none_held _ _ (omega arith) (omega arith))

pub returns-then-store-eq0 : goal.returns-then-store-eq0
returns-then-store-eq0 c = sym (zero_first _ _ (omega arith) (omega arith) c.if-held-eq0.false c.if-store-eq0.true)

pub returns : goal.returns
returns c = sym (some_held _ _ (omega arith) (omega arith) c.if-store-eq0.false)

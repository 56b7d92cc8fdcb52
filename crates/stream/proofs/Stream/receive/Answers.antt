use Rattle.std.proofs.lemmas.Result.{err_from_is_err_and}
use Rattle.std.proofs.Common.{◌≡◌, refl, sym, ap, ◌∙◌, Bor, arith}
use Rattle.answer.specs.Answer.{Bytes}
use Rattle.stream.specs.Stream.{kept}
use Rattle.stream.specs.Calls.{hold}
use Rattle.stream.proofs.Pieces.{kept_is, outlasting, hunting_on}
use Rattle.stream.proofs.Results.{ok, sound, receive_size, receive_refused, receive_full, receive_ok}
use Rattle.stream.proofs.Stream.receive.Goals.{After-trimmed-kept}
use Rattle.stream.proofs.Stream.receive.Goals as goal

pub returns-then-piece-gt-LIMIT : goal.returns-then-piece-gt-LIMIT
returns-then-piece-gt-LIMIT c = receive_size _ _ _ (omega arith)

pub returns-in_err-claimed : goal.returns-in_err-claimed
returns-in_err-claimed c = let p = err_from_is_err_and c.from_residual.result c.from_residual.ensures.1 in rw (p.1, p.2) (receive_refused _ _ _ _ _ (omega arith) (sym c.in_err-claimed.was ∙ c.claimed.ensures) refl)

pub overflow_sub-store : goal.overflow_sub-store
overflow_sub-store c = (sound (ok c.claimed.ensures c.in_ok-claimed.was)).within

-- what is kept of the piece
keeps : (c : After-trimmed-kept) → kept (hold c.args.self.now c.args.store.now) c.args.piece.now ≡ c.trimmed-kept.result.now
keeps c =
    let t = c.trimmed-kept.ensures in
    let now = λ (r : Bor Bytes). r.now in
    kept_is _ _ _ _ (sound (ok c.claimed.ensures c.in_ok-claimed.was)).within
    (ap now c.unwrap_or.ensures ∙ outlasting c.args.self.now _ now _ refl _ c.hunt-rest.ensures) t.none_held t.some_held

pub returns-then-store-self : goal.returns-then-store-self
returns-then-store-self c =
    receive_full _ _ _ (omega arith) (ok c.claimed.ensures c.in_ok-claimed.was) c.trimmed-kept.result.now (keeps (goal.at.returns-then-store-self c).After-trimmed-kept) (omega arith)

pub append-requires : goal.append-requires
append-requires c = let w = (sound (ok c.claimed.ensures c.in_ok-claimed.was)).within in omega arith

pub returns : goal.returns
returns c = receive_ok _ _ _ (omega arith) (ok c.claimed.ensures c.in_ok-claimed.was) _ (keeps (goal.at.returns c).After-trimmed-kept) _ _ (omega arith) c.append.ensures
    (hunting_on c.args.self.now _ (λ (r : Bor Bytes). r.now) _ c.hunt-rest.ensures _ c.is_none-self.ensures)

use Rattle.std.proofs.Common.{arith, ap, refl, sym, ◌∙◌, ◌+◌}
use Rattle.std.specs.Prelude.{Ok}
use Rattle.values.specs.declared.words.Words.{Words}
use Rattle.values.proofs.Littles.{little_one}
use Rattle.values.proofs.Answers.{at_exit, stopped, passed, broken, words_small, bool_short, bool_value, bool_bad}
use Rattle.values.proofs.reader.Reader.boolean.Goals as goal

pub returns-in_err-v : goal.returns-in_err-v
returns-in_err-v c =
    let h = c.in_err-v.ensures.beyond in
    at_exit c.from_residual.ensures.1 (stopped c.in_err-v.ensures refl (λ b. sym (bool_short _ _ (omega arith))))

pub returns-then-v-lt2 : goal.returns-then-v-lt2
returns-then-v-lt2 c =
    let t = c.in_ok-v.ensures in
    let l = t.0.within in
    passed t.0 (λ b.
    sym (bool_value _ _ (omega arith) _ (t.1 ∙ little_one _ _) c.if-v-lt2.true)
    ∙ ap (λ (w : Words). Ok (w, c.args.self.now.at + 1)) (sym (c.into.ensures ∙ words_small c.in_ok-v.v (omega arith))))

pub returns-else-v-lt2 : goal.returns-else-v-lt2
returns-else-v-lt2 c =
    let t = c.in_ok-v.ensures in
    let l = t.0.within in
    broken t.0 (λ b. sym (bool_bad _ _ (omega arith) _ (t.1 ∙ little_one _ _) c.if-v-lt2.false))

use Rattle.std.proofs.Common.{refl, sym, ◌∙◌, [], ◌∷◌, arith}
use Rattle.parts.proofs.Tables.{apart, all_apart}
use Rattle.format.specs.Grammar.{◌⇒◌, names}
use Rattle.format.proofs.NameLaws.{one_named, no_width, behind_1}
use Rattle.format.specs.Steps.{widths}
use Rattle.format.specs.declared.types.Width.TheVariants.{W8, W16, W32, W64, W128, Size}
use Rattle.format.proofs.names.width_at.Goals as goal

pub returns-in-56 : goal.returns-in-56
unfolding apart all_apart names widths
returns-in-56 c = c.named.ensures ∙ one_named (56 ∷ []) _ _ (sym c.byte_at.ensures ∙ c.in-56.is, tt) widths 0 ("8" ⇒ W8) refl refl refl

pub returns-in-51 : goal.returns-in-51
unfolding apart all_apart names widths
returns-in-51 c = c.named-in-51.ensures ∙ one_named (51 ∷ []) _ _ (sym c.byte_at.ensures ∙ c.in-51.is, tt) widths 2 ("32" ⇒ W32) refl refl refl

pub returns-in-54 : goal.returns-in-54
unfolding apart all_apart names widths
returns-in-54 c = c.named-in-54.ensures ∙ one_named (54 ∷ []) _ _ (sym c.byte_at.ensures ∙ c.in-54.is, tt) widths 3 ("64" ⇒ W64) refl refl refl

pub returns-then-byte_at-eq54 : goal.returns-then-byte_at-eq54
unfolding apart all_apart names widths
returns-then-byte_at-eq54 c = c.named-then-byte_at-eq54.ensures ∙ one_named (49 ∷ 54 ∷ []) _ _ (sym c.byte_at.ensures ∙ c.in-49.is, (sym c.byte_at-in-49.ensures ∙ c.if-byte_at-eq54.true, tt)) widths 1 ("16" ⇒ W16) refl refl refl

pub returns-else-byte_at-eq54 : goal.returns-else-byte_at-eq54
unfolding apart all_apart names widths
returns-else-byte_at-eq54 c = c.named-else-byte_at-eq54.ensures ∙ one_named (49 ∷ _ ∷ []) _ _ (sym c.byte_at.ensures ∙ c.in-49.is, (sym c.byte_at-in-49.ensures, tt)) widths 4 ("128" ⇒ W128) (behind_1 _ c.if-byte_at-eq54.false) refl refl

pub returns-in_default : goal.returns-in_default
unfolding apart all_apart names widths
returns-in_default c = c.named-in_default.ensures ∙ one_named (_ ∷ []) _ _ (sym c.byte_at.ensures, tt) widths 5 ("size" ⇒ Size) (no_width c.byte_at.result ((((tt, omega arith), omega arith), omega arith), omega arith)) refl refl

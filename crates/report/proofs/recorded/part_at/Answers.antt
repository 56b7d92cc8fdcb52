use Rattle.std.proofs.Common.{arith, length-drop, ℕ, ◌≡◌, ◌+◌, ◌-◌, List, length, take, drop, ap, ◌∙◌}
use Rattle.std.proofs.lemmas.List.{take_all, drop-drop}
use Rattle.report.proofs.recorded.part_at.Goals as goal

-- a part of the rest behind two bytes
behind_head : (list from rest part : List ℕ) (at n : ℕ) → from ≡ take (length list - at) (drop at list) → length from + at ≡ length list → rest ≡ drop 2 from
    → part ≡ take (n - 0) rest → length part ≡ n → part ≡ take (length part) (drop (at + 2) list)
behind_head list from rest part at n f l r p e =
    let whole : from ≡ drop at list = f ∙ take_all (length list - at) (drop at list) (omega (arith, length-drop at list)) in
    let two : rest ≡ drop (at + 2) list = r ∙ ap (λ (t : List ℕ). drop 2 t) whole ∙ drop-drop 2 at list ∙ ap (λ (k : ℕ). drop k list) (omega arith) in
    let m : n - 0 ≡ length part = omega (arith, e) in
    p ∙ ap (λ (k : ℕ). take k rest) m ∙ ap (take (length part)) two

pub returns-clause-part : goal.returns-clause-part
returns-clause-part c =
    let f = c.in_ok-get.ensures.lookup.0 in
    let r = c.in_ok-head.ensures.cases in
    let p = c.in_ok-get-2.ensures.lookup.0 in
    behind_head _ _ _ _ _ _ f.2 f.3 r.1 p.2 (omega (arith, p.3))

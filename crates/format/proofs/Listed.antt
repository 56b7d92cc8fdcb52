-- Tables read by number: a name is told by its number in its table (`first_name`), and a number by what its name means. The readers of
-- types and hints in these words, and that they read what those of the grammar read. Assumes nothing.
use Prim.Native.Nat.{ℕ, zero, suc, ◌+◌}
use mathlib.Core.Path.{◌≡◌, refl, sym, ap, ap₂, ◌∙◌}
use mathlib.Core.Bool.{Bool, true, false}
use mathlib.Core.List.{List, [], ◌∷◌}
use lib.ListN.{length, drop}
use lib.Dec.{eqb, ltb}
use native.Mathlib.Omega.{arith}
use Rattle.std.specs.Prelude.{Option, Some, None, Ok, Err}
use Rattle.parts.specs.Parts.{Bytes, bytes, byte, begins, digit_of, number_at, first_name, words, grow, Named, Number}
use Rattle.parts.proofs.Places.{by_test}
use Rattle.parts.proofs.Tables.{first_name_here, first_name_later}
use Rattle.format.specs.Grammar.{Read, is, Row, names, named, meaning, types, arrays, kind_no, bits_at, spaced, count_at, sized, array_at, type_at, hints, bases, pad_at, based_by, shaped_at, hint_at}
use Rattle.format.specs.declared.types.Kind.{Kind}
use Rattle.format.specs.declared.types.Kind.TheVariants as kind
use Rattle.format.specs.declared.hints.Base.{Base}
use Rattle.format.specs.declared.hints.Base.TheVariants.{Upper}
use Rattle.format.specs.declared.hints.Clock.TheVariants.{Tus}
use Rattle.format.specs.declared.hints.Hint.{Hint}
use Rattle.format.specs.declared.hints.Hint.TheVariants as hint
use Rattle.format.proofs.NameLaws.{stands_here, stands_not}

-- ---- any table

-- from number k on, m gives what the names of these rows mean
abbrev Numbered : {A : Type 0} → List (Row A) → (ℕ → A) → ℕ → Type 0
Numbered [] m k = Unit {0}
Numbered (r ∷ rows) m k = (m k ≡ r.means) × Numbered rows m (k + 1)

abbrev by_number : {A : Type 0} → (ℕ → A) → Named → Option (A × ℕ)
by_number m None = None
by_number m (Some (k, next)) = Some (m k, next)

pub named_as_listed : {A : Type 0} (rows : List (Row A)) (m : ℕ → A) (s : Bytes) (at k : ℕ) → Numbered rows m k → named rows s at ≡ by_number m (first_name (names rows) s at k)
unfolding named names first_name
named_as_listed [] m s at k n = refl
named_as_listed (r ∷ rows) m s at k n =
    let w = bytes r.name in
    by_test (begins w (drop at s))
    (λ t. stands_here w r.means s at (named rows s at) t ∙ ap (λ a. Some (a, at + length w)) (sym n.0) ∙ ap (by_number m) (sym (first_name_here w (names rows) s at k t)))
    (λ t. stands_not w r.means s at (named rows s at) t ∙ named_as_listed rows m s at (k + 1) n.1 ∙ ap (by_number m) (sym (first_name_later w (names rows) s at k t)))

-- ---- the readers by number

abbrev array_no : ℕ → ℕ → Kind
array_no k n = meaning arrays k kind.FormatArray n

abbrev hint_no : ℕ → Hint
hint_no k = meaning hints k (hint.Time Tus)

abbrev base_no : ℕ → Base
base_no k = meaning bases k Upper

abbrev count_at_as_listed : Bytes → ℕ → ℕ → Read Kind
count_at_as_listed s k at =
    elim (number_at s at 65535) [
      | None ↦ Err at
      | Some (n, next) ↦ elim (is s next "]") [ true ↦ Ok (array_no k n, next + 1) | false ↦ Err next ]
    ]

abbrev array_at_as_listed : Bytes → ℕ → Read Kind
array_at_as_listed s at = elim (first_name (names arrays) s at 0) [ None ↦ Err at | Some (k, next) ↦ count_at_as_listed s k (spaced s next) ]

abbrev type_at_as_listed : Bytes → ℕ → Read Kind
type_at_as_listed s at =
    elim (ltb 9 (digit_of (byte s at))) [
      | true ↦ elim (first_name (names types) s at 0) [ None ↦ array_at_as_listed s at | Some (k, next) ↦ Ok (kind_no k, next) ]
      | false ↦ bits_at s at
    ]

abbrev based_by_as_listed : ℕ → Bool → ℕ → Named → Read Hint
based_by_as_listed at alternate pad (Some (k, next)) = Ok (hint.Radix (base_no k) alternate pad, next)
based_by_as_listed at true pad None = Err at
based_by_as_listed at false pad None = elim (eqb pad 0) [ true ↦ Err at | false ↦ Ok (hint.Padded pad, at) ]

abbrev shaped_at_as_listed : Bytes → Bool → ℕ → Read Hint
shaped_at_as_listed s alternate at =
    elim (pad_at s at) [ None ↦ Err at | Some (pad, next) ↦ based_by_as_listed next alternate pad (first_name (names bases) s next 0) ]

abbrev hint_at_as_listed : Bytes → ℕ → Read Hint
hint_at_as_listed s at =
    elim (first_name (names hints) s at 0) [
      | Some (k, next) ↦ Ok (hint_no k, next)
      | None ↦ elim (is s at "#") [ true ↦ shaped_at_as_listed s true (at + 1) | false ↦ shaped_at_as_listed s false at ]
    ]

first_array : (k : ℕ) → k ≡ 0 → (r : Read ℕ) → sized kind.ByteArray r ≡ sized (array_no k) r
unfolding arrays meaning
first_array zero e r = refl
first_array (suc k) e r = absurd (omega arith)

-- the second name, and none behind it
other_array : (k : ℕ) → (k ≡ 0 → ⊥) → (r : Read ℕ) → sized kind.FormatArray r ≡ sized (array_no k) r
unfolding arrays meaning
other_array zero e r = absurd (e refl)
other_array (suc zero) e r = refl
other_array (suc (suc k)) e r = refl

-- ---- they read the same

module _ (s : Bytes) where
  types_listed : (at : ℕ) → named types s at ≡ by_number kind_no (first_name (names types) s at 0)
  unfolding types kind_no meaning
  types_listed at = named_as_listed types kind_no s at 0 (refl, (refl, (refl, (refl, (refl, (refl, (refl, (refl, (refl, (refl, (refl, (refl, (refl, (refl, (refl, (refl, (refl, (refl, (refl, (refl, (refl, (refl, (refl, (refl, tt))))))))))))))))))))))))

  arrays_listed : (at : ℕ) → named arrays s at ≡ by_number array_no (first_name (names arrays) s at 0)
  unfolding arrays meaning
  arrays_listed at = named_as_listed arrays array_no s at 0 (refl, (refl, tt))

  hints_listed : (at : ℕ) → named hints s at ≡ by_number hint_no (first_name (names hints) s at 0)
  unfolding hints meaning
  hints_listed at = named_as_listed hints hint_no s at 0 (refl, (refl, (refl, (refl, (refl, (refl, (refl, tt)))))))

  bases_listed : (at : ℕ) → named bases s at ≡ by_number base_no (first_name (names bases) s at 0)
  unfolding bases meaning
  bases_listed at = named_as_listed bases base_no s at 0 (refl, (refl, (refl, (refl, tt))))

  sized_listed : (k at : ℕ) → sized (array_no k) (count_at s at) ≡ count_at_as_listed s k (spaced s at)
  unfolding count_at
  sized_listed k at = over (number_at s (spaced s at) 65535)
    where
      over : (r : Number) → sized (array_no k) (elim r [
        | None ↦ Err (spaced s at)
        | Some (n, next) ↦ elim (is s next "]") [ true ↦ Ok (n, next + 1) | false ↦ Err next ]
      ]) ≡ (elim r [
        | None ↦ Err (spaced s at)
        | Some (n, next) ↦ elim (is s next "]") [ true ↦ Ok (array_no k n, next + 1) | false ↦ Err next ]
      ])
      over None = refl
      over (Some (n, next)) = by_test (is s next "]") (λ t. rw t refl) (λ t. rw t refl)

  abbrev array_by : ℕ → Option ((ℕ → Kind) × ℕ) → Read Kind
  array_by at None = Err at
  array_by at (Some (array, next)) = sized array (count_at s next)

  array_listed : (at : ℕ) → array_at s at ≡ array_at_as_listed s at
  unfolding array_at
  array_listed at = ap (array_by at) (arrays_listed at) ∙ over (first_name (names arrays) s at 0)
    where
      over : (r : Named) → ◌≡◌ {A = Read Kind} (array_by at (by_number array_no r)) (elim r [ None ↦ Err at | Some (k, next) ↦ count_at_as_listed s k (spaced s next) ])
      over None = refl
      over (Some (k, next)) = sized_listed k next

  -- by the number of the name that stands at a place
  module _ (at : ℕ) (r : Named) (f : r ≡ first_name (words (bytes "[u8; [?;")) s at 0) where
    array_of : array_by at (by_number array_no r) ≡ array_at s at
    unfolding array_at arrays names words grow
    array_of = ap (λ (q : Named). array_by at (by_number array_no q)) f ∙ sym (ap (array_by at) (arrays_listed at))

    pub no_array : r ≡ None → Err at ≡ array_at s at
    no_array e = sym (ap (λ (q : Named). array_by at (by_number array_no q)) e) ∙ array_of

    module _ (k next : ℕ) (e : r ≡ Some (k, next)) where
      numbered : sized (array_no k) (count_at s next) ≡ array_at s at
      numbered = sym (ap (λ (q : Named). array_by at (by_number array_no q)) e) ∙ array_of

      pub bad_count : {e : ℕ} → Err e ≡ count_at s next → Err e ≡ array_at s at
      bad_count q = ap (sized (array_no k)) q ∙ numbered

      pub byte_array : k ≡ 0 → sized kind.ByteArray (count_at s next) ≡ array_at s at
      byte_array z = first_array k z (count_at s next) ∙ numbered

      pub format_array : (k ≡ 0 → ⊥) → sized kind.FormatArray (count_at s next) ≡ array_at s at
      format_array z = other_array k z (count_at s next) ∙ numbered

  -- behind a byte that is no digit
  abbrev type_by : Read Kind → Option (Kind × ℕ) → Read Kind
  type_by array None = array
  type_by array (Some read) = Ok read

  type_by_listed : (at : ℕ) → type_by (array_at s at) (named types s at)
      ≡ (elim (first_name (names types) s at 0) [ None ↦ array_at_as_listed s at | Some (k, next) ↦ Ok (kind_no k, next) ])
  type_by_listed at = ap₂ type_by (array_listed at) (types_listed at) ∙ over (first_name (names types) s at 0)
    where
      over : (r : Named) → ◌≡◌ {A = Read Kind} (type_by (array_at_as_listed s at) (by_number kind_no r)) (elim r [ None ↦ array_at_as_listed s at | Some (k, next) ↦ Ok (kind_no k, next) ])
      over None = refl
      over (Some (k, next)) = refl

  -- the type at a place
  pub type_listed : (at : ℕ) → type_at s at ≡ type_at_as_listed s at
  unfolding type_at
  type_listed at = by_test (ltb 9 (digit_of (byte s at))) (λ t. rw (t, type_at, type_at_as_listed) (type_by_listed at)) (λ t. rw (t, type_at, type_at_as_listed) refl)

  based_listed : (at : ℕ) (alternate : Bool) (pad : ℕ) (r : Named) → based_by at alternate pad (by_number base_no r) ≡ based_by_as_listed at alternate pad r
  based_listed at true pad None = refl
  based_listed at false pad None = refl
  based_listed at alternate pad (Some (k, next)) = refl

  shaped_listed : (alternate : Bool) (at : ℕ) → shaped_at s alternate at ≡ shaped_at_as_listed s alternate at
  unfolding shaped_at
  shaped_listed alternate at = over (pad_at s at)
    where
      over : (p : Number) → ◌≡◌ {A = Read Hint} (elim p [ None ↦ Err at | Some (pad, next) ↦ based_by next alternate pad (named bases s next) ])
          (elim p [ None ↦ Err at | Some (pad, next) ↦ based_by_as_listed next alternate pad (first_name (names bases) s next 0) ])
      over None = refl
      over (Some (pad, next)) = ap (based_by next alternate pad) (bases_listed next) ∙ based_listed next alternate pad (first_name (names bases) s next 0)

  abbrev hint_by : Read Hint → Option (Hint × ℕ) → Read Hint
  hint_by other None = other
  hint_by other (Some read) = Ok read

  other_listed : (at : ℕ) → ◌≡◌ {A = Read Hint} (elim (is s at "#") [ true ↦ shaped_at s true (at + 1) | false ↦ shaped_at s false at ])
      (elim (is s at "#") [ true ↦ shaped_at_as_listed s true (at + 1) | false ↦ shaped_at_as_listed s false at ])
  other_listed at = by_test (is s at "#") (λ t. rw t (shaped_listed true (at + 1))) (λ t. rw t (shaped_listed false at))

  -- the hint at a place
  pub hint_listed : (at : ℕ) → hint_at s at ≡ hint_at_as_listed s at
  unfolding hint_at
  hint_listed at = ap₂ hint_by (other_listed at) (hints_listed at) ∙ over (first_name (names hints) s at 0)
    where
      other : Read Hint
      other = elim (is s at "#") [ true ↦ shaped_at_as_listed s true (at + 1) | false ↦ shaped_at_as_listed s false at ]

      over : (r : Named) → ◌≡◌ {A = Read Hint} (hint_by other (by_number hint_no r)) (elim r [ Some (k, next) ↦ Ok (hint_no k, next) | None ↦ other ])
      over None = refl
      over (Some (k, next)) = refl

-- What the tests complete are declared cells, and written ones.
use Rattle.std.proofs.Common.{◌≡◌, ℕ, ◌<◌, Bool, List, [], ◌∷◌, ◌++◌, length, refl, sym, ◌∙◌, subst}
use Rattle.std.specs.Prelude.{Some, None}
use Rattle.std.specs.List.{AllByRecursion}
use Rattle.std.proofs.lemmas.List.Elements.{All-contains, All-from_recursion}
use Rattle.rule_terms.specs.declared.defs.CellShape.{CellShape}
use Rattle.rule_terms.specs.Language.{Language}
use Rattle.rule_terms.specs.Sound.{IsSound}
use Rattle.rule_terms.proofs.Sounding.{sound_definition}
use Rattle.rule_terms.proofs.ExamplesSound.{is_same_sort, same_sort}
use Rattle.cell_completion.specs.declared.tree.Written.{Written}
use Rattle.cell_completion.specs.Listed.{AreDeclared, AreWritten}
use Rattle.cell_completion.specs.Sample.{sample_shapes, written_two}

-- a definition with these cells and no rules
abbrev empty : Language
empty = record { sorts = record { steps = []; productions = [] }; cells = sample_shapes; rules = []; labels = [] }

is_sound : IsSound empty
is_sound = sound_definition is_same_sort empty (same_sort empty.sorts) refl

are_declared : AreDeclared sample_shapes
are_declared = record { some_cell = is_sound.some_cell; few_cells = is_sound.few_cells; tree = is_sound.tree }

pub sample_is_declared : (made : List CellShape) → made ≡ sample_shapes → AreDeclared made
sample_is_declared made is = subst AreDeclared (sym is) are_declared

-- ---- two written cells

-- none of these is in another
abbrev IsOuter : Written → Type 0
IsOuter w = w.above ≡ None

behind : (w : Written) (before after ws : List Written) → AllByRecursion IsOuter ws → ws ≡ before ++ w ∷ after → IsOuter w
behind w [] after [] all is = absurd (let f : [] ≡ w ∷ after = is in cc)
behind w [] after (v ∷ ws) all is = let f : v ∷ ws ≡ w ∷ after = is in let same : v ≡ w = cc in subst IsOuter same all.0
behind w (u ∷ before) after [] all is = absurd (let f : [] ≡ u ∷ before ++ w ∷ after = is in cc)
behind w (u ∷ before) after (v ∷ ws) all is =
    let f : v ∷ ws ≡ u ∷ before ++ w ∷ after = is in
    let same : ws ≡ before ++ w ∷ after = cc in
    behind w before after ws all.1 same

pub two_are_written : (shapes : List CellShape) (one other : ℕ) (both : Bool) → one < length shapes → other < length shapes → AreWritten shapes (written_two one other both)
two_are_written shapes one other both low high = record {
  declared = λ w within. All-contains (λ (v : Written). v.cell < length shapes) (written_two one other both) w
      (All-from_recursion (λ (v : Written). v.cell < length shapes) (written_two one other both) (low, (high, tt))) within;
  different = refl;
  enclosed = λ before after w mark is above.
      absurd (let outer : w.above ≡ None = behind w before after (written_two one other both) (refl, (refl, tt)) is in
      let f : Some mark ≡ None = sym above ∙ outer in cc);
}

pub sample_is_written : (shapes : List CellShape) (made : List Written) (one other : ℕ) (both : Bool) → shapes ≡ sample_shapes → one < 5 → other < 5
    → made ≡ written_two one other both → AreWritten shapes made
sample_is_written shapes made one other both same low high is =
    subst (AreWritten shapes) (sym is) (subst (λ s. AreWritten s (written_two one other both)) (sym same) (two_are_written sample_shapes one other both low high))

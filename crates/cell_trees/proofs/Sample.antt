-- The declared configuration of the tests is one.
use Rattle.std.proofs.Common.{◌≡◌, ℕ, zero, suc, Bool, true, ◌==◌, cond, List, [], ◌∷◌, refl, sym, ap, ◌∙◌, subst}
use Rattle.std.specs.Prelude.{Option, Some, None, slice_get}
use Rattle.k_terms.specs.Value.{open_values}
use Rattle.rule_terms.specs.declared.defs.CellShape.{CellShape}
use Rattle.rule_terms.specs.Language.{Language}
use Rattle.rule_terms.specs.Sound.{IsSound}
use Rattle.rule_terms.proofs.Sounding.{sound_definition}
use Rattle.rule_terms.proofs.ExamplesSound.{is_same_sort, same_sort}
use Rattle.cell_trees.specs.declared.declared.Declared.{Declared}
use Rattle.cell_trees.specs.declared.declared.Declared.TheVariants.{Program, Input, Fixed}
use Rattle.cell_trees.specs.Trees.{Tree, IsTree, names_of}
use Rattle.cell_trees.specs.Sample.{sample_shapes, sample_held}

abbrev pub sample : Tree
sample = record { shapes = sample_shapes; held = sample_held; k = 2; sort = 10 }

-- a definition with these cells and no rules
abbrev empty : Language
empty = record { sorts = record { steps = []; productions = [] }; cells = sample_shapes; rules = []; labels = [] }

is_sound : IsSound empty
is_sound = sound_definition is_same_sort empty (same_sort empty.sorts) refl

-- the names are told by their first letters
abbrev first_letter : List ℕ → ℕ
first_letter [] = 0
first_letter (c ∷ cs) = c

abbrev place : ℕ → ℕ
place c = cond (c == 84) 0 (cond (c == 116) 1 (cond (c == 107) 2 (cond (c == 101) 3 (cond (c == 105) 4 5))))

abbrev place_in : Option (List ℕ) → ℕ
place_in None = 6
place_in (Some name) = place (first_letter name)

told : (n : ℕ) (name : List ℕ) → slice_get (names_of sample_shapes) n ≡ Some name → place (first_letter name) ≡ n
told zero name e = ap place_in (sym e)
told (suc zero) name e = ap place_in (sym e)
told (suc (suc zero)) name e = ap place_in (sym e)
told (suc (suc (suc zero))) name e = ap place_in (sym e)
told (suc (suc (suc (suc zero)))) name e = ap place_in (sym e)
told (suc (suc (suc (suc (suc zero))))) name e = ap place_in (sym e)
told (suc (suc (suc (suc (suc (suc n)))))) name e = absurd (let f : None ≡ Some name = e in cc)

abbrev is_many : Option CellShape → Bool
is_many None = true
is_many (Some shape) = shape.many

-- the program stands in cell 2
abbrev has_program : Option (Option Declared) → Type 0
has_program (Some (Some (Program sort))) = Unit {0}
has_program (Some (Some Input)) = ⊥
has_program (Some (Some (Fixed c))) = ⊥
has_program (Some None) = ⊥
has_program None = ⊥

stands : (n sort : ℕ) → slice_get sample_held n ≡ Some (Some (Program sort)) → has_program (slice_get sample_held n)
stands n sort e = subst has_program (sym e) tt

in_cell_2 : (n : ℕ) → has_program (slice_get sample_held n) → n ≡ 2
in_cell_2 zero h = absurd h
in_cell_2 (suc zero) h = absurd h
in_cell_2 (suc (suc zero)) h = refl
in_cell_2 (suc (suc (suc zero))) h = absurd h
in_cell_2 (suc (suc (suc (suc zero)))) h = absurd h
in_cell_2 (suc (suc (suc (suc (suc zero))))) h = absurd h
in_cell_2 (suc (suc (suc (suc (suc (suc n)))))) h = absurd h

is_tree : IsTree sample
unfolding open_values
is_tree = record {
  some_cell = is_sound.some_cell;
  few_cells = is_sound.few_cells;
  placed = is_sound.tree;
  single = λ shape e. ap is_many (sym e);
  differ = λ one other name a b. sym (told one name a) ∙ told other name b;
  kinds = refl;
  named = refl;
  program = refl;
  only = λ n sort e. in_cell_2 n (stands n sort e);
}

pub sample_is_tree : (made : Tree) → made ≡ sample → IsTree made
sample_is_tree made is = subst IsTree (sym is) is_tree

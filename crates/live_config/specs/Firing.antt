-- Where a rule binds in a live configuration, and what the configuration is after it fires there.
use Rattle.std.specs.Prelude.{◌≡◌, ℕ, Bool, not, ◌==◌, ◌&&◌, List, [], ◌∷◌, Option, Some, None, IsTrue, IsSome, map, filter, length, is_none}
use Rattle.std.specs.Option.{option_map, option_and_then}
use Rattle.std.specs.List.{list_any, list_all}
use Rattle.std.specs.Ordering.{nat_cmp}
use Rattle.std.specs.FinMap.{put}
use Rattle.rule_terms.specs.declared.pattern.Body.{Body, Cells'}
use Rattle.rule_terms.specs.declared.rule.Rule.{Rule}
use Rattle.rule_terms.specs.Substitution.{Subst, cells_of}
use Rattle.rule_terms.specs.Eval.{eval_all}
use Rattle.rule_terms.specs.Fill.{content_of, fill}
use Rattle.rule_terms.specs.Language.{Language, rule_at}
use Rattle.rule_terms.specs.Rewriting.{Suits}
use Rattle.live_config.specs.declared.cell.Cell.{Cell}
use Rattle.live_config.specs.declared.site.Site.{Site}
use Rattle.live_config.specs.declared.site.Fired.{Fired}
use Rattle.rule_terms.specs.Numbers.{has_number, all_different}
use Rattle.live_config.specs.Configuration.{Configuration, cell_at, parent_number, below, tree, way_up, level_limit}
use Rattle.rule_terms.specs.Spots.{Spot, spots, child_marks, has_mark, new_spots, number_of, key_patterns}

-- the numbers of the cells with these marks
abbrev pub numbers_of : List Spot → List ℕ → List ℕ → List ℕ
numbers_of ps ns [] = []
numbers_of ps ns (mark ∷ marks) = elim (number_of ps ns mark) [ None ↦ numbers_of ps ns marks | Some n ↦ n ∷ numbers_of ps ns marks ]

-- the children of a cell beside those that its body names
abbrev pub further : Configuration → List Spot → List ℕ → Body → ℕ → List ℕ
further c ps ns body n = filter (λ m. not (has_number (numbers_of ps ns (child_marks body)) m)) (below c n)

-- the rest of cells of a body stands for the further children of its cell; there are none where there is no rest
abbrev pub HasFurther : Configuration → List Spot → List ℕ → Subst → Body → ℕ → Type 0
HasFurther c ps ns s (Cells' shape children rest) n =
    cells_of rest s ≡ Some (map (tree level_limit c) (further c ps ns (Cells' shape children rest) n))
HasFurther c ps ns s _ n = Unit {0}

-- a left cell is matched at the cell with this number
pub record IsMatched (c : Configuration) (ps : List Spot) (ns : List ℕ) (s : Subst) (p : Spot) (n : ℕ) : Type 0 where
  pub cell : Cell
  pub there : cell_at c n ≡ Some cell
  pub kind : cell.kind ≡ p.cell
  pub parent : parent_number cell ≡ option_and_then (number_of ps ns) p.above
  pub content : content_of p.body s ≡ Some cell.content
  pub others : HasFurther c ps ns s p.body n

-- each left cell is matched at its number
abbrev pub AreMatched : Configuration → List Spot → List ℕ → Subst → List Spot → List ℕ → Type 0
AreMatched c ps ns s [] [] = Unit {0}
AreMatched c ps ns s [] (_ ∷ _) = ⊥
AreMatched c ps ns s (_ ∷ _) [] = ⊥
AreMatched c ps ns s (q ∷ qs) (m ∷ ms) = IsMatched c ps ns s q m × AreMatched c ps ns s qs ms

-- The site fits its rule under the substitution: it has one cell for each left cell, all different, each matched there,
-- and one key for each left map entry; the variables are of their sorts, the conditions are met and the right side is
-- defined.
pub record Binds (d : Language) (c : Configuration) (site : Site) (r : Rule) (s : Subst) : Type 0 where
  pub rule : rule_at d site.rule ≡ Some r
  pub suits : Suits d.sorts r s
  pub different : IsTrue (all_different site.cells)
  pub matched : AreMatched c (spots r.left) site.cells s (spots r.left) site.cells
  pub keys : eval_all (key_patterns (spots r.left)) s ≡ Some site.keys
  pub right_defined : IsSome (fill r.right s)

-- the numbers of the removed cells: those of the left marks that are not on the right
abbrev pub removed : Rule → List ℕ → List ℕ
removed r ns = numbers_of (spots r.left) ns (map (λ (p : Spot). p.mark) (filter (λ (p : Spot). not (has_mark (spots r.right) p.mark)) (spots r.left)))

-- the cell goes: it is one of these or lies below one
abbrev pub goes : Configuration → List ℕ → ℕ → Bool
goes c gone n = list_any (has_number gone) (way_up level_limit c n)

-- the number of a right cell: that of the left cell with its mark, or its birth
abbrev pub right_number : Rule → List ℕ → List ℕ → ℕ → Option ℕ
right_number r ns births mark = elim (number_of (spots r.left) ns mark) [ Some n ↦ Some n | None ↦ number_of (new_spots r) births mark ]

-- each right cell is put at its number, with its content and its parent
abbrev pub put_spots : (ℕ → Option ℕ) → Subst → List Spot → List (ℕ × Cell) → Option (List (ℕ × Cell))
put_spots number s [] cells = Some cells
put_spots number s (p ∷ ps) cells =
    option_and_then
    (λ n. option_and_then
    (λ content. put_spots number s ps
    (put nat_cmp n (record { kind = p.cell; parent = option_map (λ m. record { 0 = m }) (option_and_then number p.above); content = content }) cells))
    (content_of p.body s))
    (number p.mark)

-- The configuration after the firing: removed cells and all below them are gone, and each right cell has its content.
abbrev pub fired : Configuration → Rule → List ℕ → List ℕ → Subst → Option Configuration
fired c r ns births s =
    option_map (λ cells. record { cells = cells })
    (put_spots (right_number r ns births) s (spots r.right) (filter (λ e. not (goes c (removed r ns) e.0)) c.cells))

-- a number is free for a new cell
abbrev pub is_free : Configuration → ℕ → Bool
is_free c n = not (n == 0) && is_none (cell_at c n)

-- the rule fires at the site with these births
pub record Fires (d : Language) (c : Configuration) (site : Site) (births : List ℕ) (r : Rule) (s : Subst) (after : Configuration) : Type 0 where
  pub binds : Binds d c site r s
  pub count : length births ≡ length (new_spots r)
  pub different : IsTrue (all_different births)
  pub free : IsTrue (list_all (is_free c) births)
  pub gives : fired c r site.cells births s ≡ Some after

-- the entries, fired one after the other, lead from one configuration to another
abbrev pub Leads : Language → Configuration → List Fired → Configuration → Type 0
Leads d c [] after = c ≡ after
Leads d c (entry ∷ entries) after =
    (r : Rule) × (s : Subst) × (mid : Configuration) × Fires d c entry.site entry.births r s mid × Leads d mid entries after

-- What the bodies of a completed rule have of those of its draft.
use Rattle.std.proofs.Common.{◌≡◌, ℕ, Bool, true, false, ◌||◌, List, [], ◌∷◌, map, Option, Some, None, refl, ap}
use Rattle.std.specs.List.{list_any}
use Rattle.k_terms.specs.declared.value.Value.{Value}
use Rattle.k_terms.specs.declared.value.Content.TheVariants as content
use Rattle.rule_terms.specs.declared.defs.Kind.{Kind}
use Rattle.rule_terms.specs.declared.defs.Kind.TheVariants.{Cells as CellsKind, Seq as SeqKind, Map as MapKind, List as ListKind, One as OneKind}
use Rattle.rule_terms.specs.declared.pattern.Pattern.{Pattern, Lit}
use Rattle.rule_terms.specs.declared.pattern.Body.{Body, Cells', Seq, Map, List as Listed, One, Made}
use Rattle.rule_terms.specs.declared.pattern.CellPat.{CellPat}
use Rattle.rule_terms.specs.Patterns.{body_rest, parts_mention, mentions}
use Rattle.rule_terms.specs.Sound.{is_body_of, cells_rest, all_patterns, has_rest_at_end, is_made}
use Rattle.rule_completion.specs.Completed.{with_inside}
use Rattle.cell_trees.specs.declared.declared.Declared.{Declared}
use Rattle.cell_trees.specs.declared.declared.Declared.TheVariants.{Program, Input, Fixed}
use Rattle.cell_trees.specs.Trees.{kind_of}
use Rattle.cell_trees.specs.Defaults.{body_of}

-- ---- a body with other cells in it

pub rest_with : (body : Body) (cells : List CellPat) → cells_rest (with_inside body cells) ≡ cells_rest body
rest_with (Cells' shape row rest) cells = refl
rest_with (Seq parts rest) cells = refl
rest_with (Map entries rest) cells = refl
rest_with (Listed before rest after) cells = refl
rest_with (One p) cells = refl
rest_with (Made p) cells = refl

pub any_rest_with : (body : Body) (cells : List CellPat) → body_rest (with_inside body cells) ≡ body_rest body
any_rest_with (Cells' shape row rest) cells = refl
any_rest_with (Seq parts rest) cells = refl
any_rest_with (Map entries rest) cells = refl
any_rest_with (Listed before rest after) cells = refl
any_rest_with (One p) cells = refl
any_rest_with (Made p) cells = refl

pub parts_with : (x : ℕ) (body : Body) (cells : List CellPat) → parts_mention x (with_inside body cells) ≡ parts_mention x body
parts_with x (Cells' shape row rest) cells = refl
parts_with x (Seq parts rest) cells = refl
parts_with x (Map entries rest) cells = refl
parts_with x (Listed before rest after) cells = refl
parts_with x (One p) cells = refl
parts_with x (Made p) cells = refl

pub patterns_with : (test : Pattern → Bool) (body : Body) (cells : List CellPat) → all_patterns test (with_inside body cells) ≡ all_patterns test body
patterns_with test (Cells' shape row rest) cells = refl
patterns_with test (Seq parts rest) cells = refl
patterns_with test (Map entries rest) cells = refl
patterns_with test (Listed before rest after) cells = refl
patterns_with test (One p) cells = refl
patterns_with test (Made p) cells = refl

pub end_with : (body : Body) (cells : List CellPat) → has_rest_at_end (with_inside body cells) ≡ has_rest_at_end body
end_with (Cells' shape row rest) cells = refl
end_with (Seq parts rest) cells = refl
end_with (Map entries rest) cells = refl
end_with (Listed before rest after) cells = refl
end_with (One p) cells = refl
end_with (Made p) cells = refl

pub made_with : (body : Body) (cells : List CellPat) → is_made (with_inside body cells) ≡ is_made body
made_with (Cells' shape row rest) cells = refl
made_with (Seq parts rest) cells = refl
made_with (Map entries rest) cells = refl
made_with (Listed before rest after) cells = refl
made_with (One p) cells = refl
made_with (Made p) cells = refl

pub kind_with : (kind : Kind) (body : Body) (cells : List CellPat) → is_body_of kind (with_inside body cells) ≡ is_body_of kind body
kind_with CellsKind (Cells' shape row rest) cells = refl
kind_with SeqKind (Cells' shape row rest) cells = refl
kind_with MapKind (Cells' shape row rest) cells = refl
kind_with ListKind (Cells' shape row rest) cells = refl
kind_with (OneKind sort) (Cells' shape row rest) cells = refl
kind_with kind (Seq parts rest) cells = refl
kind_with kind (Map entries rest) cells = refl
kind_with kind (Listed before rest after) cells = refl
kind_with kind (One p) cells = refl
kind_with kind (Made p) cells = refl

pub one_with : (body : Body) (cells : List CellPat) (q : Pattern) → with_inside body cells ≡ One q → body ≡ One q
one_with (Cells' shape row rest) cells q e = absurd (let f : true ≡ false = ap (is_body_of CellsKind) e in cc)
one_with (Seq parts rest) cells q e = e
one_with (Map entries rest) cells q e = e
one_with (Listed before rest after) cells q e = e
one_with (One p) cells q e = e
one_with (Made p) cells q e = e

-- ---- what a cell declares, as a body

no_literal : (x : ℕ) (values : List Value) → list_any (mentions x) (map (λ v. Lit v) values) ≡ false
unfolding mentions
no_literal x [] = refl
no_literal x (v ∷ values) = no_literal x values

no_entry : (x : ℕ) (entries : List (Value × Value)) → list_any (λ (e : Pattern × Pattern). mentions x e.0 || mentions x e.1) (map (λ (e : Value × Value). (Lit e.0, Lit e.1)) entries) ≡ false
unfolding mentions
no_entry x [] = refl
no_entry x (e ∷ entries) = no_entry x entries

pub declared_parts : (x : ℕ) (o : Option Declared) (cells : List CellPat) → parts_mention x (body_of o cells) ≡ false
unfolding mentions
declared_parts x None cells = refl
declared_parts x (Some (Program sort)) cells = refl
declared_parts x (Some Input) cells = refl
declared_parts x (Some (Fixed content.Cells)) cells = refl
declared_parts x (Some (Fixed (content.Seq values))) cells = no_literal x values
declared_parts x (Some (Fixed (content.Map entries))) cells = no_entry x entries
declared_parts x (Some (Fixed (content.List values))) cells = ap (λ b. b || false) (no_literal x values)
declared_parts x (Some (Fixed (content.One v))) cells = refl

pub declared_rest : (o : Option Declared) (cells : List CellPat) → body_rest (body_of o cells) ≡ None
declared_rest None cells = refl
declared_rest (Some (Program sort)) cells = refl
declared_rest (Some Input) cells = refl
declared_rest (Some (Fixed content.Cells)) cells = refl
declared_rest (Some (Fixed (content.Seq values))) cells = refl
declared_rest (Some (Fixed (content.Map entries))) cells = refl
declared_rest (Some (Fixed (content.List values))) cells = refl
declared_rest (Some (Fixed (content.One v))) cells = refl

pub declared_cells_rest : (o : Option Declared) (cells : List CellPat) → cells_rest (body_of o cells) ≡ None
declared_cells_rest None cells = refl
declared_cells_rest (Some (Program sort)) cells = refl
declared_cells_rest (Some Input) cells = refl
declared_cells_rest (Some (Fixed content.Cells)) cells = refl
declared_cells_rest (Some (Fixed (content.Seq values))) cells = refl
declared_cells_rest (Some (Fixed (content.Map entries))) cells = refl
declared_cells_rest (Some (Fixed (content.List values))) cells = refl
declared_cells_rest (Some (Fixed (content.One v))) cells = refl

pub declared_kind : (o : Option Declared) (cells : List CellPat) → is_body_of (kind_of o) (body_of o cells) ≡ true
declared_kind None cells = refl
declared_kind (Some (Program sort)) cells = refl
declared_kind (Some Input) cells = refl
declared_kind (Some (Fixed content.Cells)) cells = refl
declared_kind (Some (Fixed (content.Seq values))) cells = refl
declared_kind (Some (Fixed (content.Map entries))) cells = refl
declared_kind (Some (Fixed (content.List values))) cells = refl
declared_kind (Some (Fixed (content.One v))) cells = refl

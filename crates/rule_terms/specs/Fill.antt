-- What a cell pattern is under a substitution.
use Rattle.std.specs.Prelude.{ℕ, cond, List, [], ◌∷◌, Option, Some, None, is_some}
use Rattle.std.specs.Option.{option_map, option_and_then}
use Rattle.std.specs.FinMap.{find, put}
use Rattle.k_terms.specs.declared.value.Value.{Value, out-Value}
use Rattle.k_terms.specs.declared.value.Value.TheOpen.{Seq as Seq-F, Map as Map-F, List as List-F}
use Rattle.k_terms.specs.declared.value.Content.{Content}
use Rattle.k_terms.specs.declared.value.Content.TheVariants.{Cells as NoContent, Seq as SeqContent, Map as MapContent, List as ListContent, One as OneContent}
use Rattle.k_terms.specs.Value.{value_cmp}
use Rattle.k_terms.specs.Operators.{as_entries, as_members}
use Rattle.rule_terms.specs.declared.plain.Plain.{Plain, roll-Plain}
use Rattle.rule_terms.specs.declared.pattern.Body.{Body, Cells', Seq, Map, List as Listed, One, Made, Row_of-CellPat, end_of-CellPat, more_of-CellPat}
use Rattle.rule_terms.specs.declared.pattern.CellPat.{CellPat}
use Rattle.rule_terms.specs.Options.{joined}
use Rattle.rule_terms.specs.Substitution.{Subst, rest_of, as_sequence, cells_of}
use Rattle.rule_terms.specs.Eval.{eval, eval_all, eval_entries}

-- entries put into a map one by one, where each key is new
abbrev pub put_new : List (Value × Value) → List (Value × Value) → Option (List (Value × Value))
put_new [] entries = Some entries
put_new (e ∷ es) entries =
    option_and_then (λ more. cond (is_some (find value_cmp e.0 more)) None (Some (put value_cmp e.0 e.1 more))) (put_new es entries)

-- a value as the whole content of a cell
abbrev pub content_from : Value → Content
content_from v = elim (out-Value v) [ Seq-F values ↦ SeqContent values | Map-F entries ↦ MapContent entries | List-F values ↦ ListContent values | _ ↦ OneContent v ]

-- The content of a cell whose body is this one. The content is not itself a value, so only the values in it have the
-- limit on depth.
abbrev pub content_of : Body → Subst → Option Content
content_of (Cells' _ _ _) s = Some NoContent
content_of (Seq parts rest) s = option_map SeqContent (joined (eval_all parts s) (rest_of as_sequence rest s))
content_of (Map entries rest) s =
    option_map MapContent (option_and_then (λ es. option_and_then (put_new es) (rest_of as_entries rest s)) (eval_entries entries s))
content_of (Listed before rest after) s =
    option_map ListContent (joined (joined (eval_all before s) (rest_of as_members rest s)) (eval_all after s))
content_of (One p) s = option_map OneContent (eval p s)
content_of (Made p) s = option_map content_from (eval p s)

abbrev pub plain_cell : ℕ → Content → List Plain → Plain
plain_cell cell content children = roll-Plain (record { cell = cell; content = content; children = children })

-- A cell, its content and its children; a rest of cells stands for further children.
unfoldable mutual
  pub fill_body : ℕ → Body → Subst → Option Plain
  fill_body cell (Cells' _ children rest) s = option_map (plain_cell cell NoContent) (joined (fill_row children s) (cells_of rest s))
  fill_body cell body s = option_map (λ content. plain_cell cell content []) (content_of body s)

  pub fill_row : {n : _} → Row_of-CellPat n → Subst → Option (List Plain)
  fill_row end_of-CellPat s = Some []
  fill_row (more_of-CellPat cell _ body cells) s = option_and_then (λ t. option_map (λ ts. t ∷ ts) (fill_row cells s)) (fill_body cell body s)

abbrev pub fill : CellPat → Subst → Option Plain
fill p s = fill_body p.cell p.body s

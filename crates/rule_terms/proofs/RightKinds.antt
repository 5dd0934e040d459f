-- The content that a right cell of a sound rule builds is of the cell's declared kind.
use Rattle.std.proofs.Common.{◌≡◌, ℕ, true, false, List, ◌++◌, refl, sym, ap, subst, ◌∙◌}
use Rattle.std.specs.Prelude.{Option, Some, Contains, slice_get}
use Rattle.std.specs.Option.{option_and_then}
use Rattle.std.specs.FinMap.{put}
use Rattle.std.proofs.lemmas.List.Elements.{Contains-append_right}
use Rattle.k_terms.specs.declared.op.Op.TheVariants.{SetKey}
use Rattle.k_terms.specs.declared.value.Value.{Value}
use Rattle.k_terms.specs.declared.value.Value.TheVariants.{outs-Map}
use Rattle.k_terms.specs.declared.value.Content.{Content}
use Rattle.k_terms.specs.declared.value.Content.TheVariants.{Cells as NoContent, Seq as SeqContent, Map as MapContent, List as ListContent, One as OneContent}
use Rattle.k_terms.specs.Value.{value_cmp}
use Rattle.k_terms.specs.Sorts.{SortOrder, Below, through, least_sort}
use Rattle.k_terms.specs.Operators.{as_entries, as_members, table}
use Rattle.rule_terms.specs.declared.defs.CellShape.{CellShape}
use Rattle.rule_terms.specs.declared.defs.Kind.{Kind}
use Rattle.rule_terms.specs.declared.defs.Kind.TheVariants.{Cells as CellsKind, Seq as SeqKind, Map as MapKind, List as ListKind, One as OneKind}
use Rattle.rule_terms.specs.declared.pattern.Pattern.{Pattern, Apply'}
use Rattle.rule_terms.specs.declared.pattern.Body.{Body, Cells', Seq, Map, List as Listed, One, Made}
use Rattle.rule_terms.specs.declared.rule.Rule.{Rule}
use Rattle.rule_terms.specs.Options.{joined}
use Rattle.rule_terms.specs.Substitution.{Subst, rest_of, as_sequence, AreOfSorts}
use Rattle.rule_terms.specs.Eval.{eval, eval_row, eval_all, eval_entries}
use Rattle.rule_terms.specs.Fill.{put_new, content_from, content_of}
use Rattle.rule_terms.specs.Language.{Language}
use Rattle.rule_terms.specs.Spots.{Spot, spots}
use Rattle.rule_terms.specs.Sound.{has_formed_values, all_patterns, sort_of, is_body_of, IsPlaced, IsSoundRule}
use Rattle.rule_terms.specs.Kinds.{IsOfKind}
use Rattle.rule_terms.specs.Laws.{ContentsAreOfKind}
use Rattle.rule_terms.proofs.Defined.{passes, same_some, and_then_gives, map_gives}
use Rattle.rule_terms.proofs.Table.{set_gives}
use Rattle.rule_terms.proofs.EvalSorts.{eval_sort}
use Rattle.rule_terms.proofs.Contents.{IsFormedContent, content_formed, level_content}

-- what an expression of a map makes is a map
abbrev IsMapContent : Content → Type 0
IsMapContent content = (es : List (Value × Value)) × (content ≡ MapContent es)

made_map : (n : _) (arguments : _) (s : Subst) (content : Content) → content_of (Made (Apply' SetKey n arguments)) s ≡ Some content → IsMapContent content
unfolding eval
made_map n arguments s content e =
    let g = map_gives content_from (eval (Apply' SetKey n arguments) s) content e in
    let k = and_then_gives (table SetKey) (eval_row arguments s) g.0 g.1 in
    subst IsMapContent g.2 (set_gives (λ v. IsMapContent (content_from v)) k.0 g.0 (λ a b c entries key value _ _ _ _. (put value_cmp key value entries, ap (level_content _) (outs-Map (put value_cmp key value entries)))) k.2)

-- a single value's sort is below the sort of the kind
abbrev HasSortBelow : SortOrder → List ℕ → Kind → Body → Type 0
HasSortBelow o vars kind body = (q : Pattern) (sort : ℕ) → body ≡ One q → kind ≡ OneKind sort → (least : ℕ) × (sort_of o vars q ≡ Some least) × Below o least sort

-- A content of a body of a kind is of that kind.
kind_of_content : (o : SortOrder) (vars : List ℕ) (kind : Kind) (body : Body) (s : Subst) (content : Content) → AreOfSorts o vars s → is_body_of kind body ≡ true → HasSortBelow o vars kind body → content_of body s ≡ Some content → IsFormedContent content → IsOfKind o kind content
kind_of_content o vars CellsKind (Cells' n children rest) s content sorts is below e formed = subst (IsOfKind o CellsKind) (same_some NoContent content e) tt
kind_of_content o vars SeqKind (Seq parts rest) s content sorts is below e formed =
    let g = map_gives SeqContent (joined (eval_all parts s) (rest_of as_sequence rest s)) content e in
    subst (IsOfKind o SeqKind) g.2 (subst IsFormedContent (sym g.2) formed)
kind_of_content o vars MapKind (Map es rest) s content sorts is below e formed =
    let g = map_gives MapContent (option_and_then (λ news. option_and_then (put_new news) (rest_of as_entries rest s)) (eval_entries es s)) content e in
    subst (IsOfKind o MapKind) g.2 (subst IsFormedContent (sym g.2) formed)
kind_of_content o vars MapKind (Made (Apply' SetKey n arguments)) s content sorts is below e formed =
    let g = made_map n arguments s content e in
    subst (IsOfKind o MapKind) (sym g.1) (subst IsFormedContent g.1 formed)
kind_of_content o vars ListKind (Listed before rest after) s content sorts is below e formed =
    let g = map_gives ListContent (joined (joined (eval_all before s) (rest_of as_members rest s)) (eval_all after s)) content e in
    subst (IsOfKind o ListKind) g.2 (subst IsFormedContent (sym g.2) formed)
kind_of_content o vars (OneKind sort) (One q) s content sorts is below e formed =
    let g = map_gives OneContent (eval q s) content e in
    let b = below q sort refl refl in
    subst (IsOfKind o (OneKind sort)) g.2 (subst IsFormedContent (sym g.2) formed, through (least_sort o g.0) b.0 sort (eval_sort o vars q s g.0 b.0 b.1 sorts g.1) b.2)
kind_of_content o vars _ _ s content sorts is below e formed = let f : false ≡ true = is in cc

some_shape : (shape other : CellShape) (o : Option CellShape) → o ≡ Some shape → o ≡ Some other → shape ≡ other
some_shape shape other o e f = same_some shape other (sym e ∙ f)

placed_kind : (d : Language) (r : Rule) (s : Subst) (p : Spot) (content : Content) (placed : IsPlaced d r.vars (spots r.right) p) → AreOfSorts d.sorts r.vars s → content_of p.body s ≡ Some content → IsFormedContent content → IsOfKind d.sorts placed.shape.kind content
placed_kind d r s p content placed sorts e formed = kind_of_content d.sorts r.vars placed.shape.kind p.body s content sorts placed.kind placed.value e formed

-- each cell of the right side has well-formed values alone
right_values : (d : Language) (r : Rule) (p : Spot) → IsSoundRule d r → Contains (spots r.right) p → all_patterns has_formed_values p.body ≡ true
right_values d r p sound within = passes (λ (q : Spot). all_patterns has_formed_values q.body) (spots r.left ++ spots r.right) p sound.patterns.values (Contains-append_right (spots r.left) (spots r.right) p within)

pub contents_are_of_kind : ContentsAreOfKind
contents_are_of_kind d r s p shape content sound sorts all within declared e =
    let placed = sound.cells.right_placed p within in
    subst (λ (k : CellShape). IsOfKind d.sorts k.kind content) (some_shape placed.shape shape (slice_get d.cells p.cell) placed.declared declared)
    (placed_kind d r s p content placed sorts e (content_formed p.body s content all (right_values d r p sound within) e))

-- A rule that rewrites the sequence of the one cell k fires there.
use Rattle.std.proofs.Common.{◌≡◌, ℕ, List, [], ◌∷◌, ◌++◌, length, refl, sym, ap, ◌∙◌, subst}
use Rattle.std.specs.Prelude.{Option, Some, None, slice_get, is_some}
use Rattle.std.specs.List.{AllByRecursion}
use Rattle.std.specs.Option.{option_map, option_and_then}
use Rattle.std.specs.Borrow.{Bor}
use Rattle.k_terms.specs.declared.value.Value.{Value, Seq}
use Rattle.k_terms.specs.declared.value.Value.TheVariants.{outs-Seq}
use Rattle.k_terms.specs.declared.value.Value.TheOpen.{Seq as Seq-F}
use Rattle.k_terms.specs.declared.value.Content.TheVariants.{Seq as SeqContent}
use Rattle.k_terms.specs.Sorts.{SortOrder}
use Rattle.rule_terms.specs.declared.pattern.Pattern.{Pattern}
use Rattle.rule_terms.specs.declared.pattern.Body.{Seq as SeqBody}
use Rattle.rule_terms.specs.declared.pattern.CellPat.{CellPat}
use Rattle.rule_terms.specs.declared.rule.Rule.{Rule}
use Rattle.rule_terms.specs.declared.rule.Origin.{Origin}
use Rattle.rule_terms.specs.declared.rule.Cond.{Cond}
use Rattle.rule_terms.specs.Options.{joined}
use Rattle.rule_terms.specs.Substitution.{Bound, Whole, Subst, whole_of, value_at, rest_of, as_sequence, AreOfSorts}
use Rattle.rule_terms.specs.Eval.{eval_all, IsMet}
use Rattle.rule_terms.specs.Fill.{content_of, fill_body, plain_cell}
use Rattle.rule_terms.specs.Language.{Language, rule_at}
use Rattle.rule_terms.specs.Rewriting.{Suits}
use Rattle.live_config.specs.declared.site.Site.{Site}
use Rattle.live_config.specs.Configuration.{way_up}
use Rattle.rule_terms.specs.Spots.{spots_in}
use Rattle.live_config.specs.Firing.{Fires}
use Rattle.front_run.specs.Bindings.{wholes, IsAt}
use Rattle.front_run.specs.Front.{cell_of, one_cell, HasParts, Rewrites}
use Rattle.front_run.proofs.Binding.{AreOfSorts-append}
use Rattle.front_run.proofs.Matching.{AreOfSorts-length}
use Rattle.std.proofs.lemmas.List.{length-map}

as_sequence-Seq : (vs : List Value) → as_sequence (Seq vs) ≡ Some vs
as_sequence-Seq vs = ap (λ v. elim v as (λ _. Option (List Value)) [ Seq-F values ↦ Some values | _ ↦ None ]) (outs-Seq vs)

last_bound : (bound : List (Bor Value)) (b : Bound) → slice_get (wholes bound ++ b ∷ []) (length bound) ≡ Some b
last_bound [] b = refl
last_bound (c ∷ bound) b = last_bound bound b

-- one term at the front, with a rest that stands for the further values
front_content : (bound : List (Bor Value)) (p : Pattern) (x : ℕ) (v : Value) (others : List Value) → IsAt bound p v → x ≡ length bound
    → content_of (SeqBody (p ∷ []) (Some x)) (wholes bound ++ Whole (Seq others) ∷ []) ≡ Some (SeqContent (v ∷ others))
front_content bound p x v others at is =
    let s = wholes bound ++ Whole (Seq others) ∷ [] in
    let first : eval_all (p ∷ []) s ≡ Some (v ∷ []) = ap (λ o. option_and_then (λ w. option_map (λ ws. w ∷ ws) (Some [])) o) (at (Whole (Seq others) ∷ [])) in
    let rest : rest_of as_sequence (Some x) s ≡ Some others =
    ap (λ y. option_and_then as_sequence (value_at s y)) is
    ∙ ap (λ o. option_and_then as_sequence (option_and_then whole_of o)) (last_bound bound (Whole (Seq others))) ∙ as_sequence-Seq others in
    ap (option_map SeqContent) ((λ i. joined (first i) (rest i)))

-- a rule whose left term is the first value and whose right term is another rewrites the sequence
pub rewrites : (o : SortOrder) (r : Rule) (left right : Pattern) (variables : List ℕ) (bound : List (Bor Value)) (first made : Value) (others : List Value)
    → HasParts o r left right variables → IsAt bound left first → IsAt bound right made → AreOfSorts o variables (wholes bound)
    → Rewrites o r (wholes bound ++ Whole (Seq others) ∷ []) (first ∷ others) (made ∷ others)
rewrites o r left right variables bound first made others parts left_at right_at sorts =
    let s = wholes bound ++ Whole (Seq others) ∷ [] in
    let x = length variables in
    let count : x ≡ length bound = AreOfSorts-length o variables (wholes bound) sorts ∙ length-map bound (λ (b : Bor Value). Whole b.now) in
    record {
      left_parts = left ∷ [];
      right_parts = right ∷ [];
      left_rest = Some x;
      right_rest = Some x;
      left_front = parts.left_front;
      right_front = parts.right_front;
      suits = record {
        sorts = subst (λ xs. AreOfSorts o xs s) (sym parts.sorts) (AreOfSorts-append o variables (wholes bound) parts.rest_sort (Whole (Seq others)) sorts parts.rest);
        conditions = subst (λ cs. AllByRecursion (IsMet o s) cs) (sym parts.unconditional) tt;
      };
      left = ap (λ b. content_of b s) parts.left_front.body ∙ front_content bound left x first others left_at count;
      right = ap (λ b. content_of b s) parts.right_front.body ∙ front_content bound right x made others right_at count;
    }

-- the site of a rule at the front of the one cell
abbrev pub front_site : ℕ → Site
front_site number = record { rule = number; cells = 1 ∷ []; keys = [] }

abbrev side : List Pattern → Option ℕ → CellPat
side parts rest = record { cell = 0; mark = 0; body = SeqBody parts rest }

abbrev written : Origin → List ℕ → List Cond → List Pattern → Option ℕ → List Pattern → Option ℕ → Rule
written origin vars when ps x qs y = record { origin = origin; vars = vars; left = side ps x; right = side qs y; when = when }

-- a rule whose sides are written out fires
written_fires : (d : Language) (number : ℕ) (origin : Origin) (vars : List ℕ) (when : List Cond) (ps qs : List Pattern) (x y : Option ℕ) (s : Subst) (values new : List Value)
    → rule_at d number ≡ Some (written origin vars when ps x qs y) → Suits d.sorts (written origin vars when ps x qs y) s
    → content_of (SeqBody ps x) s ≡ Some (SeqContent values) → content_of (SeqBody qs y) s ≡ Some (SeqContent new)
    → Fires d (one_cell values) (front_site number) [] (written origin vars when ps x qs y) s (one_cell new)
unfolding spots_in fill_body way_up
written_fires d number origin vars when ps qs x y s values new is suits before after = record {
  binds = record {
    rule = is;
    suits = suits;
    different = refl;
    matched = (record { cell = cell_of values; there = refl; kind = refl; parent = refl; content = before; others = tt }, tt);
    keys = refl;
    right_defined = ap (λ o. is_some (option_map (λ content. plain_cell 0 content []) o)) after;
  };
  count = refl;
  different = refl;
  free = refl;
  gives = ap (λ o. option_map (λ cells. record { cells = cells }) (option_and_then (λ content. Some ((1, record { kind = 0; parent = None; content = content }) ∷ [])) o)) after;
}

-- a rule that rewrites the sequence fires at the front
pub front_fires : (d : Language) (number : ℕ) (r : Rule) (s : Subst) (values new : List Value)
    → rule_at d number ≡ Some r → Rewrites d.sorts r s values new → Fires d (one_cell values) (front_site number) [] r s (one_cell new)
front_fires d number r s values new is rewrites =
    let ps = rewrites.left_parts in
    let qs = rewrites.right_parts in
    let x = rewrites.left_rest in
    let y = rewrites.right_rest in
    let left : r.left ≡ side ps x = λ i. record { cell = rewrites.left_front.cell i; mark = rewrites.left_front.mark i; body = rewrites.left_front.body i } in
    let right : r.right ≡ side qs y = λ i. record { cell = rewrites.right_front.cell i; mark = rewrites.right_front.mark i; body = rewrites.right_front.body i } in
    let w : Rule = written r.origin r.vars r.when ps x qs y in
    let same : r ≡ w = λ i. record { origin = r.origin; vars = r.vars; left = left i; right = right i; when = r.when } in
    subst (λ q. Fires d (one_cell values) (front_site number) [] q s (one_cell new)) (sym same)
    (written_fires d number r.origin r.vars r.when ps qs x y s values new (is ∙ ap Some same)
    (subst (λ q. Suits d.sorts q s) same rewrites.suits)
    (ap (λ b. content_of b s) (sym rewrites.left_front.body) ∙ rewrites.left)
    (ap (λ b. content_of b s) (sym rewrites.right_front.body) ∙ rewrites.right))

-- Each cell of a completed rule is of its declared kind.
use Rattle.std.proofs.Common.{◌≡◌, ℕ, suc, zero, Bool, true, false, List, [], ◌∷◌, ◌++◌, replicate, Option, Some, None, option_map, inl, refl, sym, ap, ◌∙◌, subst}
use Rattle.std.specs.Prelude.{slice_get, unwrap_or}
use Rattle.std.proofs.lemmas.Option.{slice_get-map}
use Rattle.k_terms.specs.Sorts.{SortOrder, Below, least_sort, sort_bag}
use Rattle.k_terms.specs.declared.value.Content.TheVariants as content
use Rattle.rule_terms.specs.declared.defs.CellShape.{CellShape}
use Rattle.rule_terms.specs.declared.defs.Kind.{Kind}
use Rattle.rule_terms.specs.declared.defs.Kind.TheVariants.{Cells as CellsKind, One as OneKind}
use Rattle.rule_terms.specs.declared.pattern.Pattern.{Pattern, Var, Lit, Node', Items', Seq', Freezer', Apply'}
use Rattle.rule_terms.specs.declared.pattern.Body.{Body, One}
use Rattle.rule_terms.specs.declared.pattern.CellPat.{CellPat}
use Rattle.rule_terms.specs.declared.rule.Draft.{Draft}
use Rattle.rule_terms.specs.declared.rule.Rule.{Rule}
use Rattle.rule_terms.specs.Sound.{is_body_of, sort_of}
use Rattle.rule_terms.specs.Spots.{Spot}
use Rattle.live_config.proofs.Members.{Has}
use Rattle.strictness.specs.SoundDrafts.{spots_of}
use Rattle.cell_completion.specs.declared.tree.Tree.{Tree}
use Rattle.cell_completion.specs.Completion.{IsAsWritten as IsWrittenCell}
use Rattle.cell_completion.proofs.Unfolded.{cell_of, inside, placed_cell, placed_inside}
use Rattle.cell_trees.specs.declared.declared.Declared.{Declared}
use Rattle.cell_trees.specs.declared.declared.Declared.TheVariants.{Program, Input, Fixed}
use Rattle.cell_trees.specs.Trees.{Tree as Declaration, kind_of, literal_sort}
use Rattle.cell_trees.specs.Initials.{held_at}
use Rattle.cell_trees.specs.Defaults.{body_of}
use Rattle.rule_completion.specs.Writing.{written}
use Rattle.rule_completion.specs.Completed.{forest}
use Rattle.cell_contents.specs.Soundness.{AreSoundContents}
use Rattle.completed_rules.proofs.Places.{Place, IsIn}
use Rattle.completed_rules.proofs.Defaults.{parent_has_cells}
use Rattle.completed_rules.proofs.Drafted.{with_body}
use Rattle.completed_rules.proofs.Sides.{IsWrittenAt, IsAddedAt, IsFilledAt, of_written, of_added, of_filled}
use Rattle.completed_rules.proofs.Presence.{on_as_written, forest_kinds, kind_at}
use Rattle.completed_rules.proofs.Bodies.{kind_with, one_with, declared_kind}
use Rattle.completed_rules.proofs.Parenting.{stands}
use Rattle.completed_rules.proofs.Whole.{IsCase, root, total, cells_of, classified, cell_in, placed_in}

pub got_more : {X : Type 0} (xs ys : List X) (n : ℕ) (x : X) → slice_get xs n ≡ Some x → slice_get (xs ++ ys) n ≡ Some x
got_more [] ys n x e = absurd (let f : None ≡ Some x = e in cc)
got_more (y ∷ xs) ys zero x e = e
got_more (y ∷ xs) ys (suc n) x e = got_more xs ys n x e

pub sort_more : (o : SortOrder) (vars more : List ℕ) (q : Pattern) (least : ℕ) → sort_of o vars q ≡ Some least → sort_of o (vars ++ more) q ≡ Some least
sort_more o vars more (Var x) least e = got_more vars more x least e
sort_more o vars more (Lit v) least e = e
sort_more o vars more (Node' p s parts) least e = e
sort_more o vars more (Items' p s parts rest) least e = e
sort_more o vars more (Seq' s parts rest) least e = e
sort_more o vars more (Freezer' p place s parts) least e = e
sort_more o vars more (Apply' op s parts) least e = e

module _ (d : Declaration) (order : SortOrder) (draft : Draft) (rule : Rule) (c : IsCase d order draft rule) (contents : AreSoundContents order d) (left : Bool) where
  abbrev pub HasValue : CellShape → Body → Type 0
  HasValue shape body = (q : Pattern) (sort : ℕ) → body ≡ One q → shape.kind ≡ OneKind sort → (least : ℕ) × (sort_of order rule.vars q ≡ Some least) × Below order least sort

  pub record IsKinded (p : Spot) : Type 0 where
    pub shape : CellShape
    pub declared : slice_get d.shapes p.cell ≡ Some shape
    pub kind : is_body_of shape.kind p.body ≡ true
    pub value : HasValue shape p.body

  written_kinded : (z : Place) (p : Spot) → IsIn (written draft) (root d order draft rule c) z → IsWrittenAt d c.tree draft (total d order draft rule c) left z p → IsKinded p
  written_kinded z p i w =
      let s = with_body (spots_of (forest draft left)) w.mark w.body w.stands in
      let k = forest_kinds d c.tree draft order c.sound c.fits left s.0 s.1 in
      let same = (on_as_written d c.tree draft order c.sound c.fits left z w.mark s.0 (placed_in d order draft rule c z i) w.is_marked s.1 s.2).0 in
      record {
        shape = k.shape;
        declared = ap (slice_get d.shapes) (w.cell_is ∙ sym same) ∙ k.declared;
        kind = ap (is_body_of k.shape.kind) w.body_is ∙ kind_with k.shape.kind w.body w.cells ∙ ap (is_body_of k.shape.kind) (sym s.3) ∙ k.kind;
        value = λ q sort e f.
            let r = k.value q sort (s.3 ∙ one_with w.body w.cells q (sym w.body_is ∙ e)) f in
            (r.0, ap (λ vars. sort_of order vars q) c.completed.has.is.vars ∙ sort_more order draft.vars (replicate (total d order draft rule c) sort_bag) q r.0 r.1, r.2);
      }

  some_inside : (ts : List Tree) → (ts ≡ [] → ⊥) → (u : Tree) × Has ts u
  some_inside [] some = absurd (some refl)
  some_inside (u ∷ us) some = (u, inl refl)

  added_kinded : (z : Place) (p : Spot) → IsIn (written draft) (root d order draft rule c) z → IsAddedAt d c.tree draft (total d order draft rule c) left z p → IsKinded p
  added_kinded z p i w =
      let cell = cell_in d order draft rule c z i in
      let some = subst (λ m. IsWrittenCell d.shapes (written draft) z.around (cell_of z.tree) m (inside z.tree)) w.is_added cell.written in
      let u = some_inside (inside z.tree) some in
      let child = placed_cell d.shapes (written draft) _ _ _ u.0 (placed_inside d.shapes (written draft) z.parent z.around z.outer z.tree (placed_in d order draft rule c z i) u.0 u.1) in
      let has = parent_has_cells d c.tree (cell_of z.tree) (cell_of u.0) child.declared in
      let kind_is = kind_at d c.tree draft order c.sound c.fits left (cell_of z.tree) cell.declared.shape cell.declared.declared has in
      record {
        shape = cell.declared.shape;
        declared = ap (slice_get d.shapes) w.cell_is ∙ cell.declared.declared;
        kind = (λ j. is_body_of (kind_is j) (w.body_is j));
        value = λ q sort e f. absurd (let g : true ≡ false = ap (is_body_of CellsKind) (sym w.body_is ∙ e) in cc);
      }

  -- ---- what a cell declares

  held_some : (o : Option (Option Declared)) (kind : Kind) → option_map kind_of o ≡ Some kind → (o ≡ Some (unwrap_or o None)) × (kind ≡ kind_of (unwrap_or o None))
  held_some None kind e = absurd (let f : None ≡ Some kind = e in cc)
  held_some (Some h) kind e = (refl, let f : Some (kind_of h) ≡ Some kind = e in cc)

  held_kind : (n : ℕ) (shape : CellShape) → slice_get d.shapes n ≡ Some shape → (slice_get d.held n ≡ Some (held_at d n)) × (shape.kind ≡ kind_of (held_at d n))
  held_kind n shape at =
      held_some (slice_get d.held n) shape.kind
      (sym (slice_get-map kind_of d.held n) ∙ ap (λ ks. slice_get ks n) (sym c.tree.kinds) ∙ slice_get-map (λ (s : CellShape). s.kind) d.shapes n
      ∙ ap (option_map (λ (s : CellShape). s.kind)) at)

  held_value : (n : ℕ) (o : Option Declared) (cells : List CellPat) (q : Pattern) (sort : ℕ) → slice_get d.held n ≡ Some o → body_of o cells ≡ One q → kind_of o ≡ OneKind sort
      → (least : ℕ) × (sort_of order rule.vars q ≡ Some least) × Below order least sort
  held_value n None cells q sort at e f = absurd (let g : CellsKind ≡ OneKind sort = f in cc)
  held_value n (Some (Program s)) cells q sort at e f = absurd (cc)
  held_value n (Some Input) cells q sort at e f = absurd (cc)
  held_value n (Some (Fixed content.Cells)) cells q sort at e f = absurd (cc)
  held_value n (Some (Fixed (content.Seq values))) cells q sort at e f = absurd (cc)
  held_value n (Some (Fixed (content.Map entries))) cells q sort at e f = absurd (cc)
  held_value n (Some (Fixed (content.List values))) cells q sort at e f = absurd (cc)
  held_value n (Some (Fixed (content.One v))) cells q sort at e f =
      let good = contents n (content.One v) at in
      let pattern : Lit v ≡ q = (let g : One (Lit v) ≡ One q = e in cc) in
      let sort_is : literal_sort v ≡ sort = (let g : OneKind (literal_sort v) ≡ OneKind sort = f in cc) in
      (least_sort order v, ap (sort_of order rule.vars) (sym pattern), subst (Below order (least_sort order v)) sort_is good.of_kind.1)

  filled_kinded : (z : Place) (p : Spot) → Has (cells_of d order draft rule c left) p → IsFilledAt d c.tree draft (total d order draft rule c) left z p → IsKinded p
  filled_kinded z p h w =
      let s = (stands d order draft rule c left p h).declared in
      let k = held_kind p.cell s.shape s.declared in
      record {
        shape = s.shape;
        declared = s.declared;
        kind = (λ j. is_body_of (k.1 j) (w.default.body_is j)) ∙ declared_kind (held_at d p.cell) w.default.cells;
        value = λ q sort e f. held_value p.cell (held_at d p.cell) w.default.cells q sort k.0 (sym w.default.body_is ∙ e) (sym k.1 ∙ f);
      }

  pub kinded : (p : Spot) → Has (cells_of d order draft rule c left) p → IsKinded p
  kinded p h =
      elim (classified d order draft rule c left p h) [
        | of_written z i w ↦ written_kinded z p i w
        | of_added z i w ↦ added_kinded z p i w
        | of_filled z i w ↦ filled_kinded z p h w
      ]

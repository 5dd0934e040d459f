-- A test that a configuration fits a definition. It takes a test of the order of sorts.
use Rattle.std.proofs.Common.{◌≡◌, ℕ, suc, zero, Bool, true, false, not, ◌==◌, ◌||◌, ◌&&◌, List, [], ◌∷◌, refl, sym, ap, subst}
use Rattle.std.proofs.lemmas.Bool.{eqb-true}
use Rattle.std.specs.Prelude.{Option, Some, None, slice_get, is_none, cond, unwrap_or}
use Rattle.std.specs.Option.{option_map}
use Rattle.std.specs.List.{list_all}
use Rattle.std.specs.declared.cmp.Ordering.{Ordering}
use Rattle.std.specs.declared.cmp.Ordering.TheVariants.{Less, Equal, Greater}
use Rattle.std.specs.Ordering.{nat_cmp, eq_by_cmp, is_eq}
use Rattle.std.specs.FinMap.{find, is_sorted, nat_cmp-IsAntisymmetric}
use Rattle.k_terms.specs.declared.value.Value.{Map as Mapping}
use Rattle.k_terms.specs.declared.value.Content.{Content}
use Rattle.k_terms.specs.declared.value.Content.TheVariants.{Cells as NoContent, Seq as SeqContent, Map as MapContent, List as ListContent, One as OneContent}
use Rattle.k_terms.specs.Value.{is_well_formed}
use Rattle.k_terms.specs.Sorts.{SortOrder, Below, same, least_sort}
use Rattle.rule_terms.specs.declared.defs.Kind.{Kind}
use Rattle.rule_terms.specs.declared.defs.Kind.TheVariants.{Cells, Seq, Map, List as Listed, One}
use Rattle.rule_terms.specs.Language.{Language}
use Rattle.rule_terms.specs.Kinds.{IsOfKind}
use Rattle.live_config.specs.declared.cell.Cell.{Cell}
use Rattle.live_config.specs.Configuration.{Configuration, cell_at, kind_at, parent_number, root_of, level_limit}
use Rattle.live_config.specs.Fits.{IsLawful, Rooted, top, under, Fits}

-- ---- the test

abbrev pub is_of_kind : (ℕ → ℕ → Bool) → SortOrder → Kind → Content → Bool
is_of_kind below o Cells NoContent = true
is_of_kind below o Seq (SeqContent values) = list_all is_well_formed values
is_of_kind below o Map (MapContent entries) = is_well_formed (Mapping entries)
is_of_kind below o Listed (ListContent values) = list_all is_well_formed values
is_of_kind below o (One sort) (OneContent v) = is_well_formed v && below (least_sort o v) sort
is_of_kind below o _ _ = false

-- the declared cell of the parent is the declared parent
abbrev pub is_parent : Option (Option ℕ) → Option ℕ → Bool
is_parent None None = true
is_parent (Some (Some k)) (Some m) = k == m
is_parent _ _ = false

abbrev pub is_lawful : (ℕ → ℕ → Bool) → Language → Configuration → Cell → Bool
is_lawful below d c cell =
    elim (slice_get d.cells cell.kind) [
      | None ↦ false
      | Some shape ↦ is_parent (option_map (kind_at c) (parent_number cell)) shape.parent && is_of_kind below d.sorts shape.kind cell.content
    ]

-- going up so many levels comes to a cell without a parent
abbrev pub comes_up : ℕ → Configuration → ℕ → Bool
comes_up zero c n = false
comes_up (suc levels) c n =
    elim (cell_at c n) [ None ↦ false | Some cell ↦ elim (parent_number cell) [ None ↦ true | Some m ↦ comes_up levels c m ] ]

-- this cell has no parent, is of the declared root, and no other cell lacks a parent
abbrev pub is_root : Configuration → ℕ → Bool
is_root c root =
    elim (cell_at c root) [ None ↦ false | Some cell ↦ is_none (parent_number cell) && cell.kind == 0 ]
    && list_all (λ e. not (is_none (parent_number e.1)) || e.0 == root) c.cells

abbrev pub has_root : Configuration → Bool
has_root c = elim (root_of c) [ None ↦ false | Some root ↦ is_root c root ]

abbrev pub is_fitting : (ℕ → ℕ → Bool) → Language → Configuration → Bool
is_fitting below d c =
    is_sorted nat_cmp c.cells && has_root c && list_all (λ e. is_lawful below d c e.1) c.cells && list_all (λ e. comes_up level_limit c e.0) c.cells

-- ---- what a passed test gives

both : (a b : Bool) → (a && b) ≡ true → (a ≡ true) × (b ≡ true)
both true b e = (refl, e)
both false b e = cc

tied : (o : Ordering) → is_eq o ≡ true → o ≡ Equal
tied Less e = cc
tied Equal e = refl
tied Greater e = cc

pub same_number : (n m : ℕ) → eq_by_cmp nat_cmp n m ≡ true → n ≡ m
same_number n m e = nat_cmp-IsAntisymmetric n m (tied (nat_cmp n m) e)

-- an entry that is found passes a test that all pass
pub found : {X : Type 0} (p : ℕ × X → Bool) (es : List (ℕ × X)) (n : ℕ) (x : X) → list_all p es ≡ true → find nat_cmp n es ≡ Some x → p (n, x) ≡ true
found p [] n x all there = cc
found p (e ∷ es) n x all there =
    elim (eq_by_cmp nat_cmp n e.0) as (λ b. eq_by_cmp nat_cmp n e.0 ≡ b → cond b (Some e.1) (find nat_cmp n es) ≡ Some x → p (n, x) ≡ true) [
      | true ↦ λ t s.
          subst (λ k. p (k, x) ≡ true) (sym (same_number n e.0 t)) (subst (λ y. p (e.0, y) ≡ true) (ap (λ o. unwrap_or o e.1) s) (both _ _ all).0)
      | false ↦ λ t s. found p es n x (both _ _ all).1 s
    ] refl there

of_kind : (below : ℕ → ℕ → Bool) (o : SortOrder) → ((a b : ℕ) → below a b ≡ true → Below o a b) → (k : Kind) (content : Content) → is_of_kind below o k content ≡ true → IsOfKind o k content
of_kind below o sound Cells NoContent e = tt
of_kind below o sound Seq (SeqContent values) e = e
of_kind below o sound Map (MapContent entries) e = e
of_kind below o sound Listed (ListContent values) e = e
of_kind below o sound (One sort) (OneContent v) e = let p = both _ _ e in (p.0, sound _ _ p.1)
of_kind below o sound _ _ e = let f : false ≡ true = e in cc

same_parent : (k m : ℕ) → (k == m) ≡ true → Some (Some k) ≡ Some (Some m)
same_parent k m e = ap (λ n. Some (Some n)) (eqb-true k m e)

parent_is : (kind : Option (Option ℕ)) (shape : Option ℕ) → is_parent kind shape ≡ true → kind ≡ option_map Some shape
parent_is None None e = refl
parent_is (Some (Some k)) (Some m) e = same_parent k m e
parent_is None (Some m) e = cc
parent_is (Some None) None e = cc
parent_is (Some (Some k)) None e = cc
parent_is (Some None) (Some m) e = cc

module _ (below : ℕ → ℕ → Bool) (d : Language) (c : Configuration) (sound : (a b : ℕ) → below a b ≡ true → Below d.sorts a b) where
  lawful : (cell : Cell) → is_lawful below d c cell ≡ true → IsLawful d c cell
  lawful cell e =
      elim (slice_get d.cells cell.kind) as (λ o. slice_get d.cells cell.kind ≡ o → elim o [ None ↦ false | Some shape ↦ is_parent (option_map (kind_at c) (parent_number cell)) shape.parent && is_of_kind below d.sorts shape.kind cell.content ] ≡ true → IsLawful d c cell) [
        | None ↦ λ _ f. cc
        | Some shape ↦ λ declared f. record {
          shape = shape;
          declared = declared;
          parent = parent_is _ _ (both _ _ f).0;
          content = of_kind below d.sorts sound shape.kind cell.content (both _ _ f).1;
        }
      ] refl e

rooted : (levels : ℕ) (c : Configuration) (n : ℕ) → comes_up levels c n ≡ true → Rooted c n
rooted zero c n e = cc
rooted (suc levels) c n e =
    elim (cell_at c n) as (λ o. cell_at c n ≡ o → elim o [ None ↦ false | Some cell ↦ elim (parent_number cell) [ None ↦ true | Some m ↦ comes_up levels c m ] ] ≡ true → Rooted c n) [
      | None ↦ λ _ f. cc
      | Some cell ↦ λ there f.
          elim (parent_number cell) as (λ o. parent_number cell ≡ o → elim o [ None ↦ true | Some m ↦ comes_up levels c m ] ≡ true → Rooted c n) [
            | None ↦ λ alone _. top n cell there alone
            | Some m ↦ λ above g. under n m cell there above (rooted levels c m g)
          ] refl f
    ] refl e

-- the cell without a parent, by its number
record Root (c : Configuration) (n : ℕ) : Type 0 where
  cell : Cell
  there : cell_at c n ≡ Some cell
  on_top : parent_number cell ≡ None
  declared : cell.kind ≡ 0
  alone : (m : ℕ) (other : Cell) → cell_at c m ≡ Some other → parent_number other ≡ None → m ≡ n

no_parent : (o : Option ℕ) → is_none o ≡ true → o ≡ None
no_parent None e = refl
no_parent (Some n) e = cc

led : (a b : Bool) → (not a || b) ≡ true → a ≡ true → b ≡ true
led true b e h = e
led false b e h = cc

root : (c : Configuration) (n : ℕ) → is_root c n ≡ true → Root c n
root c n e =
    elim (cell_at c n) as (λ o. cell_at c n ≡ o → elim o [ None ↦ false | Some cell ↦ is_none (parent_number cell) && cell.kind == 0 ] ≡ true → Root c n) [
      | None ↦ λ _ f. cc
      | Some cell ↦ λ there f. record {
        cell = cell;
        there = there;
        on_top = no_parent _ (both _ _ f).0;
        declared = eqb-true _ _ (both _ _ f).1;
        alone = λ m other here top.
            eqb-true m n (led (is_none (parent_number other)) (m == n)
            (found (λ e. not (is_none (parent_number e.1)) || e.0 == n) c.cells m other (both _ _ e).1 here) (ap is_none top));
      }
    ] refl (both _ _ e).0

single_root : (c : Configuration) → has_root c ≡ true → (n : ℕ) × Root c n
single_root c e =
    elim (root_of c) as (λ o. elim o [ None ↦ false | Some n ↦ is_root c n ] ≡ true → (n : ℕ) × Root c n) [
      | None ↦ λ f. cc
      | Some n ↦ λ f. (n, root c n f)
    ] e

-- a configuration that passes the test fits
pub fits : (below : ℕ → ℕ → Bool) (d : Language) (c : Configuration) → ((a b : ℕ) → below a b ≡ true → Below d.sorts a b) → is_fitting below d c ≡ true → Fits d c
fits below d c sound e =
    let three = both _ _ e in
    let two = both _ _ three.0 in
    let one = both _ _ two.0 in
    let r = single_root c one.1 in
    record {
      rising = one.0;
      root = r.0;
      root_cell = r.1.cell;
      root_there = r.1.there;
      root_on_top = r.1.on_top;
      root_declared = r.1.declared;
      one_root = r.1.alone;
      lawful = λ n cell there. lawful below d c sound cell (found (λ e. is_lawful below d c e.1) c.cells n cell two.1 there);
      rooted = λ n cell there. rooted level_limit c n (found (λ e. comes_up level_limit c e.0) c.cells n cell three.1 there);
    }

-- two sorts are the same: the test of the order of sorts that no definition refutes
pub same_sort : (o : SortOrder) (a b : ℕ) → (a == b) ≡ true → Below o a b
same_sort o a b e = subst (Below o a) (eqb-true a b e) (same a)

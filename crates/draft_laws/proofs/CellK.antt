-- The cell that a body of one content stands for is the declared cell `k`, which has a sequence.
use Rattle.std.proofs.Common.{◌≡◌, ℕ, zero, suc, ◌+◌, Bool, true, false, cond, List, [], ◌∷◌, Option, Some, None, refl, sym, ap, ◌∙◌, arith}
use Rattle.std.proofs.lemmas.Option.{slice_get-map}
use Rattle.std.proofs.lemmas.Slice.Eq.{bytes_eq-Decides}
use Rattle.std.specs.Prelude.{slice_get, unwrap_or, option_map, codes}
use Rattle.std.specs.Option.{option_map_or}
use Rattle.std.specs.List.{position_from}
use Rattle.production_reader.specs.Allowed.{same_text}
use Rattle.rule_terms.specs.Sound.{has_cells}
use Rattle.rule_terms.specs.declared.defs.CellShape.{CellShape}
use Rattle.rule_terms.specs.declared.defs.Kind.TheVariants.{Seq}
use Rattle.rule_cells.specs.Written.{is_of_cells}
use Rattle.rule_reader.specs.Contents.{cell_k}
use Rattle.cell_trees.specs.Trees.{Tree as Declaration, IsTree, names_of, kind_of}

abbrev is_k : CellShape → Bool
is_k cell = same_text cell.name (codes "k")

is_named : (name : List ℕ) → same_text name (codes "k") ≡ true → name ≡ codes "k"
is_named name e = (bytes_eq-Decides name (codes "k")).0 e

-- the first cell of a name, where there is one
record IsFound (at : ℕ) (shapes : List CellShape) : Type 0 where
  place : ℕ
  found : position_from is_k at shapes ≡ Some (at + place)
  named : slice_get (names_of shapes) place ≡ Some (codes "k")

first_named : (at i : ℕ) (shapes : List CellShape) → slice_get (names_of shapes) i ≡ Some (codes "k") → IsFound at shapes
first_named at i [] e = absurd (let f : None ≡ Some (codes "k") = e in cc)
first_named at zero (shape ∷ shapes) e =
    let name : shape.name ≡ codes "k" = cc in
    let here : is_k shape ≡ true = ap (λ n. same_text n (codes "k")) name in
    record {
      place = 0;
      found = ap (λ b. cond b (Some at) (position_from is_k (at + 1) shapes)) here ∙ ap Some (let same : at ≡ at + 0 = omega arith in same);
      named = e;
    }
first_named at (suc i) (shape ∷ shapes) e =
    let rest = first_named (at + 1) i shapes e in
    elim (is_k shape) as (λ b. is_k shape ≡ b → IsFound at (shape ∷ shapes)) [
      | true ↦ λ here. record {
        place = 0;
        found = ap (λ b. cond b (Some at) (position_from is_k (at + 1) shapes)) here ∙ ap Some (let same : at ≡ at + 0 = omega arith in same);
        named = ap Some (is_named shape.name here);
      }
      | false ↦ λ away. record {
        place = suc rest.place;
        found = ap (λ b. cond b (Some at) (position_from is_k (at + 1) shapes)) away ∙ rest.found ∙ ap Some (let same : at + 1 + rest.place ≡ at + suc rest.place = omega arith in same);
        named = rest.named;
      }
    ] refl

module _ (d : Declaration) (tree : IsTree d) where
  pub cell_k_is : cell_k d.shapes ≡ d.k
  cell_k_is =
      let first = first_named 0 d.k d.shapes tree.named in
      let same : 0 + first.place ≡ d.k = (let e : 0 + first.place ≡ first.place = omega arith in e) ∙ tree.differ first.place d.k (codes "k") first.named tree.named in
      ap (λ o. unwrap_or o 0) first.found ∙ same

  kind_found : option_map (λ (shape : CellShape). shape.kind) (slice_get d.shapes d.k) ≡ Some Seq
  kind_found =
      sym (slice_get-map (λ (shape : CellShape). shape.kind) d.shapes d.k) ∙ ap (λ kinds. slice_get kinds d.k) tree.kinds ∙ slice_get-map kind_of d.held d.k ∙ ap (option_map kind_of) tree.program

  no_cells : (o : Option CellShape) → option_map (λ (shape : CellShape). shape.kind) o ≡ Some Seq → option_map_or (λ (shape : CellShape). has_cells shape.kind) o false ≡ false
  no_cells None e = refl
  no_cells (Some shape) e = let kind : shape.kind ≡ Seq = cc in ap has_cells kind

  pub k_plain : is_of_cells d.shapes (cell_k d.shapes) ≡ false
  k_plain = ap (is_of_cells d.shapes) cell_k_is ∙ no_cells (slice_get d.shapes d.k) kind_found

  -- and its declared kind
  pub k_kind : (shape : CellShape) → slice_get d.shapes (cell_k d.shapes) ≡ Some shape → shape.kind ≡ Seq
  k_kind shape is =
      let e : Some shape.kind ≡ Some Seq = ap (option_map (λ (s : CellShape). s.kind)) (sym is ∙ ap (slice_get d.shapes) cell_k_is) ∙ kind_found in
      cc

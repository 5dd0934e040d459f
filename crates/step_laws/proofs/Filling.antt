-- Where a side is filled, each of its cells has a content.
use Rattle.std.proofs.Common.{◌≡◌, inl, inr, ℕ, List, [], ◌∷◌, Some, refl, subst}
use Rattle.std.specs.Prelude.{IsSome}
use Rattle.std.specs.Option.{option_map}
use mathlib.Core.Former.{Count}
use Rattle.k_terms.specs.declared.value.Content.TheVariants.{Cells as NoContent}
use Rattle.rule_terms.specs.declared.plain.Plain.{Plain}
use Rattle.rule_terms.specs.declared.pattern.Body.{Body, Cells', Seq, Map, List as Listed, One, Made, Row_of-CellPat, end_of-CellPat, more_of-CellPat}
use Rattle.rule_terms.specs.declared.pattern.CellPat.{CellPat}
use Rattle.rule_terms.specs.Options.{joined}
use Rattle.rule_terms.specs.Spots.{Spot, spots, spots_in, row_spots}
use Rattle.rule_terms.specs.Substitution.{Subst, cells_of}
use Rattle.rule_terms.specs.Fill.{plain_cell, content_of, fill_body, fill_row, fill}
use Rattle.rule_terms.proofs.Defined.{and_then_gives, map_gives, joined_gives}
use Rattle.live_config.proofs.Members.{Has, has_either}
use Rattle.site_laws.proofs.SameFilled.{IsDefined, some_defined}

module _ (s : Subst) where
  leaf_content : (cell : ℕ) (body : Body) (u : Plain) → option_map (λ content. plain_cell cell content []) (content_of body s) ≡ Some u
      → IsDefined (content_of body s)
  leaf_content cell body u e = let m = map_gives (λ content. plain_cell cell content []) (content_of body s) u e in (m.0, m.1)

  -- a cell that is filled has a content
  own_content : (cell : ℕ) (body : Body) (u : Plain) → fill_body cell body s ≡ Some u → IsDefined (content_of body s)
  unfolding fill_body
  own_content cell (Cells' shape children rest) u e = (NoContent, refl)
  own_content cell (Seq parts rest) u e = leaf_content cell (Seq parts rest) u e
  own_content cell (Map entries rest) u e = leaf_content cell (Map entries rest) u e
  own_content cell (Listed before rest after) u e = leaf_content cell (Listed before rest after) u e
  own_content cell (One p) u e = leaf_content cell (One p) u e
  own_content cell (Made p) u e = leaf_content cell (Made p) u e

  mutual
    unfolding fill_body fill_row spots_in row_spots

    inner_contents : (cell mark : ℕ) (body : Body) (u : Plain) → fill_body cell body s ≡ Some u → (q : Spot) → Has (spots_in mark body) q
        → IsDefined (content_of q.body s)
    inner_contents cell mark (Cells' shape children rest) u e q h =
        let m = map_gives (plain_cell cell NoContent) (joined (fill_row children s) (cells_of rest s)) u e in
        let j = joined_gives (fill_row children s) (cells_of rest s) m.0 m.1 in
        row_contents mark children j.0 j.2 q h
    inner_contents cell mark (Seq parts rest) u e q h = absurd h
    inner_contents cell mark (Map entries rest) u e q h = absurd h
    inner_contents cell mark (Listed before rest after) u e q h = absurd h
    inner_contents cell mark (One p) u e q h = absurd h
    inner_contents cell mark (Made p) u e q h = absurd h

    row_contents : {n : Count} (above : ℕ) (row : Row_of-CellPat n) (ts : List Plain) → fill_row row s ≡ Some ts → (q : Spot) → Has (row_spots above row) q
        → IsDefined (content_of q.body s)
    row_contents above end_of-CellPat ts e q h = absurd h
    row_contents above (more_of-CellPat cell mark body cells) ts e q h =
        let a = and_then_gives (λ u. option_map (λ us. u ∷ us) (fill_row cells s)) (fill_body cell body s) ts e in
        let m = map_gives (λ us. a.0 ∷ us) (fill_row cells s) ts a.2 in
        elim h [
          | inl same ↦ subst (λ (x : Spot). IsDefined (content_of x.body s)) same (own_content cell body a.0 a.1)
          | inr others ↦ elim (has_either (spots_in mark body) (row_spots above cells) q others) [
            | inl within ↦ inner_contents cell mark body a.0 a.1 q within
            | inr further ↦ row_contents above cells m.0 m.1 q further
          ]
        ]

  pub side_contents : (p : CellPat) → IsSome (fill p s) → (q : Spot) → Has (spots p) q → IsDefined (content_of q.body s)
  side_contents p filled q h =
      let u = some_defined (fill p s) filled in
      elim h [
        | inl same ↦ subst (λ (x : Spot). IsDefined (content_of x.body s)) same (own_content p.cell p.body u.0 u.1)
        | inr within ↦ inner_contents p.cell p.mark p.body u.0 u.1 q within
      ]

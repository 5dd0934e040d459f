use Rattle.std.proofs.Common.{◌⊎◌}
use Rattle.span_rows.specs.Rows.{IsOfSome}
use Rattle.span_rows.specs.Tokens.{IsLeafToken, IsWildToken, IsEmptyListOf, IsNothingToken, IsOpening, IsPlaceToken}
use Rattle.span_rows.proofs.Adding.{adds_or}
use Rattle.span_rows.proofs.tokens.add_alone.Goals as goal

pub returns : goal.returns
returns c =
    let g = c.args.grammar.now in
    let words = c.args.tokens.now in
    let at = c.args.at in
    adds_or (IsLeafToken words at) (λ x. IsWildToken words at x ⊎ (IsOfSome g (IsEmptyListOf words at) x ⊎ (IsNothingToken words at x ⊎ (IsOpening g words at x ⊎ IsPlaceToken words at x)))) _ _ _ c.in_ok-add_leaf.ensures
    (adds_or (IsWildToken words at) (λ x. IsOfSome g (IsEmptyListOf words at) x ⊎ (IsNothingToken words at x ⊎ (IsOpening g words at x ⊎ IsPlaceToken words at x))) _ _ _ c.in_ok-add_wild.ensures
    (adds_or (IsOfSome g (IsEmptyListOf words at)) (λ x. IsNothingToken words at x ⊎ (IsOpening g words at x ⊎ IsPlaceToken words at x)) _ _ _ c.in_ok-add_empty_lists.ensures
    (adds_or (IsNothingToken words at) (λ x. IsOpening g words at x ⊎ IsPlaceToken words at x) _ _ _ c.in_ok-add_nothing.ensures
    (adds_or (IsOpening g words at) (IsPlaceToken words at) _ _ _ c.in_ok-add_opening.ensures c.in_ok-add_place.ensures))))

-- That cells are alike goes both ways, and from one to the next.
use Rattle.std.proofs.Common.{◌≡◌, ℕ, List, [], ◌∷◌, ◌++◌, refl, sym, subst, ◌∙◌}
use denote.Hole.Carrier.{out}
use mathlib.Core.Former.{Count}
use Rattle.k_terms.specs.declared.value.Content.{Content}
use Rattle.rule_terms.specs.declared.plain.Plain.{Plain, Plain', out-Plain, Row_of-Plain, end_of-Plain, more_of-Plain, items-the_row-Plain, items_shown-the_row-Plain-0}
use Rattle.rule_terms.specs.Rewriting.{Alike, AllAlike}
use Rattle.live_config.specs.Steps.{PairOff}
use Rattle.step_laws.proofs.Pairing.{put_in, take_out}

-- what two cells have in common
record IsSame (cell : ℕ) (content : Content) (ts : List Plain) (u : Plain) : Type 0 where
  same_cell : cell ≡ (out-Plain u).cell
  same_content : content ≡ (out-Plain u).content
  pairs : PairOff ts (out-Plain u).children

abbrev SameParts : Plain → Plain → Type 0
SameParts t u = IsSame (out-Plain t).cell (out-Plain t).content (out-Plain t).children u

paired : {n : Count} (row : Row_of-Plain n) (us : List Plain) → AllAlike row us → PairOff (items-the_row-Plain n row) us
unfolding AllAlike
paired end_of-Plain us h = h
paired (more_of-Plain t ts) us (before, u, after, is, like, rest) = (before, u, after, is, like, paired ts (before ++ after) rest)

row_alike : {n : Count} (row : Row_of-Plain n) (us : List Plain) → PairOff (items-the_row-Plain n row) us → AllAlike row us
unfolding AllAlike
row_alike end_of-Plain us h = h
row_alike (more_of-Plain t ts) us (before, u, after, is, like, rest) = (before, u, after, is, like, row_alike ts (before ++ after) rest)

same_parts : (t u : Plain) → Alike t u → SameParts t u
unfolding Alike out-Plain out
same_parts (Plain' cell content s children) u like = record {
  same_cell = like.0;
  same_content = like.1;
  pairs = subst (λ ts. PairOff ts (out-Plain u).children) (sym (items_shown-the_row-Plain-0 s children)) (paired children (out-Plain u).children like.2);
}

alike_from : (t u : Plain) → SameParts t u → Alike t u
unfolding Alike out-Plain out
alike_from (Plain' cell content s children) u same = (
  same.same_cell,
  same.same_content,
  row_alike children (out-Plain u).children (subst (λ ts. PairOff ts (out-Plain u).children) (items_shown-the_row-Plain-0 s children) same.pairs),
)

mutual
  unfolding Alike AllAlike out-Plain out

  pub alike_symmetric : (t u : Plain) → Alike t u → Alike u t
  alike_symmetric (Plain' cell content s children) u like =
      alike_from u (Plain' cell content s children) (record {
        same_cell = sym like.0;
        same_content = sym like.1;
        pairs = subst (PairOff (out-Plain u).children) (sym (items_shown-the_row-Plain-0 s children)) (row_symmetric children (out-Plain u).children like.2);
      })

  row_symmetric : {n : Count} (row : Row_of-Plain n) (us : List Plain) → AllAlike row us → PairOff us (items-the_row-Plain n row)
  row_symmetric end_of-Plain us h = subst (λ xs. PairOff xs []) (sym h) refl
  row_symmetric (more_of-Plain t ts) us (before, u, after, is, like, rest) =
      subst (λ xs. PairOff xs (t ∷ items-the_row-Plain _ ts)) (sym is)
      (put_in before u after t (items-the_row-Plain _ ts) (alike_symmetric t u like) (row_symmetric ts (before ++ after) rest))

mutual
  unfolding Alike AllAlike out-Plain out

  pub alike_transitive : (t u v : Plain) → Alike t u → Alike u v → Alike t v
  alike_transitive (Plain' cell content s children) u v like other =
      let same = same_parts u v other in
      (like.0 ∙ same.same_cell, like.1 ∙ same.same_content, row_transitive children (out-Plain u).children (out-Plain v).children like.2 same.pairs)

  row_transitive : {n : Count} (row : Row_of-Plain n) (us vs : List Plain) → AllAlike row us → PairOff us vs → AllAlike row vs
  row_transitive end_of-Plain us vs h pairs = subst (λ xs. PairOff xs vs) h pairs
  row_transitive (more_of-Plain t ts) us vs (before, u, after, is, like, rest) pairs =
      let p = take_out before u after vs (subst (λ xs. PairOff xs vs) is pairs) in
      (p.before, p.item, p.after, p.is, alike_transitive t u p.item like p.like, row_transitive ts (before ++ after) (p.before ++ p.after) rest p.pairs)

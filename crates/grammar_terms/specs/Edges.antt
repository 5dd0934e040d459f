-- Which production may stand at which place of another.
use Rattle.std.specs.Prelude.{ℕ, ◌+◌, ◌==◌, ◌&&◌, ◌||◌, not, nat_lt, Bool, true, List, length, Some, None}
use Rattle.grammar_terms.specs.declared.production.Production.{Production}
use Rattle.grammar_terms.specs.Grammar.{production_at}

abbrev pub is_first : ℕ → Bool
is_first place = place == 0

abbrev pub is_last : Production → ℕ → Bool
is_last parent place = place + 1 == length parent.items

-- the child is of a later group of the parent's own sentence
abbrev pub binds_weaker : Production → Production → Bool
binds_weaker parent child = child.sentence == parent.sentence && nat_lt parent.group child.group

-- both are of one group, which the parent's attributes keep from this place
abbrev pub is_kept_out : Production → ℕ → Production → Bool
is_kept_out parent place child =
    child.group == parent.group
    && (parent.attrs.left && is_last parent place || parent.attrs.right && is_first place || parent.attrs.non_assoc)

-- A child may stand at a place of its parent, counted from 0 among all items, unless the place is the first or the last one
-- and the child, which is no bracket, binds weaker or is kept out.
abbrev pub permits : Production → ℕ → Production → Bool
permits parent place child =
    child.attrs.bracket
    || not ((is_first place || is_last parent place) && (binds_weaker parent child || is_kept_out parent place child))

-- The edge rule, by numbers of productions. A number without a production keeps nothing out.
abbrev pub permitted : List Production → ℕ → ℕ → ℕ → Bool
permitted prods parent place child =
    elim (production_at prods parent) [
      | None ↦ true
      | Some outer ↦ elim (production_at prods child) [ None ↦ true | Some inner ↦ permits outer place inner ]
    ]

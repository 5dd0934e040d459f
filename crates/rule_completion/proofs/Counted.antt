-- Counts that stay at the greatest number.
use Rattle.std.proofs.Common.{◌≡◌, ℕ, zero, suc, ◌+◌, ◌<◌, ◌≤◌, min, List, [], ◌∷◌, length, take, get_or, sym, ap, ◌∙◌, arith}
use Rattle.std.proofs.lemmas.List.{take_all}
use Rattle.cell_completion.specs.declared.tree.Tree.{Tree}
use Rattle.cell_completion.proofs.Unfolded.{inside}
use Rattle.rule_completion.specs.Numbering.{own_count, count, count_all}
use Rattle.rule_completion.proofs.Layers.{count_is}

count_more : (ts : List Tree) (i : ℕ) (d : Tree) → i < length ts → count_all (take (suc i) ts) ≡ count_all (take i ts) + count (get_or ts i d)
count_more [] i d less = absurd (omega (arith, less))
count_more (t ∷ ts) zero d less = omega arith
count_more (t ∷ ts) (suc i) d less = let more = count_more ts i d (omega (arith, less)) in omega (arith, more)

pub one_more : (own most found counted result : ℕ) (ts : List Tree) (i : ℕ) (t : Tree) → i < length ts → t ≡ get_or ts i t
    → found ≡ min (own + count_all (take i ts)) most → counted ≡ min (count t) most → result ≡ min (found + counted) most
    → result ≡ min (own + count_all (take (i + 1) ts)) most
one_more own most found counted result ts i t less is so_far one sum =
    let more = count_more ts i t less in
    let next : i + 1 ≡ suc i = omega arith in
    let taken = ap (λ k. count_all (take k ts)) next in
    let same = ap count is in
    omega (arith, more, taken, same, so_far, one, sum)

pub all_counted : (t : Tree) (most found i : ℕ) (lent : List Tree) → lent ≡ inside t → length lent ≤ i → found ≡ min (own_count t + count_all (take i lent)) most
    → found ≡ min (count t) most
all_counted t most found i lent same past so_far =
    so_far ∙ ap (λ ts. min (own_count t + count_all ts) most) (take_all i lent past ∙ same) ∙ ap (λ k. min k most) (sym (count_is t))

-- When two cells are alike: their contents are equal, and their children pair off.
use Rattle.std.proofs.Common.{◌≡◌, ℕ, List, [], ◌∷◌, ◌++◌, refl, sym, ap, subst, ◌∙◌}
use denote.Hole.Carrier.{out}
use mathlib.Core.Former.{Count}
use Rattle.k_terms.specs.declared.value.Content.{Content}
use Rattle.rule_terms.specs.declared.plain.Plain.{Plain, Plain', out-Plain, out-roll-Plain, Row_of-Plain, end_of-Plain, more_of-Plain, items-the_row-Plain, items_shown-the_row-Plain-0}
use Rattle.rule_terms.specs.Fill.{plain_cell}
use Rattle.rule_terms.specs.Rewriting.{Alike, AllAlike}
use Rattle.rule_terms.specs.Substitution.{Subst, Whole, Bag}
use Rattle.rule_terms.proofs.Alike.{alike_self}
use Rattle.live_config.specs.Steps.{PairOff, SubstAlike}

pub pair_off_self : (ts : List Plain) → PairOff ts ts
pair_off_self [] = refl
pair_off_self (t ∷ ts) = ([], t, ts, refl, alike_self t, pair_off_self ts)

row_pairs : {n : Count} (row : Row_of-Plain n) (us : List Plain) → PairOff (items-the_row-Plain n row) us → AllAlike row us
unfolding AllAlike
row_pairs end_of-Plain us h = h
row_pairs (more_of-Plain t ts) us (before, u, after, is, like, rest) = (before, u, after, is, like, row_pairs ts (before ++ after) rest)

alike_from : (t u : Plain) → (out-Plain t).cell ≡ (out-Plain u).cell → (out-Plain t).content ≡ (out-Plain u).content → PairOff (out-Plain t).children (out-Plain u).children → Alike t u
unfolding Alike out-Plain out
alike_from (Plain' cell content s children) u same_cell same_content pairs =
    (same_cell, same_content, row_pairs children (out-Plain u).children (subst (λ ts. PairOff ts (out-Plain u).children) (items_shown-the_row-Plain-0 s children) pairs))

pub alike_cell : (cell : ℕ) (content : Content) (ts us : List Plain) → PairOff ts us → Alike (plain_cell cell content ts) (plain_cell cell content us)
alike_cell cell content ts us pairs =
    let t = out-roll-Plain (record { cell = cell; content = content; children = ts }) in
    let u = out-roll-Plain (record { cell = cell; content = content; children = us }) in
    alike_from (plain_cell cell content ts) (plain_cell cell content us)
    (ap (λ r. r.cell) t ∙ sym (ap (λ r. r.cell) u))
    (ap (λ r. r.content) t ∙ sym (ap (λ r. r.content) u))
    (subst (PairOff (out-Plain (plain_cell cell content ts)).children) (sym (ap (λ r. r.children) u)) (subst (λ ts. PairOff ts us) (sym (ap (λ r. r.children) t)) pairs))

pub subst_alike_self : (s : Subst) → SubstAlike s s
subst_alike_self [] = tt
subst_alike_self (Whole v ∷ s) = (refl, subst_alike_self s)
subst_alike_self (Bag ts ∷ s) = (pair_off_self ts, subst_alike_self s)

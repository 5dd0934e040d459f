-- What two cells that are alike have in common: the declared cell, the content, and children that pair off.
use Rattle.std.proofs.Common.{◌≡◌, ℕ, List, ◌++◌, sym, ap, subst, ◌∙◌}
use denote.Hole.Carrier.{out}
use mathlib.Core.Former.{Count}
use Rattle.k_terms.specs.declared.value.Content.{Content}
use Rattle.rule_terms.specs.declared.plain.Plain.{Plain, Plain', out-Plain, out-roll-Plain, Row_of-Plain, end_of-Plain, more_of-Plain, items-the_row-Plain, items_shown-the_row-Plain-0}
use Rattle.rule_terms.specs.Fill.{plain_cell}
use Rattle.rule_terms.specs.Rewriting.{Alike, AllAlike}
use Rattle.live_config.specs.Steps.{PairOff}

-- what two cells have in common
pub record AlikeParts (cell : ℕ) (content : Content) (ts : List Plain) (kind : ℕ) (here : Content) (us : List Plain) : Type 0 where
  pub same_cell : cell ≡ kind
  pub same_content : content ≡ here
  pub pairs : PairOff ts us

row_pairs : {n : Count} (row : Row_of-Plain n) (us : List Plain) → AllAlike row us → PairOff (items-the_row-Plain n row) us
unfolding AllAlike
row_pairs end_of-Plain us h = h
row_pairs (more_of-Plain t ts) us (before, u, after, is, like, rest) = (before, u, after, is, like, row_pairs ts (before ++ after) rest)

-- the parts of two cells as they are taken out
abbrev OutParts : Plain → Plain → Type 0
OutParts t u = AlikeParts (out-Plain t).cell (out-Plain t).content (out-Plain t).children (out-Plain u).cell (out-Plain u).content (out-Plain u).children

out_parts : (t u : Plain) → Alike t u → OutParts t u
unfolding Alike out-Plain out
out_parts (Plain' cell content s children) u like = record {
  same_cell = like.0;
  same_content = like.1;
  pairs = subst (λ ts. PairOff ts (out-Plain u).children) (sym (items_shown-the_row-Plain-0 s children)) (row_pairs children (out-Plain u).children like.2);
}

pub alike_parts : (cell : ℕ) (content : Content) (ts : List Plain) (kind : ℕ) (here : Content) (us : List Plain)
    → Alike (plain_cell cell content ts) (plain_cell kind here us) → AlikeParts cell content ts kind here us
alike_parts cell content ts kind here us like =
    let t = out-roll-Plain (record { cell = cell; content = content; children = ts }) in
    let u = out-roll-Plain (record { cell = kind; content = here; children = us }) in
    let parts = out_parts (plain_cell cell content ts) (plain_cell kind here us) like in
    record {
      same_cell = sym (ap (λ r. r.cell) t) ∙ parts.same_cell ∙ ap (λ r. r.cell) u;
      same_content = sym (ap (λ r. r.content) t) ∙ parts.same_content ∙ ap (λ r. r.content) u;
      pairs =
          subst (λ xs. PairOff xs us) (ap (λ r. r.children) t)
          (subst (PairOff (out-Plain (plain_cell cell content ts)).children) (ap (λ r. r.children) u) parts.pairs);
    }

-- The keys of each map in a configuration that fits rise.
use Rattle.std.proofs.Common.{◌≡◌, ℕ, true, false, ◌&&◌, List, Some, refl, sym, ◌∙◌}
use Rattle.std.specs.Prelude.{IsTrue}
use Rattle.std.specs.FinMap.{is_sorted}
use Rattle.k_terms.specs.declared.value.Value.{Value}
use Rattle.k_terms.specs.declared.value.Content.{Content}
use Rattle.k_terms.specs.declared.value.Content.TheVariants.{Cells as NoContent, Seq as SeqContent, Map as MapContent, List as ListContent, One as OneContent}
use Rattle.k_terms.specs.Value.{value_cmp}
use Rattle.k_terms.specs.Sorts.{SortOrder}
use Rattle.k_terms.proofs.WellFormed.{is_well_formed-Map}
use Rattle.rule_terms.specs.declared.defs.Kind.{Kind}
use Rattle.rule_terms.specs.declared.defs.Kind.TheVariants.{Cells, Seq, Map, List as Listed, One}
use Rattle.rule_terms.specs.Kinds.{IsOfKind}
use Rattle.rule_terms.specs.Language.{Language}
use Rattle.rule_terms.proofs.Defined.{both}
use Rattle.live_config.specs.declared.cell.Cell.{Cell}
use Rattle.live_config.specs.Configuration.{Configuration, cell_at}
use Rattle.live_config.specs.Fits.{Fits}
use Rattle.leaf_match.specs.Contents.{IsFit}

-- a map of a kind
map_rises : (o : SortOrder) (kind : Kind) (entries : List (Value × Value)) → IsOfKind o kind (MapContent entries) → IsTrue (is_sorted value_cmp entries)
map_rises o Cells entries is = absurd is
map_rises o Seq entries is = absurd is
map_rises o Map entries is = (both (is_sorted value_cmp entries) _ (sym (is_well_formed-Map entries) ∙ is)).0
map_rises o Listed entries is = absurd is
map_rises o (One sort) entries is = absurd is

fit_of_kind : (o : SortOrder) (kind : Kind) (content : Content) → IsOfKind o kind content → IsFit content
fit_of_kind o kind NoContent is = tt
fit_of_kind o kind (SeqContent values) is = tt
fit_of_kind o kind (MapContent entries) is = map_rises o kind entries is
fit_of_kind o kind (ListContent values) is = tt
fit_of_kind o kind (OneContent value) is = tt

pub fit_there : (d : Language) (c : Configuration) → Fits d c → (n : ℕ) (cell : Cell) → cell_at c n ≡ Some cell → IsFit cell.content
fit_there d c fits n cell there =
    let law = fits.lawful n cell there in
    fit_of_kind d.sorts law.shape.kind cell.content law.content

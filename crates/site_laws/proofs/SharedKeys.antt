-- Keys that are given are the same under two substitutions, each of them; and so is a rest of cells that stands for the further
-- children.
use Rattle.std.proofs.Common.{◌≡◌, inl, inr, ℕ, List, [], ◌∷◌, map, Some, None, sym, ap, subst, ◌∙◌}
use Rattle.std.specs.Option.{option_map}
use Rattle.std.proofs.lemmas.List.Concat.{flat_map-cons}
use Rattle.k_terms.specs.declared.value.Value.{Value}
use Rattle.k_terms.specs.declared.value.Content.{Content}
use Rattle.k_terms.specs.declared.value.Content.TheVariants.{Cells as NoContent, Seq as SeqContent, Map as MapContent, List as ListContent, One as OneContent}
use Rattle.k_terms.specs.Sorts.{SortOrder}
use Rattle.k_terms.proofs.WellFormed.{is_well_formed-Map}
use Rattle.rule_terms.specs.declared.defs.Kind.{Kind}
use Rattle.rule_terms.specs.declared.defs.Kind.TheVariants.{Cells as CellsKind, Seq as SeqKind, Map as MapKind, List as ListKind, One as OneKind}
use Rattle.rule_terms.specs.declared.pattern.Pattern.{Pattern}
use Rattle.rule_terms.specs.declared.pattern.Body.{Body, Cells', Seq, Map, List as Listed, One, Made}
use Rattle.rule_terms.specs.Eval.{eval, eval_all}
use Rattle.rule_terms.specs.Kinds.{IsOfKind}
use Rattle.rule_terms.specs.Sound.{cells_rest}
use Rattle.rule_terms.specs.Spots.{Spot, keys_in, key_patterns}
use Rattle.rule_terms.specs.Substitution.{Subst, Bag}
use Rattle.rule_terms.proofs.Defined.{and_then_gives, map_gives}
use Rattle.live_config.specs.Configuration.{Configuration, level_limit, tree}
use Rattle.live_config.specs.Firing.{further, HasFurther}
use Rattle.live_config.proofs.Members.{Has, has_left, has_right}
use Rattle.site_laws.proofs.Walk.{bag_is}
use Rattle.site_laws.proofs.Shared.{IsShared}
use Rattle.site_laws.proofs.SharedBodies.{HasRisingKeys}

first_value : (v w : Value) (vs ws : List Value) → v ∷ vs ≡ w ∷ ws → (v ≡ w) × (vs ≡ ws)
first_value v w vs ws e = (cc, cc)

-- patterns that have the same values, each of them
pub each_same : (s t : Subst) (ps : List Pattern) (vs : List Value) → eval_all ps s ≡ Some vs → eval_all ps t ≡ Some vs → (q : Pattern)
    → Has ps q → eval q s ≡ eval q t
each_same s t [] vs e f q has = absurd has
each_same s t (p ∷ ps) vs e f q has =
    let g = and_then_gives (λ u. option_map (λ us. u ∷ us) (eval_all ps s)) (eval p s) vs e in
    let k = map_gives (λ us. g.0 ∷ us) (eval_all ps s) vs g.2 in
    let h = and_then_gives (λ u. option_map (λ us. u ∷ us) (eval_all ps t)) (eval p t) vs f in
    let l = map_gives (λ us. h.0 ∷ us) (eval_all ps t) vs h.2 in
    let parts = first_value h.0 g.0 l.0 k.0 (l.2 ∙ sym k.2) in
    elim has [
      | inl is ↦ subst (λ p. eval p s ≡ eval p t) is (g.1 ∙ ap Some (sym parts.0) ∙ sym h.1)
      | inr later ↦ each_same s t ps k.0 k.1 (l.1 ∙ ap Some parts.1) q later
    ]

-- a key of a cell is one of the keys of its side
pub key_among : (ps : List Spot) (p : Spot) → Has ps p → (q : Pattern) → Has (keys_in p.body) q → Has (key_patterns ps) q
key_among [] p has q key = absurd has
key_among (r ∷ ps) p (inl is) q key =
    subst (λ qs. Has qs q) (sym (flat_map-cons (λ (x : Spot). keys_in x.body) r ps))
    (has_left (keys_in r.body) (key_patterns ps) q (subst (λ (x : Spot). Has (keys_in x.body) q) (sym is) key))
key_among (r ∷ ps) p (inr later) q key =
    subst (λ qs. Has qs q) (sym (flat_map-cons (λ (x : Spot). keys_in x.body) r ps))
    (has_right (keys_in r.body) (key_patterns ps) q (key_among ps p later q key))

-- a rest of cells stands for the further children
pub further_shared : (c : Configuration) (ps : List Spot) (ns : List ℕ) (s t : Subst) (body : Body) (n : ℕ) → HasFurther c ps ns s body n
    → HasFurther c ps ns t body n → (y : ℕ) → cells_rest body ≡ Some y → IsShared s t y
further_shared c ps ns s t (Cells' shape children None) n one other y e = absurd (let f : None ≡ Some y = e in cc)
further_shared c ps ns s t (Cells' shape children (Some z)) n one other y e =
    let same : z ≡ y = (let f : Some z ≡ Some y = e in cc) in
    let ts = map (tree level_limit c) (further c ps ns (Cells' shape children (Some z)) n) in
    subst (IsShared s t) same (Bag ts, bag_is s z ts one, bag_is t z ts other)
further_shared c ps ns s t (Seq parts rest) n one other y e = absurd (let f : None ≡ Some y = e in cc)
further_shared c ps ns s t (Map entries rest) n one other y e = absurd (let f : None ≡ Some y = e in cc)
further_shared c ps ns s t (Listed before rest after) n one other y e = absurd (let f : None ≡ Some y = e in cc)
further_shared c ps ns s t (One p) n one other y e = absurd (let f : None ≡ Some y = e in cc)
further_shared c ps ns s t (Made p) n one other y e = absurd (let f : None ≡ Some y = e in cc)

-- the keys of a content that is of a kind rise
pub rising_of_kind : (o : SortOrder) (content : Content) (kind : Kind) → IsOfKind o kind content → HasRisingKeys content
rising_of_kind o NoContent kind h = tt
rising_of_kind o (SeqContent values) kind h = tt
rising_of_kind o (MapContent entries) CellsKind h = absurd h
rising_of_kind o (MapContent entries) SeqKind h = absurd h
rising_of_kind o (MapContent entries) MapKind h = sym (is_well_formed-Map entries) ∙ h
rising_of_kind o (MapContent entries) ListKind h = absurd h
rising_of_kind o (MapContent entries) (OneKind sort) h = absurd h
rising_of_kind o (ListContent values) kind h = tt
rising_of_kind o (OneContent v) kind h = tt

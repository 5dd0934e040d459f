-- What the left cells of a rule bind, where nothing was bound before.
use Rattle.std.proofs.Common.{◌≡◌, ◌↔◌, ◌||◌, ℕ, Bool, true, false, List, map, refl, sym, ap, subst, ◌∙◌}
use Rattle.std.specs.Prelude.{Option, Some, None}
use Rattle.std.specs.List.{list_any}
use Rattle.k_terms.specs.declared.value.Value.{Value}
use Rattle.k_terms.specs.Sorts.{SortOrder}
use Rattle.rule_terms.specs.Spots.{Spot, spots}
use Rattle.rule_terms.specs.Substitution.{Subst, AreOfSorts}
use Rattle.rule_terms.specs.declared.rule.Rule.{Rule}
use Rattle.rule_terms.specs.Language.{Language}
use Rattle.live_config.specs.declared.site.Site.{Site}
use Rattle.live_config.specs.Configuration.{Configuration}
use Rattle.leaf_match.specs.Bindings.{Partial, Agrees, AreSuited, Tells, Reaches, is_bound}
use Rattle.leaf_match.specs.Contents.{leaf_mentions}
use Rattle.leaf_match.proofs.Leaves.{free_agrees, free_unbound}
use Rattle.bag_map_match.specs.Matching.{AllHold}
use Rattle.bag_map_match.specs.Binding.{IsMatch, IsLeftBound}

abbrev Asked : Type 0
Asked = List Spot × List Spot × List ℕ × List Value

module _ (o : SortOrder) (vars : List ℕ) (c : Configuration) (ps qs rs : List Spot) (ns ms : List ℕ) (keys ks : List Value) (before after : Partial)
    (same_spots : qs ≡ ps) (same_others : rs ≡ ps) (same_numbers : ms ≡ ns) (same_keys : ks ≡ keys) (free : before ≡ map (λ (sort : ℕ). None) vars) where
  moved : (found : Bool) → Tells o vars found before after (AllHold c qs ms rs ms ks) → Tells o vars found before after (AllHold c ps ns ps ns keys)
  moved found tells =
      subst (λ (us : List Spot). Tells o vars found before after (AllHold c us ns ps ns keys)) same_spots
      (subst (λ (us : List Spot). Tells o vars found before after (AllHold c qs ns us ns keys)) same_others
      (subst (λ (us : List ℕ). Tells o vars found before after (AllHold c qs us rs us keys)) same_numbers
      (subst (λ (us : List Value). Tells o vars found before after (AllHold c qs ms rs ms us)) same_keys tells)))

  agrees : (s : Subst) → Agrees before s
  agrees s = subst (λ p. Agrees p s) (sym free) (free_agrees vars s)

  pub left_none : Tells o vars false before after (AllHold c qs ms rs ms ks) → (s : Subst) → AreOfSorts o vars s → AllHold c ps ns ps ns keys s → ⊥
  left_none tells s sorts holds = moved false tells s sorts (agrees s) holds

  pub left_tells : Tells o vars true before after (AllHold c qs ms rs ms ks) → (s : Subst) → AreOfSorts o vars s → AllHold c ps ns ps ns keys s ↔ Agrees after s
  left_tells tells s sorts =
      let told = moved true tells s sorts in
      ((λ holds. told.0 (agrees s) holds), (λ agreed. (told.1 agreed).1))

  pub left_reaches : Reaches true before after (λ x. list_any (λ (q : Spot). leaf_mentions x q.body) rs) → (x : ℕ) → is_bound after x ≡ list_any (λ (q : Spot). leaf_mentions x q.body) ps
  left_reaches reaches x =
      reaches refl x ∙ ap (λ b. b || list_any (λ (q : Spot). leaf_mentions x q.body) rs) (ap (λ p. is_bound p x) free ∙ free_unbound vars x)
      ∙ ap (list_any (λ (q : Spot). leaf_mentions x q.body)) same_others

-- ---- told by the parts of a rule and a site

module _ (d : Language) (c : Configuration) (site : Site) (r : Rule) (o : SortOrder) (vars : List ℕ) (qs rs : List Spot) (ms : List ℕ) (ks : List Value) (before after : Partial) (found : Bool)
    (same_order : o ≡ d.sorts) (same_vars : vars ≡ r.vars) (same_spots : qs ≡ spots r.left) (same_others : rs ≡ spots r.left) (same_numbers : ms ≡ site.cells) (same_keys : ks ≡ site.keys)
    (free : before ≡ map (λ (sort : ℕ). None) vars) (tells : Tells o vars found before after (AllHold c qs ms rs ms ks)) where
  in_place : (b : Bool) → found ≡ b → Tells d.sorts r.vars b before after (AllHold c qs ms rs ms ks)
  in_place b is =
      subst (λ (u : Bool). Tells d.sorts r.vars u before after (AllHold c qs ms rs ms ks)) is
      (subst (λ (u : List ℕ). Tells d.sorts u found before after (AllHold c qs ms rs ms ks)) same_vars
      (subst (λ (u : SortOrder). Tells u vars found before after (AllHold c qs ms rs ms ks)) same_order tells))

  free_there : before ≡ map (λ (sort : ℕ). None) r.vars
  free_there = free ∙ ap (map (λ (sort : ℕ). None)) same_vars

  pub unbound_left : found ≡ false → IsLeftBound d c site r None
  unbound_left is =
      left_none d.sorts r.vars c (spots r.left) qs rs site.cells ms site.keys ks before after same_spots same_others same_numbers same_keys free_there (in_place false is)

  pub bound_left : found ≡ true → AreSuited o vars after → Reaches found before after (λ x. list_any (λ (q : Spot). leaf_mentions x q.body) rs) → IsMatch d c site r after
  bound_left is suited reaches = record {
    suited = subst (λ (u : List ℕ). AreSuited d.sorts u after) same_vars (subst (λ (u : SortOrder). AreSuited u vars after) same_order suited);
    tells = left_tells d.sorts r.vars c (spots r.left) qs rs site.cells ms site.keys ks before after same_spots same_others same_numbers same_keys free_there (in_place true is);
    reaches = left_reaches d.sorts r.vars c (spots r.left) qs rs site.cells ms site.keys ks before after same_spots same_others same_numbers same_keys free_there
        (subst (λ (u : Bool). Reaches u before after (λ x. list_any (λ (q : Spot). leaf_mentions x q.body) rs)) is reaches);
  }

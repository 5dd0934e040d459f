-- Where a rule binds at a site, and where it doesn't.
use Rattle.std.proofs.Common.{inl, inr, ◌⊎◌, ◌≡◌, ◌↔◌, ◌==◌, ℕ, Bool, true, false, not, List, [], ◌∷◌, map, filter, Contains, refl, sym, ap, subst, ◌∙◌}
use Rattle.std.specs.Prelude.{Option, Some, None, IsTrue, IsSome}
use Rattle.std.specs.List.{list_any, AllByRecursion}
use Rattle.std.proofs.lemmas.Bool.{eqb-true}
use Rattle.k_terms.specs.declared.value.Content.{Content}
use Rattle.rule_terms.specs.declared.plain.Plain.{Plain}
use Rattle.rule_terms.specs.declared.rule.Rule.{Rule}
use Rattle.rule_terms.specs.Eval.{IsMet}
use Rattle.rule_terms.specs.Fill.{fill}
use Rattle.rule_terms.specs.Language.{Language, rule_at}
use Rattle.rule_terms.specs.Numbers.{all_different}
use Rattle.rule_terms.specs.Sound.{IsSound, cells_rest}
use Rattle.rule_terms.specs.Spots.{Spot, spots, has_mark, new_spots}
use Rattle.rule_terms.specs.Substitution.{Subst, cells_of}
use Rattle.live_config.specs.declared.site.Site.{Site}
use Rattle.live_config.specs.Configuration.{Configuration, level_limit, tree}
use Rattle.live_config.specs.Fits.{Fits}
use Rattle.live_config.specs.Firing.{Binds, AreMatched, further}
use Rattle.live_config.specs.Sites.{IsSite}
use Rattle.live_config.proofs.Binding.{rule_contained}
use Rattle.live_config.proofs.Members.{Has, has-contains, contains-has, any_has, keeps}
use Rattle.leaf_match.specs.Bindings.{Partial}
use Rattle.right_sides.specs.Bound.{IsSeenBy, IsUnder, IsDecided}
use Rattle.right_sides.specs.Contents.{contents_of}
use Rattle.right_sides.proofs.SideDefined.{side_defined}
use Rattle.bag_map_match.specs.Binding.{IsMatch, IsLeftBound}
use Rattle.bag_map_match.proofs.Holds.{matched_hold}
use Rattle.bag_map_match.proofs.Rests.{Paired}
use Rattle.bag_map_match.proofs.Matches.{seen, bound_there, bound_seen, bound_sorts, bound_matched, rest_further}

-- each left cell that is matched stands beside a number
has_paired : (c : Configuration) (ps : List Spot) (ns : List ℕ) (s : Subst) (qs : List Spot) (ms : List ℕ) → AreMatched c ps ns s qs ms → (q : Spot) → Has qs q → (n : ℕ) × Paired qs ms q n
has_paired c ps ns s [] ms are q h = absurd h
has_paired c ps ns s (p ∷ qs) [] are q h = absurd are
has_paired c ps ns s (p ∷ qs) (m ∷ ms) are q (inl e) = (m, inl (e, refl))
has_paired c ps ns s (p ∷ qs) (m ∷ ms) are q (inr h) = let rest = has_paired c ps ns s qs ms are.1 q h in (rest.0, inr rest.1)

no_some : (o : Option (List Content)) → IsSome o → None ≡ o → ⊥
no_some None some none = absurd (let no : false ≡ true = some in cc)
no_some (Some cs) some none = absurd (let no : None ≡ Some cs = none in cc)

is_some : (o : Option (List Content)) (cs : List Content) → Some cs ≡ o → IsSome o
is_some o cs e = subst IsSome e refl

module _ (d : Language) (c : Configuration) (site : Site) (r : Rule) (sound : IsSound d) (fits : Fits d c) (is_rule : rule_at d site.rule ≡ Some r) where
  at_rule : (other : Rule) (s : Subst) → Binds d c site other s → Binds d c site r s
  at_rule other s binds = subst (λ (u : Rule). Binds d c site u s) (let e : Some other ≡ Some r = sym binds.rule ∙ is_rule in cc) binds

  pub left_missing : IsLeftBound d c site r None → IsSite d c site → ⊥
  left_missing none (other, s, binds) =
      let own = at_rule other s binds in
      none s own.suits.sorts (matched_hold c (spots r.left) site.cells s (spots r.left) site.cells site.keys own.matched own.keys)

  module _ (p : Partial) (m : IsMatch d c site r p) where
    pub unmet : (met : Bool) → met ≡ false → IsDecided p (λ s. AllByRecursion (IsMet d.sorts s) r.when) met → IsSite d c site → ⊥
    unmet met fails decided (other, s, binds) =
        let own = at_rule other s binds in
        let true_there : met ≡ true = (decided s (seen d c site r p sound is_rule m fits s own)).1 own.suits.conditions in
        let no : false ≡ true = sym fails ∙ true_there in cc

    pub undefined : IsUnder p (contents_of (spots r.right)) None → IsSite d c site → ⊥
    undefined none (other, s, binds) =
        let own = at_rule other s binds in
        no_some (contents_of (spots r.right) s) ((side_defined r.right s).0 own.right_defined).0 (none s (seen d c site r p sound is_rule m fits s own))

    -- ---- the rests of cells of the right side

    abbrev there : Subst
    there = bound_there d c site r p sound is_rule m

    left_rest : (q : Spot) → Has (spots r.left) q → IsSome (cells_of (cells_rest q.body) there)
    left_rest q h =
        let pair = has_paired c (spots r.left) site.cells there (spots r.left) site.cells (bound_matched d c site r p sound is_rule m).0 q h in
        elim (cells_rest q.body) as (λ o. cells_rest q.body ≡ o → IsSome (cells_of o there)) [
          | None ↦ λ _. refl
          | Some x ↦ λ e. subst IsSome (sym (rest_further d c site r p sound is_rule m q pair.0 pair.1 x e)) refl
        ] refl

    right_rest : (q : Spot) → Contains (spots r.right) q → IsSome (cells_of (cells_rest q.body) there)
    right_rest q has =
        let rule = sound.rules r (rule_contained d site.rule r is_rule) in
        elim (has_mark (spots r.left) q.mark) as (λ b. has_mark (spots r.left) q.mark ≡ b → IsSome (cells_of (cells_rest q.body) there)) [
          | true ↦ λ e.
              let left = any_has (λ (u : Spot). u.mark == q.mark) (spots r.left) e in
              let same = rule.cells.staying left.0 q (has-contains (spots r.left) left.0 left.1) has (eqb-true left.0.mark q.mark left.2) in
              subst (λ o. IsSome (cells_of o there)) same.rest (left_rest left.0 left.1)
          | false ↦ λ e.
              let new = keeps (λ (u : Spot). not (has_mark (spots r.left) u.mark)) (spots r.right) q (contains-has (spots r.right) q has) (ap not e) in
              subst (λ o. IsSome (cells_of o there)) (sym (rule.cells.new_closed q (has-contains (new_spots r) q new))) refl
        ] refl

    pub binding_is : (met : Bool) (contents : List Content) → met ≡ true → IsDecided p (λ s. AllByRecursion (IsMet d.sorts s) r.when) met → IsUnder p (contents_of (spots r.right)) (Some contents)
        → IsTrue (all_different site.cells) → (u : Rule) × (s : Subst) × Binds d c site u s × IsSeenBy p s
    binding_is met contents holds decided defined different =
        let its = bound_seen d c site r p sound is_rule m in
        let matched = bound_matched d c site r p sound is_rule m in (
          r,
          there,
          record {
            rule = is_rule;
            suits = record { sorts = bound_sorts d c site r p sound is_rule m; conditions = (decided there its).0 holds };
            different = different;
            matched = matched.0;
            keys = matched.1;
            right_defined = (side_defined r.right there).1 (is_some (contents_of (spots r.right) there) contents (defined there its), right_rest);
          },
          its,
        )

-- Left cells that hold under a substitution are those that are matched, with their keys.
use Rattle.std.proofs.Common.{inl, inr, ◌≡◌, ℕ, List, [], ◌∷◌, ◌++◌, map, refl, sym, ap, subst, ◌∙◌}
use Rattle.std.specs.Prelude.{Option, Some, None}
use Rattle.std.specs.Option.{option_map, option_and_then}
use Rattle.k_terms.specs.declared.value.Value.{Value}
use Rattle.rule_terms.specs.declared.plain.Plain.{Plain}
use Rattle.rule_terms.specs.declared.pattern.Pattern.{Pattern}
use Rattle.rule_terms.specs.declared.pattern.Body.{Body, Cells', Seq, Map, List as Listed, One, Made}
use Rattle.rule_terms.specs.Eval.{eval, eval_all}
use Rattle.rule_terms.specs.Options.{joined}
use Rattle.rule_terms.specs.Spots.{Spot, keys_in, key_patterns}
use Rattle.rule_terms.specs.Substitution.{Subst, cells_of}
use Rattle.rule_terms.proofs.Defined.{and_then_gives, map_gives, joined_gives, same_some}
use Rattle.live_config.specs.Configuration.{Configuration, level_limit, tree}
use Rattle.live_config.specs.Firing.{IsMatched, AreMatched, HasFurther, further}
use Rattle.bag_map_match.specs.Matching.{HasNoOthers, StandsFor, HoldsAt, AllHold}
use Rattle.bag_map_match.proofs.Rests.{Paired}

abbrev option_first : Option Value → Option (List Value) → Option (List Value)
option_first o more = option_and_then (λ v. option_map (λ vs. v ∷ vs) more) o

-- patterns one after the other
pub eval_joined : (ps qs : List Pattern) (s : Subst) → eval_all (ps ++ qs) s ≡ joined (eval_all ps s) (eval_all qs s)
eval_joined [] qs s = elim (eval_all qs s) as (λ o. o ≡ joined (Some []) o) [ None ↦ refl | Some vs ↦ refl ]
eval_joined (p ∷ ps) qs s =
    elim (eval p s) as (λ o. option_first o (eval_all (ps ++ qs) s) ≡ joined (option_first o (eval_all ps s)) (eval_all qs s)) [
      | None ↦ refl
      | Some v ↦ ap (option_map (λ vs. v ∷ vs)) (eval_joined ps qs s) ∙ both v (eval_all ps s) (eval_all qs s)
    ]
  where
    both : (v : Value) (o more : Option (List Value)) → option_map (λ vs. v ∷ vs) (joined o more) ≡ joined (option_map (λ vs. v ∷ vs) o) more
    both v None more = refl
    both v (Some vs) None = refl
    both v (Some vs) (Some ws) = refl

module _ (c : Configuration) (ps : List Spot) (ns : List ℕ) (s : Subst) where
  -- no rest stands for no cells
  no_trees : (ms : List ℕ) → Some [] ≡ Some (map (tree level_limit c) ms) → ms ≡ []
  no_trees [] e = refl
  no_trees (m ∷ ms) e = absurd (let no : [] ≡ tree level_limit c m ∷ map (tree level_limit c) ms = same_some [] (tree level_limit c m ∷ map (tree level_limit c) ms) e in cc)

  closed_there : (body : Body) (n : ℕ) → HasFurther c ps ns s body n → HasNoOthers c ps ns body n
  closed_there (Cells' shape children None) n has = no_trees (further c ps ns (Cells' shape children None) n) has
  closed_there (Cells' shape children (Some x)) n has = tt
  closed_there (Seq a b) n has = tt
  closed_there (Map a b) n has = tt
  closed_there (Listed a b d) n has = tt
  closed_there (One a) n has = tt
  closed_there (Made a) n has = tt

  -- what is matched holds
  pub matched_hold : (qs : List Spot) (ms : List ℕ) (keys : List Value) → AreMatched c ps ns s qs ms → eval_all (key_patterns qs) s ≡ Some keys → AllHold c ps ns qs ms keys s
  matched_hold [] [] keys are e = sym (same_some [] keys e)
  matched_hold [] (m ∷ ms) keys are e = absurd are
  matched_hold (q ∷ qs) [] keys are e = absurd are
  matched_hold (q ∷ qs) (m ∷ ms) keys are e =
      let parts = joined_gives (eval_all (keys_in q.body) s) (eval_all (key_patterns qs) s) keys (sym (eval_joined (keys_in q.body) (key_patterns qs) s) ∙ e) in
      let at = are.0 in (
        parts.0,
        parts.1,
        sym parts.4,
        (at.cell, record { there = at.there; kind = at.kind; parent = at.parent; closed = closed_there q.body m at.others }, (at.content, parts.2)),
        matched_hold qs ms parts.1 are.1 parts.3,
      )

  -- what holds is matched, where the rests of cells stand for the further children
  pub hold_matched : (qs : List Spot) (ms : List ℕ) (keys : List Value) → AllHold c ps ns qs ms keys s
      → ((q : Spot) (m : ℕ) → Paired qs ms q m → HasNoOthers c ps ns q.body m → HasFurther c ps ns s q.body m)
      → AreMatched c ps ns s qs ms × (eval_all (key_patterns qs) s ≡ Some keys)
  hold_matched [] [] keys hold others = (tt, ap Some (sym hold))
  hold_matched [] (m ∷ ms) keys hold others = absurd hold
  hold_matched (q ∷ qs) [] keys hold others = absurd hold
  hold_matched (q ∷ qs) (m ∷ ms) keys hold others =
      let rest = hold_matched qs ms hold.1 hold.4 (λ p n h none. others p n (inr h) none) in
      let at = hold.3 in (
        (record { cell = at.0; there = at.1.there; kind = at.1.kind; parent = at.1.parent; content = at.2.0; others = others q m (inl (refl, refl)) at.1.closed }, rest.0),
        eval_joined (keys_in q.body) (key_patterns qs) s ∙ (λ i. joined (at.2.1 i) (rest.1 i)) ∙ ap Some (sym hold.2),
      )

-- The keys of the left map entries are defined where the contents are.
use Rattle.std.proofs.Common.{inl, inr, List, [], ◌∷◌, ◌++◌, map, Option, refl, sym, subst}
use Rattle.std.specs.Option.{option_map, option_and_then}
use Rattle.std.proofs.lemmas.List.{map-append}
use Rattle.std.proofs.lemmas.List.Concat.{flat_map-cons}
use Rattle.k_terms.specs.declared.value.Content.TheVariants.{Map as MapContent}
use Rattle.k_terms.specs.Operators.{as_entries}
use Rattle.rule_terms.specs.declared.pattern.Pattern.{Pattern}
use Rattle.rule_terms.specs.declared.pattern.Body.{Body, Cells', Seq, Map, List as Listed, One, Made}
use Rattle.rule_terms.specs.Options.{each_some}
use Rattle.rule_terms.specs.Substitution.{Subst, rest_of}
use Rattle.rule_terms.specs.Eval.{eval, eval_all, eval_entry, eval_entries}
use Rattle.rule_terms.specs.Fill.{put_new, content_of}
use Rattle.rule_terms.specs.Spots.{Spot, keys_in, key_patterns}
use Rattle.rule_terms.proofs.Defined.{and_then_gives, map_gives}
use Rattle.rule_terms.proofs.Contents.{entry_gives}
use Rattle.live_config.proofs.Members.{Has}
use Rattle.site_laws.proofs.SameFilled.{IsDefined}

each_joined : {A : Type 0} (os ps : List (Option A)) → IsDefined (each_some os) → IsDefined (each_some ps) → IsDefined (each_some (os ++ ps))
each_joined [] ps d e = e
each_joined (o ∷ os) ps d e =
    let a = and_then_gives (λ x. option_map (λ xs. x ∷ xs) (each_some os)) o d.0 d.1 in
    let m = map_gives (λ xs. a.0 ∷ xs) (each_some os) d.0 a.2 in
    let rest = each_joined os ps (m.0, m.1) e in
    (a.0 ∷ rest.0, λ i. option_and_then (λ x. option_map (λ xs. x ∷ xs) (rest.1 i)) (a.1 i))

module _ (s : Subst) where
  all_joined : (ps qs : List Pattern) → IsDefined (eval_all ps s) → IsDefined (eval_all qs s) → IsDefined (eval_all (ps ++ qs) s)
  all_joined ps qs d e =
      subst (λ os. IsDefined (each_some os)) (sym (map-append (λ p. eval p s) ps qs)) (each_joined (map (λ p. eval p s) ps) (map (λ p. eval p s) qs) d e)

  entries_keys : (es : List (Pattern × Pattern)) → IsDefined (eval_entries es s) → IsDefined (eval_all (map (λ e. e.0) es) s)
  entries_keys [] d = ([], refl)
  entries_keys (e ∷ es) d =
      let a = and_then_gives (λ x. option_map (λ xs. x ∷ xs) (eval_entries es s)) (eval_entry e s) d.0 d.1 in
      let m = map_gives (λ xs. a.0 ∷ xs) (eval_entries es s) d.0 a.2 in
      let rest = entries_keys es (m.0, m.1) in
      let first = entry_gives e s a.0 a.1 in
      (a.0.0 ∷ rest.0, λ i. option_and_then (λ x. option_map (λ xs. x ∷ xs) (rest.1 i)) (first.0 i))

  body_keys : (body : Body) → IsDefined (content_of body s) → IsDefined (eval_all (keys_in body) s)
  body_keys (Cells' shape children rest) d = ([], refl)
  body_keys (Seq parts rest) d = ([], refl)
  body_keys (Map entries rest) d =
      let put_in = option_and_then (λ es. option_and_then (put_new es) (rest_of as_entries rest s)) (eval_entries entries s) in
      let m = map_gives MapContent put_in d.0 d.1 in
      let a = and_then_gives (λ es. option_and_then (put_new es) (rest_of as_entries rest s)) (eval_entries entries s) m.0 m.1 in
      entries_keys entries (a.0, a.1)
  body_keys (Listed before rest after) d = ([], refl)
  body_keys (One p) d = ([], refl)
  body_keys (Made p) d = ([], refl)

  pub keys_defined : (ps : List Spot) → ((p : Spot) → Has ps p → IsDefined (content_of p.body s)) → IsDefined (eval_all (key_patterns ps) s)
  keys_defined [] all = ([], refl)
  keys_defined (p ∷ ps) all =
      subst (λ qs. IsDefined (eval_all qs s)) (sym (flat_map-cons (λ (q : Spot). keys_in q.body) p ps))
      (all_joined (keys_in p.body) (key_patterns ps) (body_keys p.body (all p (inl refl))) (keys_defined ps (λ q h. all q (inr h))))

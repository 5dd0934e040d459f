-- Bodies of all kinds, and nothing bound before.
use Rattle.std.proofs.Common.{arith, ◌≡◌, ◌||◌, ℕ, zero, suc, ◌+◌, ◌<◌, Bool, true, false, List, [], ◌∷◌, ◌++◌, take, length, map, refl, sym, ap, subst, ◌∙◌}
use Rattle.std.specs.Prelude.{Option, Some, None, slice_get}
use Rattle.std.proofs.lemmas.List.{length-map}
use Rattle.k_terms.specs.declared.value.Value.{Value}
use Rattle.k_terms.specs.declared.value.Content.{Content}
use Rattle.k_terms.specs.declared.value.Content.TheVariants.{Map as MapContent}
use Rattle.k_terms.specs.Sorts.{SortOrder}
use Rattle.rule_terms.specs.declared.pattern.Pattern.{Pattern}
use Rattle.rule_terms.specs.declared.pattern.Body.{Body, Cells', Seq, Map as MapBody, List as Listed, One, Made}
use Rattle.rule_terms.specs.Substitution.{Subst}
use Rattle.rule_terms.specs.Eval.{eval_all}
use Rattle.rule_terms.specs.Fill.{content_of}
use Rattle.rule_terms.specs.Spots.{keys_in}
use Rattle.std.specs.Option.{option_map}
use Rattle.leaf_match.specs.declared.bound.Bound.{Bound as Lent}
use Rattle.leaf_match.specs.Bindings.{Partial, meaning, partial_of, Agrees, AreSuited, Tells, is_bound, Reaches}
use Rattle.leaf_match.specs.Maps.{Entries, IsMapAt}
use Rattle.leaf_match.specs.Contents.{IsBodyAt, IsBoundBy, is_map, leaf_mentions}
use Rattle.leaf_match.proofs.Told.{told_alike, told_never}

pub not_map : (body : Body) → ((patterns : List (Pattern × Pattern)) (rest : Option ℕ) → body ≡ MapBody patterns rest → ⊥) → is_map body ≡ false
not_map (Cells' a b c) other = refl
not_map (Seq a b) other = refl
not_map (MapBody patterns rest) other = absurd (other patterns rest refl)
not_map (Listed a b c) other = refl
not_map (One p) other = refl
not_map (Made p) other = refl

no_keys : (body : Body) → is_map body ≡ false → keys_in body ≡ []
no_keys (Cells' a b c) e = refl
no_keys (Seq a b) e = refl
no_keys (MapBody patterns rest) e = let no : true ≡ false = e in cc
no_keys (Listed a b c) e = refl
no_keys (One p) e = refl
no_keys (Made p) e = refl

same_some : {A : Type 0} (x y : A) → Some x ≡ Some y → x ≡ y
same_some x y e = cc

module _ (o : SortOrder) (vars : List ℕ) (before after : Partial) (body : Body) (content : Content) (keys : List Value) where
  -- a map
  pub told_map_body : (found : Bool) (patterns lent : List (Pattern × Pattern)) (rest : Option ℕ) (entries : Entries) → body ≡ MapBody patterns rest → lent ≡ patterns → content ≡ MapContent entries
      → Tells o vars found before after (IsMapAt lent rest entries keys) → Tells o vars found before after (IsBodyAt body content keys)
  told_map_body found patterns lent rest entries is lends it tells =
      let whole : body ≡ MapBody lent rest = is ∙ ap (λ ps. MapBody ps rest) (sym lends) in
      subst (λ b. Tells o vars found before after (IsBodyAt b content keys)) (sym whole)
      (subst (λ c. Tells o vars found before after (IsBodyAt (MapBody lent rest) c keys)) (sym it) tells)

  -- no map, and no keys
  pub told_leaf : (found : Bool) → is_map body ≡ false → keys ≡ [] → Tells o vars found before after (λ s. content_of body s ≡ Some content) → Tells o vars found before after (IsBodyAt body content keys)
  told_leaf found other none tells =
      told_alike o vars found before after (λ s. content_of body s ≡ Some content) (IsBodyAt body content keys)
      (λ s. ((λ e. (e, ap (λ ps. eval_all ps s) (no_keys body other) ∙ ap Some (sym none))), (λ b. b.0))) tells

  -- no map, and some keys
  pub told_no_leaf : is_map body ≡ false → ((keys ≡ []) → ⊥) → Tells o vars false before after (IsBodyAt body content keys)
  told_no_leaf other some =
      told_never o vars before after (IsBodyAt body content keys)
      (λ s b. some (sym (same_some [] keys (sym (ap (λ ps. eval_all ps s) (no_keys body other)) ∙ b.1))))

-- ---- nothing bound before

free_at : (vars : List ℕ) (x : ℕ) (known : Option Value) → slice_get (map (λ (sort : ℕ). None) vars) x ≡ Some known → known ≡ None
free_at [] x known e = absurd (let f : None ≡ Some known = e in cc)
free_at (sort ∷ vars) zero known e = sym (same_some None known e)
free_at (sort ∷ vars) (suc x) known e = free_at vars x known e

pub free_unbound : (vars : List ℕ) (x : ℕ) → is_bound (map (λ (sort : ℕ). None) vars) x ≡ false
free_unbound [] x = refl
free_unbound (sort ∷ vars) zero = refl
free_unbound (sort ∷ vars) (suc x) = free_unbound vars x

pub free_agrees : (vars : List ℕ) (s : Subst) → Agrees (map (λ (sort : ℕ). None) vars) s
free_agrees vars s x v is = absurd (let f : Some v ≡ None = free_at vars x (Some v) is in cc)

pub free_suited : (o : SortOrder) (vars : List ℕ) → AreSuited o vars (map (λ (sort : ℕ). None) vars)
free_suited o vars = record {
  count = length-map vars (λ (sort : ℕ). None);
  sorts = λ x v sort is its. absurd (let f : Some v ≡ None = free_at vars x (Some v) is in cc);
}

abbrev nothing : ℕ → Option Value
nothing sort = None

map_more : (xs : List ℕ) (i : ℕ) → i < length xs → map nothing (take (suc i) xs) ≡ map nothing (take i xs) ++ None ∷ []
map_more [] i within = absurd (omega (arith, within))
map_more (x ∷ xs) zero within = refl
map_more (x ∷ xs) (suc i) within = ap (λ ys. None ∷ ys) (map_more xs i (omega (arith, within)))

partial_more : (bounds : List (Option Lent)) → partial_of (bounds ++ None ∷ []) ≡ partial_of bounds ++ None ∷ []
partial_more [] = refl
partial_more (bound ∷ bounds) = ap (λ ps. option_map meaning bound ∷ ps) (partial_more bounds)

one_more : (i : ℕ) → i + 1 ≡ suc i
one_more i = omega arith

pub free_more : (bounds more : List (Option Lent)) (vars : List ℕ) (i : ℕ) → i < length vars → more ≡ bounds ++ None ∷ [] → partial_of bounds ≡ map nothing (take i vars)
    → partial_of more ≡ map nothing (take (i + 1) vars)
free_more bounds more vars i within is free =
    ap partial_of is ∙ partial_more bounds ∙ ap (λ ps. ps ++ None ∷ []) free ∙ sym (map_more vars i within) ∙ ap (λ n. map nothing (take n vars)) (sym (one_more i))

-- what a body binds where nothing was bound
module _ (o : SortOrder) (vars : List ℕ) (before after : Partial) (body : Body) (content : Content) (keys : List Value) (free : before ≡ map (λ (sort : ℕ). None) vars) where
  agrees_before : (s : Subst) → Agrees before s
  agrees_before s = subst (λ p. Agrees p s) (sym free) (free_agrees vars s)

  pub bound_none : Tells o vars false before after (IsBodyAt body content keys) → IsBoundBy o vars body content keys None
  bound_none tells s sorts holds = tells s sorts (agrees_before s) holds

  pub bound_some : Tells o vars true before after (IsBodyAt body content keys) → Reaches true before after (λ x. leaf_mentions x body) → IsBoundBy o vars body content keys (Some after)
  bound_some tells reaches = (
    (λ s sorts. ((λ holds. (tells s sorts).0 (agrees_before s) holds), (λ agrees. ((tells s sorts).1 agrees).1))),
    (λ x. reaches refl x ∙ ap (λ b. b || leaf_mentions x body) (ap (λ p. is_bound p x) free ∙ free_unbound vars x)),
  )

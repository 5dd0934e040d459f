-- What a variable stands for under two substitutions, where a pattern without operators that it stands in has one value under both.
use Rattle.std.proofs.Common.{arith, ◌≡◌, inl, inr, ℕ, suc, Bool, true, false, ◌||◌, List, [], ◌∷◌, ◌++◌, length, Option, Some, None, refl, sym, ap, ◌∙◌}
use Rattle.std.specs.Prelude.{slice_get, unwrap_or}
use Rattle.std.specs.Option.{option_map, option_and_then}
use Rattle.std.specs.List.{list_all, list_any}
use Rattle.std.proofs.lemmas.Bool.{eqb-true}
use mathlib.Core.Former.{Count}
use Rattle.k_terms.specs.declared.value.Value.{Value, Node, Items, Seq, Freezer}
use Rattle.k_terms.specs.Operators.{bounded}
use Rattle.rule_terms.specs.declared.pattern.Pattern.{Pattern, Var, Lit, Node' as NodeP', Items' as ItemsP', Seq' as SeqP', Freezer' as FreezerP', Apply', Row_of-Pattern, end_of-Pattern, more_of-Pattern}
use Rattle.rule_terms.specs.Options.{joined}
use Rattle.rule_terms.specs.Substitution.{Bound, Whole, Bag, Subst, whole_of, value_at, rest_of, as_sequence, as_items_of}
use Rattle.rule_terms.specs.Eval.{eval, eval_row, eval_all}
use Rattle.rule_terms.specs.Patterns.{mentions, row_mentions, is_rest}
use Rattle.rule_terms.specs.Sound.{has_no_operator, row_has_no_operator}
use Rattle.rule_terms.proofs.Defined.{both, one_of, same_some, and_then_gives, joined_gives, map_gives}
use Rattle.site_laws.proofs.ReadOnce.{IsReadOnce, sequence_once, items_once, node_parts, items_parts, sequence_parts, freezer_parts}

-- the variable stands for the same under both
abbrev pub IsShared : Subst → Subst → ℕ → Type 0
IsShared s t x = (b : Bound) × (slice_get s x ≡ Some b) × (slice_get t x ≡ Some b)

whole_is : (s : Subst) (x : ℕ) (v : Value) → value_at s x ≡ Some v → slice_get s x ≡ Some (Whole v)
whole_is s x v e =
    elim (slice_get s x) as (λ o. option_and_then whole_of o ≡ Some v → o ≡ Some (Whole v)) [
      | None ↦ λ f. absurd (let g : None ≡ Some v = f in cc)
      | Some (Whole w) ↦ λ f. ap (λ o. Some (Whole (unwrap_or o w))) f
      | Some (Bag us) ↦ λ f. absurd (let g : None ≡ Some v = f in cc)
    ] e

pub same_value : (s t : Subst) (x : ℕ) (v : Value) → value_at s x ≡ Some v → value_at t x ≡ Some v → IsShared s t x
same_value s t x v e f = (Whole v, whole_is s x v e, whole_is t x v f)

-- ---- lists of two parts

first_part : {A : Type 0} (xs ys us vs : List A) → length xs ≡ length us → xs ++ ys ≡ us ++ vs → (xs ≡ us) × (ys ≡ vs)
first_part [] ys [] vs same e = (refl, e)
first_part [] ys (u ∷ us) vs same e = absurd (omega (arith, same))
first_part (x ∷ xs) ys [] vs same e = absurd (omega (arith, same))
first_part (x ∷ xs) ys (u ∷ us) vs same e =
    let g : x ∷ (xs ++ ys) ≡ u ∷ (us ++ vs) = e in
    let first : x ≡ u = cc in
    let rest : xs ++ ys ≡ us ++ vs = cc in
    let parts = first_part xs ys us vs (omega (arith, same)) rest in
    ((λ i. first i ∷ parts.0 i), parts.1)

-- two joined lists that are the same have fronts of one length
abbrev pub HaveSameFronts : {A : Type 0} → Option (List A) → Option (List A) → Option (List A) → Option (List A) → Type 0
HaveSameFronts {A} o p q r =
    (xs ys us vs : List A) → o ≡ Some xs → p ≡ Some ys → q ≡ Some us → r ≡ Some vs → xs ++ ys ≡ us ++ vs → length xs ≡ length us

-- what the fronts tell, or what the others tell, where one of them is asked
pub joined_tells : {A M : Type 0} (o p q r : Option (List A)) (a b : Bool) (zs : List A) → HaveSameFronts o p q r
    → ((xs : List A) → a ≡ true → o ≡ Some xs → q ≡ Some xs → M) → ((ys : List A) → b ≡ true → p ≡ Some ys → r ≡ Some ys → M)
    → (a || b) ≡ true → joined o p ≡ Some zs → joined q r ≡ Some zs → M
joined_tells o p q r a b zs fronts first second asked e f =
    let g = joined_gives o p zs e in
    let h = joined_gives q r zs f in
    let same = g.4 ∙ sym h.4 in
    let parts = first_part g.0 g.1 h.0 h.1 (fronts g.0 g.1 h.0 h.1 g.2 g.3 h.2 h.3 same) same in
    elim (one_of a b asked) [
      | inl t ↦ first g.0 t g.2 (h.2 ∙ ap Some (sym parts.0))
      | inr t ↦ second g.1 t g.3 (h.3 ∙ ap Some (sym parts.1))
    ]

module _ (s t : Subst) where
  mutual
    unfolding eval_row

    row_length : {n : Count} (parts : Row_of-Pattern n) (vs ws : List Value) → eval_row parts s ≡ Some vs → eval_row parts t ≡ Some ws
        → length vs ≡ length ws
    row_length end_of-Pattern vs ws e f = ap length (sym (same_some [] vs e) ∙ same_some [] ws f)
    row_length (more_of-Pattern part parts) vs ws e f =
        let g = and_then_gives (λ u. option_map (λ us. u ∷ us) (eval_row parts s)) (eval part s) vs e in
        let k = map_gives (λ us. g.0 ∷ us) (eval_row parts s) vs g.2 in
        let h = and_then_gives (λ u. option_map (λ us. u ∷ us) (eval_row parts t)) (eval part t) ws f in
        let l = map_gives (λ us. h.0 ∷ us) (eval_row parts t) ws h.2 in
        ap length (sym k.2) ∙ ap suc (row_length parts k.0 l.0 k.1 l.1) ∙ ap length l.2

  pub all_length : (ps : List Pattern) (vs ws : List Value) → eval_all ps s ≡ Some vs → eval_all ps t ≡ Some ws → length vs ≡ length ws
  all_length [] vs ws e f = ap length (sym (same_some [] vs e) ∙ same_some [] ws f)
  all_length (p ∷ ps) vs ws e f =
      let g = and_then_gives (λ u. option_map (λ us. u ∷ us) (eval_all ps s)) (eval p s) vs e in
      let k = map_gives (λ us. g.0 ∷ us) (eval_all ps s) vs g.2 in
      let h = and_then_gives (λ u. option_map (λ us. u ∷ us) (eval_all ps t)) (eval p t) ws f in
      let l = map_gives (λ us. h.0 ∷ us) (eval_all ps t) ws h.2 in
      ap length (sym k.2) ∙ ap suc (all_length ps k.0 l.0 k.1 l.1) ∙ ap length l.2

  module _ (x : ℕ) where
    -- the variable of a rest
    pub rest_tells : {A : Type 0} (kind : Value → Option (List A)) → IsReadOnce kind → (rest : Option ℕ) (vs : List A)
        → is_rest x rest ≡ true → rest_of kind rest s ≡ Some vs → rest_of kind rest t ≡ Some vs → IsShared s t x
    rest_tells kind once None vs m e f = absurd (let g : false ≡ true = m in cc)
    rest_tells kind once (Some y) vs m e f =
        let same : x ≡ y = eqb-true x y m in
        let g = and_then_gives kind (value_at s y) vs e in
        let h = and_then_gives kind (value_at t y) vs f in
        same_value s t x g.0 (ap (value_at s) same ∙ g.1) (ap (value_at t) same ∙ h.1 ∙ ap Some (once h.0 g.0 vs h.2 g.2))

    mutual
      unfolding eval eval_row has_no_operator row_has_no_operator mentions row_mentions

      pub pattern_tells : (p : Pattern) (w : Value) → has_no_operator p ≡ true → mentions x p ≡ true → eval p s ≡ Some w → eval p t ≡ Some w
          → IsShared s t x
      pattern_tells (Var y) w o m e f =
          let same : x ≡ y = eqb-true x y m in
          same_value s t x w (ap (value_at s) same ∙ e) (ap (value_at t) same ∙ f)
      pattern_tells (Lit u) w o m e f = absurd (let g : false ≡ true = m in cc)
      pattern_tells (NodeP' p n parts) w o m e f =
          let g = and_then_gives (λ vs. bounded (Node p vs)) (eval_row parts s) w e in
          let h = and_then_gives (λ vs. bounded (Node p vs)) (eval_row parts t) w f in
          row_tells parts g.0 o m g.1 (h.1 ∙ ap Some (node_parts p h.0 g.0 w h.2 g.2))
      pattern_tells (ItemsP' p n parts rest) w o m e f =
          let g = and_then_gives (λ vs. bounded (Items p vs)) (joined (eval_row parts s) (rest_of (as_items_of p) rest s)) w e in
          let h = and_then_gives (λ vs. bounded (Items p vs)) (joined (eval_row parts t) (rest_of (as_items_of p) rest t)) w f in
          joined_tells (eval_row parts s) (rest_of (as_items_of p) rest s) (eval_row parts t) (rest_of (as_items_of p) rest t) (row_mentions x parts) (is_rest x rest) g.0
          (λ xs ys us vs i j k l same. row_length parts xs us i k)
          (λ xs q i j. row_tells parts xs o q i j)
          (λ ys q i j. rest_tells (as_items_of p) (items_once p) rest ys q i j)
          m g.1 (h.1 ∙ ap Some (items_parts p h.0 g.0 w h.2 g.2))
      pattern_tells (SeqP' n parts rest) w o m e f =
          let g = and_then_gives (λ vs. bounded (Seq vs)) (joined (eval_row parts s) (rest_of as_sequence rest s)) w e in
          let h = and_then_gives (λ vs. bounded (Seq vs)) (joined (eval_row parts t) (rest_of as_sequence rest t)) w f in
          joined_tells (eval_row parts s) (rest_of as_sequence rest s) (eval_row parts t) (rest_of as_sequence rest t) (row_mentions x parts) (is_rest x rest) g.0
          (λ xs ys us vs i j k l same. row_length parts xs us i k)
          (λ xs q i j. row_tells parts xs o q i j)
          (λ ys q i j. rest_tells as_sequence sequence_once rest ys q i j)
          m g.1 (h.1 ∙ ap Some (sequence_parts h.0 g.0 w h.2 g.2))
      pattern_tells (FreezerP' p place n parts) w o m e f =
          let g = and_then_gives (λ vs. bounded (Freezer p place vs)) (eval_row parts s) w e in
          let h = and_then_gives (λ vs. bounded (Freezer p place vs)) (eval_row parts t) w f in
          row_tells parts g.0 o m g.1 (h.1 ∙ ap Some (freezer_parts p place h.0 g.0 w h.2 g.2))
      pattern_tells (Apply' op n arguments) w o m e f = absurd (let g : false ≡ true = o in cc)

      row_tells : {n : Count} (parts : Row_of-Pattern n) (ws : List Value) → row_has_no_operator parts ≡ true → row_mentions x parts ≡ true
          → eval_row parts s ≡ Some ws → eval_row parts t ≡ Some ws → IsShared s t x
      row_tells end_of-Pattern ws o m e f = absurd (let g : false ≡ true = m in cc)
      row_tells (more_of-Pattern part parts) ws o m e f =
          let g = and_then_gives (λ u. option_map (λ us. u ∷ us) (eval_row parts s)) (eval part s) ws e in
          let k = map_gives (λ us. g.0 ∷ us) (eval_row parts s) ws g.2 in
          let h = and_then_gives (λ u. option_map (λ us. u ∷ us) (eval_row parts t)) (eval part t) ws f in
          let l = map_gives (λ us. h.0 ∷ us) (eval_row parts t) ws h.2 in
          let heads = first_part (h.0 ∷ []) l.0 (g.0 ∷ []) k.0 refl (l.2 ∙ sym k.2) in
          let head : h.0 ≡ g.0 = (let i : h.0 ∷ [] ≡ g.0 ∷ [] = heads.0 in cc) in
          elim (one_of (mentions x part) (row_mentions x parts) m) [
            | inl here ↦ pattern_tells part g.0 (both _ _ o).0 here g.1 (h.1 ∙ ap Some head)
            | inr there ↦ row_tells parts k.0 (both _ _ o).1 there k.1 (l.1 ∙ ap Some heads.1)
          ]

    -- the same of a list of patterns
    pub patterns_tell : (ps : List Pattern) (ws : List Value) → list_all has_no_operator ps ≡ true → list_any (mentions x) ps ≡ true
        → eval_all ps s ≡ Some ws → eval_all ps t ≡ Some ws → IsShared s t x
    patterns_tell [] ws o m e f = absurd (let g : false ≡ true = m in cc)
    patterns_tell (p ∷ ps) ws o m e f =
        let g = and_then_gives (λ u. option_map (λ us. u ∷ us) (eval_all ps s)) (eval p s) ws e in
        let k = map_gives (λ us. g.0 ∷ us) (eval_all ps s) ws g.2 in
        let h = and_then_gives (λ u. option_map (λ us. u ∷ us) (eval_all ps t)) (eval p t) ws f in
        let l = map_gives (λ us. h.0 ∷ us) (eval_all ps t) ws h.2 in
        let heads = first_part (h.0 ∷ []) l.0 (g.0 ∷ []) k.0 refl (l.2 ∙ sym k.2) in
        let head : h.0 ≡ g.0 = (let i : h.0 ∷ [] ≡ g.0 ∷ [] = heads.0 in cc) in
        elim (one_of (mentions x p) (list_any (mentions x) ps) m) [
          | inl here ↦ pattern_tells p g.0 (both _ _ o).0 here g.1 (h.1 ∙ ap Some head)
          | inr there ↦ patterns_tell ps k.0 (both _ _ o).1 there k.1 (l.1 ∙ ap Some heads.1)
        ]

-- A definition of the small form is sound.
use Rattle.std.proofs.Common.{◌≡◌, ◌⊎◌, inl, inr, ℕ, zero, suc, ◌+◌, ◌<◌, ◌≤◌, Bool, true, false, not, ◌==◌, ◌||◌, List, [], ◌∷◌, ◌++◌, length, map, refl, sym, ap, subst, ◌∙◌, arith}
use Rattle.std.proofs.lemmas.Bool.{eqb-true, eq-eqb, ltb-true, leb-true, cases_lt}
use Rattle.std.proofs.lemmas.Option.{slice_get-get_or}
use Rattle.std.proofs.lemmas.List.{get_or_append_left, get_or-replicate, length-replicate, length-append, length-map}
use Rattle.std.proofs.lemmas.List.Folds.{list_any-append}
use Rattle.std.proofs.lemmas.List.Elements.{All-contains, All-from_recursion}
use Rattle.std.specs.Prelude.{Some, None, Contains, slice_get, replicate}
use Rattle.std.specs.Option.{option_map_or}
use Rattle.std.specs.List.{list_any, AllByRecursion}
use mathlib.Core.Former.{Count}
use Rattle.k_terms.specs.Sorts.{sort_k}
use Rattle.rule_terms.specs.declared.defs.CellShape.{CellShape}
use Rattle.rule_terms.specs.declared.pattern.Pattern.{Pattern, Var, Lit, Node', Items', Seq', Freezer', Apply', Row_of-Pattern, end_of-Pattern, more_of-Pattern}
use Rattle.rule_terms.specs.declared.pattern.Body.{Seq as SeqBody}
use Rattle.rule_terms.specs.Language.{Language}
use Rattle.rule_terms.specs.Patterns.{mentions, row_mentions}
use Rattle.rule_terms.specs.Spots.{Spot, spots, spots_in}
use Rattle.rule_terms.specs.Sound.{side_limit, cell_limit, is_placed_shape, has_formed_values, row_has_formed_values, has_no_operator, row_has_no_operator, has_whole_sequences, row_has_whole_sequences, is_sequence_variable, IsPlaced, IsSameCell, cells_rest, body_mentions, side_mentions, HasSoundCells, HasSoundVariables, HasSoundPatterns, IsSoundRule, IsSound}
use Rattle.rule_terms.proofs.Defined.{both, joins, one_of, same_some}
use Rattle.small_form.specs.declared.small.Production.{Production}
use Rattle.small_form.specs.declared.small.SmallRule.{SmallRule}
use Rattle.small_form.specs.declared.small.Small.{Small}
use Rattle.small_form.proofs.SmallNumbers.{numbers_in_range}
use Rattle.small_form.specs.Small.{IsSmall, IsSmallRule, is_term, row_is_term, arity_of, has_arity, row_length, variables_of, row_variables, numbers_from, first_sort, front, rule_of, cell_k, language_of}

-- ---- the patterns

-- the values in a pattern are well formed, no operator stands in it, and no part of a sequence is itself a sequence
abbrev IsPlain : List ℕ → Pattern → Type 0
IsPlain vars p = (has_formed_values p ≡ true) × (has_no_operator p ≡ true) × (has_whole_sequences vars p ≡ true)

abbrev ArePlain : {n : _} → List ℕ → Row_of-Pattern n → Type 0
ArePlain vars ps = (row_has_formed_values ps ≡ true) × (row_has_no_operator ps ≡ true) × (row_has_whole_sequences vars ps ≡ true)

module _ (productions : List Production) (count : ℕ) where
  mutual
    unfolding is_term has_formed_values has_no_operator has_whole_sequences

    plain : (vars : List ℕ) (p : Pattern) → is_term productions count p ≡ true → IsPlain vars p
    plain vars (Var x) term = (refl, refl, refl)
    plain vars (Node' p _ parts) term = row_plain vars parts (both (has_arity (arity_of productions p) (row_length parts)) (row_is_term productions count parts) term).1
    plain vars (Lit _) term = cc
    plain vars (Items' _ _ _ _) term = cc
    plain vars (Seq' _ _ _) term = cc
    plain vars (Freezer' _ _ _ _) term = cc
    plain vars (Apply' _ _ _) term = cc

    row_plain : {n : Count} (vars : List ℕ) (ps : Row_of-Pattern n) → row_is_term productions count ps ≡ true → ArePlain vars ps
    row_plain vars end_of-Pattern terms = (refl, refl, refl)
    row_plain vars (more_of-Pattern p ps) terms =
        let two = both (is_term productions count p) (row_is_term productions count ps) terms in
        let first = plain vars p two.0 in
        let rest = row_plain vars ps two.1 in (
          joins (has_formed_values p) (row_has_formed_values ps) first.0 rest.0,
          joins (has_no_operator p) (row_has_no_operator ps) first.1 rest.1,
          joins (has_whole_sequences vars p) (row_has_whole_sequences vars ps) first.2 rest.2,
        )

  -- each variable of a term is one of its count
  mutual
    unfolding is_term mentions

    known : (x : ℕ) (p : Pattern) → is_term productions count p ≡ true → mentions x p ≡ true → x < count
    known x (Var y) term met = subst (λ z. z < count) (sym (eqb-true x y met)) (ltb-true y count term)
    known x (Node' p _ parts) term met = row_known x parts (both (has_arity (arity_of productions p) (row_length parts)) (row_is_term productions count parts) term).1 met
    known x (Lit _) term met = cc
    known x (Items' _ _ _ _) term met = cc
    known x (Seq' _ _ _) term met = cc
    known x (Freezer' _ _ _ _) term met = cc
    known x (Apply' _ _ _) term met = cc

    row_known : {n : Count} (x : ℕ) (ps : Row_of-Pattern n) → row_is_term productions count ps ≡ true → row_mentions x ps ≡ true → x < count
    row_known x end_of-Pattern terms met = cc
    row_known x (more_of-Pattern p ps) terms met =
        let two = both (is_term productions count p) (row_is_term productions count ps) terms in
        elim (one_of (mentions x p) (row_mentions x ps) met) [ inl here ↦ known x p two.0 here | inr there ↦ row_known x ps two.1 there ]

-- ---- the variables of a left side

abbrev is_among : ℕ → List ℕ → Bool
is_among x xs = list_any (λ y. x == y) xs

either : (a b : Bool) → (a ≡ true) ⊎ (b ≡ true) → (a || b) ≡ true
either true b h = refl
either false b (inl e) = cc
either false b (inr e) = e

mutual
  unfolding variables_of mentions

  mentioned : (x : ℕ) (p : Pattern) → is_among x (variables_of p) ≡ true → mentions x p ≡ true
  mentioned x (Var y) e = elim (one_of (x == y) false e) [ inl here ↦ here | inr there ↦ cc ]
  mentioned x (Node' _ _ parts) e = row_mentioned x parts e
  mentioned x (Lit _) e = cc
  mentioned x (Items' _ _ _ _) e = cc
  mentioned x (Seq' _ _ _) e = cc
  mentioned x (Freezer' _ _ _ _) e = cc
  mentioned x (Apply' _ _ _) e = cc

  row_mentioned : {n : Count} (x : ℕ) (ps : Row_of-Pattern n) → is_among x (row_variables ps) ≡ true → row_mentions x ps ≡ true
  row_mentioned x end_of-Pattern e = cc
  row_mentioned x (more_of-Pattern p ps) e =
      let parted = sym (list_any-append (λ y. x == y) (variables_of p) (row_variables ps)) ∙ e in
      either (mentions x p) (row_mentions x ps) (elim (one_of (is_among x (variables_of p)) (is_among x (row_variables ps)) parted) [
        | inl here ↦ inl (mentioned x p here)
        | inr there ↦ inr (row_mentioned x ps there)
      ])

numbered : (x first n : ℕ) → first ≤ x → x < first + n → is_among x (numbers_from first n) ≡ true
numbered x first zero low high = absurd (omega arith)
numbered x first (suc n) low high = either (x == first) (is_among x (numbers_from (suc first) n)) (elim (cases_lt first x) [
  | inl less ↦ inr (numbered x (suc first) n (omega arith) (omega arith))
  | inr here ↦ inl (eq-eqb x first (omega arith))
])

-- ---- the sorts

abbrev sorts : ℕ → List ℕ
sorts n = replicate n first_sort ++ sort_k ∷ []

sorts_length : (n : ℕ) → length (sorts n) ≡ n + 1
sorts_length n = length-append (replicate n first_sort) (sort_k ∷ []) ∙ ap (λ m. m + 1) (length-replicate n first_sort)

variable_sort : (n x : ℕ) → x < n → slice_get (sorts n) x ≡ Some first_sort
variable_sort n x within =
    let count = length-replicate n first_sort in
    let all = sorts_length n in
    slice_get-get_or (sorts n) x first_sort (omega arith)
    ∙ ap Some (get_or_append_left (replicate n first_sort) (sort_k ∷ []) first_sort x (omega arith) ∙ get_or-replicate n x first_sort first_sort within)

-- a term is an item of a sequence
item : (productions : List Production) (n : ℕ) (p : Pattern) → is_term productions n p ≡ true → not (is_sequence_variable (sorts n) p) ≡ true
unfolding is_term
item productions n (Var x) term = ap (λ o. not (option_map_or (λ sort. sort == sort_k) o false)) (variable_sort n x (ltb-true x n term))
item productions n (Node' _ _ _) term = refl
item productions n (Lit _) term = cc
item productions n (Items' _ _ _ _) term = cc
item productions n (Seq' _ _ _) term = cc
item productions n (Freezer' _ _ _ _) term = cc
item productions n (Apply' _ _ _) term = cc

-- ---- the cells

-- the one cell of a side
abbrev spot_of : ℕ → Pattern → Spot
spot_of rest p = record { cell = 0; mark = 0; above = None; body = SeqBody (p ∷ []) (Some rest) }

only : {X : Type 0} (x y : X) → Contains (x ∷ []) y → x ≡ y
only x y has = All-contains (λ z. x ≡ z) (x ∷ []) y (All-from_recursion (λ z. x ≡ z) (x ∷ []) (refl, tt)) has

-- a property of the one cell of a side is one of each of its cells
each_spot : (P : Spot → Type 0) (rest : ℕ) (p : Pattern) → P (spot_of rest p) → (q : Spot) → Contains (spots (front rest p)) q → P q
unfolding spots_in
each_spot P rest p holds q has = subst P (only (spot_of rest p) q has) holds

placed : (d : Small) (vars : List ℕ) (rest : ℕ) (p : Pattern) → IsPlaced (language_of d) vars (spots (front rest p)) (spot_of rest p)
unfolding spots_in
placed d vars rest p = record {
  shape = cell_k;
  declared = refl;
  parent = refl;
  kind = refl;
  value = λ q sort is kind. cc;
}

same_cell : (rest : ℕ) (p q : Pattern) → IsSameCell (spot_of rest p) (spot_of rest q)
same_cell rest p q = record { cell = refl; above = refl; rest = refl }

sound_cells : (d : Small) (r : SmallRule) → HasSoundCells (language_of d) (rule_of r)
unfolding spots_in
sound_cells d r =
    let n = length r.names in
    record {
      left_marks = refl;
      right_marks = refl;
      one_root = refl;
      left_placed = each_spot (IsPlaced (language_of d) (sorts n) (spots (front n r.left))) n r.left (placed d (sorts n) n r.left);
      right_placed = each_spot (IsPlaced (language_of d) (sorts n) (spots (front n r.right))) n r.right (placed d (sorts n) n r.right);
      staying = λ p q left right same.
          each_spot (λ p. IsSameCell p q) n r.left (each_spot (IsSameCell (spot_of n r.left)) n r.right (same_cell n r.left r.right) q right) p left;
      new_closed = λ q new. absurd (omega (arith, new.1));
      removed_alone = refl;
      new_alone = refl;
      few_left = leb-true 1 side_limit refl;
      few_new = leb-true 0 side_limit refl;
    }

-- ---- a rule

-- a variable of a body, the rest included, is one of the rule's
body_known : (productions : List Production) (n x : ℕ) (p : Pattern) → is_term productions n p ≡ true → body_mentions x (SeqBody (p ∷ []) (Some n)) ≡ true → x < n + 1
body_known productions n x p term met = elim (one_of (mentions x p || false) (x == n) met) [
  | inl inside ↦ elim (one_of (mentions x p) false inside) [
    | inl here ↦ let within = known productions n x p term here in omega arith
    | inr none ↦ cc
  ]
  | inr rest ↦ let same = eqb-true x n rest in omega arith
]

-- a variable of one of the sides
side_known : (productions : List Production) (n x : ℕ) (p q : Pattern) → is_term productions n p ≡ true → is_term productions n q ≡ true
    → side_mentions x (spot_of n p ∷ spot_of n q ∷ []) ≡ true → x < n + 1
side_known productions n x p q left right met =
    let in_left = body_mentions x (SeqBody (p ∷ []) (Some n)) in
    let in_right = body_mentions x (SeqBody (q ∷ []) (Some n)) in
    elim (one_of in_left (in_right || false) met) [
      | inl here ↦ body_known productions n x p left here
      | inr rest ↦ elim (one_of in_right false rest) [ inl there ↦ body_known productions n x q right there | inr none ↦ cc ]
    ]

module _ (productions : List Production) (r : SmallRule) (small : IsSmallRule productions r) where
  -- each variable stands on the left: in the term, or as the rest
  bound : (x : ℕ) → x < length r.names + 1 → body_mentions x (SeqBody (r.left ∷ []) (Some (length r.names))) ≡ true
  bound x within =
      let n = length r.names in
      either (mentions x r.left || false) (x == n) (elim (cases_lt x n) [
        | inl before ↦ inl (either (mentions x r.left) false (inl (mentioned x r.left (ap (is_among x) small.once ∙ numbered x 0 n (omega arith) (omega arith)))))
        | inr last ↦ inr (eq-eqb x n (omega arith))
      ])

  sound_variables : HasSoundVariables (rule_of r)
  unfolding spots_in
  sound_variables =
      let n = length r.names in
      let count = sorts_length n in
      record {
        bound = λ x within. either (body_mentions x (SeqBody (r.left ∷ []) (Some n))) false (inl (bound x (omega arith)));
        known = λ x met. elim (one_of (side_mentions x (spot_of n r.left ∷ spot_of n r.right ∷ [])) false met) [
          | inl here ↦ let within = side_known productions n x r.left r.right small.left small.right here in omega arith
          | inr none ↦ cc
        ];
        rests = λ p x within is. absurd (each_spot (λ q. cells_rest q.body ≡ Some x → ⊥) n r.left (λ e. cc) p within is);
      }

  sound_patterns : HasSoundPatterns (rule_of r)
  unfolding spots_in
  sound_patterns =
      let n = length r.names in
      let left = plain productions n (sorts n) r.left small.left in
      let right = plain productions n (sorts n) r.right small.right in
      record {
        values = rw (left.0, right.0) refl;
        condition_values = refl;
        no_operator = rw left.1 refl;
        sequences = rw (left.2, right.2) refl;
        condition_sequences = refl;
        forms = rw (item productions n r.left small.left, item productions n r.right small.right) refl;
        condition_forms = refl;
      }

sound_rule : (d : Small) (r : SmallRule) → 0 < length d.productions → IsSmallRule d.productions r → IsSoundRule (language_of d) (rule_of r)
sound_rule d r some small = record {
  cells = sound_cells d r;
  variables = sound_variables d.productions r small;
  patterns = sound_patterns d.productions r small;
  numbers = numbers_in_range d.productions r small;
}

-- ---- a definition

one_cell : (n : ℕ) (shape : CellShape) → slice_get (cell_k ∷ []) n ≡ Some shape → is_placed_shape (cell_k ∷ []) n shape ≡ true
one_cell zero shape is = subst (λ s. is_placed_shape (cell_k ∷ []) zero s ≡ true) (same_some cell_k shape is) refl
one_cell (suc n) shape is = cc

rules_sound : (d : Small) (rules : List SmallRule) → 0 < length d.productions → AllByRecursion (IsSmallRule d.productions) rules → AllByRecursion (IsSoundRule (language_of d)) (map rule_of rules)
rules_sound d [] some all = tt
rules_sound d (r ∷ rules) some all = (sound_rule d r some all.0, rules_sound d rules some all.1)

-- a definition of the small form is sound
pub small_is_sound : (d : Small) → IsSmall d → IsSound (language_of d)
small_is_sound d small = record {
  some_cell = omega arith;
  few_cells = leb-true 1 cell_limit refl;
  tree = one_cell;
  labels = length-map d.productions (λ (p : Production). p.label) ∙ sym (length-replicate (length d.productions) first_sort);
  rules = λ r has.
      let all = All-from_recursion (IsSoundRule (language_of d)) (map rule_of d.rules) (rules_sound d d.rules small.some small.rules) in
      All-contains (IsSoundRule (language_of d)) (map rule_of d.rules) r all has;
}

-- so is one that is equal to it
pub sound_as : (d : Small) → IsSmall d → (made : Language) → made ≡ language_of d → IsSound made
sound_as d small made is = subst IsSound (sym is) (small_is_sound d small)

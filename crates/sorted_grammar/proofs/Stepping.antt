-- What productions lead to.
use Rattle.std.proofs.Common.{arith, inl, inr, ◌⊎◌, ◌≡◌, ◌↔◌, ℕ, ◌+◌, ◌==◌, ◌||◌, ◌&&◌, Bool, true, false, cond, List, [], ◌∷◌, ◌++◌, refl, sym, ap, subst, ◌∙◌}
use Rattle.std.specs.List.{flat_map, list_any}
use Rattle.std.proofs.lemmas.Bool.{and_parts, and_from, eqb-true, eq-eqb}
use Rattle.production_reader.specs.Allowed.{is_empty}
use Rattle.production_reader.specs.declared.prod.Form.{Form}
use Rattle.production_reader.specs.declared.prod.Form.TheVariants.{Plain, Prefix, UserList}
use Rattle.import_order.specs.Imports.{Has as HasNumber}
use Rattle.import_order.proofs.Members.{has_left as number_left, has_right as number_right, has_either as number_either}
use Rattle.grammar_terms.specs.Cuts.{Has}
use Rattle.grammar_terms.specs.Grammar.{Syntax}
use Rattle.grammar_terms.specs.Values.{sorts_in}
use Rattle.grammar_terms.specs.declared.production.Part.{Part}
use Rattle.grammar_terms.specs.declared.production.Part.TheVariants.{Terminal, Sort}
use Rattle.grammar_terms.specs.declared.production.Production.{Production}
use Rattle.grammar_terms.proofs.Cutting.{has_right}
use Rattle.sorted_grammar.specs.Leading.{Nullable, IsAmidst, HasNullable, LeadsBy}
use Rattle.sorted_grammar.specs.Marks.{marked, blocks, blocking, item_target, item_targets, list_targets, targets_by, IsNullableRow}
use Rattle.sorted_grammar.proofs.Marking.{blocking_append, marked_nullable, unblocks, unblocked, row_blocking}

-- members of a list of numbers that a function makes of each of some things
pub number_flat : {X : Type 0} (f : X → List ℕ) (xs : List X) (x : X) (n : ℕ) → Has xs x → HasNumber (f x) n → HasNumber (flat_map f xs) n
number_flat f [] x n has here = absurd has
number_flat f (y ∷ xs) x n (inl same) here = number_left (f y) (flat_map f xs) n (subst (λ z. HasNumber (f z) n) (sym same) here)
number_flat f (y ∷ xs) x n (inr has) here = number_right (f y) (flat_map f xs) n (number_flat f xs x n has here)

pub of_number_flat : {X : Type 0} (f : X → List ℕ) (xs : List X) (n : ℕ) → HasNumber (flat_map f xs) n → (x : X) × Has xs x × HasNumber (f x) n
of_number_flat f [] n has = absurd has
of_number_flat f (x ∷ xs) n has = elim (number_either (f x) (flat_map f xs) n has) [
  | inl front ↦ (x, inl refl, front)
  | inr back ↦ let found = of_number_flat f xs n back in (found.0, inr found.1, found.2)
]

-- an item stands between others
record IsSplit (items : List Part) (item : Part) : Type 0 where
  pub front : List Part
  pub back : List Part
  pub is : items ≡ front ++ item ∷ back

split_at : (items : List Part) (item : Part) → Has items item → IsSplit items item
split_at [] item has = absurd has
split_at (x ∷ items) item (inl same) = record { front = []; back = items; is = ap (λ y. y ∷ items) same }
split_at (x ∷ items) item (inr has) = let more = split_at items item has in record { front = x ∷ more.front; back = more.back; is = ap (λ ys. x ∷ ys) more.is }

sorts_has : (items : List Part) (sort : ℕ) → HasNumber (sorts_in items) sort → Has items (Sort sort)
sorts_has [] sort has = absurd has
sorts_has (Terminal text ∷ items) sort has = inr (sorts_has items sort has)
sorts_has (Sort other ∷ items) sort (inl same) = inl (ap Sort same)
sorts_has (Sort other ∷ items) sort (inr has) = inr (sorts_has items sort has)

has_sorts : (items : List Part) (sort : ℕ) → Has items (Sort sort) → HasNumber (sorts_in items) sort
has_sorts [] sort has = absurd has
has_sorts (Terminal text ∷ items) sort (inl same) = absurd (cc)
has_sorts (Terminal text ∷ items) sort (inr has) = has_sorts items sort has
has_sorts (Sort other ∷ items) sort (inl same) = inl (cc)
has_sorts (Sort other ∷ items) sort (inr has) = inr (has_sorts items sort has)

empty_is : (bytes : List ℕ) → is_empty bytes ≡ true → bytes ≡ []
empty_is [] e = refl
empty_is (byte ∷ bytes) e = absurd (cc)

cond_has : (test : Bool) (n m : ℕ) → HasNumber (cond test (n ∷ []) []) m → (test ≡ true) × (n ≡ m)
cond_has true n m (inl same) = (refl, same)
cond_has true n m (inr none) = absurd none
cond_has false n m has = absurd has

has_cond : (test : Bool) (n m : ℕ) → test ≡ true → n ≡ m → HasNumber (cond test (n ∷ []) []) m
has_cond test n m is same = subst (λ b. HasNumber (cond b (n ∷ []) []) m) (sym is) (inl same)

any_has : {X : Type 0} (test : X → Bool) (xs : List X) → list_any test xs ≡ true → (x : X) × Has xs x × (test x ≡ true)
any_has test [] is = absurd (cc)
any_has test (x ∷ xs) is = elim (test x) as (λ b. test x ≡ b → (b || list_any test xs) ≡ true → (y : _) × Has (x ∷ xs) y × (test y ≡ true)) [
  | true ↦ λ e _. (x, inl refl, e)
  | false ↦ λ _ more. let found = any_has test xs more in (found.0, inr found.1, found.2)
] refl is

has_any : {X : Type 0} (test : X → Bool) (xs : List X) (x : X) → Has xs x → test x ≡ true → list_any test xs ≡ true
has_any test [] x has is = absurd has
has_any test (y ∷ xs) x (inl same) is = ap (λ b. b || list_any test xs) (ap test same ∙ is)
has_any test (y ∷ xs) x (inr has) is = elim (test y) as (λ b. (b || list_any test xs) ≡ true) [ true ↦ refl | false ↦ has_any test xs x has is ]

-- what a production that is written so leads to
abbrev pub LeadsIn : Syntax → Production → ℕ → Form → Type 0
LeadsIn g production to form = elim form [
  | Plain ↦ IsAmidst g production.items to
  | Prefix word ↦ IsAmidst g production.items to
  | UserList separator ↦ Has production.items (Sort to) ⊎ ((production.sort ≡ to) × (separator ≡ []) × HasNullable g production.items)
]

module _ (g : Syntax) (row : List Bool) (nullable : IsNullableRow g row) where
  sound : (sort : ℕ) → marked row sort ≡ true → Nullable g sort
  sound sort = (nullable.decides sort).0

  -- ---- items

  amidst : (items : List Part) (to : ℕ) (item : Part) → Has items item → HasNumber (item_target row (blocking row items) item) to → IsAmidst g items to
  amidst items to (Terminal text) has target = absurd target
  amidst items to (Sort sort) has target =
      let is = cond_has (blocks row (Sort sort) == blocking row items) sort to target in
      let at = split_at items (Sort sort) has in
      let parts : blocking row items ≡ blocking row at.front + (blocks row (Sort sort) + blocking row at.back) = ap (blocking row) at.is ∙ blocking_append row at.front (Sort sort ∷ at.back) in
      let alone : blocks row (Sort sort) ≡ blocking row items = eqb-true _ _ is.0 in
      record {
        front = at.front;
        back = at.back;
        is = at.is ∙ ap (λ n. at.front ++ Sort n ∷ at.back) is.1;
        in_front = marked_nullable g row sound at.front (omega (arith, parts, alone));
        behind = marked_nullable g row sound at.back (omega (arith, parts, alone));
      }

  target_amidst : (items : List Part) (to : ℕ) → HasNumber (item_targets row items) to → IsAmidst g items to
  target_amidst items to has =
      let found = of_number_flat (item_target row (blocking row items)) items to has in
      amidst items to found.0 found.1 found.2

  amidst_target : (items : List Part) (to : ℕ) → IsAmidst g items to → HasNumber (item_targets row items) to
  amidst_target items to is =
      let parts : blocking row items ≡ blocking row is.front + (blocks row (Sort to) + blocking row is.back) = ap (blocking row) is.is ∙ blocking_append row is.front (Sort to ∷ is.back) in
      let front = row_blocking g row nullable is.front is.in_front in
      let back = row_blocking g row nullable is.back is.behind in
      let alone : blocks row (Sort to) ≡ blocking row items = omega (arith, parts, front, back) in
      number_flat (item_target row (blocking row items)) items (Sort to) to
      (subst (λ its. Has its (Sort to)) (sym is.is) (has_right is.front (Sort to ∷ is.back) (Sort to) (inl refl)))
      (has_cond (blocks row (Sort to) == blocking row items) to to (eq-eqb _ _ alone) refl)

  -- ---- lists

  unblocking : (items : List Part) (item : Part) → Has items item → blocks row item ≡ 0 → HasNullable g items
  unblocking items (Terminal text) has is = absurd (omega (arith, is))
  unblocking items (Sort sort) has is = record { sort = sort; has = has; nullable = sound sort (unblocked row sort is) }

  nullable_among : (items : List Part) → list_any (λ item. blocks row item == 0) items ≡ true → HasNullable g items
  nullable_among items is = let found = any_has (λ (item : Part). blocks row item == 0) items is in unblocking items found.0 found.1 (eqb-true _ _ found.2)

  among_nullable : (items : List Part) → HasNullable g items → list_any (λ item. blocks row item == 0) items ≡ true
  among_nullable items is =
      has_any (λ (item : Part). blocks row item == 0) items (Sort is.sort) is.has (eq-eqb _ _ (unblocks row is.sort ((nullable.decides is.sort).1 is.nullable)))

  abbrev LeadsInList : ℕ → List ℕ → List Part → ℕ → Type 0
  LeadsInList sort separator items to = Has items (Sort to) ⊎ ((sort ≡ to) × (separator ≡ []) × HasNullable g items)

  target_list : (sort : ℕ) (separator : List ℕ) (items : List Part) (to : ℕ) → HasNumber (list_targets row sort separator items) to → LeadsInList sort separator items to
  target_list sort separator items to has =
      let own = is_empty separator && list_any (λ item. blocks row item == 0) items in
      elim (number_either (sorts_in items) (cond own (sort ∷ []) []) to has) [
        | inl element ↦ inl (sorts_has items to element)
        | inr itself ↦
            let is = cond_has own sort to itself in
            let parts = and_parts (is_empty separator) (list_any (λ item. blocks row item == 0) items) is.0 in
            inr (is.1, empty_is separator parts.0, nullable_among items parts.1)
      ]

  list_target : (sort : ℕ) (separator : List ℕ) (items : List Part) (to : ℕ) → LeadsInList sort separator items to → HasNumber (list_targets row sort separator items) to
  list_target sort separator items to leads =
      let own = is_empty separator && list_any (λ item. blocks row item == 0) items in
      elim leads [
        | inl element ↦ number_left (sorts_in items) (cond own (sort ∷ []) []) to (has_sorts items to element)
        | inr itself ↦ number_right (sorts_in items) (cond own (sort ∷ []) []) to
            (has_cond own sort to (and_from (is_empty separator) (list_any (λ item. blocks row item == 0) items) (ap is_empty itself.1) (among_nullable items itself.2)) itself.0)
      ]

  -- ---- a production

  abbrev TargetsBy : Form → Production → List ℕ
  TargetsBy form production = elim form [
    | Plain ↦ item_targets row production.items
    | Prefix word ↦ item_targets row production.items
    | UserList separator ↦ list_targets row production.sort separator production.items
  ]

  by_form : (form : Form) (production : Production) (to : ℕ) → HasNumber (TargetsBy form production) to ↔ LeadsIn g production to form
  by_form Plain production to = (target_amidst production.items to, amidst_target production.items to)
  by_form (Prefix word) production to = (target_amidst production.items to, amidst_target production.items to)
  by_form (UserList separator) production to = (target_list production.sort separator production.items to, list_target production.sort separator production.items to)

  pub targets_lead : (production : Production) (to : ℕ) → HasNumber (targets_by row production) to ↔ LeadsBy g production to
  targets_lead production to = by_form production.form production to

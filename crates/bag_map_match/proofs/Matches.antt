-- A rule whose left cells hold at a site: what is bound there is what each substitution under which the rule binds gives.
use Rattle.std.proofs.Common.{arith, inl, inr, ◌⊎◌, ◌≡◌, ◌↔◌, ◌<◌, ℕ, zero, suc, ◌+◌, Bool, true, false, ◌||◌, List, [], ◌∷◌, ◌++◌, length, map, Contains, refl, sym, ap, subst, ◌∙◌}
use Rattle.std.specs.Prelude.{Option, Some, None, IsTrue, IsSome, slice_get}
use Rattle.std.specs.Option.{option_and_then}
use Rattle.std.specs.List.{list_any}
use Rattle.k_terms.specs.declared.value.Value.{Value}
use Rattle.k_terms.specs.Sorts.{SortOrder, sort_bag}
use Rattle.rule_terms.specs.declared.plain.Plain.{Plain}
use Rattle.rule_terms.specs.declared.pattern.Body.{Body, Cells', Seq, Map, List as Listed, One, Made}
use Rattle.rule_terms.specs.declared.rule.Rule.{Rule}
use Rattle.rule_terms.specs.Language.{Language, rule_at}
use Rattle.rule_terms.specs.Numbers.{all_different}
use Rattle.rule_terms.specs.Sound.{IsSound, IsSoundRule, cells_rest, body_mentions, side_mentions}
use Rattle.rule_terms.specs.Eval.{eval_all}
use Rattle.rule_terms.specs.Spots.{Spot, spots, key_patterns}
use Rattle.rule_terms.specs.Substitution.{Bound, Whole, Bag, whole_of, bag_of, Subst, value_at, cells_of, AreOfSorts}
use Rattle.live_config.specs.declared.site.Site.{Site}
use Rattle.live_config.specs.Configuration.{Configuration, level_limit, tree}
use Rattle.live_config.specs.Fits.{Fits}
use Rattle.live_config.specs.Firing.{Binds, HasFurther, further, AreMatched}
use Rattle.live_config.proofs.Members.{Has, has-contains, any_has, has_any, Apart, different-apart}
use Rattle.live_config.proofs.SpotTree.{marks}
use Rattle.live_config.proofs.Binding.{Binding, rule_contained, matched_spot, left_rest}
use Rattle.leaf_match.specs.Bindings.{Partial, Agrees, AreSuited, has_value, is_bound}
use Rattle.leaf_match.specs.Contents.{leaf_mentions}
use Rattle.bag_map_match.specs.Matching.{HasNoOthers, AllHold}
use Rattle.bag_map_match.specs.Binding.{IsMatch}
use Rattle.bag_map_match.proofs.Completed.{completed, value_completed, cells_completed, sorts_completed}
use Rattle.bag_map_match.proofs.Rests.{bag_for, is_the_rest, in_no_leaf, no_other_rest, Paired, paired_has, bag_is}
use Rattle.bag_map_match.proofs.Holds.{matched_hold, hold_matched}

-- ---- a variable that is not bound

abbrev Known : Option (Option Value) → Type 0
Known o = ((v : Value) × (o ≡ Some (Some v))) ⊎ ((o ≡ Some None) ⊎ (o ≡ None))

known : (o : Option (Option Value)) → Known o
known None = inr (inr refl)
known (Some None) = inr (inl refl)
known (Some (Some v)) = inl (v, refl)

within : {A : Type 0} (xs : List A) (x : ℕ) (a : A) → slice_get xs x ≡ Some a → x < length xs
within [] x a e = absurd (let no : None ≡ Some a = e in cc)
within (y ∷ ys) zero a e = omega arith
within (y ∷ ys) (suc x) a e = let rest : x < length ys = within ys x a e in omega (arith, rest)

beyond : {A : Type 0} (xs : List A) (x : ℕ) → slice_get xs x ≡ None → x < length xs → ⊥
beyond [] x e few = omega (arith, few)
beyond (y ∷ ys) zero e few = let no : Some y ≡ None = e in cc
beyond (y ∷ ys) (suc x) e few = beyond ys x e (let f : suc x < suc (length ys) = few in omega (arith, f))

bag_no_value : (s : Subst) (x : ℕ) (cells : List Plain) → cells_of (Some x) s ≡ Some cells → value_at s x ≡ None
bag_no_value s x cells e =
    elim (slice_get s x) as (λ o. option_and_then bag_of o ≡ Some cells → option_and_then whole_of o ≡ None) [
      | None ↦ λ _. refl
      | Some b ↦ elim b as (λ b. bag_of b ≡ Some cells → whole_of b ≡ None) [ Whole v ↦ λ f. absurd (let no : None ≡ Some cells = f in cc) | Bag ts ↦ λ _. refl ]
    ] e

sorts_length : (o : SortOrder) (vars : List ℕ) (s : Subst) → AreOfSorts o vars s → length s ≡ length vars
sorts_length o [] [] are = refl
sorts_length o [] (b ∷ s) are = absurd are
sorts_length o (sort ∷ vars) [] are = absurd are
sorts_length o (sort ∷ vars) (b ∷ s) are = ap suc (sorts_length o vars s are.1)

-- a body in which a variable stands, but not as in a leaf, has it as the rest of its cells
rest_of_cells : (body : Body) (x : ℕ) → body_mentions x body ≡ true → leaf_mentions x body ≡ false → cells_rest body ≡ Some x
rest_of_cells (Cells' a b rest) x e none = is_the_rest rest x e
rest_of_cells (Seq a b) x e none = absurd (let no : true ≡ false = sym e ∙ none in cc)
rest_of_cells (Map a b) x e none = absurd (let no : true ≡ false = sym e ∙ none in cc)
rest_of_cells (Listed a b d) x e none = absurd (let no : true ≡ false = sym e ∙ none in cc)
rest_of_cells (One a) x e none = absurd (let no : true ≡ false = sym e ∙ none in cc)
rest_of_cells (Made a) x e none = absurd (let no : true ≡ false = sym e ∙ none in cc)

no_one : {A : Type 0} (test : A → Bool) (xs : List A) → ((x : A) → Has xs x → test x ≡ false) → list_any test xs ≡ false
no_one test [] none = refl
no_one test (x ∷ xs) none = ap (λ b. b || list_any test xs) (none x (inl refl)) ∙ no_one test xs (λ y h. none y (inr h))

module _ (d : Language) (c : Configuration) (site : Site) (r : Rule) (p : Partial) (sound : IsSound d) (is_rule : rule_at d site.rule ≡ Some r) (m : IsMatch d c site r p) where
  sound_rule : IsSoundRule d r
  sound_rule = sound.rules r (rule_contained d site.rule r is_rule)

  abbrev left : List Spot
  left = spots r.left

  left_apart : Apart (marks left)
  left_apart = different-apart (marks left) sound_rule.cells.left_marks

  -- a variable that is not bound is the rest of a left cell
  record IsRestThere (x : ℕ) : Type 0 where
    spot : Spot
    there : Has left spot
    rest : cells_rest spot.body ≡ Some x

  unbound : (x : ℕ) → slice_get p x ≡ Some None → IsRestThere x
  unbound x e =
      let few : x < length p = within p x None e in
      let count : length p ≡ length r.vars = m.suited.count in
      let mentioned = any_has (λ (q : Spot). body_mentions x q.body) left (sound_rule.variables.bound x (omega (arith, few, count))) in
      let none : list_any (λ (q : Spot). leaf_mentions x q.body) left ≡ false = sym (m.reaches x) ∙ ap has_value e in
      record { spot = mentioned.0; there = mentioned.1; rest = rest_of_cells mentioned.0.body x mentioned.2 (lacks mentioned.0 mentioned.1 none) }
    where
      lacks : (q : Spot) → Has left q → list_any (λ (q : Spot). leaf_mentions x q.body) left ≡ false → leaf_mentions x q.body ≡ false
      lacks q h none = not_true (leaf_mentions x q.body) (λ f. let no : true ≡ false = sym (has_any (λ (u : Spot). leaf_mentions x u.body) left q h f) ∙ none in cc)
        where
          not_true : (b : Bool) → (b ≡ true → ⊥) → b ≡ false
          not_true false h = refl
          not_true true h = absurd (h refl)

  -- ---- each substitution under which the rule binds

  module _ (fits : Fits d c) (s : Subst) (binds : Binds d c site r s) where
    abbrev there : Binding
    there = record { d = d; c = c; site = site; r = r; s = s; sound = sound; fits = fits; binds = binds }

    agrees : Agrees p s
    agrees = (m.tells s binds.suits.sorts).0 (matched_hold c left site.cells s left site.cells site.keys binds.matched binds.keys)

    -- a rest of cells has no value
    no_value : (x : ℕ) → IsRestThere x → value_at s x ≡ None
    no_value x rest =
        let at = matched_spot there rest.spot rest.there in
        bag_no_value s x (map (tree level_limit c) (further c left site.cells rest.spot.body at.number))
        (ap (λ o. cells_of o s) (sym rest.rest) ∙ left_rest there rest.spot rest.there at.number at.matched)

    beyond_all : (x : ℕ) → slice_get p x ≡ None → value_at s x ≡ None
    beyond_all x e =
        elim (slice_get s x) as (λ o. slice_get s x ≡ o → option_and_then whole_of o ≡ None) [
          | None ↦ λ _. refl
          | Some b ↦ λ f.
              let few : x < length s = within s x b f in
              let sorts : length s ≡ length r.vars = sorts_length d.sorts r.vars s binds.suits.sorts in
              let count : length p ≡ length r.vars = m.suited.count in
              absurd (beyond p x e (omega (arith, few, sorts, count)))
        ] refl

    pub seen : (x : ℕ) → value_at s x ≡ option_and_then (λ known. known) (slice_get p x)
    seen x = elim (known (slice_get p x)) [
      | inl some ↦ agrees x some.0 some.1 ∙ sym (ap (option_and_then (λ known. known)) some.1)
      | inr other ↦ elim other [
        | inl free ↦ no_value x (unbound x free) ∙ sym (ap (option_and_then (λ known. known)) free)
        | inr none ↦ beyond_all x none ∙ sym (ap (option_and_then (λ known. known)) none)
      ]
    ]

  -- ---- the substitution that is bound

  abbrev pub bound_there : Subst
  bound_there = completed (bag_for c left site.cells left site.cells) 0 p

  pub bound_seen : (x : ℕ) → value_at bound_there x ≡ option_and_then (λ known. known) (slice_get p x)
  bound_seen x = value_completed (bag_for c left site.cells left site.cells) 0 p x

  bound_agrees : Agrees p bound_there
  bound_agrees x v e = bound_seen x ∙ ap (option_and_then (λ known. known)) e

  rest_sort : (x : ℕ) → IsRestThere x → slice_get r.vars x ≡ Some sort_bag
  rest_sort x rest = (sound_rule.variables.rests rest.spot x (has-contains left rest.spot rest.there) rest.rest).0

  pub bound_sorts : AreOfSorts d.sorts r.vars bound_there
  bound_sorts =
      sorts_completed d.sorts (bag_for c left site.cells left site.cells) 0 r.vars p m.suited.count m.suited.sorts
      (λ x sort free its. let same : Some sort ≡ Some sort_bag = sym its ∙ rest_sort x (unbound x free) in cc)

  -- a rest of cells is not bound
  rest_free : (q : Spot) → Has left q → (x : ℕ) → cells_rest q.body ≡ Some x → slice_get p x ≡ Some None
  rest_free q h x rest =
      let its = sound_rule.variables.rests q x (has-contains left q h) rest in
      let few : x < length r.vars = within r.vars x sort_bag its.0 in
      let count : length p ≡ length r.vars = m.suited.count in
      let none : is_bound p x ≡ false = m.reaches x ∙ no_one (λ (u : Spot). leaf_mentions x u.body) left (λ u g. in_no_leaf r left_apart q h x rest its.1 u g) in
      elim (known (slice_get p x)) [
        | inl some ↦ absurd (let no : true ≡ false = sym (ap has_value some.1) ∙ none in cc)
        | inr other ↦ elim other [ inl free ↦ free | inr gone ↦ absurd (beyond p x gone (omega (arith, few, count))) ]
      ]

  further_is : (s : Subst) (body : Body) (n : ℕ) → HasNoOthers c left site.cells body n
      → ((x : ℕ) → cells_rest body ≡ Some x → cells_of (Some x) s ≡ Some (map (tree level_limit c) (further c left site.cells body n))) → HasFurther c left site.cells s body n
  further_is s (Cells' a b None) n none rest = ap (λ ms. Some (map (tree level_limit c) ms)) (sym none)
  further_is s (Cells' a b (Some x)) n none rest = rest x refl
  further_is s (Seq a b) n none rest = tt
  further_is s (Map a b) n none rest = tt
  further_is s (Listed a b e) n none rest = tt
  further_is s (One a) n none rest = tt
  further_is s (Made a) n none rest = tt

  pub rest_further : (q : Spot) (n : ℕ) → Paired left site.cells q n → (x : ℕ) → cells_rest q.body ≡ Some x
      → cells_of (Some x) bound_there ≡ Some (map (tree level_limit c) (further c left site.cells q.body n))
  rest_further q n paired x rest =
      let h = paired_has left site.cells q n paired in
      let its = sound_rule.variables.rests q x (has-contains left q h) rest in
      ap (option_and_then bag_of) (cells_completed (bag_for c left site.cells left site.cells) 0 p x (rest_free q h x rest))
      ∙ ap (λ k. Some (bag_for c left site.cells left site.cells k)) (let same : 0 + x ≡ x = omega arith in same)
      ∙ ap Some (bag_is c left site.cells left site.cells left_apart q n x paired rest (no_other_rest r left_apart q h x rest its.1))

  pub bound_matched : AreMatched c left site.cells bound_there left site.cells × (eval_all (key_patterns left) bound_there ≡ Some site.keys)
  bound_matched =
      hold_matched c left site.cells bound_there left site.cells site.keys ((m.tells bound_there bound_sorts).1 bound_agrees)
      (λ q n paired none. further_is bound_there q.body n none (rest_further q n paired))

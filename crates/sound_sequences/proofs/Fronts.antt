-- The parts of a sequence before its rest.
use Rattle.std.proofs.Common.{◌≡◌, ℕ, zero, suc, ◌-◌, Bool, true, false, cond, ◌&&◌, List, [], ◌∷◌, length, take, Option, Some, None, refl, sym, ap, subst, ◌∙◌, arith}
use Rattle.std.proofs.lemmas.Bool.{and_parts}
use Rattle.std.specs.Prelude.{slice_get, is_some}
use Rattle.std.specs.Option.{option_and_then}
use Rattle.std.specs.List.{list_all, AllByRecursion}
use Rattle.rule_terms.specs.declared.pattern.Pattern.{Pattern, Var, Lit, Node' as NodeP', Items' as ItemsP', Seq' as SeqP', Freezer' as FreezerP', Apply' as ApplyP'}
use Rattle.rule_terms.specs.Sound.{is_item, has_whole_sequences}
use Rattle.rule_parts.specs.declared.terms.Occurrence.{Occurrence}
use Rattle.rule_parts.specs.Terms.{is_of_sort_k, tail_of, last_rest, before_rest, front_parts}
use Rattle.sound_sequences.proofs.Told.{sorts_with, IsTold, IsToldRest, item_of}

pub both_pass : (a b : Bool) → a ≡ true → b ≡ true → (a && b) ≡ true
both_pass a b one other = λ i. one i && other i

pub all_taken : {X : Type 0} (test : X → Bool) (n : ℕ) (xs : List X) → list_all test xs ≡ true → list_all test (take n xs) ≡ true
all_taken test zero xs e = refl
all_taken test (suc n) [] e = refl
all_taken test (suc n) (x ∷ xs) e = let p = and_parts (test x) (list_all test xs) e in both_pass (test x) (list_all test (take n xs)) p.0 (all_taken test n xs p.1)

-- no pattern is left
abbrev pub is_ended : List Pattern → Bool
is_ended [] = true
is_ended (_ ∷ _) = false

-- all patterns but the last are items
abbrev pub items_but_last : List ℕ → List Pattern → Bool
items_but_last sorts [] = true
items_but_last sorts (part ∷ []) = true
items_but_last sorts (part ∷ other ∷ parts) = is_item sorts part && items_but_last sorts (other ∷ parts)

pub item_before : (sorts : List ℕ) (part : Pattern) (parts : List Pattern) → is_item sorts part ≡ true → items_but_last sorts parts ≡ true
    → items_but_last sorts (part ∷ parts) ≡ true
item_before sorts part [] item items = refl
item_before sorts part (other ∷ parts) item items = both_pass (is_item sorts part) (items_but_last sorts (other ∷ parts)) item items

module _ (vars : List Occurrence) (more : List ℕ) where
  abbrev sorts : List ℕ
  sorts = sorts_with vars more

  -- ---- the last part

  last_more : (part other : Pattern) (parts : List Pattern) → last_rest vars (part ∷ other ∷ parts) ≡ last_rest vars (other ∷ parts)
  last_more part other parts =
      let e : length (part ∷ other ∷ parts) - 1 ≡ suc (length (other ∷ parts) - 1) = omega arith in
      ap (λ n. option_and_then (tail_of vars) (slice_get (part ∷ other ∷ parts) n)) e

  -- it is a variable
  same_variable : (b : Bool) (x y : ℕ) → cond b (Some x) None ≡ Some y → x ≡ y
  same_variable true x y e = let f : Some x ≡ Some y = e in cc
  same_variable false x y e = absurd (let f : None ≡ Some y = e in cc)

  tail_told : (part : Pattern) (x : ℕ) → IsTold vars more part → tail_of vars part ≡ Some x → IsTold vars more (Var x)
  tail_told (Var y) x told e = subst (λ n. IsTold vars more (Var n)) (same_variable (is_of_sort_k vars y) y x e) told
  tail_told (Lit v) x told e = absurd (let f : None ≡ Some x = e in cc)
  tail_told (NodeP' p _ parts) x told e = absurd (let f : None ≡ Some x = e in cc)
  tail_told (ItemsP' p _ parts rest) x told e = absurd (let f : None ≡ Some x = e in cc)
  tail_told (SeqP' _ parts rest) x told e = absurd (let f : None ≡ Some x = e in cc)
  tail_told (FreezerP' p i _ parts) x told e = absurd (let f : None ≡ Some x = e in cc)
  tail_told (ApplyP' op _ parts) x told e = absurd (let f : None ≡ Some x = e in cc)

  last_is_told : (parts : List Pattern) (x : ℕ) → AllByRecursion (IsTold vars more) parts → last_rest vars parts ≡ Some x → IsTold vars more (Var x)
  last_is_told [] x all e = absurd (let f : None ≡ Some x = e in cc)
  last_is_told (part ∷ []) x all e = tail_told part x all.0 e
  last_is_told (part ∷ other ∷ parts) x all e = last_is_told (other ∷ parts) x all.1 (sym (last_more part other parts) ∙ e)

  pub last_told : (parts : List Pattern) → AllByRecursion (IsTold vars more) parts → IsToldRest vars more (last_rest vars parts)
  last_told parts all =
      elim (last_rest vars parts) as (λ (o : Option ℕ). last_rest vars parts ≡ o → IsToldRest vars more o) [ None ↦ λ e. tt | Some x ↦ λ e. last_is_told parts x all e ] refl

  -- ---- those before it

  pub front_whole : (parts : List Pattern) → list_all (has_whole_sequences sorts) parts ≡ true → list_all (has_whole_sequences sorts) (front_parts vars parts) ≡ true
  front_whole parts e = by_rest (last_rest vars parts)
    where
      by_rest : (o : Option ℕ) → list_all (has_whole_sequences sorts) (before_rest o parts) ≡ true
      by_rest None = e
      by_rest (Some x) = all_taken (has_whole_sequences sorts) (length parts - 1) parts e

  -- where the last is no variable of sort K, all are items; else all before it
  none_last : (part : Pattern) → tail_of vars part ≡ None → is_some (tail_of vars part) ≡ false
  none_last part e = ap is_some e

  all_are_items : (parts : List Pattern) → AllByRecursion (IsTold vars more) parts → items_but_last sorts parts ≡ true → last_rest vars parts ≡ None
      → list_all (is_item sorts) parts ≡ true
  all_are_items [] all items e = refl
  all_are_items (part ∷ []) all items e = both_pass (is_item sorts part) true (item_of vars more part all.0 (none_last part e)) refl
  all_are_items (part ∷ other ∷ parts) all items e =
      let p = and_parts (is_item sorts part) (items_but_last sorts (other ∷ parts)) items in
      both_pass (is_item sorts part) (list_all (is_item sorts) (other ∷ parts)) p.0 (all_are_items (other ∷ parts) all.1 p.1 (sym (last_more part other parts) ∙ e))

  front_items : (parts : List Pattern) → items_but_last sorts parts ≡ true → list_all (is_item sorts) (take (length parts - 1) parts) ≡ true
  front_items [] items = refl
  front_items (part ∷ []) items = refl
  front_items (part ∷ other ∷ parts) items =
      let p = and_parts (is_item sorts part) (items_but_last sorts (other ∷ parts)) items in
      let e : length (part ∷ other ∷ parts) - 1 ≡ suc (length (other ∷ parts) - 1) = omega arith in
      ap (λ n. list_all (is_item sorts) (take n (part ∷ other ∷ parts))) e
      ∙ both_pass (is_item sorts part) (list_all (is_item sorts) (take (length (other ∷ parts) - 1) (other ∷ parts))) p.0 (front_items (other ∷ parts) p.1)

  pub front_are_items : (parts : List Pattern) → AllByRecursion (IsTold vars more) parts → items_but_last sorts parts ≡ true
      → list_all (is_item sorts) (front_parts vars parts) ≡ true
  front_are_items parts all items =
      elim (last_rest vars parts) as (λ (o : Option ℕ). last_rest vars parts ≡ o → list_all (is_item sorts) (before_rest o parts) ≡ true) [
        | None ↦ λ e. all_are_items parts all items e
        | Some x ↦ λ e. front_items parts items
      ] refl

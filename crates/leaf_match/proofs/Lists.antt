-- Members before a rest, the rest, and members behind it.
use Rattle.std.proofs.Common.{arith, ◌≡◌, ℕ, ◌+◌, ◌-◌, ◌<◌, List, [], ◌++◌, take, drop, length, sym, ap, ◌∙◌, length-append, append_assoc}
use Rattle.std.specs.Prelude.{Option, Some, None}
use Rattle.std.specs.Option.{option_and_then}
use Rattle.k_terms.specs.declared.value.Value.{Value, List as Listed}
use Rattle.k_terms.specs.Operators.{as_members}
use Rattle.rule_terms.specs.declared.pattern.Pattern.{Pattern}
use Rattle.rule_terms.specs.Options.{joined}
use Rattle.rule_terms.specs.Substitution.{Subst, value_at, rest_of}
use Rattle.rule_terms.specs.Eval.{eval_all}
use Rattle.rule_terms.proofs.Defined.{and_then_gives, same_some}
use Rattle.leaf_match.proofs.Fronts.{eval_all_length, joined_parts, take_front, drop_front, take_drop, members}

-- parts of a list: a front of n, a back of m, and what is between
module _ (n m : ℕ) (vs : List Value) where
  abbrev others : List Value
  others = drop n vs

  abbrev pub front : List Value
  front = take n vs

  abbrev pub middle : List Value
  middle = take (length (drop n vs) - m) (drop n vs)

  abbrev pub back : List Value
  back = drop (length (drop n vs) - m) (drop n vs)

  whole : (front ++ middle) ++ back ≡ vs
  whole = append_assoc front middle back ∙ ap (λ ws. front ++ ws) (take_drop (length (drop n vs) - m) (drop n vs)) ∙ take_drop n vs

  -- lists of these lengths that are joined are these parts
  parted : (xs ys zs : List Value) → n ≡ length xs → m ≡ length zs → (xs ++ ys) ++ zs ≡ vs → (xs ≡ front) × (ys ≡ middle) × (zs ≡ back)
  parted xs ys zs first last is = (
    sym (take_front xs (ys ++ zs) n first) ∙ ap (take n) joins,
    sym (take_front ys zs (length (ys ++ zs) - m) count) ∙ ap (λ ws. take (length ws - m) ws) behind,
    sym (drop_front ys zs (length (ys ++ zs) - m) count) ∙ ap (λ ws. drop (length ws - m) ws) behind,
  )
    where
      joins : xs ++ (ys ++ zs) ≡ vs
      joins = sym (append_assoc xs ys zs) ∙ is

      behind : ys ++ zs ≡ drop n vs
      behind = sym (drop_front xs (ys ++ zs) n first) ∙ ap (drop n) joins

      count : length (ys ++ zs) - m ≡ length ys
      count = let long = length-append ys zs in omega (arith, long, last)

module _ (before after : List Pattern) (vs : List Value) (s : Subst) where
  abbrev Front : Type 0
  Front = eval_all before s ≡ Some (front (length before) (length after) vs)

  abbrev Back : Type 0
  Back = eval_all after s ≡ Some (back (length before) (length after) vs)

  pub list_rest : (x : ℕ)
      → (Front × Back × (value_at s x ≡ Some (Listed (middle (length before) (length after) vs)))
      → joined (joined (eval_all before s) (rest_of as_members (Some x) s)) (eval_all after s) ≡ Some vs)
      × (joined (joined (eval_all before s) (rest_of as_members (Some x) s)) (eval_all after s) ≡ Some vs
      → Front × Back × (value_at s x ≡ Some (Listed (middle (length before) (length after) vs))))
  list_rest x = (
    (λ all. ap (λ a. joined (joined a (rest_of as_members (Some x) s)) (eval_all after s)) all.0
        ∙ ap (λ b. joined (joined (Some (front (length before) (length after) vs)) (option_and_then as_members b)) (eval_all after s)) all.2
        ∙ ap (λ r. joined (joined (Some (front (length before) (length after) vs)) r) (eval_all after s)) (members.reads (middle (length before) (length after) vs))
        ∙ ap (joined (Some (front (length before) (length after) vs ++ middle (length before) (length after) vs))) all.1
        ∙ ap Some (whole (length before) (length after) vs)),
    (λ e. let outer = joined_parts (joined (eval_all before s) (rest_of as_members (Some x) s)) (eval_all after s) vs e in
        let inner = joined_parts (eval_all before s) (rest_of as_members (Some x) s) outer.0 outer.2 in
        let rest = and_then_gives as_members (value_at s x) inner.1 inner.3 in
        let same = parted (length before) (length after) vs inner.0 inner.1 outer.1 (eval_all_length before s inner.0 inner.2) (eval_all_length after s outer.1 outer.3)
        (ap (λ ws. ws ++ outer.1) inner.4 ∙ outer.4) in
        (inner.2 ∙ ap Some same.0, outer.3 ∙ ap Some same.2, rest.1 ∙ ap Some (members.made rest.0 inner.1 rest.2 ∙ ap Listed same.1))),
  )

  pub list_alone :
      (Front × Back × (middle (length before) (length after) vs ≡ []) → joined (joined (eval_all before s) (rest_of as_members None s)) (eval_all after s) ≡ Some vs)
      × (joined (joined (eval_all before s) (rest_of as_members None s)) (eval_all after s) ≡ Some vs → Front × Back × (middle (length before) (length after) vs ≡ []))
  list_alone = (
    (λ all. ap (λ a. joined (joined a (Some [])) (eval_all after s)) all.0
        ∙ ap (λ ws. joined (Some (front (length before) (length after) vs ++ ws)) (eval_all after s)) (sym all.2)
        ∙ ap (joined (Some (front (length before) (length after) vs ++ middle (length before) (length after) vs))) all.1
        ∙ ap Some (whole (length before) (length after) vs)),
    (λ e. let outer = joined_parts (joined (eval_all before s) (Some [])) (eval_all after s) vs e in
        let inner = joined_parts (eval_all before s) (Some []) outer.0 outer.2 in
        let none : inner.1 ≡ [] = sym (same_some [] inner.1 inner.3) in
        let same = parted (length before) (length after) vs inner.0 inner.1 outer.1 (eval_all_length before s inner.0 inner.2) (eval_all_length after s outer.1 outer.3)
        (ap (λ ws. ws ++ outer.1) inner.4 ∙ outer.4) in
        (inner.2 ∙ ap Some same.0, outer.3 ∙ ap Some same.2, sym same.1 ∙ none)),
  )

  pub list_short : (rest : Option ℕ) → length vs < length before + length after → joined (joined (eval_all before s) (rest_of as_members rest s)) (eval_all after s) ≡ Some vs → ⊥
  list_short rest few e =
      let outer = joined_parts (joined (eval_all before s) (rest_of as_members rest s)) (eval_all after s) vs e in
      let inner = joined_parts (eval_all before s) (rest_of as_members rest s) outer.0 outer.2 in
      let first : length before ≡ length inner.0 = eval_all_length before s inner.0 inner.2 in
      let last : length after ≡ length outer.1 = eval_all_length after s outer.1 outer.3 in
      let long : length (outer.0 ++ outer.1) ≡ length vs = ap length outer.4 in
      let split : length (outer.0 ++ outer.1) ≡ length outer.0 + length outer.1 = length-append outer.0 outer.1 in
      let inside : length (inner.0 ++ inner.1) ≡ length outer.0 = ap length inner.4 in
      let parts : length (inner.0 ++ inner.1) ≡ length inner.0 + length inner.1 = length-append inner.0 inner.1 in
      omega (arith, few, first, last, long, split, inside, parts)

-- Patterns at the front of parts, and the rest behind them.
use Rattle.std.proofs.Common.{arith, ◌≡◌, ℕ, zero, suc, ◌+◌, ◌<◌, ◌==◌, true, false, cond, List, [], ◌∷◌, ◌++◌, take, drop, length, refl, sym, ap, ◌∙◌, length-append}
use Rattle.std.specs.Prelude.{Option, Some, None}
use Rattle.std.specs.Option.{option_map, option_and_then}
use Rattle.std.proofs.lemmas.Bool.{eqb-true, eq-eqb}
use Rattle.k_terms.specs.declared.value.Value.{Value, Items, Seq, List as Listed, out-Value, roll-Value, roll-out-Value}
use Rattle.k_terms.specs.declared.value.Value.TheVariants.{outs-Items, outs-Seq, outs-List}
use Rattle.k_terms.specs.declared.value.Value.TheOpen.{Value-F, Items as Items-F, Seq as Seq-F, List as List-F}
use denote.Hole.Carrier.{roll}
use Rattle.k_terms.specs.Operators.{as_members}
use Rattle.rule_terms.specs.declared.pattern.Pattern.{Pattern}
use Rattle.rule_terms.specs.Options.{joined}
use Rattle.rule_terms.specs.Substitution.{Subst, value_at, rest_of, as_sequence, as_items_of}
use Rattle.rule_terms.specs.Eval.{eval, eval_all}
use Rattle.rule_terms.proofs.Defined.{and_then_gives, map_gives, same_some}

from_layer : (v : Value) (x : Value-F Value) → out-Value v ≡ x → v ≡ roll-Value x
from_layer v x e = sym (roll-out-Value v) ∙ ap roll-Value e

-- ---- a value read as a list of parts

module _ (kind : Value → Option (List Value)) (make : List Value → Value) where
  -- what the values of a kind are
  pub record Reads : Type 0 where
    pub reads : (ws : List Value) → kind (make ws) ≡ Some ws
    pub made : (w : Value) (ws : List Value) → kind w ≡ Some ws → w ≡ make ws

sequence_made : (w : Value) (x : Value-F Value) (ws : List Value) → out-Value w ≡ x → elim x [ Seq-F values ↦ Some values | _ ↦ None ] ≡ Some ws → w ≡ Seq ws
unfolding roll-Value roll
sequence_made w (Seq-F values) ws is e = from_layer w _ is ∙ ap Seq (same_some values ws e)
sequence_made w _ ws is e = cc

pub sequences : Reads as_sequence Seq
sequences = record {
  reads = λ ws. ap (λ x. elim x as (λ _. Option (List Value)) [ Seq-F values ↦ Some values | _ ↦ None ]) (outs-Seq ws);
  made = λ w ws e. sequence_made w (out-Value w) ws refl e;
}

members_made : (w : Value) (x : Value-F Value) (ws : List Value) → out-Value w ≡ x → elim x [ List-F values ↦ Some values | _ ↦ None ] ≡ Some ws → w ≡ Listed ws
unfolding roll-Value roll
members_made w (List-F values) ws is e = from_layer w _ is ∙ ap Listed (same_some values ws e)
members_made w _ ws is e = cc

pub members : Reads as_members Listed
members = record {
  reads = λ ws. ap (λ x. elim x as (λ _. Option (List Value)) [ List-F values ↦ Some values | _ ↦ None ]) (outs-List ws);
  made = λ w ws e. members_made w (out-Value w) ws refl e;
}

items_made : (p : ℕ) (w : Value) (x : Value-F Value) (ws : List Value) → out-Value w ≡ x → elim x [ Items-F q values ↦ cond (q == p) (Some values) None | _ ↦ None ] ≡ Some ws → w ≡ Items p ws
unfolding roll-Value roll
items_made p w (Items-F q values) ws is e =
    elim (q == p) as (λ b. (q == p) ≡ b → cond b (Some values) None ≡ Some ws → w ≡ Items p ws) [
      | true ↦ λ same f. from_layer w _ is ∙ ap (λ n. Items n values) (eqb-true q p same) ∙ ap (Items p) (same_some values ws f)
      | false ↦ λ same f. cc
    ] refl e
items_made p w _ ws is e = cc

pub items : (p : ℕ) → Reads (as_items_of p) (Items p)
items p = record {
  reads = λ ws. ap (λ x. elim x as (λ _. Option (List Value)) [ Items-F q values ↦ cond (q == p) (Some values) None | _ ↦ None ]) (outs-Items p ws)
      ∙ ap (λ b. cond b (Some ws) None) (eq-eqb p p refl);
  made = λ w ws e. items_made p w (out-Value w) ws refl e;
}

-- ---- parts that are joined

pub eval_all_length : (ps : List Pattern) (s : Subst) (vs : List Value) → eval_all ps s ≡ Some vs → length ps ≡ length vs
eval_all_length [] s vs e = let none : [] ≡ vs = cc in ap length none
eval_all_length (p ∷ ps) s vs e =
    let first = and_then_gives (λ v. option_map (λ ws. v ∷ ws) (eval_all ps s)) (eval p s) vs e in
    let rest = map_gives (λ ws. first.0 ∷ ws) (eval_all ps s) vs first.2 in
    ap suc (eval_all_length ps s rest.0 rest.1) ∙ ap length rest.2

pub joined_parts : {A : Type 0} (a b : Option (List A)) (vs : List A) → joined a b ≡ Some vs → (xs : List A) × (ys : List A) × (a ≡ Some xs) × (b ≡ Some ys) × (xs ++ ys ≡ vs)
joined_parts {A} a b vs e =
    let first = and_then_gives (λ (xs : List A). option_map (λ ys. xs ++ ys) b) a vs e in
    let rest = map_gives (λ ys. first.0 ++ ys) b vs first.2 in
    (first.0, rest.0, first.1, rest.1, rest.2)

pub take_front : {A : Type 0} (xs ys : List A) (n : ℕ) → n ≡ length xs → take n (xs ++ ys) ≡ xs
take_front [] ys zero is = refl
take_front [] ys (suc n) is = absurd (omega (arith, is))
take_front (x ∷ xs) ys zero is = absurd (omega (arith, is))
take_front (x ∷ xs) ys (suc n) is = ap (λ zs. x ∷ zs) (take_front xs ys n (omega (arith, is)))

pub drop_front : {A : Type 0} (xs ys : List A) (n : ℕ) → n ≡ length xs → drop n (xs ++ ys) ≡ ys
drop_front [] ys zero is = refl
drop_front [] ys (suc n) is = absurd (omega (arith, is))
drop_front (x ∷ xs) ys zero is = absurd (omega (arith, is))
drop_front (x ∷ xs) ys (suc n) is = drop_front xs ys n (omega (arith, is))

pub take_drop : {A : Type 0} (n : ℕ) (xs : List A) → take n xs ++ drop n xs ≡ xs
take_drop zero xs = refl
take_drop (suc n) [] = refl
take_drop (suc n) (x ∷ xs) = ap (λ ys. x ∷ ys) (take_drop n xs)

module _ (kind : Value → Option (List Value)) (make : List Value → Value) (is_kind : Reads kind make) (ps : List Pattern) (vs : List Value) (s : Subst) where
  -- with a rest
  pub front_rest : (x : ℕ)
      → ((eval_all ps s ≡ Some (take (length ps) vs)) × (value_at s x ≡ Some (make (drop (length ps) vs))) → joined (eval_all ps s) (rest_of kind (Some x) s) ≡ Some vs)
      × (joined (eval_all ps s) (rest_of kind (Some x) s) ≡ Some vs → (eval_all ps s ≡ Some (take (length ps) vs)) × (value_at s x ≡ Some (make (drop (length ps) vs))))
  front_rest x = (
    (λ both. ap (λ a. joined a (rest_of kind (Some x) s)) both.0 ∙ ap (λ b. joined (Some (take (length ps) vs)) (option_and_then kind b)) both.1
        ∙ ap (joined (Some (take (length ps) vs))) (is_kind.reads (drop (length ps) vs)) ∙ ap Some (take_drop (length ps) vs)),
    (λ e. let parts = joined_parts (eval_all ps s) (rest_of kind (Some x) s) vs e in
        let rest = and_then_gives kind (value_at s x) parts.1 parts.3 in
        let count : length ps ≡ length parts.0 = eval_all_length ps s parts.0 parts.2 in (
          parts.2 ∙ ap Some (sym (take_front parts.0 parts.1 (length ps) count) ∙ ap (take (length ps)) parts.4),
          rest.1 ∙ ap Some (is_kind.made rest.0 parts.1 rest.2 ∙ ap make (sym (drop_front parts.0 parts.1 (length ps) count) ∙ ap (drop (length ps)) parts.4)),
        )),
  )

  -- without one
  pub front_alone :
      ((eval_all ps s ≡ Some (take (length ps) vs)) × (drop (length ps) vs ≡ []) → joined (eval_all ps s) (rest_of kind None s) ≡ Some vs)
      × (joined (eval_all ps s) (rest_of kind None s) ≡ Some vs → (eval_all ps s ≡ Some (take (length ps) vs)) × (drop (length ps) vs ≡ []))
  front_alone = (
    (λ both. ap (λ a. joined a (Some [])) both.0 ∙ ap (λ ys. Some (take (length ps) vs ++ ys)) (sym both.1) ∙ ap Some (take_drop (length ps) vs)),
    (λ e. let parts = joined_parts (eval_all ps s) (Some []) vs e in
        let none : parts.1 ≡ [] = sym (same_some [] parts.1 parts.3) in
        let count : length ps ≡ length parts.0 = eval_all_length ps s parts.0 parts.2 in (
          parts.2 ∙ ap Some (sym (take_front parts.0 parts.1 (length ps) count) ∙ ap (take (length ps)) parts.4),
          ap (drop (length ps)) (sym parts.4) ∙ drop_front parts.0 parts.1 (length ps) count ∙ none,
        )),
  )

  -- of more patterns than parts
  pub too_many : (rest : Option ℕ) → length vs < length ps → joined (eval_all ps s) (rest_of kind rest s) ≡ Some vs → ⊥
  too_many rest many e =
      let parts = joined_parts (eval_all ps s) (rest_of kind rest s) vs e in
      let count : length ps ≡ length parts.0 = eval_all_length ps s parts.0 parts.2 in
      let whole : length (parts.0 ++ parts.1) ≡ length vs = ap length parts.4 in
      let split : length (parts.0 ++ parts.1) ≡ length parts.0 + length parts.1 = length-append parts.0 parts.1 in
      omega (arith, many, count, whole, split)

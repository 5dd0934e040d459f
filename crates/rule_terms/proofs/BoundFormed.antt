-- What a match binds is well formed: each variable stands on the left, for a part of a content that is well formed.
use Rattle.std.proofs.Common.{◌≡◌, inl, inr, ℕ, zero, suc, Bool, true, false, not, ◌&&◌, ◌||◌, List, [], ◌∷◌, refl, sym, ap, subst, ◌∙◌, arith}
use Rattle.std.proofs.lemmas.Bool.{eqb-true}
use Rattle.std.specs.Prelude.{Option, Some, None, is_some, Contains, slice_get}
use Rattle.std.specs.Option.{option_and_then}
use Rattle.std.specs.List.{list_all, list_any}
use Rattle.k_terms.specs.declared.value.Value.{Value, Map as Mapping}
use Rattle.k_terms.specs.declared.value.Content.{Content}
use Rattle.k_terms.specs.declared.value.Content.TheVariants.{Cells as NoContent, Seq as SeqContent, Map as MapContent, List as ListContent, One as OneContent}
use Rattle.k_terms.specs.Value.{is_well_formed}
use Rattle.k_terms.specs.Parts.{are_well_formed}
use Rattle.k_terms.specs.Operators.{as_entries, as_members}
use Rattle.k_terms.specs.Sorts.{SortOrder}
use Rattle.k_terms.proofs.WellFormed.{is_well_formed-Map}
use Rattle.rule_terms.specs.declared.defs.Kind.{Kind}
use Rattle.rule_terms.specs.declared.defs.Kind.TheVariants.{Cells as CellsKind, Seq as SeqKind, Map as MapKind, List as ListKind, One as OneKind}
use Rattle.rule_terms.specs.declared.pattern.Pattern.{Pattern}
use Rattle.rule_terms.specs.declared.pattern.Body.{Body, Cells', Seq, Map, List as Listed, One, Made}
use Rattle.rule_terms.specs.declared.rule.Rule.{Rule}
use Rattle.rule_terms.specs.Options.{joined}
use Rattle.rule_terms.specs.Substitution.{Bound, Whole, Bag, Subst, whole_of, bag_of, value_at, rest_of, as_sequence, cells_of}
use Rattle.rule_terms.specs.Eval.{eval, eval_all, eval_entries}
use Rattle.rule_terms.specs.Fill.{put_new, content_of}
use Rattle.rule_terms.specs.Language.{Language}
use Rattle.rule_terms.specs.Patterns.{mentions, is_rest}
use Rattle.rule_terms.specs.Spots.{Spot, spots}
use Rattle.rule_terms.specs.Sound.{has_no_operator, all_patterns, is_made, cells_rest, body_mentions, IsSoundRule}
use Rattle.rule_terms.specs.Kinds.{IsOfKind}
use Rattle.rule_terms.specs.Laws.{HasLawfulContent, BoundValuesAreFormed}
use Rattle.rule_terms.proofs.Defined.{passes, both, one_of, and_then_gives, map_gives}
use Rattle.rule_terms.proofs.Layers.{Entries, are_formed_entries, sequence_formed, members_formed, entries_formed, all_formed}
use Rattle.rule_terms.proofs.Contents.{IsFormedContent}
use Rattle.rule_terms.proofs.EvalSorts.{value_within}
use Rattle.rule_terms.proofs.Parted.{put_new_before}
use Rattle.rule_terms.proofs.PatternParts.{rest_part, joined_part, pattern_part, patterns_part, entries_part}

-- a variable that stands for cells has no value
no_value : (b : Option Bound) (v : Value) → is_some (option_and_then bag_of b) ≡ true → option_and_then whole_of b ≡ Some v → is_well_formed v ≡ true
no_value None v bag whole = cc
no_value (Some (Whole w)) v bag whole = cc
no_value (Some (Bag cells)) v bag whole = cc

module _ (s : Subst) (x : ℕ) (v : Value) (at : value_at s x ≡ Some v) where
  cells_part : (rest : Option ℕ) → is_rest x rest ≡ true → is_some (cells_of rest s) ≡ true → is_well_formed v ≡ true
  cells_part None m further = cc
  cells_part (Some y) m further = no_value (slice_get s y) v further (ap (value_at s) (sym (eqb-true x y m)) ∙ at)

  sequence_part : (parts : List Pattern) (rest : Option ℕ) (vs : List Value) → list_all has_no_operator parts ≡ true → (list_any (mentions x) parts || is_rest x rest) ≡ true → joined (eval_all parts s) (rest_of as_sequence rest s) ≡ Some vs → list_all is_well_formed vs ≡ true → is_well_formed v ≡ true
  sequence_part parts rest vs o m e h =
      joined_part s x v at (eval_all parts s) (rest_of as_sequence rest s) (list_any (mentions x) parts) (is_rest x rest) vs
      (λ ws n f k. patterns_part s x v at parts ws o n f k)
      (λ ws n f k. rest_part s x v at as_sequence are_well_formed sequence_formed rest ws n f k)
      m e (sym (all_formed vs) ∙ h)

  map_part : (es : List (Pattern × Pattern)) (rest : Option ℕ) (entries : Entries) → list_all (λ e. has_no_operator e.0 && has_no_operator e.1) es ≡ true → (list_any (λ e. mentions x e.0 || mentions x e.1) es || is_rest x rest) ≡ true → option_and_then (λ news. option_and_then (put_new news) (rest_of as_entries rest s)) (eval_entries es s) ≡ Some entries → is_well_formed (Mapping entries) ≡ true → is_well_formed v ≡ true
  map_part es rest entries o m e h =
      let g = and_then_gives (λ news. option_and_then (put_new news) (rest_of as_entries rest s)) (eval_entries es s) entries e in
      let k = and_then_gives (put_new g.0) (rest_of as_entries rest s) entries g.2 in
      let before = put_new_before g.0 k.0 entries k.2 (sym (is_well_formed-Map entries) ∙ h) in
      elim (one_of (list_any (λ e. mentions x e.0 || mentions x e.1) es) (is_rest x rest) m) [
        | inl here ↦ entries_part s x v at es g.0 o here g.1 before.0
        | inr there ↦ rest_part s x v at as_entries are_formed_entries entries_formed rest k.0 there k.1 before.1
      ]

  -- a list's test by its three parts, with the rest in the middle
  around : (a b c : Bool) → ((a || b) || c) ≡ true → ((a || c) || b) ≡ true
  around true b c e = refl
  around false true true e = refl
  around false true false e = refl
  around false false c e = elim c as (λ c. c ≡ true → (c || false) ≡ true) [ true ↦ λ _. refl | false ↦ λ f. f ] e

  members_part : (before after : List Pattern) (rest : Option ℕ) (vs : List Value) → (list_all has_no_operator before && list_all has_no_operator after) ≡ true → ((list_any (mentions x) before || list_any (mentions x) after) || is_rest x rest) ≡ true → joined (joined (eval_all before s) (rest_of as_members rest s)) (eval_all after s) ≡ Some vs → list_all is_well_formed vs ≡ true → is_well_formed v ≡ true
  members_part before after rest vs o m e h =
      joined_part s x v at (joined (eval_all before s) (rest_of as_members rest s)) (eval_all after s) (list_any (mentions x) before || is_rest x rest) (list_any (mentions x) after) vs
      (λ ws n f k. joined_part s x v at (eval_all before s) (rest_of as_members rest s) (list_any (mentions x) before) (is_rest x rest) ws
      (λ us i g l. patterns_part s x v at before us (both _ _ o).0 i g l)
      (λ us i g l. rest_part s x v at as_members are_well_formed members_formed rest us i g l)
      n f k)
      (λ ws n f k. patterns_part s x v at after ws (both _ _ o).1 n f k)
      (around (list_any (mentions x) before) (list_any (mentions x) after) (is_rest x rest) m) e (sym (all_formed vs) ∙ h)

  single_part : (p : Pattern) (w : Value) → has_no_operator p ≡ true → (mentions x p || false) ≡ true → eval p s ≡ Some w → is_well_formed w ≡ true → is_well_formed v ≡ true
  single_part p w o m e h = elim (one_of (mentions x p) false m) [ inl here ↦ pattern_part s x v at p w o here e h | inr there ↦ cc ]

  -- A variable that stands in a body stands for a part of the content.
  body_part : (body : Body) (content : Content) → all_patterns has_no_operator body ≡ true → not (is_made body) ≡ true → body_mentions x body ≡ true → is_some (cells_of (cells_rest body) s) ≡ true → content_of body s ≡ Some content → IsFormedContent content → is_well_formed v ≡ true
  body_part (Cells' n children rest) content o made m further e formed = cells_part rest m further
  body_part (Seq parts rest) content o made m further e formed =
      let g = map_gives SeqContent (joined (eval_all parts s) (rest_of as_sequence rest s)) content e in
      sequence_part parts rest g.0 o m g.1 (subst IsFormedContent (sym g.2) formed)
  body_part (Map es rest) content o made m further e formed =
      let g = map_gives MapContent (option_and_then (λ news. option_and_then (put_new news) (rest_of as_entries rest s)) (eval_entries es s)) content e in
      map_part es rest g.0 o m g.1 (subst IsFormedContent (sym g.2) formed)
  body_part (Listed before rest after) content o made m further e formed =
      let g = map_gives ListContent (joined (joined (eval_all before s) (rest_of as_members rest s)) (eval_all after s)) content e in
      members_part before after rest g.0 o m g.1 (subst IsFormedContent (sym g.2) formed)
  body_part (One p) content o made m further e formed =
      let g = map_gives OneContent (eval p s) content e in
      single_part p g.0 o m g.1 (subst IsFormedContent (sym g.2) formed)
  body_part (Made p) content o made m further e formed = cc

-- a content of a kind has well-formed values
kind_formed : (o : SortOrder) (kind : Kind) (content : Content) → IsOfKind o kind content → IsFormedContent content
kind_formed o CellsKind NoContent h = tt
kind_formed o SeqKind (SeqContent values) h = h
kind_formed o MapKind (MapContent entries) h = h
kind_formed o ListKind (ListContent values) h = h
kind_formed o (OneKind sort) (OneContent v) h = h.0
kind_formed o _ _ h = absurd h

-- an element that passes a test which some pass
any_gives : {X : Type 0} (p : X → Bool) (xs : List X) → list_any p xs ≡ true → (y : X) × Contains xs y × (p y ≡ true)
any_gives p [] e = cc
any_gives p (y ∷ xs) e = elim (one_of (p y) (list_any p xs) e) [
  | inl here ↦ (y, (zero, omega arith, refl), here)
  | inr there ↦ let g = any_gives p xs there in (g.0, (suc g.1.0, omega (arith, g.1.1), g.1.2), g.2)
]

-- the cell of the left side in which a variable stands
variable_formed : (d : Language) (r : Rule) (s : Subst) (x : ℕ) (v : Value) (p : Spot) → IsSoundRule d r → value_at s x ≡ Some v → Contains (spots r.left) p → body_mentions x p.body ≡ true → HasLawfulContent d s p → is_well_formed v ≡ true
variable_formed d r s x v p sound at within m lawful =
    let plain = both _ _ (passes (λ (q : Spot). all_patterns has_no_operator q.body && not (is_made q.body)) (spots r.left) p sound.patterns.no_operator within) in
    body_part s x v at p.body lawful.content plain.0 plain.1 m lawful.further lawful.filled (kind_formed d.sorts lawful.shape.kind lawful.content lawful.kind)

pub bound_values_are_formed : BoundValuesAreFormed
bound_values_are_formed d r s sound sorts lawful x v at =
    let stands = any_gives (λ (p : Spot). body_mentions x p.body) (spots r.left) (sound.variables.bound x (value_within d.sorts r.vars s x v sorts at)) in
    variable_formed d r s x v stands.0 sound at stands.1 stands.2 (lawful stands.0 stands.1)

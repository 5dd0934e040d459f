-- When the body of a map has a content.
use Rattle.std.proofs.Common.{arith, ◌≡◌, ℕ, zero, suc, true, false, List, [], ◌∷◌, refl, sym, ap, subst, ◌∙◌}
use Rattle.std.specs.Prelude.{Option, Some, None, slice_get, cond}
use Rattle.std.specs.Option.{option_map, option_and_then}
use Rattle.std.specs.Ordering.{is_eq}
use Rattle.std.specs.FinMap.{find, is_sorted}
use Rattle.std.specs.FinMap.Entries.{below_all}
use denote.Hole.Carrier.{roll}
use Rattle.k_terms.specs.declared.value.Value.{Value, Map as Mapping, out-Value, roll-Value, roll-out-Value}
use Rattle.k_terms.specs.declared.value.Value.TheVariants.{outs-Map}
use Rattle.k_terms.specs.declared.value.Value.TheOpen.{Value-F, Map as Map-F}
use Rattle.k_terms.specs.declared.value.Content.TheVariants.{Map as MapContent}
use Rattle.k_terms.specs.Value.{value_cmp}
use Rattle.k_terms.specs.Operators.{as_entries}
use Rattle.rule_terms.specs.declared.pattern.Pattern.{Pattern}
use Rattle.rule_terms.specs.Substitution.{Subst, value_at, rest_of}
use Rattle.rule_terms.specs.Eval.{eval, eval_all, eval_entry, eval_entries}
use Rattle.rule_terms.specs.Fill.{put_new}
use Rattle.rule_terms.proofs.Defined.{both, and_then_gives, map_gives, same_some}
use Rattle.leaf_match.proofs.Entering.{Entries, without, keys_of, itself, tie_is}
use Rattle.leaf_match.proofs.Puts.{AreThere, KeysDiffer, put_told, put_holds}
use Rattle.leaf_match.proofs.Kept.{kept, StandAt, kept_without, one_place}
pub use Rattle.leaf_match.specs.Maps.{key_patterns, PickedAt}

-- ---- a value read as entries

from_layer : (v : Value) (x : Value-F Value) → out-Value v ≡ x → v ≡ roll-Value x
from_layer v x e = sym (roll-out-Value v) ∙ ap roll-Value e

entries_made : (w : Value) (x : Value-F Value) (es : Entries) → out-Value w ≡ x → elim x [ Map-F entries ↦ Some entries | _ ↦ None ] ≡ Some es → w ≡ Mapping es
unfolding roll-Value roll
entries_made w (Map-F entries) es is e = from_layer w _ is ∙ ap Mapping (same_some entries es e)
entries_made w _ es is e = cc

entries_read : (es : Entries) → as_entries (Mapping es) ≡ Some es
entries_read es = ap (λ x. elim x as (λ _. Option Entries) [ Map-F entries ↦ Some entries | _ ↦ None ]) (outs-Map es)

-- ---- the keys of entries

pub entry_parts : (e : Pattern × Pattern) (s : Subst) (f : Value × Value) → eval_entry e s ≡ Some f → (eval e.0 s ≡ Some f.0) × (eval e.1 s ≡ Some f.1)
entry_parts e s f is =
    let first = and_then_gives (λ key. option_map (λ value. (key, value)) (eval e.1 s)) (eval e.0 s) f is in
    let rest = map_gives (λ value. (first.0, value)) (eval e.1 s) f first.2 in
    (first.1 ∙ ap (λ (p : Value × Value). Some p.0) rest.2, rest.1 ∙ ap (λ (p : Value × Value). Some p.1) rest.2)

pub entry_made : (e : Pattern × Pattern) (s : Subst) (f : Value × Value) → (eval e.0 s ≡ Some f.0) × (eval e.1 s ≡ Some f.1) → eval_entry e s ≡ Some f
entry_made e s f is = ap (option_and_then (λ key. option_map (λ value. (key, value)) (eval e.1 s))) is.0 ∙ ap (option_map (λ value. (f.0, value))) is.1

entries_parts : (e : Pattern × Pattern) (es : List (Pattern × Pattern)) (s : Subst) (fs : Entries) → eval_entries (e ∷ es) s ≡ Some fs
    → (f : Value × Value) × (gs : Entries) × (eval_entry e s ≡ Some f) × (eval_entries es s ≡ Some gs) × (fs ≡ f ∷ gs)
entries_parts e es s fs is =
    let first = and_then_gives (λ f. option_map (λ gs. f ∷ gs) (eval_entries es s)) (eval_entry e s) fs is in
    let rest = map_gives (λ gs. first.0 ∷ gs) (eval_entries es s) fs first.2 in
    (first.0, rest.0, first.1, rest.1, sym rest.2)

keys_are : (es : List (Pattern × Pattern)) (s : Subst) (fs : Entries) → eval_entries es s ≡ Some fs → eval_all (key_patterns es) s ≡ Some (keys_of fs)
keys_are [] s fs is = ap (λ (gs : Entries). Some (keys_of gs)) (same_some [] fs is)
keys_are (e ∷ es) s fs is =
    let parts = entries_parts e es s fs is in
    ap (option_and_then (λ v. option_map (λ vs. v ∷ vs) (eval_all (key_patterns es) s))) (entry_parts e s parts.0 parts.2).0
    ∙ ap (option_map (λ vs. parts.0.0 ∷ vs)) (keys_are es s parts.1 parts.3) ∙ ap (λ (gs : Entries). Some (keys_of gs)) (sym parts.4)

-- ---- entries at places

stand_at : (c : Entries) (ps : List ℕ) (es : Entries) → PickedAt c ps es → StandAt c (keys_of es) ps
stand_at c [] [] picked = tt
stand_at c [] (e ∷ es) picked = absurd picked
stand_at c (p ∷ ps) [] picked = absurd picked
stand_at c (p ∷ ps) (e ∷ es) picked = ((e.1, picked.0), stand_at c ps es picked.1)

get_found : (c : Entries) (p : ℕ) (e : Value × Value) → is_sorted value_cmp c ≡ true → slice_get c p ≡ Some e → find value_cmp e.0 c ≡ Some e.1
get_found [] p e sorted is = cc
get_found (f ∷ c) p e sorted is =
    elim (is_eq (value_cmp e.0 f.0)) as (λ b. is_eq (value_cmp e.0 f.0) ≡ b → cond b (Some f.1) (find value_cmp e.0 c) ≡ Some e.1) [
      | true ↦ λ t. at_front p is (one_place (f ∷ c) p zero e f sorted is refl (tie_is e.0 f.0 t))
      | false ↦ λ t. behind (λ n same. get_found c n e (both (below_all value_cmp f.0 c) (is_sorted value_cmp c) sorted).1 same) p is t
    ] refl
  where
    at_front : (n : ℕ) → slice_get (f ∷ c) n ≡ Some e → n ≡ zero → Some f.1 ≡ Some e.1
    at_front zero same z = let whole : f ≡ e = cc in ap (λ (g : Value × Value). Some g.1) whole
    at_front (suc n) same z = absurd (omega (arith, z))

    behind : ((n : ℕ) → slice_get c n ≡ Some e → find value_cmp e.0 c ≡ Some e.1) → (n : ℕ) → slice_get (f ∷ c) n ≡ Some e → is_eq (value_cmp e.0 f.0) ≡ false → find value_cmp e.0 c ≡ Some e.1
    behind later zero same t = let whole : f ≡ e = cc in let no : true ≡ false = sym (ap (λ (g : Value × Value). is_eq (value_cmp e.0 g.0)) whole ∙ itself e.0) ∙ t in cc
    behind later (suc n) same t = later n same

pub picked_there : (c : Entries) (ps : List ℕ) (es : Entries) → is_sorted value_cmp c ≡ true → PickedAt c ps es → AreThere c es
picked_there c [] [] sorted picked = tt
picked_there c [] (e ∷ es) sorted picked = absurd picked
picked_there c (p ∷ ps) [] sorted picked = absurd picked
picked_there c (p ∷ ps) (e ∷ es) sorted picked = (get_found c p e sorted picked.0, picked_there c ps es sorted picked.1)

-- entries of the same keys that are there are the same
same_there : (c es fs : Entries) → keys_of es ≡ keys_of fs → AreThere c es → AreThere c fs → es ≡ fs
same_there c [] [] keys a b = refl
same_there c [] (f ∷ fs) keys a b = cc
same_there c (e ∷ es) [] keys a b = cc
same_there c (e ∷ es) (f ∷ fs) keys a b =
    let first : e.0 ≡ f.0 = cc in
    let others : keys_of es ≡ keys_of fs = cc in
    let value : e.1 ≡ f.1 = same_some e.1 f.1 (sym a.0 ∙ ap (λ k. find value_cmp k c) first ∙ b.0) in
    let rest = same_there c es fs others a.1 b.1 in
    λ i. (first i, value i) ∷ rest i

-- ---- the body of a map

module _ (entries : List (Pattern × Pattern)) (c : Entries) (ps : List ℕ) (es : Entries) (sorted : is_sorted value_cmp c ≡ true) (picked : PickedAt c ps es)
    (differ : KeysDiffer (keys_of es)) (s : Subst) where
  abbrev pub Filled : Option ℕ → Type 0
  Filled rest =
      option_map MapContent (option_and_then (λ ns. option_and_then (put_new ns) (rest_of as_entries rest s)) (eval_entries entries s)) ≡ Some (MapContent c)

  abbrev pub Keyed : Type 0
  Keyed = eval_all (key_patterns entries) s ≡ Some (keys_of es)

  abbrev pub Valued : Type 0
  Valued = eval_entries entries s ≡ Some es

  left_is : kept 0 ps c ≡ without (keys_of es) c
  left_is = kept_without c (keys_of es) ps sorted (stand_at c ps es picked)

  filled : (rest : Option ℕ) → Valued → rest_of as_entries rest s ≡ Some (kept 0 ps c) → Filled rest × Keyed
  filled rest valued left = (
    ap (λ o. option_map MapContent (option_and_then (λ ns. option_and_then (put_new ns) (rest_of as_entries rest s)) o)) valued
        ∙ ap (λ o. option_map MapContent (option_and_then (put_new es) o)) left
        ∙ ap (option_map MapContent) (put_holds es (kept 0 ps c) c sorted (record { there = picked_there c ps es sorted picked; differ = differ; rest = left_is })),
    keys_are entries s es valued,
  )

  content_is : (a b : Entries) → MapContent a ≡ MapContent b → a ≡ b
  content_is a b e = cc

  unfilled : (rest : Option ℕ) → Filled rest → Keyed → Valued × (rest_of as_entries rest s ≡ Some (kept 0 ps c))
  unfilled rest fills keyed =
      let made = map_gives MapContent (option_and_then (λ ns. option_and_then (put_new ns) (rest_of as_entries rest s)) (eval_entries entries s)) (MapContent c) fills in
      let whole : made.0 ≡ c = content_is made.0 c made.2 in
      let news = and_then_gives (λ ns. option_and_then (put_new ns) (rest_of as_entries rest s)) (eval_entries entries s) made.0 made.1 in
      let left = and_then_gives (put_new news.0) (rest_of as_entries rest s) made.0 news.2 in
      let told = put_told news.0 left.0 c sorted (left.2 ∙ ap Some whole) in
      let keys : keys_of news.0 ≡ keys_of es = same_some (keys_of news.0) (keys_of es) (sym (keys_are entries s news.0 news.1) ∙ keyed) in
      let same : news.0 ≡ es = same_there c news.0 es keys told.there (picked_there c ps es sorted picked) in
      (news.1 ∙ ap Some same, left.1 ∙ ap Some (told.rest ∙ ap (λ ks. without ks c) keys ∙ sym left_is))

  pub map_rest : (x : ℕ) → (Valued × (value_at s x ≡ Some (Mapping (kept 0 ps c))) → Filled (Some x) × Keyed) × (Filled (Some x) × Keyed → Valued × (value_at s x ≡ Some (Mapping (kept 0 ps c))))
  map_rest x = (
    (λ all. filled (Some x) all.0 (ap (option_and_then as_entries) all.1 ∙ entries_read (kept 0 ps c))),
    (λ all. let parts = unfilled (Some x) all.0 all.1 in
        let rest = and_then_gives as_entries (value_at s x) (kept 0 ps c) parts.1 in
        (parts.0, rest.1 ∙ ap Some (entries_made rest.0 (out-Value rest.0) (kept 0 ps c) refl rest.2))),
  )

  pub map_alone : (Valued × (kept 0 ps c ≡ []) → Filled None × Keyed) × (Filled None × Keyed → Valued × (kept 0 ps c ≡ []))
  map_alone = (
    (λ all. filled None all.0 (ap Some (sym all.1))),
    (λ all. let parts = unfilled None all.0 all.1 in (parts.0, sym (same_some [] (kept 0 ps c) parts.1))),
  )

  -- the entries of a map that is filled
  pub map_valued : (rest : Option ℕ) → Filled rest → Keyed → Valued
  map_valued rest fills keyed = (unfilled rest fills keyed).0

-- keys that have no places are those of no map
pub map_unplaced : (entries : List (Pattern × Pattern)) (c : Entries) (ks : List Value) → is_sorted value_cmp c ≡ true → (s : Subst) (rest : Option ℕ)
    → ((es : Entries) → keys_of es ≡ ks → AreThere c es → KeysDiffer ks → ⊥)
    → option_map MapContent (option_and_then (λ ns. option_and_then (put_new ns) (rest_of as_entries rest s)) (eval_entries entries s)) ≡ Some (MapContent c)
    → eval_all (key_patterns entries) s ≡ Some ks → ⊥
map_unplaced entries c ks sorted s rest none fills keyed =
    let made = map_gives MapContent (option_and_then (λ ns. option_and_then (put_new ns) (rest_of as_entries rest s)) (eval_entries entries s)) (MapContent c) fills in
    let news = and_then_gives (λ ns. option_and_then (put_new ns) (rest_of as_entries rest s)) (eval_entries entries s) made.0 made.1 in
    let left = and_then_gives (put_new news.0) (rest_of as_entries rest s) made.0 news.2 in
    let told = put_told news.0 left.0 c sorted (left.2 ∙ ap Some (same_content made.0 c made.2)) in
    let keys : keys_of news.0 ≡ ks = same_some (keys_of news.0) ks (sym (keys_are entries s news.0 news.1) ∙ keyed) in
    none news.0 keys told.there (subst KeysDiffer keys told.differ)
  where
    same_content : (a b : Entries) → MapContent a ≡ MapContent b → a ≡ b
    same_content a b e = cc

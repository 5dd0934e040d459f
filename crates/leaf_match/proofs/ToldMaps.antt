-- What is told of the body of a map.
use Rattle.std.proofs.Common.{◌≡◌, ◌↔◌, ℕ, [], length, IsTrue, Bool, true, false, List, refl, sym, ap, subst, ◌∙◌}
use Rattle.std.specs.Prelude.{Option, Some, None}
use Rattle.std.specs.FinMap.{is_sorted}
use Rattle.std.proofs.lemmas.List.{length-map}
use Rattle.k_terms.specs.declared.value.Value.{Value, Map as Mapping}
use Rattle.k_terms.specs.Value.{value_cmp}
use Rattle.k_terms.specs.Sorts.{SortOrder}
use Rattle.rule_terms.specs.declared.pattern.Pattern.{Pattern}
use Rattle.rule_terms.specs.Substitution.{Subst, value_at}
use Rattle.rule_terms.specs.Eval.{eval_entries}
use Rattle.leaf_match.specs.Bindings.{kept, Partial, Tells}
use Rattle.leaf_match.specs.Maps.{Entries, key_patterns, KeysDiffer, ArePlaces, IsMapAt, HavePlaces}
use Rattle.leaf_match.proofs.Fronts.{eval_all_length}
use Rattle.leaf_match.proofs.Told.{told_alike, told_never, told_both}
use Rattle.leaf_match.proofs.MapBodies.{map_rest, map_alone, map_unplaced, map_valued}

module _ (o : SortOrder) (vars : List ℕ) (patterns : List (Pattern × Pattern)) (c : Entries) (ks : List Value) (sorted : is_sorted value_cmp c ≡ true) where
  -- as many keys as patterns
  pub told_count : (rest : Option ℕ) (p : Partial) → (length ks ≡ length patterns → ⊥) → Tells o vars false p p (IsMapAt patterns rest c ks)
  told_count rest p other = told_never o vars p p (IsMapAt patterns rest c ks)
      (λ s is. other (sym (sym (length-map patterns (λ (e : Pattern × Pattern). e.0)) ∙ eval_all_length (key_patterns patterns) s ks is.1)))

  pub told_no_places : (rest : Option ℕ) (p : Partial) → ArePlaces c ks None → Tells o vars false p p (IsMapAt patterns rest c ks)
  told_no_places rest p none = told_never o vars p p (IsMapAt patterns rest c ks) (λ s is. map_unplaced patterns c ks sorted s rest none is.0 is.1)

  module _ (ps : List ℕ) (places : ArePlaces c ks (Some ps)) where
    abbrev es : Entries
    es = places.0

    abbrev Valued : Subst → Type 0
    Valued s = eval_entries patterns s ≡ Some es

    pub have_places : length ks ≡ length patterns → HavePlaces c patterns ps
    have_places count = (es, places.1, sym count ∙ sym (ap length places.2) ∙ length-map es (λ (e : Value × Value). e.0))

    pub told_no_entries : (rest : Option ℕ) (p q later : Partial) → Tells o vars false p q Valued → Tells o vars false p later (IsMapAt patterns rest c ks)
    told_no_entries rest p q later tells = λ s sorts agrees is.
        tells s sorts agrees (map_valued patterns c ps es sorted places.1 (subst KeysDiffer (sym places.2) places.3) s rest is.0 (is.1 ∙ ap Some (sym places.2)))

    pub told_map : (found : Bool) (p q r : Partial) (x : ℕ) (w : Value) → w ≡ Mapping (kept 0 ps c) → Tells o vars true p q Valued → Tells o vars found q r (λ s. value_at s x ≡ Some w)
        → Tells o vars found p r (IsMapAt patterns (Some x) c ks)
    told_map found p q r x w is one two =
        told_alike o vars found p r (λ s. Valued s × (value_at s x ≡ Some w)) (IsMapAt patterns (Some x) c ks)
        (λ s. let rest = map_rest patterns c ps es sorted places.1 (subst KeysDiffer (sym places.2) places.3) s x in (
          (λ all. let made = rest.0 (all.0, all.1 ∙ ap Some is) in (made.0, made.1 ∙ ap Some places.2)),
          (λ all. let parts = rest.1 (all.0, all.1 ∙ ap Some (sym places.2)) in (parts.0, parts.1 ∙ ap Some (sym is))),
        ))
        (told_both o vars found p q r Valued (λ s. value_at s x ≡ Some w) one two)

    pub told_whole : (found : Bool) (p q : Partial) → (IsTrue found ↔ (kept 0 ps c ≡ [])) → Tells o vars true p q Valued → Tells o vars found p q (IsMapAt patterns None c ks)
    told_whole true p q ends one =
        told_alike o vars true p q Valued (IsMapAt patterns None c ks)
        (λ s. let alone = map_alone patterns c ps es sorted places.1 (subst KeysDiffer (sym places.2) places.3) s in (
          (λ valued. let made = alone.0 (valued, ends.0 refl) in (made.0, made.1 ∙ ap Some places.2)),
          (λ all. (alone.1 (all.0, all.1 ∙ ap Some (sym places.2))).0),
        )) one
    told_whole false p q ends one =
        told_never o vars p q (IsMapAt patterns None c ks)
        (λ s is. let no : false ≡ true = ends.1 ((map_alone patterns c ps es sorted places.1 (subst KeysDiffer (sym places.2) places.3) s).1 (is.0, is.1 ∙ ap Some (sym places.2))).1 in cc)

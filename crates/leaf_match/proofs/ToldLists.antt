-- What is told of the members of a list.
use Rattle.std.proofs.Common.{◌≡◌, ◌↔◌, ◌<◌, ◌+◌, ◌-◌, ℕ, [], take, drop, length, IsTrue, Bool, true, false, List, refl, sym, ap, ◌∙◌}
use Rattle.std.specs.Prelude.{Option, Some, None}
use Rattle.k_terms.specs.declared.value.Value.{Value, List as Listed}
use Rattle.k_terms.specs.Sorts.{SortOrder}
use Rattle.k_terms.specs.Operators.{as_members}
use Rattle.rule_terms.specs.declared.pattern.Pattern.{Pattern}
use Rattle.rule_terms.specs.Options.{joined}
use Rattle.rule_terms.specs.Substitution.{Subst, value_at, rest_of}
use Rattle.rule_terms.specs.Eval.{eval_all}
use Rattle.leaf_match.specs.Bindings.{Partial, Tells}
use Rattle.leaf_match.proofs.Told.{told_alike, told_never, told_both}
use Rattle.leaf_match.proofs.Lists.{middle, back, list_rest, list_alone, list_short}

module _ (o : SortOrder) (vars : List ℕ) (before after : List Pattern) (vs : List Value) where
  -- the members of a list
  abbrev pub Members : Option ℕ → Subst → Type 0
  Members rest s = joined (joined (eval_all before s) (rest_of as_members rest s)) (eval_all after s) ≡ Some vs

  pub told_short : (rest : Option ℕ) (p : Partial) → length vs < length before + length after → Tells o vars false p p (Members rest)
  told_short rest p few = told_never o vars p p (Members rest) (λ s e. list_short before after vs s rest few e)

  module _ (first mid last others : List Value) (first_is : first ≡ take (length before) vs) (others_are : others ≡ drop (length before) vs)
      (mid_is : mid ≡ take (length others - length after) others) (last_is : last ≡ drop (length others - length after) others) where
    abbrev AtFront : Subst → Type 0
    AtFront s = eval_all before s ≡ Some first

    abbrev AtBack : Subst → Type 0
    AtBack s = eval_all after s ≡ Some last

    middle_is : mid ≡ middle (length before) (length after) vs
    middle_is = mid_is ∙ ap (λ ws. take (length ws - length after) ws) others_are

    back_is : last ≡ back (length before) (length after) vs
    back_is = last_is ∙ ap (λ ws. drop (length ws - length after) ws) others_are

    parts_of : (rest : Option ℕ) (s : Subst) → Members rest s → AtFront s × AtBack s
    parts_of None s e = let all = (list_alone before after vs s).1 e in (all.0 ∙ ap Some (sym first_is), all.1 ∙ ap Some (sym back_is))
    parts_of (Some x) s e = let all = (list_rest before after vs s x).1 e in (all.0 ∙ ap Some (sym first_is), all.1 ∙ ap Some (sym back_is))

    pub told_no_first : (rest : Option ℕ) (p q later : Partial) → Tells o vars false p q AtFront → Tells o vars false p later (Members rest)
    told_no_first rest p q later tells = λ s sorts agrees holds. tells s sorts agrees (parts_of rest s holds).0

    pub told_no_last : (rest : Option ℕ) (p q r later : Partial) → Tells o vars true p q AtFront → Tells o vars false q r AtBack → Tells o vars false p later (Members rest)
    told_no_last rest p q r later one two = λ s sorts agrees holds. let parts = parts_of rest s holds in two s sorts ((one s sorts).0 agrees parts.0) parts.1

    pub told_middle : (found : Bool) (p q r after_all : Partial) (x : ℕ) (w : Value) → w ≡ Listed mid → Tells o vars true p q AtFront → Tells o vars true q r AtBack
        → Tells o vars found r after_all (λ s. value_at s x ≡ Some w) → Tells o vars found p after_all (Members (Some x))
    told_middle found p q r after_all x w is one two three =
        told_alike o vars found p after_all (λ s. (AtFront s × AtBack s) × (value_at s x ≡ Some w)) (Members (Some x))
        (λ s. let rest = list_rest before after vs s x in
        let whole : w ≡ Listed (middle (length before) (length after) vs) = is ∙ ap Listed middle_is in (
          (λ all. rest.0 (all.0.0 ∙ ap Some first_is, all.0.1 ∙ ap Some back_is, all.1 ∙ ap Some whole)),
          (λ e. let all = rest.1 e in ((all.0 ∙ ap Some (sym first_is), all.1 ∙ ap Some (sym back_is)), all.2 ∙ ap Some (sym whole))),
        ))
        (told_both o vars found p r after_all (λ s. AtFront s × AtBack s) (λ s. value_at s x ≡ Some w) (told_both o vars true p q r AtFront AtBack one two) three)

    pub told_no_middle : (found : Bool) (p q r : Partial) → (IsTrue found ↔ (mid ≡ [])) → Tells o vars true p q AtFront → Tells o vars true q r AtBack
        → Tells o vars found p r (Members None)
    told_no_middle true p q r ends one two =
        told_alike o vars true p r (λ s. AtFront s × AtBack s) (Members None)
        (λ s. let alone = list_alone before after vs s in (
          (λ all. alone.0 (all.0 ∙ ap Some first_is, all.1 ∙ ap Some back_is, sym middle_is ∙ ends.0 refl)),
          (λ e. let all = alone.1 e in (all.0 ∙ ap Some (sym first_is), all.1 ∙ ap Some (sym back_is))),
        ))
        (told_both o vars true p q r AtFront AtBack one two)
    told_no_middle false p q r ends one two =
        told_never o vars p r (Members None)
        (λ s e. let no : false ≡ true = ends.1 (middle_is ∙ ((list_alone before after vs s).1 e).2) in cc)

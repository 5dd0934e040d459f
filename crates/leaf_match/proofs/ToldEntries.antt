-- What is told of entries, one after the other.
use Rattle.std.proofs.Common.{arith, ◌≡◌, ◌<◌, ◌≤◌, ◌+◌, ℕ, take, length, get_or, true, false, List, subst}
use Rattle.std.specs.Prelude.{Some}
use Rattle.std.proofs.lemmas.List.{take_all}
use Rattle.k_terms.specs.declared.value.Value.{Value}
use Rattle.k_terms.specs.Sorts.{SortOrder}
use Rattle.rule_terms.specs.declared.pattern.Pattern.{Pattern}
use Rattle.rule_terms.specs.Substitution.{Subst}
use Rattle.rule_terms.specs.Eval.{eval, eval_entries}
use Rattle.leaf_match.specs.Bindings.{Partial, Tells}
use Rattle.leaf_match.specs.Maps.{Entries}
use Rattle.leaf_match.proofs.Told.{told_alike, told_both}
use Rattle.leaf_match.proofs.EntryRows.{entries_next, entries_some}

module _ (o : SortOrder) (vars : List ℕ) (ps : List (Pattern × Pattern)) (es : Entries) where
  abbrev pub Valued : Subst → Type 0
  Valued s = eval_entries ps s ≡ Some es

  -- all of them
  pub told_all : (n : ℕ) (before after : Partial) → length ps ≤ n → length ps ≡ length es
      → Tells o vars true before after (λ s. eval_entries (take n ps) s ≡ Some (take n es)) → Tells o vars true before after Valued
  told_all n before after past count tells =
      subst (λ qs. Tells o vars true before after (λ s. eval_entries qs s ≡ Some es)) (take_all n ps past)
      (subst (λ fs. Tells o vars true before after (λ s. eval_entries (take n ps) s ≡ Some fs)) (take_all n es (omega (arith, past, count))) tells)

  module _ (before between mid after : Partial) (i : ℕ) (p : Pattern × Pattern) (e : Value × Value)
      (in_ps : i < length ps) (in_es : i < length es) (is_p : p ≡ get_or ps i p) (is_e : e ≡ get_or es i e)
      (first : Tells o vars true before between (λ s. eval_entries (take i ps) s ≡ Some (take i es))) where
    pub told_entry : Tells o vars true between mid (λ s. eval p.0 s ≡ Some e.0) → Tells o vars true mid after (λ s. eval p.1 s ≡ Some e.1)
        → Tells o vars true before after (λ s. eval_entries (take (i + 1) ps) s ≡ Some (take (i + 1) es))
    told_entry key value =
        told_alike o vars true before after (λ s. (eval_entries (take i ps) s ≡ Some (take i es)) × ((eval p.0 s ≡ Some e.0) × (eval p.1 s ≡ Some e.1)))
        (λ s. eval_entries (take (i + 1) ps) s ≡ Some (take (i + 1) es)) (λ s. entries_next ps es s i p e in_ps in_es is_p is_e)
        (told_both o vars true before between after (λ s. eval_entries (take i ps) s ≡ Some (take i es)) (λ s. (eval p.0 s ≡ Some e.0) × (eval p.1 s ≡ Some e.1)) first
        (told_both o vars true between mid after (λ s. eval p.0 s ≡ Some e.0) (λ s. eval p.1 s ≡ Some e.1) key value))

    pub told_no_key : Tells o vars false between mid (λ s. eval p.0 s ≡ Some e.0) → (later : Partial) → Tells o vars false before later Valued
    told_no_key key later = λ s sorts agrees holds.
        let parts = (entries_next ps es s i p e in_ps in_es is_p is_e).1 (entries_some ps es s (i + 1) holds) in
        key s sorts ((first s sorts).0 agrees parts.0) parts.1.0

    pub told_no_value : Tells o vars true between mid (λ s. eval p.0 s ≡ Some e.0) → Tells o vars false mid after (λ s. eval p.1 s ≡ Some e.1) → (later : Partial)
        → Tells o vars false before later Valued
    told_no_value key value later = λ s sorts agrees holds.
        let parts = (entries_next ps es s i p e in_ps in_es is_p is_e).1 (entries_some ps es s (i + 1) holds) in
        value s sorts ((key s sorts).0 ((first s sorts).0 agrees parts.0) parts.1.0) parts.1.1

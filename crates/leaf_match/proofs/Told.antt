-- What is told of one thing is told of another that holds where it does; and of several, one after the other.
use Rattle.std.proofs.Common.{◌≡◌, ◌↔◌, ◌≤◌, ◌<◌, ℕ, [], take, drop, length, get_or, ◌+◌, IsTrue, Bool, true, false, List, refl, sym, ap, subst, ◌∙◌}
use Rattle.std.specs.Prelude.{Option, Some, None}
use Rattle.k_terms.specs.declared.value.Value.{Value, Node, Items, Seq, Freezer}
use Rattle.k_terms.specs.Value.{depth_of}
use Rattle.k_terms.specs.Operators.{depth_limit}
use Rattle.k_terms.specs.Sorts.{SortOrder}
use Rattle.rule_terms.specs.declared.pattern.Pattern.{Pattern, Lit}
use Rattle.rule_terms.specs.Eval.{eval, eval_all}
use Rattle.rule_terms.specs.Substitution.{Subst, value_at, rest_of}
use Rattle.rule_terms.specs.Options.{joined}
use Rattle.leaf_match.specs.Bindings.{Partial, Tells, node_at, items_at, sequence_at, freezer_at}
use Rattle.leaf_match.proofs.Holding.{node_holds, items_hold, sequence_holds, freezer_holds}
use Rattle.leaf_match.proofs.Rows.{eval_next, eval_some}
use Rattle.leaf_match.proofs.Fronts.{Reads, front_rest, front_alone, too_many}
use Rattle.leaf_match.proofs.Equations.{eval-Lit}

module _ (o : SortOrder) (vars : List ℕ) where
  pub told_alike : (found : Bool) (before after : Partial) (One Other : Subst → Type 0) → ((s : Subst) → (One s → Other s) × (Other s → One s))
      → Tells o vars found before after One → Tells o vars found before after Other
  told_alike true before after One Other same tells = λ s sorts.
      (λ agrees holds. (tells s sorts).0 agrees ((same s).1 holds), λ agrees. let both = (tells s sorts).1 agrees in (both.0, (same s).0 both.1))
  told_alike false before after One Other same tells = λ s sorts agrees holds. tells s sorts agrees ((same s).1 holds)

  -- what never holds is not found
  pub told_never : (before after : Partial) (Holds : Subst → Type 0) → ((s : Subst) → Holds s → ⊥) → Tells o vars false before after Holds
  told_never before after Holds never = λ s sorts agrees holds. never s holds

  -- what always holds is found with nothing bound
  pub told_always : (before : Partial) (Holds : Subst → Type 0) → ((s : Subst) → Holds s) → Tells o vars true before before Holds
  told_always before Holds always = λ s sorts. (λ agrees holds. agrees, λ agrees. (agrees, always s))

  -- one after the other
  pub told_both : (found : Bool) (before between after : Partial) (One Other : Subst → Type 0)
      → Tells o vars true before between One → Tells o vars found between after Other → Tells o vars found before after (λ s. One s × Other s)
  told_both true before between after One Other first second = λ s sorts. (
    λ agrees holds. (second s sorts).0 ((first s sorts).0 agrees holds.0) holds.1,
    λ agrees. let later = (second s sorts).1 agrees in let sooner = (first s sorts).1 later.0 in (sooner.0, (sooner.1, later.1)),
  )
  told_both false before between after One Other first second = λ s sorts agrees holds. second s sorts ((first s sorts).0 agrees holds.0) holds.1

  pub told_first : (before after later : Partial) (One Other : Subst → Type 0) → Tells o vars false before after One → Tells o vars false before later (λ s. One s × Other s)
  told_first before after later One Other first = λ s sorts agrees holds. first s sorts agrees holds.0

  -- a value of a production
  pub told_node : (found : Bool) (before after : Partial) (p : ℕ) (parts : List Pattern) (v : Value) (vs lent : List Value) (q : ℕ) → v ≡ Node q vs → q ≡ p → lent ≡ vs
      → depth_of v ≤ depth_limit → Tells o vars found before after (λ s. eval_all parts s ≡ Some lent)
      → Tells o vars found before after (λ s. node_at p (eval_all parts s) ≡ Some v)
  told_node found before after p parts v vs lent q is same lends shallow tells =
      let value : v ≡ Node p vs = is ∙ ap (λ n. Node n vs) same in
      subst (λ w. Tells o vars found before after (λ s. node_at p (eval_all parts s) ≡ Some w)) (sym value)
      (told_alike found before after (λ s. eval_all parts s ≡ Some vs) (λ s. node_at p (eval_all parts s) ≡ Some (Node p vs))
      (λ s. node_holds p (eval_all parts s) vs (subst (λ w. depth_of w ≤ depth_limit) value shallow))
      (subst (λ ws. Tells o vars found before after (λ s. eval_all parts s ≡ Some ws)) lends tells))

  pub told_freezer : (found : Bool) (before after : Partial) (p i : ℕ) (parts : List Pattern) (v : Value) (vs lent : List Value) (q j : ℕ) → v ≡ Freezer q j vs → q ≡ p → j ≡ i → lent ≡ vs
      → depth_of v ≤ depth_limit → Tells o vars found before after (λ s. eval_all parts s ≡ Some lent)
      → Tells o vars found before after (λ s. freezer_at p i (eval_all parts s) ≡ Some v)
  told_freezer found before after p i parts v vs lent q j is same hole lends shallow tells =
      let value : v ≡ Freezer p i vs = is ∙ ap (λ n. Freezer n j vs) same ∙ ap (λ n. Freezer p n vs) hole in
      subst (λ w. Tells o vars found before after (λ s. freezer_at p i (eval_all parts s) ≡ Some w)) (sym value)
      (told_alike found before after (λ s. eval_all parts s ≡ Some vs) (λ s. freezer_at p i (eval_all parts s) ≡ Some (Freezer p i vs))
      (λ s. freezer_holds p (eval_all parts s) vs i (subst (λ w. depth_of w ≤ depth_limit) value shallow))
      (subst (λ ws. Tells o vars found before after (λ s. eval_all parts s ≡ Some ws)) lends tells))

  -- a pattern that is another one's equal
  pub told_equal : (found : Bool) (before after : Partial) (pattern other : Pattern) (v : Value) (value : Subst → Option Value) → pattern ≡ other
      → ((s : Subst) → eval other s ≡ value s) → Tells o vars found before after (λ s. value s ≡ Some v) → Tells o vars found before after (λ s. eval pattern s ≡ Some v)
  told_equal found before after pattern other v value is evals tells =
      told_alike found before after (λ s. value s ≡ Some v) (λ s. eval pattern s ≡ Some v)
      (λ s. let same : eval pattern s ≡ value s = ap (λ p. eval p s) is ∙ evals s in (λ e. same ∙ e, λ e. sym same ∙ e)) tells

  -- a literal
  pub told_literal : (same : Bool) (before : Partial) (pattern : Pattern) (w v : Value) → pattern ≡ Lit w → (IsTrue same ↔ (w ≡ v)) → Tells o vars same before before (λ s. eval pattern s ≡ Some v)
  told_literal true before pattern w v is tells =
      told_always before (λ s. eval pattern s ≡ Some v) (λ s. ap (λ p. eval p s) is ∙ eval-Lit w s ∙ ap Some (tells.0 refl))
  told_literal false before pattern w v is tells =
      told_never before before (λ s. eval pattern s ≡ Some v)
      (λ s e. let no : false ≡ true = tells.1 (same_some w v (sym (eval-Lit w s) ∙ sym (ap (λ p. eval p s) is) ∙ e)) in cc)
    where
      same_some : (x y : Value) → Some x ≡ Some y → x ≡ y
      same_some x y e = cc

  pub told_items : (found : Bool) (before after : Partial) (p : ℕ) (parts : Subst → Option (List Value)) (v : Value) (vs : List Value) (q : ℕ) → v ≡ Items q vs → q ≡ p
      → depth_of v ≤ depth_limit → Tells o vars found before after (λ s. parts s ≡ Some vs)
      → Tells o vars found before after (λ s. items_at p (parts s) ≡ Some v)
  told_items found before after p parts v vs q is same shallow tells =
      let value : v ≡ Items p vs = is ∙ ap (λ n. Items n vs) same in
      subst (λ w. Tells o vars found before after (λ s. items_at p (parts s) ≡ Some w)) (sym value)
      (told_alike found before after (λ s. parts s ≡ Some vs) (λ s. items_at p (parts s) ≡ Some (Items p vs))
      (λ s. items_hold p (parts s) vs (subst (λ w. depth_of w ≤ depth_limit) value shallow)) tells)

  pub told_sequence : (found : Bool) (before after : Partial) (parts : Subst → Option (List Value)) (v : Value) (vs : List Value) → v ≡ Seq vs
      → depth_of v ≤ depth_limit → Tells o vars found before after (λ s. parts s ≡ Some vs)
      → Tells o vars found before after (λ s. sequence_at (parts s) ≡ Some v)
  told_sequence found before after parts v vs is shallow tells =
      subst (λ w. Tells o vars found before after (λ s. sequence_at (parts s) ≡ Some w)) (sym is)
      (told_alike found before after (λ s. parts s ≡ Some vs) (λ s. sequence_at (parts s) ≡ Some (Seq vs))
      (λ s. sequence_holds 0 (parts s) vs (subst (λ w. depth_of w ≤ depth_limit) is shallow)) tells)

  -- ---- a front and a rest

  module _ (kind : Value → Option (List Value)) (make : List Value → Value) (is_kind : Reads kind make) (ps : List Pattern) (vs front back : List Value)
      (front_is : front ≡ take (length ps) vs) (back_is : back ≡ drop (length ps) vs) where
    abbrev Front : Subst → Type 0
    Front s = eval_all ps s ≡ Some front

    pub told_few : (rest : Option ℕ) (before : Partial) → length vs < length ps → Tells o vars false before before (λ s. joined (eval_all ps s) (rest_of kind rest s) ≡ Some vs)
    told_few rest before few = told_never before before (λ s. joined (eval_all ps s) (rest_of kind rest s) ≡ Some vs) (λ s e. too_many kind make is_kind ps vs s rest few e)

    pub told_no_front : (rest : Option ℕ) (before after later : Partial) → Tells o vars false before after Front → Tells o vars false before later (λ s. joined (eval_all ps s) (rest_of kind rest s) ≡ Some vs)
    told_no_front None before after later tells = λ s sorts agrees holds. tells s sorts agrees (((front_alone kind make is_kind ps vs s).1 holds).0 ∙ ap Some (sym front_is))
    told_no_front (Some x) before after later tells = λ s sorts agrees holds. tells s sorts agrees (((front_rest kind make is_kind ps vs s x).1 holds).0 ∙ ap Some (sym front_is))

    pub told_rest : (found : Bool) (before between after : Partial) (x : ℕ) (w : Value) → w ≡ make back → Tells o vars true before between Front
        → Tells o vars found between after (λ s. value_at s x ≡ Some w) → Tells o vars found before after (λ s. joined (eval_all ps s) (rest_of kind (Some x) s) ≡ Some vs)
    told_rest found before between after x w is first second =
        told_alike found before after (λ s. Front s × (value_at s x ≡ Some w)) (λ s. joined (eval_all ps s) (rest_of kind (Some x) s) ≡ Some vs)
        (λ s. let rest = front_rest kind make is_kind ps vs s x in
        let whole : w ≡ make (drop (length ps) vs) = is ∙ ap make back_is in
        ((λ both. rest.0 (both.0 ∙ ap Some front_is, both.1 ∙ ap Some whole)), (λ e. ((rest.1 e).0 ∙ ap Some (sym front_is), (rest.1 e).1 ∙ ap Some (sym whole)))))
        (told_both found before between after Front (λ s. value_at s x ≡ Some w) first second)

    pub told_end : (found : Bool) (before after : Partial) → (IsTrue found ↔ (back ≡ [])) → Tells o vars true before after Front
        → Tells o vars found before after (λ s. joined (eval_all ps s) (rest_of kind None s) ≡ Some vs)
    told_end true before after ends first =
        told_alike true before after Front (λ s. joined (eval_all ps s) (rest_of kind None s) ≡ Some vs)
        (λ s. let alone = front_alone kind make is_kind ps vs s in
        ((λ e. alone.0 (e ∙ ap Some front_is, sym back_is ∙ ends.0 refl)), (λ e. (alone.1 e).0 ∙ ap Some (sym front_is)))) first
    told_end false before after ends first =
        told_never before after (λ s. joined (eval_all ps s) (rest_of kind None s) ≡ Some vs)
        (λ s e. let no : false ≡ true = ends.1 (back_is ∙ ((front_alone kind make is_kind ps vs s).1 e).1) in cc)

  -- ---- several patterns, one after the other

  module _ (before between after : Partial) (ps : List Pattern) (vs : List Value) (i : ℕ) (p : Pattern) (v : Value)
      (in_ps : i < length ps) (in_vs : i < length vs) (is_p : p ≡ get_or ps i p) (is_v : v ≡ get_or vs i v)
      (first : Tells o vars true before between (λ s. eval_all (take i ps) s ≡ Some (take i vs))) where
    pub told_next : Tells o vars true between after (λ s. eval p s ≡ Some v) → Tells o vars true before after (λ s. eval_all (take (i + 1) ps) s ≡ Some (take (i + 1) vs))
    told_next second =
        told_alike true before after (λ s. (eval_all (take i ps) s ≡ Some (take i vs)) × (eval p s ≡ Some v)) (λ s. eval_all (take (i + 1) ps) s ≡ Some (take (i + 1) vs))
        (λ s. eval_next ps vs s i p v in_ps in_vs is_p is_v)
        (told_both true before between after (λ s. eval_all (take i ps) s ≡ Some (take i vs)) (λ s. eval p s ≡ Some v) first second)

    pub told_no_next : Tells o vars false between after (λ s. eval p s ≡ Some v) → (later : Partial) → Tells o vars false before later (λ s. eval_all ps s ≡ Some vs)
    told_no_next second later = λ s sorts agrees holds.
        let parts = (eval_next ps vs s i p v in_ps in_vs is_p is_v).1 (eval_some ps vs s (i + 1) holds) in
        second s sorts ((first s sorts).0 agrees parts.0) parts.1

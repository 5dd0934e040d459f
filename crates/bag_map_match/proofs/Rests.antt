-- What the rests of cells of a rule's left side stand for at a site.
use Rattle.std.proofs.Common.{inl, inr, ◌⊎◌, ◌≡◌, ℕ, zero, suc, Bool, true, false, not, ◌==◌, ◌||◌, ◌&&◌, List, [], ◌∷◌, ◌++◌, map, cond, Contains, refl, sym, ap, subst, ◌∙◌}
use Rattle.std.specs.Prelude.{Option, Some, None, IsTrue}
use Rattle.std.specs.List.{list_any}
use Rattle.std.proofs.lemmas.Bool.{eq-eqb, eqb-true, ne_eqb, cases_eq}
use Rattle.rule_terms.specs.declared.plain.Plain.{Plain}
use Rattle.rule_terms.specs.declared.pattern.Body.{Body, Cells', Seq, Map, List as Listed, One, Made}
use Rattle.rule_terms.specs.declared.rule.Rule.{Rule}
use Rattle.rule_terms.specs.Patterns.{is_rest, body_rest, parts_mention, cond_mentions}
use Rattle.rule_terms.specs.Spots.{Spot, spots, occurs_elsewhere}
use Rattle.rule_terms.specs.Sound.{cells_rest, body_mentions}
use Rattle.live_config.specs.Configuration.{Configuration, level_limit, tree}
use Rattle.live_config.specs.Firing.{further}
use Rattle.live_config.proofs.Members.{Has, has_left, has_any, Apart, has_map}
use Rattle.live_config.proofs.SpotTree.{marks, same_spot}
use Rattle.leaf_match.specs.Contents.{leaf_mentions}

module _ (c : Configuration) (ps : List Spot) (ns : List ℕ) where
  -- the further children of the cell of which a variable is the rest
  abbrev pub bag_for : List Spot → List ℕ → ℕ → List Plain
  bag_for [] ms x = []
  bag_for (q ∷ qs) [] x = []
  bag_for (q ∷ qs) (m ∷ ms) x = cond (is_rest x (cells_rest q.body)) (map (tree level_limit c) (further c ps ns q.body m)) (bag_for qs ms x)

-- the rest of a body of cells is its rest
cells_rest_is : (body : Body) (x : ℕ) → cells_rest body ≡ Some x → body_rest body ≡ Some x
cells_rest_is (Cells' a b c) x e = e
cells_rest_is (Seq a b) x e = absurd (let no : None ≡ Some x = e in cc)
cells_rest_is (Map a b) x e = absurd (let no : None ≡ Some x = e in cc)
cells_rest_is (Listed a b c) x e = absurd (let no : None ≡ Some x = e in cc)
cells_rest_is (One a) x e = absurd (let no : None ≡ Some x = e in cc)
cells_rest_is (Made a) x e = absurd (let no : None ≡ Some x = e in cc)

pub is_the_rest : (rest : Option ℕ) (x : ℕ) → is_rest x rest ≡ true → rest ≡ Some x
is_the_rest None x e = absurd (let no : false ≡ true = e in cc)
is_the_rest (Some y) x e = ap Some (sym (eqb-true x y e))

pub the_rest_is : (rest : Option ℕ) (x : ℕ) → rest ≡ Some x → is_rest x rest ≡ true
the_rest_is rest x e = ap (is_rest x) e ∙ eq-eqb x x refl

-- a rest of cells doesn't stand in a leaf
rest_no_leaf : (body : Body) (x : ℕ) → cells_rest body ≡ Some x → leaf_mentions x body ≡ false
rest_no_leaf (Cells' a b c) x e = refl
rest_no_leaf (Seq a b) x e = absurd (let no : None ≡ Some x = e in cc)
rest_no_leaf (Map a b) x e = absurd (let no : None ≡ Some x = e in cc)
rest_no_leaf (Listed a b c) x e = absurd (let no : None ≡ Some x = e in cc)
rest_no_leaf (One a) x e = absurd (let no : None ≡ Some x = e in cc)
rest_no_leaf (Made a) x e = absurd (let no : None ≡ Some x = e in cc)

neither : (a b : Bool) → a ≡ false → b ≡ false → (a || b) ≡ false
neither a b e f = ap (λ u. u || b) e ∙ f

no_leaf : (body : Body) (x : ℕ) → (parts_mention x body || is_rest x (body_rest body)) ≡ false → leaf_mentions x body ≡ false
no_leaf (Cells' a b c) x e = refl
no_leaf (Seq a b) x e = e
no_leaf (Map a b) x e = e
no_leaf (Listed a b c) x e = e
no_leaf (One a) x e = e
no_leaf (Made a) x e = e

-- ---- a variable that stands in no other cell of the left side

module _ (mark x : ℕ) where
  abbrev elsewhere : Spot → Bool
  elsewhere p = parts_mention x p.body || (not (p.mark == mark) && is_rest x (body_rest p.body))

  either_false : (a b : Bool) → (a || b) ≡ false → (a ≡ false) × (b ≡ false)
  either_false false b e = (refl, e)
  either_false true b e = absurd (let no : true ≡ false = e in cc)

  other_mark : (p : Spot) → (p.mark ≡ mark → ⊥) → elsewhere p ≡ false → (parts_mention x p.body || is_rest x (body_rest p.body)) ≡ false
  other_mark p differ e =
      let parts = either_false (parts_mention x p.body) (not (p.mark == mark) && is_rest x (body_rest p.body)) e in
      neither (parts_mention x p.body) (is_rest x (body_rest p.body)) parts.0
      (ap (λ b. not b && is_rest x (body_rest p.body)) (sym (ne_eqb p.mark mark differ)) ∙ parts.1)

any_none : {A : Type 0} (test : A → Bool) (xs ys : List A) (x : A) → list_any test (xs ++ ys) ≡ false → Has xs x → test x ≡ false
any_none test xs ys x none h =
    not_true (test x) (λ e. let no : true ≡ false = sym (has_any test (xs ++ ys) x (has_left xs ys x h) e) ∙ none in cc)
  where
    not_true : (b : Bool) → (b ≡ true → ⊥) → b ≡ false
    not_true false h = refl
    not_true true h = absurd (h refl)

-- the rest of a left cell stands in no leaf, and is the rest of no other left cell
module _ (r : Rule) (apart : Apart (marks (spots r.left))) (q : Spot) (there : Has (spots r.left) q) (x : ℕ) (rest : cells_rest q.body ≡ Some x)
    (alone : IsTrue (not (occurs_elsewhere r q.mark x))) where
  beside : (p : Spot) → Has (spots r.left) p → elsewhere q.mark x p ≡ false
  beside p h =
      any_none (elsewhere q.mark x) (spots r.left) (spots r.right) p (either_false q.mark x (list_any (elsewhere q.mark x) (spots r.left ++ spots r.right)) (list_any (cond_mentions x) r.when) (negated (occurs_elsewhere r q.mark x) alone)).0 h
    where
      negated : (b : Bool) → not b ≡ true → b ≡ false
      negated false e = refl
      negated true e = absurd (let no : false ≡ true = e in cc)

  pub in_no_leaf : (p : Spot) → Has (spots r.left) p → leaf_mentions x p.body ≡ false
  in_no_leaf p h = elim (cases_eq p.mark q.mark) [
    | inl same ↦ subst (λ (u : Spot). leaf_mentions x u.body ≡ false) (sym (same_spot (spots r.left) apart p q h there same)) (rest_no_leaf q.body x rest)
    | inr differ ↦ no_leaf p.body x (other_mark q.mark x p differ (beside p h))
  ]

  pub no_other_rest : (p : Spot) → Has (spots r.left) p → is_rest x (cells_rest p.body) ≡ true → p ≡ q
  no_other_rest p h e = elim (cases_eq p.mark q.mark) [
    | inl same ↦ same_spot (spots r.left) apart p q h there same
    | inr differ ↦
        let none = other_mark q.mark x p differ (beside p h) in
        let its = cells_rest_is p.body x (is_the_rest (cells_rest p.body) x e) in
        let no : true ≡ false = sym (the_rest_is (body_rest p.body) x its) ∙ (either_false q.mark x (parts_mention x p.body) (is_rest x (body_rest p.body)) none).1 in cc
  ]

-- a left cell stands beside its number
abbrev pub Paired : List Spot → List ℕ → Spot → ℕ → Type 0
Paired [] ms q m = ⊥
Paired (p ∷ ps) [] q m = ⊥
Paired (p ∷ ps) (n ∷ ns) q m = ((p ≡ q) × (n ≡ m)) ⊎ Paired ps ns q m

pub paired_has : (ps : List Spot) (ns : List ℕ) (q : Spot) (m : ℕ) → Paired ps ns q m → Has ps q
paired_has [] ns q m h = absurd h
paired_has (p ∷ ps) [] q m h = absurd h
paired_has (p ∷ ps) (n ∷ ns) q m (inl e) = inl e.0
paired_has (p ∷ ps) (n ∷ ns) q m (inr h) = inr (paired_has ps ns q m h)

module _ (c : Configuration) (ps : List Spot) (ns : List ℕ) where
  pub bag_is : (qs : List Spot) (ms : List ℕ) → Apart (marks qs) → (q : Spot) (m x : ℕ) → Paired qs ms q m → cells_rest q.body ≡ Some x
      → ((p : Spot) → Has qs p → is_rest x (cells_rest p.body) ≡ true → p ≡ q) → bag_for c ps ns qs ms x ≡ map (tree level_limit c) (further c ps ns q.body m)
  bag_is [] ms apart q m x h rest alone = absurd h
  bag_is (p ∷ qs) [] apart q m x h rest alone = absurd h
  bag_is (p ∷ qs) (n ∷ ms) apart q m x (inl e) rest alone =
      ap (λ b. cond b (map (tree level_limit c) (further c ps ns p.body n)) (bag_for c ps ns qs ms x)) (the_rest_is (cells_rest p.body) x (ap (λ (u : Spot). cells_rest u.body) e.0 ∙ rest))
      ∙ (λ i. map (tree level_limit c) (further c ps ns (e.0 i).body (e.1 i)))
  bag_is (p ∷ qs) (n ∷ ms) apart q m x (inr h) rest alone =
      elim (is_rest x (cells_rest p.body)) as (λ b. is_rest x (cells_rest p.body) ≡ b → cond b (map (tree level_limit c) (further c ps ns p.body n)) (bag_for c ps ns qs ms x) ≡ map (tree level_limit c) (further c ps ns q.body m)) [
        | true ↦ λ e. absurd (apart.0 (subst (Has (marks qs)) (sym (ap (λ (u : Spot). u.mark) (alone p (inl refl) e))) (has_map (λ (u : Spot). u.mark) qs q (paired_has qs ms q m h))))
        | false ↦ λ e. bag_is qs ms apart.1 q m x h rest (λ u there its. alone u (inr there) its)
      ] refl

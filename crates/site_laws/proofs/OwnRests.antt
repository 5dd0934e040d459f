-- In a sound rule no two left cells have the same rest, and a rule of a definition has a number.
use Rattle.std.proofs.Common.{arith, ◌≡◌, inl, inr, ℕ, suc, ◌-◌, true, false, not, ◌==◌, ◌&&◌, ◌||◌, List, [], ◌∷◌, ◌++◌, Some, None, Contains, cond, refl, sym, ap, ◌∙◌}
use Rattle.std.specs.Prelude.{slice_get}
use Rattle.std.specs.List.{list_any}
use Rattle.std.proofs.lemmas.Bool.{eq-eqb, ne_eqb, cases_eq, not-true, or_right, not_from_false}
use Rattle.rule_terms.specs.declared.pattern.Body.{Body, Cells', Seq, Map, List as Listed, One, Made}
use Rattle.rule_terms.specs.declared.rule.Rule.{Rule}
use Rattle.rule_terms.specs.Language.{Language, rule_at}
use Rattle.rule_terms.specs.Patterns.{cond_mentions, is_rest, parts_mention, body_rest}
use Rattle.rule_terms.specs.Spots.{Spot, spots, occurs_elsewhere}
use Rattle.rule_terms.specs.Sound.{IsSoundRule, cells_rest}
use Rattle.rule_terms.proofs.Defined.{joins}
use Rattle.live_config.proofs.Members.{Has, has_any, has_left, has-contains, contains-has}
use Rattle.site_laws.proofs.Bounding.{HasOwnRests}

is_the_rest : (body : Body) (x : ℕ) → cells_rest body ≡ Some x → is_rest x (body_rest body) ≡ true
is_the_rest (Cells' shape children rest) x e = ap (is_rest x) e ∙ eq-eqb x x refl
is_the_rest (Seq parts rest) x e = absurd (let f : None ≡ Some x = e in cc)
is_the_rest (Map entries rest) x e = absurd (let f : None ≡ Some x = e in cc)
is_the_rest (Listed before rest after) x e = absurd (let f : None ≡ Some x = e in cc)
is_the_rest (One p) x e = absurd (let f : None ≡ Some x = e in cc)
is_the_rest (Made p) x e = absurd (let f : None ≡ Some x = e in cc)

-- where another left cell has the rest, it occurs elsewhere
elsewhere : (r : Rule) (mark x : ℕ) (q : Spot) → Has (spots r.left) q → cells_rest q.body ≡ Some x → (q.mark ≡ mark → ⊥) → occurs_elsewhere r mark x ≡ true
elsewhere r mark x q there e differ =
    let here : (not (q.mark == mark) && is_rest x (body_rest q.body)) ≡ true =
    joins (not (q.mark == mark)) (is_rest x (body_rest q.body)) (not_from_false _ (ne_eqb q.mark mark differ)) (is_the_rest q.body x e) in
    let one : list_any (λ (p : Spot). parts_mention x p.body || (not (p.mark == mark) && is_rest x (body_rest p.body))) (spots r.left ++ spots r.right) ≡ true =
    has_any (λ (p : Spot). parts_mention x p.body || (not (p.mark == mark) && is_rest x (body_rest p.body))) (spots r.left ++ spots r.right) q
    (has_left (spots r.left) (spots r.right) q there) (or_right (parts_mention x q.body) _ here) in
    ap (λ b. b || list_any (cond_mentions x) r.when) one

pub own_rests : (d : Language) (r : Rule) → IsSoundRule d r → HasOwnRests (spots r.left)
own_rests d r sound p q h g x e f =
    elim (cases_eq q.mark p.mark) [
      | inl same ↦ sym same
      | inr differ ↦
          let alone : occurs_elsewhere r p.mark x ≡ false = not-true _ (sound.variables.rests p x (has-contains (spots r.left) p h) e).1 in
          let other : occurs_elsewhere r p.mark x ≡ true = elsewhere r p.mark x q g f differ in
          absurd (let both : false ≡ true = sym alone ∙ other in cc)
    ]

-- ---- the number of a rule

has_index : {X : Type 0} (xs : List X) (x : X) → Has xs x → (i : ℕ) × (slice_get xs i ≡ Some x)
has_index [] x h = absurd h
has_index (y ∷ ys) x (inl e) = (0, ap Some e)
has_index (y ∷ ys) x (inr h) = let rest = has_index ys x h in (suc rest.0, rest.1)

pub rule_number : (d : Language) (r : Rule) → Contains d.rules r → (number : ℕ) × (rule_at d number ≡ Some r)
rule_number d r there =
    let i = has_index d.rules r (contains-has d.rules r there) in (
      suc i.0,
      ap (λ b. cond b None (slice_get d.rules (suc i.0 - 1))) (ne_eqb (suc i.0) 0 (λ e. omega (arith, e)))
          ∙ ap (slice_get d.rules) {x = suc i.0 - 1} {y = i.0} (omega arith) ∙ i.1,
    )

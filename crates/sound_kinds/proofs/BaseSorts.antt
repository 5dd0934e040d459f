-- No other sort is below a built-in sort of values, and which productions are of one: operators and parentheses alone.
use Rattle.std.proofs.Common.{◌≡◌, ◌⊎◌, inl, inr, ⊎_elim, ℕ, zero, suc, ◌+◌, ◌-◌, ◌<◌, ◌≤◌, true, false, cond, nat_lt, List, [], ◌∷◌, ◌++◌, take, length, Option, Some, None, refl, sym, ap, subst, ◌∙◌, arith}
use Rattle.std.proofs.lemmas.Bool.Decides.{nat_tests}
use Rattle.std.specs.Prelude.{slice_get}
use Rattle.k_terms.specs.declared.op.Op.{Op}
use Rattle.k_terms.specs.declared.op.Op.TheVariants.{MulInt, DivInt, ModInt, AddInt, SubInt, JoinString, LtInt, LeInt, GtInt, GeInt, EqInt, NeInt, EqK, NeK, InKeys, Not, And, Or, SetKey, GetKey, SizeMap, SizeList, LengthString, IntToString}
use Rattle.k_terms.specs.Sorts.{Below, sort_kresult}
use Rattle.k_terms.specs.Sorts.Below.{same, subsort, produced, built_in, item, through}
use Rattle.grammar_terms.specs.declared.production.Production.{Production}
use Rattle.grammar_terms.specs.Builtins.{with_builtins, declared_prods, operator_form, operators, operator_prods, bracket_prods, parentheses, placed, next_sentence, next_group}
use Rattle.grammar_terms.specs.Grammar.{Syntax, step_from, step_of, steps_of, order_by, production_at}
use Rattle.sorted_grammar.specs.Marks.{AreInside}
use Rattle.live_config.proofs.Members.{Has, contains-has, has_either}
use Rattle.rule_terms.specs.declared.defs.Kind.{Kind}
use Rattle.rule_terms.specs.declared.defs.Kind.TheVariants.{One as OneKind}
use Rattle.rule_terms.specs.Sound.{result_sort}
use Rattle.rule_contents.specs.Contents.{numbers_of, content_prods, with_content}
use Rattle.sound_patterns.proofs.Roles.{paired_at, contents_paired}
use Rattle.sound_patterns.proofs.Operators.{either_at, mapped_at}
use Rattle.sound_patterns.proofs.Grammars.{numbered, declared_length}
use Rattle.rule_parts.specs.Parts.{roles}
use Rattle.rule_parts.specs.Terms.{operator_of}

-- the sorts of values beside those of declared productions: Int to Bag
pub record IsBase (sort : ℕ) : Type 0 where
  pub low : 3 ≤ sort
  pub high : sort < 10

abbrev pub IsOwnNumber : ℕ → Type 0
IsOwnNumber n = (n ≡ sort_kresult) ⊎ (10 ≤ n)

abbrev pub AreOwn : List Production → Type 0
AreOwn prods = (production : Production) → Has prods production → IsOwnNumber production.sort

not_own : {P : Type 0} (sort : ℕ) → IsBase sort → IsOwnNumber sort → P
not_own sort base (inl is) = let low = base.low in absurd (omega (arith, low, is))
not_own sort base (inr more) = let high = base.high in absurd (omega (arith, high, more))

-- ---- the order

step_own : (found : Option ℕ) (sort a b : ℕ) → Has (let steps : List (ℕ × ℕ) = elim found [ None ↦ [] | Some low ↦ (low, sort) ∷ [] ] in steps) (a, b) → sort ≡ b
step_own None sort a b h = absurd h
step_own (Some one) sort a b (inl e) = ap (λ (it : ℕ × ℕ). it.1) e
step_own (Some one) sort a b (inr h) = absurd h

steps_own : (prods : List Production) (a b : ℕ) → Has (steps_of prods) (a, b) → (production : Production) × Has prods production × (production.sort ≡ b)
steps_own [] a b h = absurd h
steps_own (production ∷ prods) a b h =
    ⊎_elim (λ (here : Has (step_of production) (a, b)). (production, inl refl, step_own (step_from production) production.sort a b here))
    (λ (later : Has (steps_of prods) (a, b)). let found = steps_own prods a b later in (found.0, inr found.1, found.2))
    (has_either (step_of production) (steps_of prods) (a, b) h)

module _ (prods : List Production) (own : AreOwn prods) where
  pub below_base : {lower sort : ℕ} → Below (order_by prods) lower sort → IsBase sort → lower ≡ sort
  below_base (same a) base = refl
  below_base (subsort a b is) base =
      let found = steps_own prods a b (contains-has (steps_of prods) (a, b) is) in
      not_own b base (subst IsOwnNumber found.2 (own found.0 found.1))
  below_base (produced a is) base = let low = base.low in absurd (omega (arith, low))
  below_base (built_in a is) base = let low = base.low in absurd (omega (arith, low))
  below_base item base = let low = base.low in absurd (omega (arith, low))
  below_base (through a b c one other) base = let is : b ≡ c = below_base other base in below_base one (subst IsBase (sym is) base) ∙ is

-- ---- operators

pub operator_sort : (op : Op) → 3 ≤ (operator_form op).sort → result_sort op ≡ Some (operator_form op).sort
operator_sort MulInt low = refl
operator_sort DivInt low = refl
operator_sort ModInt low = refl
operator_sort AddInt low = refl
operator_sort SubInt low = refl
operator_sort JoinString low = refl
operator_sort LtInt low = refl
operator_sort LeInt low = refl
operator_sort GtInt low = refl
operator_sort GeInt low = refl
operator_sort EqInt low = refl
operator_sort NeInt low = refl
operator_sort EqK low = refl
operator_sort NeK low = refl
operator_sort InKeys low = refl
operator_sort Not low = refl
operator_sort And low = refl
operator_sort Or low = refl
operator_sort SetKey low = refl
operator_sort GetKey low = absurd (omega (arith, low))
operator_sort SizeMap low = refl
operator_sort SizeList low = refl
operator_sort LengthString low = refl
operator_sort IntToString low = refl

pub operator_plain : (op : Op) → (operator_form op).attrs.bracket ≡ false
operator_plain MulInt = refl
operator_plain DivInt = refl
operator_plain ModInt = refl
operator_plain AddInt = refl
operator_plain SubInt = refl
operator_plain JoinString = refl
operator_plain LtInt = refl
operator_plain LeInt = refl
operator_plain GtInt = refl
operator_plain GeInt = refl
operator_plain EqInt = refl
operator_plain NeInt = refl
operator_plain EqK = refl
operator_plain NeK = refl
operator_plain InKeys = refl
operator_plain Not = refl
operator_plain And = refl
operator_plain Or = refl
operator_plain SetKey = refl
operator_plain GetKey = refl
operator_plain SizeMap = refl
operator_plain SizeList = refl
operator_plain LengthString = refl
operator_plain IntToString = refl

-- ---- the productions of such a sort

-- an operator, by its number
pub record IsOperatorAt (declared p : ℕ) (production : Production) : Type 0 where
  pub op : Op
  pub is : operator_of declared p ≡ Some op
  pub sentence : ℕ
  pub group : ℕ
  pub form : placed sentence group (operator_form op) ≡ production

-- parentheses around what is of a sort
pub record IsParentheses (production : Production) : Type 0 where
  pub sentence : ℕ
  pub group : ℕ
  pub sort : ℕ
  pub form : placed sentence group (parentheses sort) ≡ production

taken_has : {X : Type 0} (n : ℕ) (xs : List X) (i : ℕ) (x : X) → slice_get (take n xs) i ≡ Some x → Has xs x
taken_has zero xs i x e = absurd (let f : None ≡ Some x = e in cc)
taken_has (suc n) [] i x e = absurd (let f : None ≡ Some x = e in cc)
taken_has (suc n) (y ∷ xs) zero x e = inl (let f : Some y ≡ Some x = e in cc)
taken_has (suc n) (y ∷ xs) (suc i) x e = inr (taken_has n xs i x e)

module _ (base : Syntax) (inside : AreInside base) (whole : base.declared ≤ length base.prods) (own : AreOwn base.prods) where
  abbrev g : Syntax
  g = with_builtins base

  operator_there : (p i : ℕ) (op : Op) → p ≡ length (declared_prods base) + i + 1 → slice_get operators i ≡ Some op → operator_of base.declared p ≡ Some op
  operator_there p i op place is =
      let same = declared_length base inside whole in
      let behind : nat_lt base.declared p ≡ true = grind (arith, nat_tests) in
      let at : p - base.declared - 1 ≡ i = omega (arith, place, same) in
      ap (λ b. cond b (slice_get operators (p - base.declared - 1)) None) behind ∙ ap (slice_get operators) at ∙ is

  base_production : (p i : ℕ) (production : Production) → p ≡ i + 1 → slice_get g.prods i ≡ Some production → IsBase production.sort
      → IsOperatorAt base.declared p production ⊎ IsParentheses production
  base_production p i production place e sort =
      let s = next_sentence (declared_prods base) in
      let r = next_group (declared_prods base) in
      elim (either_at (declared_prods base) (operator_prods s r ++ bracket_prods s r (length base.names)) i production e) [
        | inl found ↦ not_own production.sort sort (own production (taken_has base.declared base.prods i production found.1))
        | inr behind ↦ elim (either_at (operator_prods s r) (bracket_prods s r (length base.names)) behind.0 production behind.2) [
          | inl found ↦
              let op = mapped_at (λ op. placed s r (operator_form op)) operators behind.0 production found.1 in
              let at : i ≡ length (declared_prods base) + behind.0 = behind.1 in
              inl (record { op = op.0; is = operator_there p behind.0 op.0 (omega (arith, place, at)) op.1; sentence = s; group = r; form = op.2 })
          | inr found ↦
              let one = mapped_at (λ sort. placed s r (parentheses sort)) _ found.0 production found.2 in
              inr (record { sentence = s; group = r; sort = one.0; form = one.2 })
        ]
      ]

  module _ (kind : Kind) (named : (sort : ℕ) → kind ≡ OneKind sort → sort < length base.names) where
    -- a production for contents that is of such a sort is no content
    pub content_production : (p : ℕ) (production : Production) → production_at (with_content g kind).prods p ≡ Some production → IsBase production.sort
        → IsOperatorAt base.declared p production ⊎ IsParentheses production
    content_production p production e sort =
        let at = numbered (with_content g kind).prods p production e in
        elim (either_at g.prods (content_prods (numbers_of g) kind) at.0 production at.2) [
          | inl found ↦ base_production p at.0 production at.1 found.1 sort
          | inr found ↦
              let is = paired_at (length base.names) (roles kind) (content_prods (numbers_of g) kind) found.0 production (contents_paired g inside.some kind named) found.2 in
              let more = is.high in
              let less = sort.high in
              let some = inside.some in
              absurd (omega (arith, more, less, some))
        ]

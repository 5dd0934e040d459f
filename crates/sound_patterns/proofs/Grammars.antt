-- The grammar of a definition for rules, and that of contents: which productions there are.
use Rattle.std.proofs.Common.{◌≡◌, ◌⊎◌, inl, inr, ⊎_elim, ℕ, zero, suc, ◌+◌, ◌-◌, ◌<◌, ◌≤◌, Bool, true, false, cond, ◌==◌, List, [], ◌∷◌, ◌++◌, take, length, Option, Some, None, refl, sym, ap, subst, ◌∙◌, arith}
use Rattle.std.proofs.lemmas.Bool.Decides.{nat_tests}
use Rattle.std.proofs.lemmas.List.{length-take, length-append}
use Rattle.std.proofs.lemmas.List.{take_all, take-append-le}
use Rattle.std.specs.Prelude.{slice_get, nat_lt}
use Rattle.std.specs.List.{AllByRecursion}
use Rattle.k_terms.specs.Sorts.{Below}
use Rattle.grammar_terms.specs.Cuts as cuts
use Rattle.grammar_terms.specs.declared.production.Part.{Part}
use Rattle.grammar_terms.specs.declared.production.Part.TheVariants.{Terminal, Sort}
use Rattle.grammar_terms.specs.declared.production.Production.{Production}
use Rattle.grammar_terms.specs.Builtins.{next_sentence, next_group, declared_prods, operator_prods, bracket_prods, with_builtins}
use Rattle.grammar_terms.specs.Grammar.{Syntax, production_at, order_by, order_of, is_list}
use Rattle.rule_terms.specs.declared.defs.Kind.{Kind}
use Rattle.rule_terms.specs.declared.defs.Kind.TheVariants.{One as OneKind}
use Rattle.rule_contents.specs.Contents.{numbers_of, content_prods, with_content}
use Rattle.rule_contents.specs.Operators.{is_of_contents}
use Rattle.rule_parts.specs.declared.parts.Role.TheVariants.{Nothing}
use Rattle.rule_parts.specs.Parts.{roles, role_among, role_of}
use Rattle.sorted_grammar.specs.Marks.{AreInside}
use Rattle.sound_patterns.proofs.Readings.{AreBelow, IsOfTerms, HasTerms}
use Rattle.sound_patterns.proofs.Roles.{IsOfContents, paired_at, contents_paired}
use Rattle.sound_patterns.proofs.Sorts.{IsBelow, below_low, below_high}
use Rattle.sound_patterns.proofs.Operators.{either_at, operator_at, bracket_at}

-- ---- lists

there_by : {X : Type 0} (b : Bool) (found : Option X) (x : X) → cond b None found ≡ Some x → (b ≡ false) × (found ≡ Some x)
there_by true found x e = absurd (let f : None ≡ Some x = e in cc)
there_by false found x e = (refl, e)

above_zero : (p : ℕ) → (p == 0) ≡ false → 0 < p
above_zero p e = grind (arith, nat_tests)

pub numbered : {X : Type 0} (xs : List X) (p : ℕ) (x : X) → cond (p == 0) None (slice_get xs (p - 1)) ≡ Some x → (i : ℕ) × (p ≡ i + 1) × (slice_get xs i ≡ Some x)
numbered xs p x e =
    let there = there_by (p == 0) (slice_get xs (p - 1)) x e in
    let more = above_zero p there.0 in
    (p - 1, omega (arith, more), there.1)

taken_has : {X : Type 0} (n : ℕ) (xs : List X) (i : ℕ) (x : X) → slice_get (take n xs) i ≡ Some x → cuts.Has xs x
taken_has zero xs i x e = absurd (let f : None ≡ Some x = e in cc)
taken_has (suc n) [] i x e = absurd (let f : None ≡ Some x = e in cc)
taken_has (suc n) (y ∷ xs) zero x e = let same : y ≡ x = cc in inl same
taken_has (suc n) (y ∷ xs) (suc i) x e = inr (taken_has n xs i x e)

items_below : (n : ℕ) (items : List Part) → ((sort : ℕ) → cuts.Has items (Sort sort) → sort < n) → AreBelow n items
items_below n [] each = tt
items_below n (Terminal text ∷ items) each = (tt, items_below n items (λ sort h. each sort (inr h)))
items_below n (Sort sort ∷ items) each = (each sort (inl refl), items_below n items (λ other h. each other (inr h)))

prods_below : (n : ℕ) (prods : List Production) → ((production : Production) → cuts.Has prods production → IsBelow n production) → AllByRecursion (IsBelow n) prods
prods_below n [] each = tt
prods_below n (production ∷ prods) each = (each production (inl refl), prods_below n prods (λ other h. each other (inr h)))

taken_below : (n m : ℕ) (prods : List Production) → AllByRecursion (IsBelow n) prods → AllByRecursion (IsBelow n) (take m prods)
taken_below n zero prods all = tt
taken_below n (suc m) [] all = tt
taken_below n (suc m) (production ∷ prods) all = (all.0, taken_below n m prods all.1)

-- ---- the grammar for rules

module _ (base : Syntax) (inside : AreInside base) (whole : base.declared ≤ length base.prods) where
  abbrev n : ℕ
  n = length base.names

  abbrev g : Syntax
  g = with_builtins base

  -- production p stands in a term: with arguments, and as a list
  abbrev pub node : ℕ → Type 0
  node p = (0 < p) × (p ≤ base.declared + 24)

  abbrev pub list : ℕ → Type 0
  list p = p ≤ base.declared

  pub declared_length : length (declared_prods base) ≡ base.declared
  declared_length = length-take base.declared base.prods ∙ omega (arith, whole)

  production_below : (production : Production) → cuts.Has base.prods production → IsBelow n production
  production_below production has = record { sort = inside.sort production has; items = items_below n production.items (λ sort h. inside.item production sort has h) }

  -- a production of this grammar: its sorts have names, and its number is one of a term
  record IsBase (p : ℕ) (production : Production) : Type 0 where
    sort : production.sort < n
    terms : IsOfTerms n node list p production

  base_of : (p i : ℕ) (production : Production) → p ≡ i + 1 → slice_get g.prods i ≡ Some production → IsBase p production
  base_of p i production place e =
      let s = next_sentence (declared_prods base) in
      let r = next_group (declared_prods base) in
      elim (either_at (declared_prods base) (operator_prods s r ++ bracket_prods s r n) i production e) [
        | inl found ↦
            let below = production_below production (taken_has base.declared base.prods i production found.1) in
            let less : i < length (declared_prods base) = found.0 in
            record {
              sort = below.sort;
              terms = record {
                items = below.items;
                plain = λ no_list no_bracket. (omega (arith, place), omega (arith, place, less, declared_length));
                listed = λ is. omega (arith, place, less, declared_length);
              };
            }
        | inr behind ↦ elim (either_at (operator_prods s r) (bracket_prods s r n) behind.0 production behind.2) [
          | inl found ↦
              let one = operator_at n inside.some s r behind.0 production found.1 in
              let at : i ≡ length (declared_prods base) + behind.0 = behind.1 in
              let within = one.within in
              record {
                sort = one.below.sort;
                terms = record {
                  items = one.below.items;
                  plain = λ no_list no_bracket. (omega (arith, place), omega (arith, place, at, within, declared_length));
                  listed = λ is. absurd (let f : false ≡ true = ap (λ (it : Production). is_list it.form) one.plain.3 ∙ is in cc);
                };
              }
          | inr found ↦
              let one = bracket_at n inside.some s r found.0 production found.2 in
              record {
                sort = one.below.sort;
                terms = record {
                  items = one.below.items;
                  plain = λ no_list no_bracket. absurd (let f : true ≡ false = ap (λ (it : Production). it.attrs.bracket) one.plain.3 ∙ no_bracket in cc);
                  listed = λ is. absurd (let f : false ≡ true = ap (λ (it : Production). is_list it.form) one.plain.3 ∙ is in cc);
                };
              }
        ]
      ]

  -- ---- the order of its sorts

  declared_below : AllByRecursion (IsBelow n) (declared_prods base)
  declared_below = taken_below n base.declared base.prods (prods_below n base.prods production_below)

  -- what is declared stays so, whatever stands behind
  pub declared_stay : (more : List Production) → take base.declared (declared_prods base ++ more) ≡ declared_prods base
  declared_stay more =
      take-append-le base.declared (declared_prods base) more (omega (arith, declared_length))
      ∙ take_all base.declared (declared_prods base) (omega (arith, declared_length))

  declared_within : base.declared ≤ length g.prods
  declared_within =
      let s = next_sentence (declared_prods base) in
      let r = next_group (declared_prods base) in
      let long = length-append (declared_prods base) (operator_prods s r ++ bracket_prods s r n) in
      omega (arith, long, declared_length)

  low : (own sort : ℕ) → Below (order_of base) own sort → sort < n → own < n
  low own sort below less = below_low n inside.some (declared_prods base) declared_below below less

  high : (own sort : ℕ) → Below (order_of base) own sort → n ≤ sort → own ≡ sort
  high own sort below more = below_high n inside.some (declared_prods base) declared_below below more

  pub rules_order : order_of g ≡ order_of base
  rules_order = ap order_by (declared_stay _)

  pub rules_terms : HasTerms g n node list
  rules_terms = record {
    some = let some = inside.some in omega (arith, some);
    ordered = λ own sort below less. low own sort (subst (λ o. Below o own sort) rules_order below) less;
    productions = λ p production e less. let at = numbered g.prods p production e in (base_of p at.0 production at.1 at.2).terms;
    sequence = omega arith;
  }

  -- ---- the grammar of contents

  module _ (kind : Kind) (named : (sort : ℕ) → kind ≡ OneKind sort → sort < n) where
    abbrev content : Syntax
    content = with_content g kind

    paired : (i : ℕ) (production : Production) → slice_get (content_prods (numbers_of g) kind) i ≡ Some production → IsOfContents n (role_among (roles kind) i) production
    paired i production e = paired_at n (roles kind) (content_prods (numbers_of g) kind) i production (contents_paired g inside.some kind named) e

    content_order : order_of content ≡ order_of base
    content_order = ap order_by (take-append-le base.declared g.prods (content_prods (numbers_of g) kind) declared_within ∙ declared_stay _)

    role_is : (p j : ℕ) → p ≡ length g.prods + j + 1 → role_of kind (length g.prods) p ≡ role_among (roles kind) j
    role_is p j place =
        let behind : nat_lt (length g.prods) p ≡ true = grind (arith, nat_tests) in
        let same : p - length g.prods - 1 ≡ j = omega (arith, place) in
        ap (λ b. cond b (role_among (roles kind) (p - length g.prods - 1)) Nothing) behind ∙ ap (role_among (roles kind)) same

    -- a production is one of the grammar for rules, or one of contents
    record IsContent (p : ℕ) (production : Production) : Type 0 where
      behind : is_of_contents g p ≡ true
      is : IsOfContents n (role_of kind (length g.prods) p) production

    content_of : (p : ℕ) (production : Production) → production_at content.prods p ≡ Some production → IsBase p production ⊎ IsContent p production
    content_of p production e =
        let at = numbered content.prods p production e in
        elim (either_at g.prods (content_prods (numbers_of g) kind) at.0 production at.2) [
          | inl found ↦ inl (base_of p at.0 production at.1 found.1)
          | inr found ↦
              let first = at.1 in
              let second = found.1 in
              let place : p ≡ length g.prods + found.0 + 1 = omega (arith, first, second) in
              inr (record {
                behind = grind (arith, nat_tests);
                is = subst (λ role. IsOfContents n role production) (sym (role_is p found.0 place)) (paired found.0 production found.2);
              })
        ]

    pub content_terms : HasTerms content n node list
    content_terms = record {
      some = let some = inside.some in omega (arith, some);
      ordered = λ own sort below less. low own sort (subst (λ o. Below o own sort) content_order below) less;
      productions = λ p production e less.
          ⊎_elim (λ (one : IsBase p production). one.terms) (λ (one : IsContent p production). absurd (let high = one.is.high in omega (arith, high, less))) (content_of p production e);
      sequence = omega arith;
    }

    pub content_high : (own sort : ℕ) → Below (order_of content) own sort → n ≤ sort → own ≡ sort
    content_high own sort below more = high own sort (subst (λ o. Below o own sort) content_order below) more

    pub contents_known : (p : ℕ) (production : Production) → production_at content.prods p ≡ Some production → n ≤ production.sort
        → (is_of_contents g p ≡ true) × IsOfContents n (role_of kind (length g.prods) p) production
    contents_known p production e more =
        ⊎_elim (λ (one : IsBase p production). absurd (let less = one.sort in omega (arith, less, more))) (λ (one : IsContent p production). (one.behind, one.is)) (content_of p production e)

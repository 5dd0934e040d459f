-- The sorts of the grammar for the rules of a definition have names.
use Rattle.std.proofs.Common.{◌≡◌, inl, inr, ℕ, zero, suc, ◌+◌, ◌<◌, ◌≤◌, List, [], ◌∷◌, length, sym, ap, subst, arith, length-append}
use Rattle.std.proofs.lemmas.List.{length-take}
use Rattle.std.specs.List.{range_with_len}
use Rattle.k_terms.specs.declared.op.Op.{Op}
use Rattle.k_terms.specs.declared.op.Op.TheVariants.{MulInt, DivInt, ModInt, AddInt, SubInt, JoinString, LtInt, LeInt, GtInt, GeInt, EqInt, NeInt, EqK, NeK, InKeys, Not, And, Or, SetKey, GetKey, SizeMap, SizeList, LengthString, IntToString}
use Rattle.grammar_terms.specs.declared.production.Production.{Production}
use Rattle.grammar_terms.specs.Builtins.{operators, operator_form, parentheses, placed, next_sentence, next_group, declared_prods, operator_prods, bracket_prods, builtin_prods, with_builtins}
use Rattle.grammar_terms.specs.Cuts.{Has as HasOne}
use Rattle.grammar_terms.specs.Grammar.{Syntax}
use Rattle.file_reader.specs.declared.sentence.Sentence.{Sentence}
use Rattle.live_config.proofs.Members.{Has, has_either, map_has}
use Rattle.sorted_grammar.specs.Laws.{HaveNames}
use Rattle.sorted_grammar.specs.Marks.{AreInside}
use Rattle.sorted_grammar.specs.Placing.{grammar_of}
use Rattle.sorted_grammar.specs.Sorting.{IsGrammar}
use Rattle.sound_drafts.proofs.ContentSorts.{HasSorts, taken_has}

operator_sort : (op : Op) → (operator_form op).sort < 10
operator_sort MulInt = omega arith
operator_sort DivInt = omega arith
operator_sort ModInt = omega arith
operator_sort AddInt = omega arith
operator_sort SubInt = omega arith
operator_sort JoinString = omega arith
operator_sort LtInt = omega arith
operator_sort LeInt = omega arith
operator_sort GtInt = omega arith
operator_sort GeInt = omega arith
operator_sort EqInt = omega arith
operator_sort NeInt = omega arith
operator_sort EqK = omega arith
operator_sort NeK = omega arith
operator_sort InKeys = omega arith
operator_sort Not = omega arith
operator_sort And = omega arith
operator_sort Or = omega arith
operator_sort SetKey = omega arith
operator_sort GetKey = omega arith
operator_sort SizeMap = omega arith
operator_sort SizeList = omega arith
operator_sort LengthString = omega arith
operator_sort IntToString = omega arith

in_range : (a n x : ℕ) → Has (range_with_len a n) x → x < a + n
in_range a zero x h = absurd h
in_range a (suc n) x (inl e) = omega (arith, e)
in_range a (suc n) x (inr h) = let less = in_range (a + 1) n x h in omega (arith, less)

as_one : {X : Type 0} (xs : List X) (x : X) → Has xs x → HasOne xs x
as_one [] x h = h
as_one (y ∷ xs) x (inl e) = inl e
as_one (y ∷ xs) x (inr h) = inr (as_one xs x h)

module _ (g : Syntax) (inside : AreInside g) (within : g.declared ≤ length g.prods) where
  abbrev own : List Production
  own = declared_prods g

  abbrev sentence : ℕ
  sentence = next_sentence own

  abbrev group : ℕ
  group = next_group own

  own_size : length own ≡ g.declared
  own_size = let e = length-take g.declared g.prods in omega (arith, e, within)

  operators_low : (production : Production) → Has (operator_prods sentence group) production → production.sort < length g.names
  operators_low production h =
      let t = map_has (λ op. placed sentence group (operator_form op)) operators production h in
      let low = operator_sort t.0 in
      let e : (operator_form t.0).sort ≡ production.sort = ap (λ (it : Production). it.sort) t.2 in
      let some = inside.some in
      omega (arith, low, e, some)

  brackets_low : (production : Production) → Has (bracket_prods sentence group (length g.names)) production → production.sort < length g.names
  brackets_low production h =
      let t = map_has (λ sort. placed sentence group (parentheses sort)) (range_with_len 0 (length g.names)) production h in
      let low = in_range 0 (length g.names) t.0 t.1 in
      let e : t.0 ≡ production.sort = ap (λ (it : Production). it.sort) t.2 in
      omega (arith, low, e)

  has_sorts : HasSorts (with_builtins g)
  has_sorts = record {
    some = inside.some;
    within = (let e = length-append own (builtin_prods sentence group (length g.names)) in let f = own_size in omega (arith, e, f));
    sort = λ production h.
        elim (has_either own (builtin_prods sentence group (length g.names)) production h) [
          | inl front ↦ inside.sort production (as_one g.prods production (taken_has g.declared g.prods production front))
          | inr behind ↦ elim (has_either (operator_prods sentence group) (bracket_prods sentence group (length g.names)) production behind) [
            | inl operator ↦ operators_low production operator
            | inr bracket ↦ brackets_low production bracket
          ]
        ];
  }

-- all productions of a grammar are declared
all_declared : (sentences : List Sentence) (g : Syntax) → IsGrammar sentences g → g.declared ≤ length g.prods
all_declared sentences g is =
    subst (λ (it : Syntax). it.declared ≤ length it.prods) (sym is.is)
    (let e : (grammar_of sentences).declared ≤ length (grammar_of sentences).prods = omega arith in e)

pub sorts_named : HaveNames → (sentences : List Sentence) (g : Syntax) → IsGrammar sentences g → HasSorts (with_builtins g)
sorts_named names sentences g is = has_sorts g (names sentences g is) (all_declared sentences g is)

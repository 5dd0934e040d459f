-- What is read at a built-in sort of values: a token of that sort, a variable without a sort, or an operator of that sort.
use Rattle.std.proofs.Common.{◌≡◌, ◌⊎◌, inl, inr, ℕ, zero, suc, ◌+◌, ◌<◌, ◌≤◌, Bool, true, false, cond, ◌==◌, ◌||◌, List, take, length, Option, Some, None, refl, sym, ap, subst, ◌∙◌, arith}
use Rattle.std.proofs.lemmas.Bool.{ne_eqb, eqb-true}
use Rattle.std.specs.Prelude.{slice_get}
use Rattle.std.specs.List.{AllByRecursion}
use Rattle.k_terms.specs.declared.op.Op.{Op}
use Rattle.k_terms.specs.Sorts.{Below, sort_k, sort_kitem}
use Rattle.grammar_terms.specs.declared.production.Part.TheVariants.{Sort}
use Rattle.grammar_terms.specs.declared.production.Production.{Production}
use Rattle.grammar_terms.specs.declared.shape.Shape.{Shape, Leaf, Node}
use Rattle.grammar_terms.specs.declared.word.Word.{Word}
use Rattle.grammar_terms.specs.declared.word.WordKind.{WordKind}
use Rattle.grammar_terms.specs.declared.word.WordKind.TheVariants.{Terminal as TerminalWord, Literal, Variable, Wild, EmptyList}
use Rattle.grammar_terms.specs.Builtins.{with_builtins, operator_form, parentheses}
use Rattle.grammar_terms.specs.Grammar.{Syntax, production_at, order_of, is_list}
use Rattle.grammar_terms.specs.Places.{token_place, token_place_at, place_by, place_of_empty, is_of_terminal, rewrite_place, open_place, close_place, wild_place, dot_place, variable_place, empty_place}
use Rattle.grammar_terms.specs.Reading.{is_leaf, is_wild, is_wild_at, item_sort, Fits, IsListOf, Reads, reads_plain, reads_bracket, reads_list, reads_rest, reads_empty, Parts, no_item, terminal_item, sort_item, Child, stands_leaf, stands_wild, stands_token, stands_reading, stands_nothing, stands_sequence}
use Rattle.sorted_grammar.specs.Marks.{AreInside}
use Rattle.rule_terms.specs.declared.defs.Kind.{Kind}
use Rattle.rule_terms.specs.declared.defs.Kind.TheVariants.{One as OneKind}
use Rattle.rule_terms.specs.Sound.{result_sort}
use Rattle.rule_contents.specs.Contents.{with_content}
use Rattle.rule_parts.specs.Terms.{operator_of}
use Rattle.sound_sequences.proofs.Unmade.{taken_has}
use Rattle.sound_patterns.proofs.Readings.{all_more}
use Rattle.sound_kinds.proofs.BaseSorts.{IsBase, AreOwn, IsOperatorAt, IsParentheses, below_base, operator_sort, operator_plain, content_production}
use Rattle.sound_kinds.proofs.ValueOrders.{content_order}

-- a token of a sort, literal or variable
pub record IsToken (words : List Word) (sort : ℕ) (shape : Shape) : Type 0 where
  pub at : ℕ
  pub word : Word
  pub there : slice_get words at ≡ Some word
  pub leaf : is_leaf word.kind ≡ true
  pub sort_is : word.sort ≡ sort
  pub is : shape ≡ Leaf at

-- a variable without a sort
pub record IsWildToken (words : List Word) (shape : Shape) : Type 0 where
  pub at : ℕ
  pub word : Word
  pub there : slice_get words at ≡ Some word
  pub wild : is_wild word.kind ≡ true
  pub is : shape ≡ Leaf at

-- an operator whose values are of a sort
pub record IsOperation (declared sort : ℕ) (shape : Shape) : Type 0 where
  pub p : ℕ
  pub op : Op
  pub shapes : List Shape
  pub operator : operator_of declared p ≡ Some op
  pub result : result_sort op ≡ Some sort
  pub is : shape ≡ Node p shapes

abbrev pub IsValue : List Word → ℕ → ℕ → Shape → Type 0
IsValue words declared sort shape = IsToken words sort shape ⊎ (IsWildToken words shape ⊎ IsOperation declared sort shape)

-- ---- places for one token have higher numbers

high_some : (o : Option ℕ) (sort place : ℕ) → o ≡ Some place → o ≡ Some sort → sort ≡ place
high_some o sort place is e = let f : Some place ≡ Some sort = sym is ∙ e in cc

terminal_high : (number sort : ℕ) (b : Bool) → is_of_terminal number ≡ b → cond b (Some number) None ≡ Some sort → 266 + 4 < sort
terminal_high number sort false is e = absurd (let f : None ≡ Some sort = e in cc)
terminal_high number sort true is e = let same : number ≡ sort = cc in by (number == rewrite_place) (number == open_place) (number == close_place) refl refl refl is same
  where
    by : (a b c : Bool) → (number == rewrite_place) ≡ a → (number == open_place) ≡ b → (number == close_place) ≡ c → (a || (b || c)) ≡ true → number ≡ sort → 266 + 4 < sort
    by true b c x y z is same = let at : number ≡ rewrite_place = eqb-true number rewrite_place x in omega (arith, at, same)
    by false true c x y z is same = let at : number ≡ open_place = eqb-true number open_place y in omega (arith, at, same)
    by false false true x y z is same = let at : number ≡ close_place = eqb-true number close_place z in omega (arith, at, same)
    by false false false x y z is same = absurd (let f : false ≡ true = is in cc)

empty_high : (sort bytes place : ℕ) → place_of_empty sort bytes ≡ Some place → 266 + 4 < place
empty_high sort bytes place e = by (bytes == 0) (bytes == 1) e
  where
    by : (a b : Bool) → cond a None (cond b (Some dot_place) (Some (empty_place sort))) ≡ Some place → 266 + 4 < place
    by true b e = absurd (let f : None ≡ Some place = e in cc)
    by false true e = let same : dot_place ≡ place = cc in omega (arith, same)
    by false false e = let same : empty_place sort ≡ place = cc in omega (arith, same)

place_high : (kind : WordKind) (own bytes place : ℕ) → place_by kind own bytes ≡ Some place → 266 + 4 < place
place_high (TerminalWord text) own bytes place e = terminal_high own place (is_of_terminal own) refl e
place_high (Literal value) own bytes place e = absurd (let f : None ≡ Some place = e in cc)
place_high Variable own bytes place e = let same : variable_place own ≡ place = cc in omega (arith, same)
place_high Wild own bytes place e = let same : wild_place ≡ place = cc in omega (arith, same)
place_high EmptyList own bytes place e = empty_high own bytes place e

-- a place that asks for one token is none of a sort
pub token_high : (words : List Word) (at place : ℕ) → token_place_at words at ≡ Some place → 266 + 4 < place
token_high words at place e = by (slice_get words at) e
  where
    by : (o : Option Word) → (let found : Option ℕ = elim o [ None ↦ None | Some word ↦ token_place word ] in found) ≡ Some place → 266 + 4 < place
    by None e = absurd (let f : None ≡ Some place = e in cc)
    by (Some word) e = place_high word.kind word.sort _ place e

wild_there : (words : List Word) (at : ℕ) → is_wild_at words at ≡ true → (word : Word) × (slice_get words at ≡ Some word) × (is_wild word.kind ≡ true)
wild_there words at e = by (slice_get words at) refl e
  where
    by : (o : Option Word) → slice_get words at ≡ o → (let b : Bool = elim o [ None ↦ false | Some word ↦ is_wild word.kind ] in b) ≡ true
        → (word : Word) × (slice_get words at ≡ Some word) × (is_wild word.kind ≡ true)
    by None is e = absurd (let f : false ≡ true = e in cc)
    by (Some word) is e = (word, is, e)

-- ---- readings

module _ (base : Syntax) (inside : AreInside base) (whole : base.declared ≤ length base.prods) (own : AreOwn base.prods) (kind : Kind)
    (named : (sort : ℕ) → kind ≡ OneKind sort → sort < length base.names) (words : List Word) where
  abbrev content : Syntax
  content = with_content (with_builtins base) kind

  abbrev Val : ℕ → Shape → Type 0
  Val sort shape = IsValue words base.declared sort shape

  same_production : (p : ℕ) (one other : Production) → production_at content.prods p ≡ Some one → production_at content.prods p ≡ Some other → one ≡ other
  same_production p one other first second = let e : Some one ≡ Some other = sym first ∙ second in cc

  taken_own : AreOwn (take base.declared base.prods)
  taken_own production has = own production (taken_has base.declared base.prods production has)

  -- what fits such a sort is of it
  fits_base : (lower sort : ℕ) → Fits content lower sort → IsBase sort → lower ≡ sort
  fits_base lower sort (inl below) is =
      let low = is.low in
      let other : item_sort sort ≡ sort = ap (λ b. cond b sort_kitem sort) (ne_eqb sort sort_k (λ e. absurd (omega (arith, e, low)))) in
      below_base (take base.declared base.prods) taken_own
      (subst (λ o. Below o lower sort) (content_order base inside whole kind) (subst (Below (order_of content) lower) other below)) is
  fits_base lower sort (inr same) is = same

  -- ---- productions

  abbrev IsOne : ℕ → Production → Type 0
  IsOne p production = IsOperatorAt base.declared p production ⊎ IsParentheses production

  one_of : (p : ℕ) (production : Production) → production_at content.prods p ≡ Some production → IsBase production.sort → IsOne p production
  one_of p production e sort = content_production base inside whole own kind named p production e sort

  no_list : (p element : ℕ) (separator : List ℕ) (production : Production) → production_at content.prods p ≡ Some production → IsBase production.sort
      → IsListOf content.prods p element separator → ⊥
  no_list p element separator production e sort list =
      let listed : is_list production.form ≡ true = ap (λ (it : Production). is_list it.form) (same_production p production list.production e list.is) ∙ ap is_list list.form in
      elim (one_of p production e sort) [
        | inl one ↦ let f : false ≡ true = ap (λ (it : Production). is_list it.form) one.form ∙ listed in cc
        | inr one ↦ let f : false ≡ true = ap (λ (it : Production). is_list it.form) one.form ∙ listed in cc
      ]

  operator_read : (p : ℕ) (production : Production) (shapes : List Shape) (shape : Shape) → IsOne p production → IsBase production.sort → production.attrs.bracket ≡ false
      → shape ≡ Node p shapes → Val production.sort shape
  operator_read p production shapes shape (inl one) sort no_bracket is =
      let same : (operator_form one.op).sort ≡ production.sort = ap (λ (it : Production). it.sort) one.form in
      let low = sort.low in
      inr (inr (record { p = p; op = one.op; shapes = shapes; operator = one.is; result = operator_sort one.op (omega (arith, same, low)) ∙ ap Some same; is = is }))
  operator_read p production shapes shape (inr one) sort no_bracket is =
      absurd (let f : true ≡ false = ap (λ (it : Production). it.attrs.bracket) one.form ∙ no_bracket in cc)

  -- each sort among the items of a production is its own
  abbrev HasOwnItems : Production → Type 0
  HasOwnItems production = (i sort : ℕ) → slice_get production.items i ≡ Some (Sort sort) → sort ≡ production.sort

  parentheses_items : (own_sort : ℕ) (i sort : ℕ) → slice_get (parentheses own_sort).items i ≡ Some (Sort sort) → sort ≡ own_sort
  parentheses_items own_sort zero sort e = absurd (cc)
  parentheses_items own_sort (suc zero) sort e = cc
  parentheses_items own_sort (suc (suc zero)) sort e = absurd (cc)
  parentheses_items own_sort (suc (suc (suc i))) sort e = absurd (cc)

  bracket_items : (p : ℕ) (production : Production) → IsOne p production → production.attrs.bracket ≡ true → HasOwnItems production
  bracket_items p production (inl one) bracket =
      absurd (let f : false ≡ true = sym (operator_plain one.op) ∙ ap (λ (it : Production). it.attrs.bracket) one.form ∙ bracket in cc)
  bracket_items p production (inr one) bracket = λ i sort e.
      parentheses_items one.sort i sort (ap (λ (it : Production). slice_get it.items i) one.form ∙ e) ∙ ap (λ (it : Production). it.sort) one.form

  -- ---- readings

  mutual
    reads_value : {p from past : ℕ} {shape : Shape} → Reads content words p from past shape → (production : Production) → production_at content.prods p ≡ Some production
        → IsBase production.sort → Val production.sort shape
    reads_value (reads_plain p from past read shapes shape plain no_bracket parts is) production e sort =
        let same = same_production p production read e plain.is in
        operator_read p production shapes shape (one_of p production e sort) sort (ap (λ (it : Production). it.attrs.bracket) same ∙ no_bracket) is
    reads_value (reads_bracket p from past read shape plain bracket parts) production e sort =
        let same = same_production p production read e plain.is in
        let items = bracket_items p production (one_of p production e sort) (ap (λ (it : Production). it.attrs.bracket) same ∙ bracket) in
        (parts_value parts production.sort sort (λ i own_sort is. items i own_sort (ap (λ (it : Production). slice_get it.items i) same ∙ is))).0
    reads_value (reads_list p from past element separator shapes shape list elements wild is) production e sort = absurd (no_list p element separator production e sort list)
    reads_value (reads_rest p from at next element separator first shapes shape list elements between rest is) production e sort =
        absurd (no_list p element separator production e sort list)
    reads_value (reads_empty p at element separator shape list empty is) production e sort = absurd (no_list p element separator production e sort list)

    parts_value : {p : ℕ} {production : Production} {count from at : ℕ} {shapes : List Shape} → Parts content words p production count from at shapes
        → (own_sort : ℕ) → IsBase own_sort → ((i sort : ℕ) → slice_get production.items i ≡ Some (Sort sort) → sort ≡ own_sort)
        → AllByRecursion (Val own_sort) shapes
    parts_value (no_item p production from) own_sort is each = tt
    parts_value (terminal_item p production count from at shapes text parts item here) own_sort is each = parts_value parts own_sort is each
    parts_value (sort_item p production count from at past shapes sort shape parts item child) own_sort is each =
        let same = each count sort item in
        all_more (Val own_sort) shapes shape (parts_value parts own_sort is each)
        (subst (λ s. Val s shape) same (child_value child (subst IsBase (sym same) is)))

    -- what is read at such a sort
    pub child_value : {place : Option (ℕ × ℕ)} {sort from past : ℕ} {shape : Shape} → Child content words place sort from past shape → IsBase sort → Val sort shape
    child_value (stands_leaf place sort at lower shape leaf fits is) base_sort =
        inl (record { at = at; word = leaf.0; there = leaf.1; leaf = leaf.2; sort_is = leaf.3 ∙ fits_base lower sort fits base_sort; is = is })
    child_value (stands_wild place sort at shape wild named_sort is) base_sort =
        let found = wild_there words at wild in
        inr (inl (record { at = at; word = found.0; there = found.1; wild = found.2; is = is }))
    child_value (stands_token place sort at shape asked is) base_sort = let more = token_high words at sort asked in let less = base_sort.high in absurd (omega (arith, more, less))
    child_value (stands_reading place sort from past p production shape reads at fits may takes) base_sort =
        let same = fits_base production.sort sort fits base_sort in
        subst (λ s. Val s shape) same (reads_value reads production at (subst IsBase (sym same) base_sort))
    child_value (stands_nothing place sort at shape k empty is) base_sort = let low = base_sort.low in absurd (omega (arith, k, low))
    child_value (stands_sequence place sort from at first second shapes shape k rules opens parts closes is) base_sort = let low = base_sort.low in absurd (omega (arith, k, low))

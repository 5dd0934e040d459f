-- The content of a cell of a single value has one on each side where it stands.
use Rattle.std.proofs.Common.{◌≡◌, ℕ, zero, suc, ◌+◌, ◌<◌, ◌≤◌, Bool, true, false, cond, List, [], ◌∷◌, ◌++◌, length, Option, Some, None, refl, sym, ap, subst, ◌∙◌, arith}
use Rattle.std.proofs.lemmas.List.{take_all}
use Rattle.std.specs.Prelude.{slice_get}
use Rattle.grammar_terms.specs.declared.production.Production.{Production}
use Rattle.grammar_terms.specs.declared.shape.Shape.{Shape}
use Rattle.grammar_terms.specs.declared.word.Word.{Word}
use Rattle.grammar_terms.specs.declared.word.WordKind.{WordKind}
use Rattle.grammar_terms.specs.declared.word.WordKind.TheVariants.{Terminal as TerminalWord, Literal as LiteralWord, Variable as VariableWord, Wild, EmptyList}
use Rattle.grammar_terms.specs.Builtins.{with_builtins}
use Rattle.grammar_terms.specs.Grammar.{Syntax, production_at, is_list}
use Rattle.grammar_terms.specs.Reading.{is_leaf, IsListOf, Reads, reads_plain, reads_bracket, reads_list, reads_rest, reads_empty, Child, stands_leaf, stands_wild, stands_token, stands_reading, stands_nothing, stands_sequence}
use Rattle.grammar_terms.specs.Values.{sorts_in}
use Rattle.sorted_grammar.specs.Marks.{AreInside}
use Rattle.rule_terms.specs.declared.defs.Kind.TheVariants.{One as OneKind}
use Rattle.rule_terms.specs.declared.pattern.Pattern.{Pattern}
use Rattle.rule_contents.specs.Contents.{numbers_of, single, several, change, one_prods, with_content}
use Rattle.rule_drafts.specs.Bodies.{is_filled}
use Rattle.rule_parts.specs.declared.argument_sorts.Productions.{Productions}
use Rattle.rule_parts.specs.declared.leaves.Leaf.{Leaf as LeafToken}
use Rattle.rule_parts.specs.declared.parts.Part.{Part}
use Rattle.rule_parts.specs.declared.parts.Role.{Role}
use Rattle.rule_parts.specs.declared.parts.Role.TheVariants.{Item as ItemRole, Tail as TailRole, Entry as EntryRole, Rest as RestRole, Nothing, Inner as InnerRole, Splice, Whole as WholeRole, Made as MadeRole, Value, Changed, Becomes}
use Rattle.rule_parts.specs.declared.parts.Side.{Side as Stands}
use Rattle.rule_parts.specs.declared.parts.Side.TheVariants.{Both, Left, Right}
use Rattle.rule_parts.specs.declared.terms.Occurrence.{Occurrence}
use Rattle.rule_parts.specs.Parts.{role_of, parts_in, parts_by}
use Rattle.rule_parts.specs.Sides.{stands, what_items, of_side}
use Rattle.sound_patterns.proofs.PartLayers.{parts-Node}
use Rattle.sound_patterns.proofs.Parts.{Children, NoneNested}
use Rattle.sound_patterns.proofs.Grammars.{contents_known}
use Rattle.sound_kinds.proofs.BaseSorts.{IsBase, AreOwn}
use Rattle.sound_kinds.proofs.ValueShapes.{token_high}
use Rattle.sound_kinds.proofs.ValueWords.{IsGood, AreGood}
use Rattle.sound_kinds.proofs.ValuePatterns.{literal_no_map}
use Rattle.sound_kinds.proofs.ValueRoles.{item_want, made_want, IsLone, lone_paired}
use Rattle.sound_kinds.proofs.ValueReadings.{Known, content_at, paired_there, fits_high, parts_known}

-- the sort of a literal or a variable has a name
good_low : (n : ℕ) (kind : WordKind) (sort : ℕ) → 10 ≤ n → is_leaf kind ≡ true → IsGood n kind sort → sort < n
good_low n (TerminalWord text) sort some leaf is = absurd (let f : false ≡ true = leaf in cc)
good_low n (LiteralWord value) sort some leaf is = let less = literal_no_map value in omega (arith, some, is, less)
good_low n VariableWord sort some leaf is = is
good_low n Wild sort some leaf is = absurd (let f : false ≡ true = leaf in cc)
good_low n EmptyList sort some leaf is = absurd (let f : false ≡ true = leaf in cc)

module _ (base : Syntax) (inside : AreInside base) (whole : base.declared ≤ length base.prods) (own : AreOwn base.prods) (sort : ℕ) (sort_base : IsBase sort)
    (words : List Word) (good : AreGood (length base.names) words) (productions : Productions) (leaves : List LeafToken) (vars : List Occurrence) where
  abbrev n : ℕ
  n = length base.names

  abbrev g : Syntax
  g = with_builtins base

  abbrev content : Syntax
  content = with_content g (OneKind sort)

  one_sort : (own_sort other : ℕ) → OneKind own_sort ≡ OneKind other → own_sort ≡ other
  one_sort own_sort other e = cc

  pub named : (other : ℕ) → OneKind sort ≡ OneKind other → other < n
  named other e = let same = one_sort sort other e in let high = sort_base.high in let some = inside.some in omega (arith, same, high, some)

  pub items_base : (other : ℕ) → item_want (OneKind sort) ≡ Some other → IsBase other
  items_base other e = subst IsBase (let same : sort ≡ other = cc in same) sort_base

  pub made_base : (other : ℕ) → made_want (OneKind sort) ≡ Some other → IsBase other
  made_base other e = absurd (let f : None ≡ Some other = e in cc)

  -- on each side where a content stands it has an item
  abbrev pub HasItem : Stands → List (Part Shape) → Type 0
  HasItem on parts = NoneNested parts → (left : Bool) → stands left on ≡ true → is_filled (of_side left (what_items productions leaves vars sort) parts) ≡ true

  one_item : (b : Bool) (x : Pattern) → b ≡ true → is_filled (cond b (x ∷ []) [] ++ []) ≡ true
  one_item true x e = refl
  one_item false x e = e

  item_there : (on : Stands) (sorts : List ℕ) (shapes : List Shape) (P : ℕ → Shape → Type 0) → IsLone ItemRole sorts → Children P sorts shapes
      → HasItem on (parts_by (OneKind sort) (length g.prods) ItemRole on shapes)
  item_there on [] shapes P lone known = absurd lone
  item_there on (a ∷ []) [] P lone known = absurd known
  item_there on (a ∷ []) (x ∷ []) P lone known = λ none left here. one_item (stands left on) _ here
  item_there on (a ∷ []) (x ∷ y ∷ shapes) P lone known = absurd known.1
  item_there on (a ∷ b ∷ sorts) shapes P lone known = absurd lone

  both_sides : (x y : Shape) (left : Bool) → is_filled (of_side left (what_items productions leaves vars sort) (parts_by (OneKind sort) (length g.prods) Becomes Both (x ∷ x ∷ y ∷ []))) ≡ true
  both_sides x y true = refl
  both_sides x y false = refl

  change_there : (on : Stands) (x y z : Shape) → HasItem on (parts_by (OneKind sort) (length g.prods) Becomes on (x ∷ y ∷ z ∷ []))
  change_there Both x y z none left here = both_sides x z left
  change_there Left x y z none left here = absurd none.0
  change_there Right x y z none left here = absurd none.0

  becomes_there : (on : Stands) (sorts : List ℕ) (shapes : List Shape) (P : ℕ → Shape → Type 0) → IsLone Becomes sorts → Children P sorts shapes
      → HasItem on (parts_by (OneKind sort) (length g.prods) Becomes on shapes)
  becomes_there on [] shapes P lone known = absurd lone
  becomes_there on (a ∷ []) shapes P lone known = absurd lone
  becomes_there on (a ∷ b ∷ []) shapes P lone known = absurd lone
  becomes_there on (a ∷ b ∷ c ∷ []) [] P lone known = absurd known
  becomes_there on (a ∷ b ∷ c ∷ []) (x ∷ []) P lone known = absurd known.1
  becomes_there on (a ∷ b ∷ c ∷ []) (x ∷ y ∷ []) P lone known = absurd known.1.1
  becomes_there on (a ∷ b ∷ c ∷ []) (x ∷ y ∷ z ∷ []) P lone known = change_there on x y z
  becomes_there on (a ∷ b ∷ c ∷ []) (x ∷ y ∷ z ∷ w ∷ shapes) P lone known = absurd known.1.1.1
  becomes_there on (a ∷ b ∷ c ∷ d ∷ sorts) shapes P lone known = absurd lone

  lone_there : (role : Role) (on : Stands) (sorts : List ℕ) (shapes : List Shape) (P : ℕ → Shape → Type 0) → IsLone role sorts → Children P sorts shapes
      → HasItem on (parts_by (OneKind sort) (length g.prods) role on shapes)
  lone_there ItemRole on sorts shapes P lone known = item_there on sorts shapes P lone known
  lone_there Becomes on sorts shapes P lone known = becomes_there on sorts shapes P lone known
  lone_there TailRole on sorts shapes P lone known = absurd lone
  lone_there EntryRole on sorts shapes P lone known = absurd lone
  lone_there RestRole on sorts shapes P lone known = absurd lone
  lone_there Nothing on sorts shapes P lone known = absurd lone
  lone_there InnerRole on sorts shapes P lone known = absurd lone
  lone_there Splice on sorts shapes P lone known = absurd lone
  lone_there WholeRole on sorts shapes P lone known = absurd lone
  lone_there MadeRole on sorts shapes P lone known = absurd lone
  lone_there Value on sorts shapes P lone known = absurd lone
  lone_there Changed on sorts shapes P lone known = absurd lone

  -- ---- readings

  abbrev HasItemIn : Shape → Type 0
  HasItemIn shape = (on : Stands) → HasItem on (parts_in (OneKind sort) (length g.prods) on shape)

  same_production : (p : ℕ) (one other : Production) → production_at content.prods p ≡ Some one → production_at content.prods p ≡ Some other → one ≡ other
  same_production p one other first second = let e : Some one ≡ Some other = sym first ∙ second in cc

  lone_of : (p : ℕ) (production : Production) → production_at content.prods p ≡ Some production → n ≤ production.sort
      → IsLone (role_of (OneKind sort) (length g.prods) p) (sorts_in production.items)
  lone_of p production e high = paired_there base inside whole own (OneKind sort) named items_base made_base words IsLone (lone_paired g sort) p production e high

  one_plain : (i : ℕ) (production : Production) → slice_get (one_prods (numbers_of g) sort) i ≡ Some production → is_list production.form ≡ false
  one_plain zero production e = let same : single (numbers_of g) (numbers_of g).content sort ≡ production = cc in ap (λ (it : Production). is_list it.form) (sym same)
  one_plain (suc zero) production e =
      let same : several (numbers_of g) (numbers_of g).content (change sort sort) ≡ production = cc in ap (λ (it : Production). is_list it.form) (sym same)
  one_plain (suc (suc i)) production e = absurd (let f : None ≡ Some production = e in cc)

  abbrev IsAbove : ℕ → Type 0
  IsAbove p = (production : Production) → production_at content.prods p ≡ Some production → n ≤ production.sort

  no_list : (p element : ℕ) (separator : List ℕ) → IsListOf content.prods p element separator → IsAbove p → ⊥
  no_list p element separator of above =
      let at = content_at base inside whole own (OneKind sort) named items_base made_base words p of.production of.is (above of.production of.is) in
      let f : true ≡ false = sym (ap is_list of.form) ∙ one_plain at.0 of.production at.1 in cc

  reads_there : {p from past : ℕ} {shape : Shape} → Reads content words p from past shape → IsAbove p → HasItemIn shape
  reads_there (reads_plain p from past production shapes shape plain no_bracket parts is) above = λ on.
      subst (λ it. HasItem on (parts_in (OneKind sort) (length g.prods) on it)) (sym is)
      (subst (HasItem on) (sym (parts-Node (OneKind sort) (length g.prods) on p shapes))
      (lone_there (role_of (OneKind sort) (length g.prods) p) on (sorts_in production.items) shapes (Known base inside whole own (OneKind sort) named items_base made_base words)
      (lone_of p production plain.is (above production plain.is))
      (subst (λ items. Children (Known base inside whole own (OneKind sort) named items_base made_base words) (sorts_in items) shapes)
      (take_all (length production.items) production.items (omega arith)) (parts_known base inside whole own (OneKind sort) named items_base made_base words parts))))
  reads_there (reads_bracket p from past production shape plain bracket parts) above =
      let says = (contents_known base inside whole (OneKind sort) named p production plain.is (above production plain.is)).1 in
      absurd (let f : true ≡ false = sym bracket ∙ says.no_bracket in cc)
  reads_there (reads_list p from past element separator shapes shape of elements wild is) above = absurd (no_list p element separator of above)
  reads_there (reads_rest p from at next element separator first shapes shape of elements between rest is) above = absurd (no_list p element separator of above)
  reads_there (reads_empty p at element separator shape of empty is) above = absurd (no_list p element separator of above)

  -- a content of a single value has one where it stands
  pub child_there : {place : Option (ℕ × ℕ)} {at_sort from past : ℕ} {shape : Shape} → Child content words place at_sort from past shape → at_sort ≡ n + 2 → HasItemIn shape
  child_there (stands_leaf place at_sort at lower shape leaf fits is) high =
      let some = inside.some in
      let same : lower ≡ at_sort = fits_high base inside whole own (OneKind sort) named items_base made_base words lower at_sort fits (omega (arith, high)) in
      let low : leaf.0.sort < n = good_low n leaf.0.kind leaf.0.sort some leaf.2 (good at leaf.0 leaf.1) in
      let own_is : leaf.0.sort ≡ lower = leaf.3 in
      absurd (omega (arith, high, same, low, own_is))
  child_there (stands_wild place at_sort at shape wild low is) high = absurd (omega (arith, high, low))
  child_there (stands_token place at_sort at shape asked is) high = let more = token_high words at at_sort asked in let few = inside.few in absurd (omega (arith, more, high, few))
  child_there (stands_reading place at_sort from past p production shape reads at fits may takes) high =
      let same : production.sort ≡ at_sort = fits_high base inside whole own (OneKind sort) named items_base made_base words production.sort at_sort fits (omega (arith, high)) in
      reads_there reads (λ other is.
      let alike : other.sort ≡ production.sort = ap (λ (it : Production). it.sort) (same_production p other production is at) in omega (arith, alike, same, high))
  child_there (stands_nothing place at_sort at shape k empty is) high = absurd (omega (arith, high, k))
  child_there (stands_sequence place at_sort from at first second shapes shape k rules opens parts closes is) high = absurd (omega (arith, high, k))

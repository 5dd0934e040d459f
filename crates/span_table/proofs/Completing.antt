-- Each reading has its row in a full table, or two rows of its key stand there.
use Rattle.std.proofs.Common.{ℕ, ◌+◌, ◌≡◌, inl, inr, Bool, true, false, cond, List, [], ◌∷◌, ◌++◌, length, codes, Option, Some, None, slice_get, refl, sym, ap, ◌∙◌, subst, true≢false, eq-eqb}
use Rattle.std.proofs.lemmas.List.{append_cancel_left, append_cancel_right}
use Rattle.k_terms.specs.Sorts.{sort_k, sort_kitem}
use Rattle.production_reader.specs.declared.prod.Form.{Form}
use Rattle.production_reader.specs.declared.prod.Form.TheVariants.{Plain, Prefix, UserList}
use Rattle.grammar_terms.specs.declared.production.Part.{Part}
use Rattle.grammar_terms.specs.declared.production.Part.TheVariants.{Terminal, Sort}
use Rattle.grammar_terms.specs.declared.production.Production.{Production}
use Rattle.grammar_terms.specs.declared.shape.Shape.{Shape, Leaf, Node, Items}
use Rattle.grammar_terms.specs.declared.word.Word.{Word}
use Rattle.grammar_terms.specs.declared.word.WordKind.TheVariants.{Variable}
use Rattle.grammar_terms.specs.Grammar.{Syntax, production_at, is_list, step_from, lone_sort}
use Rattle.grammar_terms.specs.Reading.{Reads, reads_plain, reads_bracket, reads_list, reads_rest, reads_empty, Parts, no_item, terminal_item, sort_item, Elements, no_element, first_element, next_element, Child, stands_leaf, stands_wild, stands_token, stands_reading, stands_nothing, stands_sequence, Sequence as AreParts, one_part, next_part, Joins as IsPart, joins_item, joins_variable, IsForRules, IsPlain, IsListOf, IsBetween, IsTerminalAt, IsWordAt}
use Rattle.span_rows.specs.declared.row.Class.{Class}
use Rattle.span_rows.specs.declared.row.Class.TheVariants.{Other}
use Rattle.span_rows.specs.declared.row.Held.{Held}
use Rattle.span_rows.specs.declared.row.Held.TheVariants.{Nothing, One, More}
use Rattle.span_rows.specs.declared.row.Key.{Key}
use Rattle.span_rows.specs.declared.row.Key.TheVariants.{Front, Whole, Token, Wild, Place, Sequence}
use Rattle.span_rows.specs.declared.row.Row.{Row}
use Rattle.span_rows.specs.declared.sign.Sign.{Sign}
use Rattle.span_rows.specs.declared.sign.Sign.TheVariants.{Open, Leaf as LeafSign, Node as NodeSign, Items as ItemsSign, ItemsAnd}
use Rattle.span_table.specs.Codes.{code_of, codes_of}
use Rattle.span_rows.specs.Steps.{class_in, held_of, held_with, is_nothing, class_of, list_of, part_sort, part_text, sort_by, sort_wanted, text_by, text_wanted, count_by, count_after, count_in_list, list_class, class_by, whole_class, plain_code, code_by, whole_code, is_read_by, is_read, is_none, is_some}
use Rattle.span_rows.specs.Rows.{row, Kept, Stands, key_class}
use Rattle.span_table.specs.Table.{IsFullTable}
use Rattle.span_rows.proofs.Adding.{kept_step}
use Rattle.span_table.proofs.Finishing.{plain_count}
use Rattle.span_table.proofs.Coding.{code_of-Leaf, code_of-Node, code_of-Items, class_in-Node, class_in-nothing, class_in-several, class_in-rest, leaf_class, variable_class, wild_class, asked_class, takes_is, list_held, codes_of-one, codes_of-more}
use Rattle.span_table.proofs.Sounding.{held_of-more}

-- ---- codes are told apart

rest_of : List Sign → List Sign
rest_of [] = []
rest_of (sign ∷ signs) = signs

enclosed_apart : (end : Sign) (x y : List Sign) → Open ∷ x ++ end ∷ [] ≡ Open ∷ y ++ end ∷ [] → x ≡ y
unfolding rest_of
enclosed_apart end x y same = append_cancel_right x y (end ∷ []) (ap rest_of same)

plain_apart : (p : ℕ) (bracket : Bool) (x y : List Sign) → cond bracket x (Open ∷ x ++ NodeSign p ∷ []) ≡ cond bracket y (Open ∷ y ++ NodeSign p ∷ []) → x ≡ y
plain_apart p true x y same = same
plain_apart p false x y same = enclosed_apart (NodeSign p) x y same

code_apart : (form : Form) (p : ℕ) (production : Production) (x y : List Sign) → code_by form p production x ≡ code_by form p production y → x ≡ y
code_apart Plain p production x y same = plain_apart p production.attrs.bracket x y same
code_apart (Prefix word) p production x y same = plain_apart p production.attrs.bracket x y same
code_apart (UserList separator) p production x y same = enclosed_apart (ItemsSign p) x y same

-- ---- what a production is

plain_class_is : (form : Form) (production : Production) (held : Held) → is_list form ≡ false
    → class_by form production (length production.items) held ≡ cond production.attrs.bracket (class_of held) (Some Other)
plain_class_is Plain production held nl = ap (λ b. cond b (cond production.attrs.bracket (class_of held) (Some Other)) None) (eq-eqb (length production.items) (length production.items) refl)
plain_class_is (Prefix word) production held nl = ap (λ b. cond b (cond production.attrs.bracket (class_of held) (Some Other)) None) (eq-eqb (length production.items) (length production.items) refl)
plain_class_is (UserList separator) production held nl = absurd (true≢false nl)

plain_code_is : (form : Form) (p : ℕ) (production : Production) (code : List Sign) → is_list form ≡ false → code_by form p production code ≡ plain_code p production code
plain_code_is Plain p production code nl = refl
plain_code_is (Prefix word) p production code nl = refl
plain_code_is (UserList separator) p production code nl = absurd (true≢false nl)

plain_read : (form : Form) (production : Production) → is_list form ≡ false → step_from production ≡ None → is_read_by form production ≡ true
plain_read Plain production nl step = ap is_none step
plain_read (Prefix word) production nl step = ap is_none step
plain_read (UserList separator) production nl step = absurd (true≢false nl)

sort_of_plain : (form : Form) (items : List Part) (count sort : ℕ) → is_list form ≡ false → slice_get items count ≡ Some (Sort sort) → sort_by form items count ≡ Some sort
sort_of_plain Plain items count sort nl is = ap part_sort is
sort_of_plain (Prefix word) items count sort nl is = ap part_sort is
sort_of_plain (UserList separator) items count sort nl is = absurd (true≢false nl)

text_of_plain : (form : Form) (items : List Part) (count : ℕ) (text : List ℕ) → is_list form ≡ false → slice_get items count ≡ Some (Terminal text) → text_by form items count ≡ Some text
text_of_plain Plain items count text nl is = ap part_text is
text_of_plain (Prefix word) items count text nl is = ap part_text is
text_of_plain (UserList separator) items count text nl is = absurd (true≢false nl)

-- how many items of a list production were read last
list_count : List ℕ → List Shape → ℕ
list_count separator [] = 0
list_count separator (shape ∷ shapes) = count_in_list separator 0

list_class_is : (words : List Word) (separator : List ℕ) (shapes : List Shape) → list_class separator (list_count separator shapes) (held_of words shapes) ≡ list_of (held_of words shapes)
unfolding list_count
list_class_is words [] shapes = refl
list_class_is words (byte ∷ bytes) [] = refl
list_class_is words (byte ∷ bytes) (one ∷ []) = refl
list_class_is words (byte ∷ bytes) (one ∷ two ∷ shapes) = refl

some_held : (words : List Word) (first : Shape) (shapes : List Shape) → is_nothing (held_of words (first ∷ shapes)) ≡ false
some_held words first [] = refl
some_held words first (second ∷ shapes) = refl

same_kept : (rows : List Row) (key next : Key) (code then : List Sign) → key ≡ next → code ≡ then → Kept rows (row key code) → Kept rows (row next then)
same_kept rows key next code then same also kept = subst (λ k. Kept rows (row k then)) same (subst (λ c. Kept rows (row key c)) also kept)

module _ (g : Syntax) (words : List Word) (rows : ℕ → ℕ → List Row) (full : IsFullTable g words rows) where
  -- a row that is kept tells of the shape, and may stand at the place
  pub record IsKeptChild (place : Option (ℕ × ℕ)) (sort from past : ℕ) (shape : Shape) : Type 0 where
    pub key : Key
    pub stands : Stands g place sort key
    pub class_is : key_class key ≡ class_in words shape
    pub kept : Kept (rows from past) (row key (code_of shape))

  kept_extended : (from at past p count : ℕ) (held : Held) (production : Production) (sort : ℕ) (key : Key) (code back : List Sign) → production_at g.prods p ≡ Some production
      → sort_wanted production count ≡ Some sort → Stands g (Some (p, count)) sort key → Kept (rows from at) (row (Front p count held) code) → Kept (rows at past) (row key back)
      → Kept (rows from past) (row (Front p (count_after production count) (held_with held (key_class key))) (code ++ back))
  kept_extended from at past p count held production sort key code back is_there wanted stands kept also =
      let next = Front p (count_after production count) (held_with held (key_class key)) in
      kept_step (rows from at) (rows from past) (Front p count held) next (λ c. c ++ back) (λ x y same. append_cancel_right x y back same)
      (λ c has. kept_step (rows at past) (rows from past) key next (λ d. c ++ d) (λ x y same. append_cancel_left c x y same)
      (λ d has_child. full.extended from at past (row (Front p count held) c) (row key d) (row next (c ++ d)) has has_child (inl (record {
        p = p;
        count = count;
        held = held;
        production = production;
        sort = sort;
        front_is = refl;
        is_there = is_there;
        wanted = wanted;
        stands = stands;
        is = refl;
      })))
      back also)
      code kept

  -- a front with a shape that stands at its next item
  kept_child : (from at past p count : ℕ) (production : Production) (sort : ℕ) (shapes : List Shape) (shape : Shape) → production_at g.prods p ≡ Some production
      → sort_wanted production count ≡ Some sort → Kept (rows from at) (row (Front p count (held_of words shapes)) (codes_of shapes)) → IsKeptChild (Some (p, count)) sort at past shape
      → Kept (rows from past) (row (Front p (count_after production count) (held_of words (shapes ++ shape ∷ []))) (codes_of (shapes ++ shape ∷ [])))
  kept_child from at past p count production sort shapes shape is_there wanted kept child =
      same_kept (rows from past) (Front p (count_after production count) (held_with (held_of words shapes) (key_class child.key))) (Front p (count_after production count) (held_of words (shapes ++ shape ∷ [])))
      (codes_of shapes ++ code_of shape) (codes_of (shapes ++ shape ∷ []))
      (ap (Front p (count_after production count)) (ap (held_with (held_of words shapes)) child.class_is ∙ held_of-more words shapes shape)) (sym (codes_of-more shapes shape))
      (kept_extended from at past p count (held_of words shapes) production sort child.key (codes_of shapes) (code_of shape) is_there wanted child.stands kept child.kept)

  kept_passed : (from at p count : ℕ) (held : Held) (production : Production) (text : List ℕ) (code : List Sign) → production_at g.prods p ≡ Some production
      → text_wanted production count ≡ Some text → IsTerminalAt words at text → Kept (rows from at) (row (Front p count held) code)
      → Kept (rows from (at + 1)) (row (Front p (count_after production count) held) code)
  kept_passed from at p count held production text code is_there wanted stands kept =
      kept_step (rows from at) (rows from (at + 1)) (Front p count held) (Front p (count_after production count) held) (λ c. c) (λ x y same. same)
      (λ c has. full.passed from at (row (Front p count held) c) (row (Front p (count_after production count) held) c) has (inl (record {
        p = p;
        count = count;
        held = held;
        production = production;
        text = text;
        front_is = refl;
        is_there = is_there;
        wanted = wanted;
        stands = stands;
        is = refl;
      })))
      code kept

  kept_finished : (from past p count : ℕ) (held : Held) (production : Production) (class : Class) (code : List Sign) → production_at g.prods p ≡ Some production
      → whole_class production count held ≡ Some class → Kept (rows from past) (row (Front p count held) code) → Kept (rows from past) (row (Whole p class) (whole_code p production code))
  kept_finished from past p count held production class code is_there ends kept =
      kept_step (rows from past) (rows from past) (Front p count held) (Whole p class) (whole_code p production) (code_apart production.form p production)
      (λ c has. full.finished from past (row (Front p count held) c) (row (Whole p class) (whole_code p production c)) has (record {
        p = p;
        count = count;
        held = held;
        production = production;
        class = class;
        front_is = refl;
        is_there = is_there;
        ends = ends;
        is = refl;
      }))
      code kept

  kept_seed : (at p : ℕ) (production : Production) → production_at g.prods p ≡ Some production → is_read production ≡ true → Kept (rows at at) (row (Front p 0 Nothing) [])
  kept_seed at p production is_there read = full.seeds at (row (Front p 0 Nothing) []) (record { p = p; production = production; is_there = is_there; makes = record { is_read = read; is = refl } })

  -- a list of which an element or a separator may come next, behind the separator
  kept_between : (from at next p : ℕ) (held : Held) (production : Production) (separator : List ℕ) (code : List Sign) → production_at g.prods p ≡ Some production
      → production.form ≡ UserList separator → IsBetween words separator at next → Kept (rows from at) (row (Front p (count_in_list separator 0) held) code)
      → Kept (rows from next) (row (Front p 0 held) code)
  kept_between from at next p held production [] code is_there form between kept = subst (λ m. Kept (rows from m) (row (Front p 0 held) code)) (sym between) kept
  kept_between from at next p held production (byte ∷ bytes) code is_there form between kept =
      subst (λ m. Kept (rows from m) (row (Front p 0 held) code)) (sym between.1)
      (subst (λ n. Kept (rows from (at + 1)) (row (Front p n held) code)) (ap (λ f. count_by f 1) form)
      (kept_passed from at p 1 held production (byte ∷ bytes) code is_there (ap (λ f. text_by f production.items 1) form) between.0 kept))

  list_read : (production : Production) (separator : List ℕ) (sort : ℕ) → production.form ≡ UserList separator → production.items ≡ Sort sort ∷ [] → is_read production ≡ true
  list_read production separator sort form element = (λ i. is_read_by (form i) production) ∙ ap (λ items. is_some (lone_sort items)) element

  -- behind elements and the separator a rest
  kept_rest : (from at p : ℕ) (held : Held) (production : Production) (separator : List ℕ) (code : List Sign) → production_at g.prods p ≡ Some production
      → production.form ≡ UserList separator → is_nothing held ≡ false → IsWordAt words at Variable production.sort → Kept (rows from at) (row (Front p 0 held) code)
      → Kept (rows from (at + 1)) (row (Whole p Other) (Open ∷ code ++ ItemsAnd p at ∷ []))
  kept_rest from at p held production separator code is_there form some word kept =
      kept_step (rows from at) (rows from (at + 1)) (Front p 0 held) (Whole p Other) (λ c. Open ∷ c ++ ItemsAnd p at ∷ []) (enclosed_apart (ItemsAnd p at))
      (λ c has. full.passed from at (row (Front p 0 held) c) (row (Whole p Other) (Open ∷ c ++ ItemsAnd p at ∷ [])) has (inr (inl (record {
        p = p;
        held = held;
        production = production;
        separator = separator;
        front_is = refl;
        some = some;
        is_there = is_there;
        form = form;
        word = word;
        is = refl;
      }))))
      code kept

  -- ---- sequences

  kept_opened : (at : ℕ) → IsForRules g → IsTerminalAt words at (codes "(") → Kept (rows at (at + 1)) (row (Front 0 0 Nothing) [])
  kept_opened at rules opens = full.tokens at (row (Front 0 0 Nothing) []) (inr (inr (inr (inr (inl (record { rules = rules; stands = opens; is = refl }))))))

  kept_arrow : (from at : ℕ) (held : Held) (code : List Sign) → IsTerminalAt words at (codes "~>") → Kept (rows from at) (row (Front 0 1 held) code)
      → Kept (rows from (at + 1)) (row (Front 0 0 held) code)
  kept_arrow from at held code arrow kept =
      kept_step (rows from at) (rows from (at + 1)) (Front 0 1 held) (Front 0 0 held) (λ c. c) (λ x y same. same)
      (λ c has. full.passed from at (row (Front 0 1 held) c) (row (Front 0 0 held) c) has (inr (inr (inl (record { held = held; front_is = refl; stands = arrow; is = refl })))))
      code kept

  kept_closed : (from at : ℕ) (code : List Sign) → IsTerminalAt words at (codes ")") → Kept (rows from at) (row (Front 0 1 More) code)
      → Kept (rows from (at + 1)) (row Sequence (Open ∷ code ++ ItemsSign 0 ∷ []))
  kept_closed from at code closes kept =
      kept_step (rows from at) (rows from (at + 1)) (Front 0 1 More) Sequence (λ c. Open ∷ c ++ ItemsSign 0 ∷ []) (enclosed_apart (ItemsSign 0))
      (λ c has. full.passed from at (row (Front 0 1 More) c) (row Sequence (Open ∷ c ++ ItemsSign 0 ∷ [])) has (inr (inr (inr (inl (record { front_is = refl; stands = closes; is = refl }))))))
      code kept

  kept_joined : (from at past : ℕ) (held : Held) (key : Key) (code back : List Sign) → Stands g None sort_kitem key → Kept (rows from at) (row (Front 0 0 held) code)
      → Kept (rows at past) (row key back) → Kept (rows from past) (row (Front 0 1 (held_with held (key_class key))) (code ++ back))
  kept_joined from at past held key code back stands kept also =
      let next = Front 0 1 (held_with held (key_class key)) in
      kept_step (rows from at) (rows from past) (Front 0 0 held) next (λ c. c ++ back) (λ x y same. append_cancel_right x y back same)
      (λ c has. kept_step (rows at past) (rows from past) key next (λ d. c ++ d) (λ x y same. append_cancel_left c x y same)
      (λ d has_child. full.extended from at past (row (Front 0 0 held) c) (row key d) (row next (c ++ d)) has has_child (inr (record { held = held; front_is = refl; stands = stands; is = refl })))
      back also)
      code kept

  -- an item as the next part
  kept_part : (from at past : ℕ) (shapes : List Shape) (shape : Shape) → Kept (rows from at) (row (Front 0 0 (held_of words shapes)) (codes_of shapes))
      → IsKeptChild None sort_kitem at past shape → Kept (rows from past) (row (Front 0 1 (held_of words (shapes ++ shape ∷ []))) (codes_of (shapes ++ shape ∷ [])))
  kept_part from at past shapes shape kept child =
      same_kept (rows from past) (Front 0 1 (held_with (held_of words shapes) (key_class child.key))) (Front 0 1 (held_of words (shapes ++ shape ∷ [])))
      (codes_of shapes ++ code_of shape) (codes_of (shapes ++ shape ∷ []))
      (ap (Front 0 1) (ap (held_with (held_of words shapes)) child.class_is ∙ held_of-more words shapes shape)) (sym (codes_of-more shapes shape))
      (kept_joined from at past (held_of words shapes) child.key (codes_of shapes) (code_of shape) child.stands kept child.kept)

  -- a variable of sort K as the next part
  kept_bound : (from at : ℕ) (shapes : List Shape) (shape : Shape) → Kept (rows from at) (row (Front 0 0 (held_of words shapes)) (codes_of shapes))
      → IsWordAt words at Variable sort_k → shape ≡ Leaf at → Kept (rows from (at + 1)) (row (Front 0 1 (held_of words (shapes ++ shape ∷ []))) (codes_of (shapes ++ shape ∷ [])))
  kept_bound from at shapes shape kept word is =
      let held = held_of words shapes in
      let next = Front 0 1 (held_with held Other) in
      same_kept (rows from (at + 1)) next (Front 0 1 (held_of words (shapes ++ shape ∷ []))) (codes_of shapes ++ LeafSign at ∷ []) (codes_of (shapes ++ shape ∷ []))
      (ap (Front 0 1) (ap (held_with held) (sym (variable_class words at sort_k word) ∙ ap (class_in words) (sym is)) ∙ held_of-more words shapes shape))
      (ap (λ code. codes_of shapes ++ code) (sym (code_of-Leaf at) ∙ ap code_of (sym is)) ∙ sym (codes_of-more shapes shape))
      (kept_step (rows from at) (rows from (at + 1)) (Front 0 0 held) next (λ c. c ++ LeafSign at ∷ []) (λ x y same. append_cancel_right x y (LeafSign at ∷ []) same)
      (λ c has. full.passed from at (row (Front 0 0 held) c) (row next (c ++ LeafSign at ∷ [])) has (inr (inr (inr (inr (record { held = held; front_is = refl; word = word; is = refl }))))))
      (codes_of shapes) kept)

  mutual
    unfolding list_count

    -- what a production reads has its row
    pub reads_kept : (p from past : ℕ) (shape : Shape) → Reads g words p from past shape → Kept (rows from past) (row (Whole p (class_in words shape)) (code_of shape))
    reads_kept _ _ _ _ (reads_plain p from past production shapes shape plain bracket parts is) =
        subst (λ v. Kept (rows from past) (row (Whole p (class_in words v)) (code_of v))) (sym is)
        (same_kept (rows from past) (Whole p Other) (Whole p (class_in words (Node p shapes))) (whole_code p production (codes_of shapes)) (code_of (Node p shapes))
        (ap (Whole p) (sym (class_in-Node words p shapes)))
        (plain_code_is production.form p production (codes_of shapes) plain.no_list ∙ ap (λ b. cond b (codes_of shapes) (Open ∷ codes_of shapes ++ NodeSign p ∷ [])) bracket ∙ sym (code_of-Node p shapes))
        (kept_finished from past p (length production.items) (held_of words shapes) production Other (codes_of shapes) plain.is
        (plain_class_is production.form production (held_of words shapes) plain.no_list ∙ ap (λ b. cond b (class_of (held_of words shapes)) (Some Other)) bracket)
        (parts_kept p production (length production.items) from past shapes plain parts)))
    reads_kept _ _ _ _ (reads_bracket p from past production shape plain bracket parts) =
        same_kept (rows from past) (Whole p (class_in words shape)) (Whole p (class_in words shape)) (whole_code p production (codes_of (shape ∷ []))) (code_of shape) refl
        (plain_code_is production.form p production (codes_of (shape ∷ [])) plain.no_list
        ∙ ap (λ b. cond b (codes_of (shape ∷ [])) (Open ∷ codes_of (shape ∷ []) ++ NodeSign p ∷ [])) bracket ∙ codes_of-one shape)
        (kept_finished from past p (length production.items) (One (class_in words shape)) production (class_in words shape) (codes_of (shape ∷ [])) plain.is
        (plain_class_is production.form production (One (class_in words shape)) plain.no_list ∙ ap (λ b. cond b (Some (class_in words shape)) (Some Other)) bracket)
        (parts_kept p production (length production.items) from past (shape ∷ []) plain parts))
    reads_kept _ _ _ _ (reads_list p from past element separator shapes shape list elements alone is) =
        let class = class_in words (Items p shapes None) in
        subst (λ v. Kept (rows from past) (row (Whole p (class_in words v)) (code_of v))) (sym is)
        (same_kept (rows from past) (Whole p class) (Whole p class) (whole_code p list.production (codes_of shapes)) (code_of (Items p shapes None)) refl
        (ap (λ f. code_by f p list.production (codes_of shapes)) list.form ∙ sym (code_of-Items p shapes None))
        (kept_finished from past p (list_count separator shapes) (held_of words shapes) list.production class (codes_of shapes) list.is
        (ap (λ f. class_by f list.production (list_count separator shapes) (held_of words shapes)) list.form ∙ list_class_is words separator shapes ∙ list_held words p shapes alone)
        (elements_kept p element separator from past shapes list elements)))
    reads_kept _ _ _ _ (reads_rest p from at next element separator first shapes shape list elements between word is) =
        let all = Items p (first ∷ shapes) (Some next) in
        subst (λ v. Kept (rows from (next + 1)) (row (Whole p (class_in words v)) (code_of v))) (sym is)
        (same_kept (rows from (next + 1)) (Whole p Other) (Whole p (class_in words all)) (Open ∷ codes_of (first ∷ shapes) ++ ItemsAnd p next ∷ []) (code_of all)
        (ap (Whole p) (sym (class_in-rest words p (first ∷ shapes) next))) (sym (code_of-Items p (first ∷ shapes) (Some next)))
        (kept_rest from next p (held_of words (first ∷ shapes)) list.production separator (codes_of (first ∷ shapes)) list.is list.form (some_held words first shapes) word
        (kept_between from at next p (held_of words (first ∷ shapes)) list.production separator (codes_of (first ∷ shapes)) list.is list.form between
        (elements_kept p element separator from at (first ∷ shapes) list elements))))
    reads_kept _ _ _ _ (reads_empty p at element separator shape list word is) =
        subst (λ v. Kept (rows at (at + 1)) (row (Whole p (class_in words v)) (code_of v))) (sym is)
        (same_kept (rows at (at + 1)) (Whole p Other) (Whole p (class_in words (Items p [] None))) (Open ∷ ItemsSign p ∷ []) (code_of (Items p [] None))
        (ap (Whole p) (sym (class_in-nothing words p))) (sym (code_of-Items p [] None))
        (full.tokens at (row (Whole p Other) (Open ∷ ItemsSign p ∷ []))
        (inr (inr (inl (record {
          p = p;
          production = list.production;
          is_there = list.is;
          makes = record { separator = separator; form = list.form; is_read = list_read list.production separator element list.form list.element; word = word; is = refl };
        }))))))

    parts_kept : (p : ℕ) (production : Production) (count from past : ℕ) (shapes : List Shape) → IsPlain g.prods p production → Parts g words p production count from past shapes
        → Kept (rows from past) (row (Front p count (held_of words shapes)) (codes_of shapes))
    parts_kept _ _ _ _ _ _ plain (no_item p production from) = kept_seed from p production plain.is (plain_read production.form production plain.no_list plain.no_step)
    parts_kept _ _ _ _ _ _ plain (terminal_item p production count from at shapes text parts item stands) =
        subst (λ n. Kept (rows from (at + 1)) (row (Front p n (held_of words shapes)) (codes_of shapes))) (plain_count production.form count plain.no_list)
        (kept_passed from at p count (held_of words shapes) production text (codes_of shapes) plain.is (text_of_plain production.form production.items count text plain.no_list item) stands
        (parts_kept p production count from at shapes plain parts))
    parts_kept _ _ _ _ _ _ plain (sort_item p production count from at past shapes sort shape parts item child) =
        subst (λ n. Kept (rows from past) (row (Front p n (held_of words (shapes ++ shape ∷ []))) (codes_of (shapes ++ shape ∷ [])))) (plain_count production.form count plain.no_list)
        (kept_child from at past p count production sort shapes shape plain.is (sort_of_plain production.form production.items count sort plain.no_list item)
        (parts_kept p production count from at shapes plain parts) (child_kept (Some (p, count)) sort at past shape child))

    elements_kept : (p sort : ℕ) (separator : List ℕ) (from past : ℕ) (shapes : List Shape) → IsListOf g.prods p sort separator → Elements g words p sort separator from past shapes
        → Kept (rows from past) (row (Front p (list_count separator shapes) (held_of words shapes)) (codes_of shapes))
    elements_kept _ _ _ _ _ _ list (no_element p sort separator from) =
        kept_seed from p list.production list.is (list_read list.production separator sort list.form list.element)
    elements_kept _ _ _ _ _ _ list (first_element p sort separator from past shape child) =
        subst (λ n. Kept (rows from past) (row (Front p n (held_of words (shape ∷ []))) (codes_of (shape ∷ [])))) (ap (λ f. count_by f 0) list.form)
        (kept_child from from past p 0 list.production sort [] shape list.is ((λ i. sort_by (list.form i) list.production.items 0) ∙ ap lone_sort list.element)
        (kept_seed from p list.production list.is (list_read list.production separator sort list.form list.element))
        (child_kept (Some (p, 0)) sort from past shape child))
    elements_kept _ _ _ _ _ _ list (next_element p sort separator from at next past first shapes shape elements between child) =
        subst (λ n. Kept (rows from past) (row (Front p n (held_of words ((first ∷ shapes) ++ shape ∷ []))) (codes_of ((first ∷ shapes) ++ shape ∷ [])))) (ap (λ f. count_by f 0) list.form)
        (kept_child from next past p 0 list.production sort (first ∷ shapes) shape list.is ((λ i. sort_by (list.form i) list.production.items 0) ∙ ap lone_sort list.element)
        (kept_between from at next p (held_of words (first ∷ shapes)) list.production separator (codes_of (first ∷ shapes)) list.is list.form between
        (elements_kept p sort separator from at (first ∷ shapes) list elements))
        (child_kept (Some (p, 0)) sort next past shape child))

    pub child_kept : (place : Option (ℕ × ℕ)) (sort from past : ℕ) (shape : Shape) → Child g words place sort from past shape → IsKeptChild place sort from past shape
    child_kept _ _ _ _ _ (stands_leaf place sort at own shape leaf fits is) = record {
      key = Token own;
      stands = fits;
      class_is = sym (leaf_class words at own leaf) ∙ ap (class_in words) (sym is);
      kept = same_kept (rows at (at + 1)) (Token own) (Token own) (LeafSign at ∷ []) (code_of shape) refl (sym (code_of-Leaf at) ∙ ap code_of (sym is))
          (full.tokens at (row (Token own) (LeafSign at ∷ [])) (inl (record { own = own; leaf = leaf; is = refl })));
    }
    child_kept _ _ _ _ _ (stands_wild place sort at shape wild named is) = record {
      key = Wild;
      stands = named;
      class_is = sym (wild_class words at wild) ∙ ap (class_in words) (sym is);
      kept = same_kept (rows at (at + 1)) Wild Wild (LeafSign at ∷ []) (code_of shape) refl (sym (code_of-Leaf at) ∙ ap code_of (sym is))
          (full.tokens at (row Wild (LeafSign at ∷ [])) (inr (inl (record { wild = wild; is = refl }))));
    }
    child_kept _ _ _ _ _ (stands_token place sort at shape asked is) = record {
      key = Place sort;
      stands = refl;
      class_is = sym (asked_class words at sort asked) ∙ ap (class_in words) (sym is);
      kept = same_kept (rows at (at + 1)) (Place sort) (Place sort) (LeafSign at ∷ []) (code_of shape) refl (sym (code_of-Leaf at) ∙ ap code_of (sym is))
          (full.tokens at (row (Place sort) (LeafSign at ∷ [])) (inr (inr (inr (inr (inr (record { number = sort; asked = asked; is = refl })))))));
    }
    child_kept _ _ _ _ _ (stands_reading place sort from past p production shape reads is_there fits permitted taken) = record {
      key = Whole p (class_in words shape);
      stands = record { production = production; is_there = is_there; fits = fits; permitted = permitted; taken = sym (takes_is words sort shape) ∙ taken };
      class_is = refl;
      kept = reads_kept p from past shape reads;
    }
    child_kept _ _ _ _ _ (stands_nothing place sort at shape k word is) = record {
      key = Sequence;
      stands = k;
      class_is = sym (class_in-nothing words 0) ∙ ap (class_in words) (sym is);
      kept = same_kept (rows at (at + 1)) Sequence Sequence (Open ∷ ItemsSign 0 ∷ []) (code_of shape) refl (sym (code_of-Items 0 [] None) ∙ ap code_of (sym is))
          (full.tokens at (row Sequence (Open ∷ ItemsSign 0 ∷ [])) (inr (inr (inr (inl (record { word = word; is = refl }))))));
    }
    child_kept _ _ _ _ _ (stands_sequence place sort from at first second shapes shape k rules opens parts closes is) = record {
      key = Sequence;
      stands = k;
      class_is = sym (class_in-several words 0 first second shapes) ∙ ap (class_in words) (sym is);
      kept = same_kept (rows from (at + 1)) Sequence Sequence (Open ∷ codes_of (first ∷ second ∷ shapes) ++ ItemsSign 0 ∷ []) (code_of shape) refl
          (sym (code_of-Items 0 (first ∷ second ∷ shapes) None) ∙ ap code_of (sym is))
          (kept_closed from at (codes_of (first ∷ second ∷ shapes)) closes (sequence_kept from (from + 1) at (first ∷ second ∷ shapes) (kept_opened from rules opens) parts));
    }

    -- parts of a sequence, behind what opens it
    sequence_kept : (from begin past : ℕ) (shapes : List Shape) → Kept (rows from begin) (row (Front 0 0 Nothing) []) → AreParts g words begin past shapes
        → Kept (rows from past) (row (Front 0 1 (held_of words shapes)) (codes_of shapes))
    sequence_kept from _ _ _ opened (one_part begin past shape part) = part_kept from begin past [] shape opened part
    sequence_kept from _ _ _ opened (next_part begin at past shapes shape parts arrow part) =
        part_kept from (at + 1) past shapes shape (kept_arrow from at (held_of words shapes) (codes_of shapes) arrow (sequence_kept from begin at shapes opened parts)) part

    part_kept : (from at past : ℕ) (shapes : List Shape) (shape : Shape) → Kept (rows from at) (row (Front 0 0 (held_of words shapes)) (codes_of shapes)) → IsPart g words at past shape
        → Kept (rows from past) (row (Front 0 1 (held_of words (shapes ++ shape ∷ []))) (codes_of (shapes ++ shape ∷ [])))
    part_kept from _ _ shapes _ kept (joins_item at past shape child) = kept_part from at past shapes shape kept (child_kept None sort_kitem at past shape child)
    part_kept from _ _ shapes _ kept (joins_variable at shape word is) = kept_bound from at shapes shape kept word is

-- What all items of a production read, one by one, the production reads.
use Rattle.std.proofs.Common.{ℕ, ◌+◌, ◌≡◌, ◌⊎◌, inl, inr, Bool, true, false, cond, List, [], ◌∷◌, ◌++◌, length, Option, Some, None, slice_get, refl, sym, ap, ◌∙◌, subst, true≢false, eqb-true}
use Rattle.std.specs.Prelude.{◌==◌}
use Rattle.production_reader.specs.declared.prod.Form.{Form}
use Rattle.production_reader.specs.declared.prod.Form.TheVariants.{Plain, Prefix, UserList}
use Rattle.grammar_terms.specs.declared.production.Part.{Part}
use Rattle.grammar_terms.specs.declared.production.Part.TheVariants.{Terminal, Sort}
use Rattle.grammar_terms.specs.declared.production.Production.{Production}
use Rattle.grammar_terms.specs.declared.shape.Shape.{Shape, Node, Items}
use Rattle.grammar_terms.specs.declared.word.Word.{Word}
use Rattle.grammar_terms.specs.declared.word.WordKind.TheVariants.{Variable, EmptyList}
use Rattle.grammar_terms.specs.Grammar.{Syntax, production_at, is_list, step_from, lone_sort}
use Rattle.grammar_terms.specs.Reading.{reads_plain, reads_bracket, reads_list, reads_rest, reads_empty, Parts, no_item, terminal_item, sort_item, Elements, no_element, first_element, next_element, Child, IsPlain, IsBetween, IsTerminalAt, IsWordAt}
use Rattle.span_rows.specs.declared.row.Class.{Class}
use Rattle.span_rows.specs.declared.row.Class.TheVariants.{Other}
use Rattle.span_rows.specs.declared.sign.Sign.TheVariants.{Open, Node as NodeSign, Items as ItemsSign, ItemsAnd}
use Rattle.span_table.specs.Codes.{codes_of}
use Rattle.span_rows.specs.Steps.{class_in, held_of, is_nothing, class_of, list_of, part_sort, part_text, sort_by, text_by, separator_wanted, count_by, count_in_list, list_class, plain_class, class_by, whole_class, plain_code, code_by, whole_code, is_read_by, is_read, is_none, is_some}
use Rattle.span_table.specs.Meaning.{Goes, begins, passes, extends, IsWholeRow}
use Rattle.span_table.proofs.Coding.{code_of-Node, code_of-Items, class_in-Node, class_in-nothing, class_in-rest, list_tells, codes_of-one}

some_same : {X : Type 0} (x y : X) → Some x ≡ Some y → x ≡ y
some_same x y same = cc

none_some : {X : Type 0} (x : X) → None ≡ Some x → ⊥
none_some x same = cc

-- ---- items in order

part_sort_tells : (part : Option Part) (sort : ℕ) → part_sort part ≡ Some sort → part ≡ Some (Sort sort)
part_sort_tells None sort is = absurd (none_some sort is)
part_sort_tells (Some (Terminal text)) sort is = absurd (none_some sort is)
part_sort_tells (Some (Sort other)) sort is = ap (λ s. Some (Sort s)) (some_same other sort is)

part_text_tells : (part : Option Part) (text : List ℕ) → part_text part ≡ Some text → part ≡ Some (Terminal text)
part_text_tells None text is = absurd (none_some text is)
part_text_tells (Some (Terminal other)) text is = ap (λ t. Some (Terminal t)) (some_same other text is)
part_text_tells (Some (Sort sort)) text is = absurd (none_some text is)

plain_sort : (form : Form) (items : List Part) (count sort : ℕ) → is_list form ≡ false → sort_by form items count ≡ Some sort → slice_get items count ≡ Some (Sort sort)
plain_sort Plain items count sort nl is = part_sort_tells (slice_get items count) sort is
plain_sort (Prefix word) items count sort nl is = part_sort_tells (slice_get items count) sort is
plain_sort (UserList separator) items count sort nl is = absurd (true≢false nl)

plain_text : (form : Form) (items : List Part) (count : ℕ) (text : List ℕ) → is_list form ≡ false → text_by form items count ≡ Some text → slice_get items count ≡ Some (Terminal text)
plain_text Plain items count text nl is = part_text_tells (slice_get items count) text is
plain_text (Prefix word) items count text nl is = part_text_tells (slice_get items count) text is
plain_text (UserList separator) items count text nl is = absurd (true≢false nl)

pub plain_count : (form : Form) (count : ℕ) → is_list form ≡ false → count_by form count ≡ count + 1
plain_count Plain count nl = refl
plain_count (Prefix word) count nl = refl
plain_count (UserList separator) count nl = absurd (true≢false nl)

goes_parts : (g : Syntax) (words : List Word) (p : ℕ) (production : Production) (count from past : ℕ) (shapes : List Shape) → is_list production.form ≡ false
    → Goes g words p production count from past shapes → Parts g words p production count from past shapes
goes_parts g words p production _ _ _ _ nl (begins from) = no_item p production from
goes_parts g words p production _ _ _ _ nl (passes count from at shapes text goes wanted stands) =
    subst (λ n. Parts g words p production n from (at + 1) shapes) (sym (plain_count production.form count nl))
    (terminal_item p production count from at shapes text (goes_parts g words p production count from at shapes nl goes) (plain_text production.form production.items count text nl wanted) stands)
goes_parts g words p production _ _ _ _ nl (extends count from at past shapes sort shape goes wanted child) =
    subst (λ n. Parts g words p production n from past (shapes ++ shape ∷ [])) (sym (plain_count production.form count nl))
    (sort_item p production count from at past shapes sort shape (goes_parts g words p production count from at shapes nl goes) (plain_sort production.form production.items count sort nl wanted) child)

-- ---- elements of a list

-- elements behind which a separator was read, and where it stood
record IsBehind (g : Syntax) (words : List Word) (p sort : ℕ) (separator : List ℕ) (from past : ℕ) (shapes : List Shape) : Type 0 where
  pub first : Shape
  pub rest : List Shape
  pub at : ℕ
  pub shapes_are : shapes ≡ first ∷ rest
  pub elements : Elements g words p sort separator from at (first ∷ rest)
  pub between : IsBetween words separator at past

-- an element may come next
abbrev IsOpen : Syntax → List Word → ℕ → ℕ → List ℕ → ℕ → ℕ → List Shape → Type 0
IsOpen g words p sort separator from past shapes = ((shapes ≡ []) × (from ≡ past)) ⊎ IsBehind g words p sort separator from past shapes

-- a separator may come next
record IsClosed (g : Syntax) (words : List Word) (p sort : ℕ) (separator : List ℕ) (from past : ℕ) (shapes : List Shape) : Type 0 where
  pub byte : ℕ
  pub bytes : List ℕ
  pub separator_is : separator ≡ byte ∷ bytes
  pub first : Shape
  pub rest : List Shape
  pub shapes_are : shapes ≡ first ∷ rest
  pub elements : Elements g words p sort separator from past (first ∷ rest)

abbrev State : Syntax → List Word → ℕ → ℕ → List ℕ → ℕ → ℕ → ℕ → List Shape → Type 0
State g words p sort separator count from past shapes =
    ((count ≡ 0) × IsOpen g words p sort separator from past shapes) ⊎ ((count ≡ 1) × IsClosed g words p sort separator from past shapes)

elements_more : (g : Syntax) (words : List Word) (p sort : ℕ) (separator : List ℕ) (from at past : ℕ) (shapes : List Shape) (shape : Shape)
    → IsOpen g words p sort separator from at shapes → Child g words (Some (p, 0)) sort at past shape → Elements g words p sort separator from past (shapes ++ shape ∷ [])
elements_more g words p sort separator from at past shapes shape (inl none) child =
    subst (λ vs. Elements g words p sort separator from past (vs ++ shape ∷ [])) (sym none.0)
    (subst (λ i. Elements g words p sort separator i past (shape ∷ [])) (sym none.1) (first_element p sort separator at past shape child))
elements_more g words p sort separator from at past shapes shape (inr b) child =
    subst (λ vs. Elements g words p sort separator from past (vs ++ shape ∷ [])) (sym b.shapes_are)
    (next_element p sort separator from b.at at past b.first b.rest shape b.elements b.between child)

not_empty : (shapes : List Shape) (shape : Shape) → (first : Shape) × (rest : List Shape) × (shapes ++ shape ∷ [] ≡ first ∷ rest)
not_empty [] shape = (shape, [], refl)
not_empty (first ∷ rest) shape = (first, rest ++ shape ∷ [], refl)

-- the state behind one element more
state_extended : (g : Syntax) (words : List Word) (p sort : ℕ) (separator : List ℕ) (from past : ℕ) (shapes : List Shape) (shape : Shape)
    → Elements g words p sort separator from past (shapes ++ shape ∷ []) → State g words p sort separator (count_in_list separator 0) from past (shapes ++ shape ∷ [])
state_extended g words p sort [] from past shapes shape elements =
    let some = not_empty shapes shape in
    inl (
      refl,
      inr (record {
        first = some.0;
        rest = some.1;
        at = past;
        shapes_are = some.2;
        elements = subst (λ vs. Elements g words p sort [] from past vs) some.2 elements;
        between = refl;
      }),
    )
state_extended g words p sort (byte ∷ bytes) from past shapes shape elements =
    let some = not_empty shapes shape in
    inr (
      refl,
      record {
        byte = byte;
        bytes = bytes;
        separator_is = refl;
        first = some.0;
        rest = some.1;
        shapes_are = some.2;
        elements = subst (λ vs. Elements g words p sort (byte ∷ bytes) from past vs) some.2 elements;
      },
    )

state_sort : (g : Syntax) (words : List Word) (p sort : ℕ) (separator : List ℕ) (count from at past : ℕ) (shapes : List Shape) (wanted : ℕ) (shape : Shape)
    → State g words p sort separator count from at shapes → cond (count == 0) (Some sort) None ≡ Some wanted → Child g words (Some (p, count)) wanted at past shape
    → State g words p sort separator (count_in_list separator count) from past (shapes ++ shape ∷ [])
state_sort g words p sort separator count from at past shapes wanted shape (inl wide) is child =
    subst (λ n. State g words p sort separator (count_in_list separator n) from past (shapes ++ shape ∷ [])) (sym wide.0)
    (state_extended g words p sort separator from past shapes shape
    (elements_more g words p sort separator from at past shapes shape wide.1
    (subst (λ s. Child g words (Some (p, 0)) s at past shape) (sym (some_same sort wanted (subst (λ n. cond (n == 0) (Some sort) None ≡ Some wanted) wide.0 is)))
    (subst (λ n. Child g words (Some (p, n)) wanted at past shape) wide.0 child))))
state_sort g words p sort separator count from at past shapes wanted shape (inr closed) is child =
    absurd (none_some wanted (subst (λ n. cond (n == 0) (Some sort) None ≡ Some wanted) closed.0 is))

state_text : (g : Syntax) (words : List Word) (p sort : ℕ) (separator : List ℕ) (count from at : ℕ) (shapes : List Shape) (text : List ℕ)
    → State g words p sort separator count from at shapes → separator_wanted separator count ≡ Some text → IsTerminalAt words at text
    → State g words p sort separator (count_in_list separator count) from (at + 1) shapes
state_text g words p sort [] count from at shapes text state is stands = absurd (none_some text is)
state_text g words p sort (byte ∷ bytes) count from at shapes text (inl wide) is stands =
    absurd (none_some text (subst (λ n. separator_wanted (byte ∷ bytes) n ≡ Some text) wide.0 is))
state_text g words p sort (byte ∷ bytes) count from at shapes text (inr closed) is stands =
    let same : byte ∷ bytes ≡ text = some_same (byte ∷ bytes) text (subst (λ n. separator_wanted (byte ∷ bytes) n ≡ Some text) closed.0 is) in
    subst (λ n. State g words p sort (byte ∷ bytes) (count_in_list (byte ∷ bytes) n) from (at + 1) shapes) (sym closed.0)
    (inl (
      refl,
      inr (record {
        first = closed.1.first;
        rest = closed.1.rest;
        at = at;
        shapes_are = closed.1.shapes_are;
        elements = closed.1.elements;
        between = (subst (IsTerminalAt words at) (sym same) stands, refl);
      }),
    ))

module _ (g : Syntax) (words : List Word) (p : ℕ) (production : Production) (sort : ℕ) (separator : List ℕ) (form : production.form ≡ UserList separator)
    (items : production.items ≡ Sort sort ∷ []) where
  goes_list : (count from past : ℕ) (shapes : List Shape) → Goes g words p production count from past shapes → State g words p sort separator count from past shapes
  goes_list _ _ _ _ (begins from) = inl (refl, inl (refl, refl))
  goes_list _ _ _ _ (passes count from at shapes text goes wanted stands) =
      subst (λ n. State g words p sort separator n from (at + 1) shapes) (sym (ap (λ f. count_by f count) form))
      (state_text g words p sort separator count from at shapes text (goes_list count from at shapes goes) (sym (ap (λ f. text_by f production.items count) form) ∙ wanted) stands)
  goes_list _ _ _ _ (extends count from at past shapes wanted shape goes is child) =
      subst (λ n. State g words p sort separator n from past (shapes ++ shape ∷ [])) (sym (ap (λ f. count_by f count) form))
      (state_sort g words p sort separator count from at past shapes wanted shape (goes_list count from at shapes goes)
      (sym (λ i. sort_by (form i) (items i) count) ∙ is) child)

-- an open list whose separator is empty
open_elements : (g : Syntax) (words : List Word) (p sort : ℕ) (from past : ℕ) (shapes : List Shape) → IsOpen g words p sort [] from past shapes → Elements g words p sort [] from past shapes
open_elements g words p sort from past shapes (inl none) =
    subst (λ vs. Elements g words p sort [] from past vs) (sym none.0) (subst (λ i. Elements g words p sort [] from i []) none.1 (no_element p sort [] from))
open_elements g words p sort from past shapes (inr b) =
    subst (λ vs. Elements g words p sort [] from past vs) (sym b.shapes_are) (subst (λ i. Elements g words p sort [] from i (b.first ∷ b.rest)) (sym b.between) b.elements)

nil_cons : (x : Shape) (xs : List Shape) → [] ≡ x ∷ xs → ⊥
nil_cons x xs same = cc

nil_text : (x : ℕ) (xs : List ℕ) → [] ≡ x ∷ xs → ⊥
nil_text x xs same = cc

closed_elements : (g : Syntax) (words : List Word) (p sort : ℕ) (separator : List ℕ) (from past : ℕ) (shapes : List Shape) → IsClosed g words p sort separator from past shapes
    → Elements g words p sort separator from past shapes
closed_elements g words p sort separator from past shapes closed = subst (λ vs. Elements g words p sort separator from past vs) (sym closed.shapes_are) closed.elements

state_ends : (g : Syntax) (words : List Word) (p sort : ℕ) (separator : List ℕ) (count from past : ℕ) (shapes : List Shape) (class : Class)
    → State g words p sort separator count from past shapes → list_class separator count (held_of words shapes) ≡ Some class
    → Elements g words p sort separator from past shapes × (list_of (held_of words shapes) ≡ Some class)
state_ends g words p sort [] count from past shapes class (inl wide) is = (open_elements g words p sort from past shapes wide.1, is)
state_ends g words p sort [] count from past shapes class (inr closed) is = absurd (nil_text closed.1.byte closed.1.bytes closed.1.separator_is)
state_ends g words p sort (byte ∷ bytes) count from past [] class (inl wide) is =
    elim wide.1 [
      | inl none ↦ (subst (λ i. Elements g words p sort (byte ∷ bytes) from i []) none.1 (no_element p sort (byte ∷ bytes) from), is)
      | inr b ↦ absurd (nil_cons b.first b.rest b.shapes_are)
    ]
state_ends g words p sort (byte ∷ bytes) count from past [] class (inr closed) is = absurd (nil_cons closed.1.first closed.1.rest closed.1.shapes_are)
state_ends g words p sort (byte ∷ bytes) count from past (one ∷ []) class (inl wide) is =
    absurd (none_some class (subst (λ n. cond (n == 0) None (list_of (held_of words (one ∷ []))) ≡ Some class) wide.0 is))
state_ends g words p sort (byte ∷ bytes) count from past (one ∷ []) class (inr closed) is =
    (closed_elements g words p sort (byte ∷ bytes) from past (one ∷ []) closed.1, subst (λ n. cond (n == 0) None (list_of (held_of words (one ∷ []))) ≡ Some class) closed.0 is)
state_ends g words p sort (byte ∷ bytes) count from past (one ∷ two ∷ shapes) class (inl wide) is =
    absurd (none_some class (subst (λ n. cond (n == 0) None (Some Other) ≡ Some class) wide.0 is))
state_ends g words p sort (byte ∷ bytes) count from past (one ∷ two ∷ shapes) class (inr closed) is =
    (closed_elements g words p sort (byte ∷ bytes) from past (one ∷ two ∷ shapes) closed.1, subst (λ n. cond (n == 0) None (Some Other) ≡ Some class) closed.0 is)

one_not_none : ◌≡◌ {A = ℕ} 0 1 → ⊥
one_not_none same = cc

-- elements behind which another may come, where there is one
some_behind : (g : Syntax) (words : List Word) (p sort : ℕ) (separator : List ℕ) (from past : ℕ) (shapes : List Shape) → State g words p sort separator 0 from past shapes
    → is_nothing (held_of words shapes) ≡ false → IsBehind g words p sort separator from past shapes
some_behind g words p sort separator from past shapes (inl (none, inl empty)) some =
    absurd (true≢false (ap (λ vs. is_nothing (held_of words vs)) (sym empty.0) ∙ some))
some_behind g words p sort separator from past shapes (inl (none, inr behind)) some = behind
some_behind g words p sort separator from past shapes (inr closed) some = absurd (one_not_none closed.0)

-- ---- the whole

cond_some : (b : Bool) (x : Option Class) (class : Class) → cond b x None ≡ Some class → (b ≡ true) × (x ≡ Some class)
cond_some true x class is = (refl, is)
cond_some false x class is = absurd (none_some class is)

is_none_tells : (o : Option ℕ) → is_none o ≡ true → o ≡ None
is_none_tells None is = refl
is_none_tells (Some x) is = absurd (true≢false (sym is))

class_of_tells : (words : List Word) (shapes : List Shape) (class : Class) → class_of (held_of words shapes) ≡ Some class
    → (shape : Shape) × (shapes ≡ shape ∷ []) × (class ≡ class_in words shape)
class_of_tells words [] class is = absurd (none_some class is)
class_of_tells words (shape ∷ []) class is = (shape, refl, sym (some_same (class_in words shape) class is))
class_of_tells words (one ∷ two ∷ shapes) class is = absurd (none_some class is)

lone_sort_tells : (items : List Part) → is_some (lone_sort items) ≡ true → (sort : ℕ) × (items ≡ Sort sort ∷ [])
lone_sort_tells [] is = absurd (true≢false (sym is))
lone_sort_tells (Terminal text ∷ []) is = absurd (true≢false (sym is))
lone_sort_tells (Sort sort ∷ []) is = (sort, refl)
lone_sort_tells (Terminal text ∷ second ∷ items) is = absurd (true≢false (sym is))
lone_sort_tells (Sort sort ∷ second ∷ items) is = absurd (true≢false (sym is))

module _ (g : Syntax) (words : List Word) (p : ℕ) (production : Production) (is_there : production_at g.prods p ≡ Some production) (from past : ℕ) (shapes : List Shape) (class : Class) where
  plain_whole : IsPlain g.prods p production → (bracket : Bool) → production.attrs.bracket ≡ bracket → Parts g words p production (length production.items) from past shapes
      → cond bracket (class_of (held_of words shapes)) (Some Other) ≡ Some class → IsWholeRow g words from past p class (cond bracket (codes_of shapes) (Open ∷ codes_of shapes ++ NodeSign p ∷ []))
  plain_whole plain true bracket parts is =
      let one = class_of_tells words shapes class is in
      record {
        shape = one.0;
        reads = reads_bracket p from past production one.0 plain bracket (subst (λ vs. Parts g words p production (length production.items) from past vs) one.1 parts);
        class_is = one.2;
        code_is = ap codes_of one.1 ∙ codes_of-one one.0;
      }
  plain_whole plain false bracket parts is = record {
    shape = Node p shapes;
    reads = reads_plain p from past production shapes (Node p shapes) plain bracket parts refl;
    class_is = sym (some_same Other class is) ∙ sym (class_in-Node words p shapes);
    code_is = sym (code_of-Node p shapes);
  }

  plain_ends : (count : ℕ) → is_list production.form ≡ false → is_none (step_from production) ≡ true → Goes g words p production count from past shapes
      → plain_class production count (held_of words shapes) ≡ Some class → IsWholeRow g words from past p class (plain_code p production (codes_of shapes))
  plain_ends count nl step goes is =
      let all = cond_some (count == length production.items) (cond production.attrs.bracket (class_of (held_of words shapes)) (Some Other)) class is in
      plain_whole (record { is = is_there; no_list = nl; no_step = is_none_tells (step_from production) step }) production.attrs.bracket refl
      (subst (λ n. Parts g words p production n from past shapes) (eqb-true count (length production.items) all.0) (goes_parts g words p production count from past shapes nl goes)) all.1

  list_ends : (count : ℕ) (separator : List ℕ) → production.form ≡ UserList separator → is_some (lone_sort production.items) ≡ true → Goes g words p production count from past shapes
      → list_class separator count (held_of words shapes) ≡ Some class → IsWholeRow g words from past p class (Open ∷ codes_of shapes ++ ItemsSign p ∷ [])
  list_ends count separator form some goes is =
      let one = lone_sort_tells production.items some in
      let ends = state_ends g words p one.0 separator count from past shapes class (goes_list g words p production one.0 separator form one.1 count from past shapes goes) is in
      let tells = list_tells words p shapes class ends.1 in
      record {
        shape = Items p shapes None;
        reads = reads_list p from past one.0 separator shapes (Items p shapes None) (record { production = production; is = is_there; form = form; element = one.1 }) ends.0 tells.0 refl;
        class_is = tells.1;
        code_is = sym (code_of-Items p shapes None);
      }

  form_ends : (count : ℕ) (form : Form) → production.form ≡ form → is_read_by form production ≡ true → Goes g words p production count from past shapes
      → class_by form production count (held_of words shapes) ≡ Some class → IsWholeRow g words from past p class (code_by form p production (codes_of shapes))
  form_ends count Plain form read goes is = plain_ends count (ap is_list form) read goes is
  form_ends count (Prefix word) form read goes is = plain_ends count (ap is_list form) read goes is
  form_ends count (UserList separator) form read goes is = list_ends count separator form read goes is

  -- a production whose items were read is read
  pub whole_ends : (count : ℕ) → is_read production ≡ true → Goes g words p production count from past shapes → whole_class production count (held_of words shapes) ≡ Some class
      → IsWholeRow g words from past p class (whole_code p production (codes_of shapes))
  whole_ends count read goes is = form_ends count production.form refl read goes is

is_read_list : (separator : List ℕ) (production : Production) → production.form ≡ UserList separator → is_read production ≡ true → is_some (lone_sort production.items) ≡ true
is_read_list separator production form read = sym (ap (λ f. is_read_by f production) form) ∙ read

module _ (g : Syntax) (words : List Word) (p : ℕ) (production : Production) (is_there : production_at g.prods p ≡ Some production) where
  -- elements, the separator and a rest are read
  pub rest_ends : (from at : ℕ) (shapes : List Shape) (separator : List ℕ) → production.form ≡ UserList separator → is_read production ≡ true
      → Goes g words p production 0 from at shapes → is_nothing (held_of words shapes) ≡ false → IsWordAt words at Variable production.sort
      → IsWholeRow g words from (at + 1) p Other (Open ∷ codes_of shapes ++ ItemsAnd p at ∷ [])
  rest_ends from at shapes separator form read goes some word =
      let one = lone_sort_tells production.items (is_read_list separator production form read) in
      let b = some_behind g words p one.0 separator from at shapes (goes_list g words p production one.0 separator form one.1 0 from at shapes goes) some in
      record {
        shape = Items p (b.first ∷ b.rest) (Some at);
        reads = reads_rest p from b.at at one.0 separator b.first b.rest (Items p (b.first ∷ b.rest) (Some at)) (record { production = production; is = is_there; form = form; element = one.1 })
            b.elements b.between word refl;
        class_is = sym (class_in-rest words p (b.first ∷ b.rest) at);
        code_is = ap (λ vs. Open ∷ codes_of vs ++ ItemsAnd p at ∷ []) b.shapes_are ∙ sym (code_of-Items p (b.first ∷ b.rest) (Some at));
      }

  -- a token that is the empty list is read
  pub empty_list_row : (at : ℕ) (separator : List ℕ) → production.form ≡ UserList separator → is_read production ≡ true → IsWordAt words at EmptyList production.sort
      → IsWholeRow g words at (at + 1) p Other (Open ∷ ItemsSign p ∷ [])
  empty_list_row at separator form read word =
      let one = lone_sort_tells production.items (is_read_list separator production form read) in
      record {
        shape = Items p [] None;
        reads = reads_empty p at one.0 separator (Items p [] None) (record { production = production; is = is_there; form = form; element = one.1 }) word refl;
        class_is = sym (class_in-nothing words p);
        code_is = sym (code_of-Items p [] None);
      }

-- What rows say of a span is so.
use Rattle.std.proofs.Common.{ℕ, ◌+◌, ◌≡◌, inl, inr, true, List, [], ◌∷◌, ◌++◌, codes, Option, Some, None, refl, sym, ap, ◌∙◌, subst}
use Rattle.k_terms.specs.Sorts.{sort_k, sort_kitem}
use Rattle.grammar_terms.specs.declared.production.Production.{Production}
use Rattle.grammar_terms.specs.declared.shape.Shape.{Shape, Leaf, Items}
use Rattle.grammar_terms.specs.declared.word.Word.{Word}
use Rattle.grammar_terms.specs.Grammar.{Syntax, production_at}
use Rattle.grammar_terms.specs.Reading.{Child, stands_leaf, stands_wild, stands_token, stands_reading, stands_nothing, stands_sequence, Sequence as AreParts, one_part, next_part, Joins as IsPart, joins_item, joins_variable, IsForRules, IsTerminalAt}
use Rattle.span_rows.specs.declared.row.Class.{Class}
use Rattle.span_rows.specs.declared.row.Class.TheVariants.{Other}
use Rattle.span_rows.specs.declared.row.Held.{Held}
use Rattle.span_rows.specs.declared.row.Held.TheVariants.{Nothing, One, More}
use Rattle.span_rows.specs.declared.row.Key.{Key}
use Rattle.span_rows.specs.declared.row.Key.TheVariants.{Front, Whole, Token, Wild, Place, Sequence}
use Rattle.span_rows.specs.declared.row.Row.{Row}
use Rattle.span_rows.specs.declared.sign.Sign.{Sign}
use Rattle.span_rows.specs.declared.sign.Sign.TheVariants.{Open, Leaf as LeafSign, Items as ItemsSign, ItemsAnd}
use Rattle.span_table.specs.Codes.{code_of, codes_of}
use Rattle.span_rows.specs.Steps.{class_in, held_of, held_with, is_nothing, count_after, whole_class, whole_code, is_read}
use Rattle.span_rows.specs.Rows.{row, Stands, takes_class, key_class, Extends, Grows, Finishes, Passes, Rests, Arrows, Closes, Binds, GoesOn, IsSeed, IsJoin, IsNear, Adds}
use Rattle.span_rows.specs.Tokens.{IsToken}
use Rattle.span_table.specs.Meaning.{Goes, begins, passes, extends, IsFrontRow, Begun, IsBegunRow, IsWholeRow, IsSequenceRow, Says, AreSound}
use Rattle.span_table.proofs.Finishing.{whole_ends, rest_ends, empty_list_row}
use Rattle.span_table.proofs.Coding.{code_of-Leaf, code_of-Items, codes_of-more, leaf_class, variable_class, wild_class, asked_class, takes_is, class_in-nothing, class_in-several}

some_same : {X : Type 0} (x y : X) → Some x ≡ Some y → x ≡ y
some_same x y same = cc

pub held_of-more : (words : List Word) (shapes : List Shape) (shape : Shape) → held_with (held_of words shapes) (class_in words shape) ≡ held_of words (shapes ++ shape ∷ [])
held_of-more words [] shape = refl
held_of-more words (first ∷ []) shape = refl
held_of-more words (first ∷ second ∷ shapes) shape = refl

none_some : (production : Production) → None ≡ Some production → ⊥
none_some production same = cc

-- no production has the number of a sequence
no_production : (g : Syntax) (p : ℕ) (production : Production) → p ≡ 0 → production_at g.prods p ≡ Some production → ⊥
no_production g p production none is = none_some production (ap (production_at g.prods) (sym none) ∙ is)

-- what a row that may stand at a place tells of it
pub record IsChild (g : Syntax) (words : List Word) (place : Option (ℕ × ℕ)) (sort from past : ℕ) (key : Key) (code : List Sign) : Type 0 where
  pub shape : Shape
  pub child : Child g words place sort from past shape
  pub class_is : key_class key ≡ class_in words shape
  pub code_is : code ≡ code_of shape

pub child_of : (g : Syntax) (words : List Word) (place : Option (ℕ × ℕ)) (sort from past : ℕ) (key : Key) (code : List Sign)
    → Says g words from past key code → Stands g place sort key → IsChild g words place sort from past key code
child_of g words place sort from past (Front p count held) code says stands = absurd stands
child_of g words place sort from past (Whole p class) code says stands = record {
  shape = says.shape;
  child = stands_reading place sort from past p stands.production says.shape says.reads stands.is_there stands.fits stands.permitted
      (takes_is words sort says.shape ∙ ap (takes_class sort) (sym says.class_is) ∙ stands.taken);
  class_is = says.class_is;
  code_is = says.code_is;
}
child_of g words place sort from past (Token own) code says stands = record {
  shape = Leaf from;
  child = subst (λ at. Child g words place sort from at (Leaf from)) (sym says.past_is) (stands_leaf place sort from own (Leaf from) says.leaf stands refl);
  class_is = sym (leaf_class words from own says.leaf);
  code_is = says.code_is ∙ sym (code_of-Leaf from);
}
child_of g words place sort from past Wild code says stands = record {
  shape = Leaf from;
  child = subst (λ at. Child g words place sort from at (Leaf from)) (sym says.past_is) (stands_wild place sort from (Leaf from) says.wild stands refl);
  class_is = sym (wild_class words from says.wild);
  code_is = says.code_is ∙ sym (code_of-Leaf from);
}
child_of g words place sort from past (Place number) code says stands = record {
  shape = Leaf from;
  child = subst (λ at. Child g words place sort from at (Leaf from)) (sym says.past_is) (stands_token place sort from (Leaf from) (says.asked ∙ ap Some stands) refl);
  class_is = sym (asked_class words from number says.asked);
  code_is = says.code_is ∙ sym (code_of-Leaf from);
}
child_of g words place sort from past Sequence code says stands = record {
  shape = says.shape;
  child = subst (λ s. Child g words place s from past says.shape) (sym stands) (says.stands place);
  class_is = says.class_is;
  code_is = says.code_is;
}

-- what a front of a production says, at its key
front_of : (g : Syntax) (words : List Word) (from past p count : ℕ) (held : Held) (production : Production) (front : Row) → front.key ≡ Front p count held
    → production_at g.prods p ≡ Some production → Says g words from past front.key front.code → IsFrontRow g words from past p count held front.code
front_of g words from past p count held production front is is_there says = elim (subst (λ key. Says g words from past key front.code) is says) [
  | inl row ↦ row
  | inr begun ↦ absurd (no_production g p production begun.none is_there)
]

-- what a sequence says, at its key
begun_of : (g : Syntax) (words : List Word) (from past count : ℕ) (held : Held) (front : Row) → front.key ≡ Front 0 count held
    → Says g words from past front.key front.code → IsBegunRow g words from past 0 count held front.code
begun_of g words from past count held front is says = elim (subst (λ key. Says g words from past key front.code) is says) [
  | inl row ↦ absurd (no_production g 0 row.production refl row.is_there)
  | inr begun ↦ begun
]

pub says_row : (g : Syntax) (words : List Word) (from past : ℕ) (made other : Row) → made ≡ other → Says g words from past other.key other.code → Says g words from past made.key made.code
says_row g words from past made other is says = subst (λ r. Says g words from past r.key r.code) (sym is) says

-- the production of a front is the one at its number
at_production : (g : Syntax) (words : List Word) (p count from past : ℕ) (one other : Production) (shapes : List Shape) → production_at g.prods p ≡ Some one → production_at g.prods p ≡ Some other
    → Goes g words p one count from past shapes → Goes g words p other count from past shapes
at_production g words p count from past one other shapes is also goes = subst (λ production. Goes g words p production count from past shapes) (some_same one other (sym is ∙ also)) goes

says_extended : (g : Syntax) (words : List Word) (from at past : ℕ) (front child made : Row) → Says g words from at front.key front.code → Says g words at past child.key child.code
    → Extends g front child made → Says g words from past made.key made.code
says_extended g words from at past front child made says also e =
    let f = front_of g words from at e.p e.count e.held e.production front e.front_is e.is_there says in
    let c = child_of g words (Some (e.p, e.count)) e.sort at past child.key child.code also e.stands in
    says_row g words from past made (row (Front e.p (count_after e.production e.count) (held_with e.held (key_class child.key))) (front.code ++ child.code)) e.is (inl (record {
      production = e.production;
      shapes = f.shapes ++ c.shape ∷ [];
      is_there = e.is_there;
      read = subst (λ production. is_read production ≡ true) (some_same f.production e.production (sym f.is_there ∙ e.is_there)) f.read;
      goes = extends e.count from at past f.shapes e.sort c.shape (at_production g words e.p e.count from at f.production e.production f.shapes f.is_there e.is_there f.goes) e.wanted c.child;
      held_is = (λ i. held_with (f.held_is i) (c.class_is i)) ∙ held_of-more words f.shapes c.shape;
      code_is = (λ i. f.code_is i ++ c.code_is i) ∙ sym (codes_of-more f.shapes c.shape);
    }))

-- ---- sequences

-- a part behind what was read of a sequence
part_more : (g : Syntax) (words : List Word) (from at past : ℕ) (shapes : List Shape) (shape : Shape) → Begun g words 0 from at shapes → IsPart g words at past shape
    → AreParts g words from past (shapes ++ shape ∷ [])
part_more g words from at past shapes shape (inl none) part =
    subst (λ before. AreParts g words from past (before ++ shape ∷ [])) (sym none.0) (one_part from past shape (subst (λ i. IsPart g words i past shape) none.1 part))
part_more g words from at past shapes shape (inr joined) part =
    next_part from joined.at past shapes shape joined.parts joined.arrow (subst (λ i. IsPart g words i past shape) joined.past_is part)

says_part : (g : Syntax) (words : List Word) (from at past : ℕ) (held : Held) (class : Class) (front made : Row) (code : List Sign) (shape : Shape) → front.key ≡ Front 0 0 held
    → Says g words from at front.key front.code → IsPart g words at past shape → class ≡ class_in words shape → code ≡ code_of shape
    → made ≡ row (Front 0 1 (held_with held class)) (front.code ++ code) → Says g words from past made.key made.code
says_part g words from at past held class front made code shape front_is says part class_is code_is is =
    let f = begun_of g words from at 0 held front front_is says in
    says_row g words from past made (row (Front 0 1 (held_with held class)) (front.code ++ code)) is (inr (record {
      shapes = f.shapes ++ shape ∷ [];
      none = refl;
      rules = f.rules;
      opens = f.opens;
      begun = part_more g words (from + 1) at past f.shapes shape f.begun part;
      held_is = (λ i. held_with (f.held_is i) (class_is i)) ∙ held_of-more words f.shapes shape;
      code_is = (λ i. f.code_is i ++ code_is i) ∙ sym (codes_of-more f.shapes shape);
    }))

says_grown : (g : Syntax) (words : List Word) (from at past : ℕ) (front child made : Row) → Says g words from at front.key front.code → Says g words at past child.key child.code
    → Grows g front child made → Says g words from past made.key made.code
says_grown g words from at past front child made says also (inl e) = says_extended g words from at past front child made says also e
says_grown g words from at past front child made says also (inr e) =
    let c = child_of g words None sort_kitem at past child.key child.code also e.stands in
    says_part g words from at past e.held (key_class child.key) front made child.code c.shape e.front_is says (joins_item at past c.shape c.child) c.class_is c.code_is e.is

says_bound : (g : Syntax) (words : List Word) (from at : ℕ) (front made : Row) → Says g words from at front.key front.code → Binds words at front made
    → Says g words from (at + 1) made.key made.code
says_bound g words from at front made says e =
    says_part g words from at (at + 1) e.held Other front made (LeafSign at ∷ []) (Leaf at) e.front_is says (joins_variable at (Leaf at) e.word refl)
    (sym (variable_class words at sort_k e.word)) (sym (code_of-Leaf at)) e.is

says_arrow : (g : Syntax) (words : List Word) (from at : ℕ) (front made : Row) → Says g words from at front.key front.code → Arrows words at front made
    → Says g words from (at + 1) made.key made.code
says_arrow g words from at front made says e =
    let f = begun_of g words from at 1 e.held front e.front_is says in
    says_row g words from (at + 1) made (row (Front 0 0 e.held) front.code) e.is (inr (record {
      shapes = f.shapes;
      none = refl;
      rules = f.rules;
      opens = f.opens;
      begun = inr (record { at = at; parts = f.begun; arrow = e.stands; past_is = refl });
      held_is = f.held_is;
      code_is = f.code_is;
    }))

nothing_not_more : Nothing ≡ More → ⊥
nothing_not_more same = cc

one_not_more : (class : Class) → One class ≡ More → ⊥
one_not_more class same = cc

closed_row : (g : Syntax) (words : List Word) (from at : ℕ) (shapes : List Shape) (code : List Sign) → IsForRules g → IsTerminalAt words from (codes "(") → IsTerminalAt words at (codes ")")
    → AreParts g words (from + 1) at shapes → More ≡ held_of words shapes → code ≡ codes_of shapes → IsSequenceRow g words from (at + 1) (Open ∷ code ++ ItemsSign 0 ∷ [])
closed_row g words from at [] code rules opens closes parts held_is code_is = absurd (nothing_not_more (sym held_is))
closed_row g words from at (shape ∷ []) code rules opens closes parts held_is code_is = absurd (one_not_more (class_in words shape) (sym held_is))
closed_row g words from at (first ∷ second ∷ shapes) code rules opens closes parts held_is code_is = record {
  shape = Items 0 (first ∷ second ∷ shapes) None;
  stands = λ place. stands_sequence place sort_k from at first second shapes (Items 0 (first ∷ second ∷ shapes) None) refl rules opens parts closes refl;
  class_is = sym (class_in-several words 0 first second shapes);
  code_is = ap (λ c. Open ∷ c ++ ItemsSign 0 ∷ []) code_is ∙ sym (code_of-Items 0 (first ∷ second ∷ shapes) None);
}

says_closed : (g : Syntax) (words : List Word) (from at : ℕ) (front made : Row) → Says g words from at front.key front.code → Closes words at front made
    → Says g words from (at + 1) made.key made.code
says_closed g words from at front made says e =
    let f = begun_of g words from at 1 More front e.front_is says in
    says_row g words from (at + 1) made (row Sequence (Open ∷ front.code ++ ItemsSign 0 ∷ [])) e.is
    (closed_row g words from at f.shapes front.code f.rules f.opens e.stands f.begun f.held_is f.code_is)

-- ---- productions

says_passed : (g : Syntax) (words : List Word) (from at : ℕ) (front made : Row) → Says g words from at front.key front.code → Passes g words at front made
    → Says g words from (at + 1) made.key made.code
says_passed g words from at front made says e =
    let f = front_of g words from at e.p e.count e.held e.production front e.front_is e.is_there says in
    says_row g words from (at + 1) made (row (Front e.p (count_after e.production e.count) e.held) front.code) e.is (inl (record {
      production = e.production;
      shapes = f.shapes;
      is_there = e.is_there;
      read = subst (λ production. is_read production ≡ true) (some_same f.production e.production (sym f.is_there ∙ e.is_there)) f.read;
      goes = passes e.count from at f.shapes e.text (at_production g words e.p e.count from at f.production e.production f.shapes f.is_there e.is_there f.goes) e.wanted e.stands;
      held_is = f.held_is;
      code_is = f.code_is;
    }))

says_rest : (g : Syntax) (words : List Word) (from at : ℕ) (front made : Row) → Says g words from at front.key front.code → Rests g words at front made
    → Says g words from (at + 1) made.key made.code
says_rest g words from at front made says e =
    let f = front_of g words from at e.p 0 e.held e.production front e.front_is e.is_there says in
    let read = subst (λ production. is_read production ≡ true) (some_same f.production e.production (sym f.is_there ∙ e.is_there)) f.read in
    let goes = at_production g words e.p 0 from at f.production e.production f.shapes f.is_there e.is_there f.goes in
    says_row g words from (at + 1) made (row (Whole e.p Other) (Open ∷ front.code ++ ItemsAnd e.p at ∷ [])) e.is
    (subst (λ code. IsWholeRow g words from (at + 1) e.p Other (Open ∷ code ++ ItemsAnd e.p at ∷ [])) (sym f.code_is)
    (rest_ends g words e.p e.production e.is_there from at f.shapes e.separator e.form read goes (ap is_nothing (sym f.held_is) ∙ e.some) e.word))

-- what a row makes with a token is so
pub says_gone : (g : Syntax) (words : List Word) (from at : ℕ) (front made : Row) → Says g words from at front.key front.code → GoesOn g words at front made
    → Says g words from (at + 1) made.key made.code
says_gone g words from at front made says (inl e) = says_passed g words from at front made says e
says_gone g words from at front made says (inr (inl e)) = says_rest g words from at front made says e
says_gone g words from at front made says (inr (inr (inl e))) = says_arrow g words from at front made says e
says_gone g words from at front made says (inr (inr (inr (inl e)))) = says_closed g words from at front made says e
says_gone g words from at front made says (inr (inr (inr (inr e)))) = says_bound g words from at front made says e

-- what a token makes alone is so
pub says_token : (g : Syntax) (words : List Word) (at : ℕ) (made : Row) → IsToken g words at made → Says g words at (at + 1) made.key made.code
says_token g words at made (inl e) = says_row g words at (at + 1) made (row (Token e.own) (LeafSign at ∷ [])) e.is (record { leaf = e.leaf; past_is = refl; code_is = refl })
says_token g words at made (inr (inl e)) = says_row g words at (at + 1) made (row Wild (LeafSign at ∷ [])) e.is (record { wild = e.wild; past_is = refl; code_is = refl })
says_token g words at made (inr (inr (inl e))) =
    says_row g words at (at + 1) made (row (Whole e.p Other) (Open ∷ ItemsSign e.p ∷ [])) e.makes.is
    (empty_list_row g words e.p e.production e.is_there at e.makes.separator e.makes.form e.makes.is_read e.makes.word)
says_token g words at made (inr (inr (inr (inl e)))) =
    says_row g words at (at + 1) made (row Sequence (Open ∷ ItemsSign 0 ∷ [])) e.is (record {
      shape = Items 0 [] None;
      stands = λ place. stands_nothing place sort_k at (Items 0 [] None) refl e.word refl;
      class_is = sym (class_in-nothing words 0);
      code_is = sym (code_of-Items 0 [] None);
    })
says_token g words at made (inr (inr (inr (inr (inr e))))) = says_row g words at (at + 1) made (row (Place e.number) (LeafSign at ∷ [])) e.is (record { asked = e.asked; past_is = refl; code_is = refl })
says_token g words at made (inr (inr (inr (inr (inl e))))) =
    says_row g words at (at + 1) made (row (Front 0 0 Nothing) []) e.is (inr (record {
      shapes = [];
      none = refl;
      rules = e.rules;
      opens = e.stands;
      begun = inl (refl, refl);
      held_is = refl;
      code_is = refl;
    }))

pub says_seed : (g : Syntax) (words : List Word) (at : ℕ) (made : Row) → IsSeed g made → Says g words at at made.key made.code
says_seed g words at made seed =
    says_row g words at at made (row (Front seed.p 0 Nothing) []) seed.makes.is (inl (record {
      production = seed.production;
      shapes = [];
      is_there = seed.is_there;
      read = seed.makes.is_read;
      goes = begins at;
      held_is = refl;
      code_is = refl;
    }))

says_finished : (g : Syntax) (words : List Word) (from past : ℕ) (front made : Row) → Says g words from past front.key front.code → Finishes g front made
    → Says g words from past made.key made.code
says_finished g words from past front made says e =
    let f = front_of g words from past e.p e.count e.held e.production front e.front_is e.is_there says in
    let read = subst (λ production. is_read production ≡ true) (some_same f.production e.production (sym f.is_there ∙ e.is_there)) f.read in
    let goes = at_production g words e.p e.count from past f.production e.production f.shapes f.is_there e.is_there f.goes in
    says_row g words from past made (row (Whole e.p e.class) (whole_code e.p e.production front.code)) e.is
    (subst (λ code. IsWholeRow g words from past e.p e.class (whole_code e.p e.production code)) (sym f.code_is)
    (whole_ends g words e.p e.production e.is_there from past f.shapes e.class e.count read goes (subst (λ held. whole_class e.production e.count held ≡ Some e.class) f.held_is e.ends)))

pub says_joined : (g : Syntax) (words : List Word) (from at past : ℕ) (fronts children : List Row) (made : Row) → AreSound g words from at fronts → AreSound g words at past children
    → IsJoin g fronts children made → Says g words from past made.key made.code
says_joined g words from at past fronts children made sound also join =
    says_grown g words from at past join.front join.child made (sound join.front join.has_front) (also join.child join.has_child) join.grows

-- what rows of a span make in it is so
pub says_near : (g : Syntax) (words : List Word) (from past : ℕ) (empty rows : List Row) (made : Row) → AreSound g words from from empty → AreSound g words past past empty
    → AreSound g words from past rows → IsNear g empty rows made → Says g words from past made.key made.code
says_near g words from past empty rows made before behind sound (inl done) = says_finished g words from past done.front made (sound done.front done.has_front) done.makes
says_near g words from past empty rows made before behind sound (inr (inl join)) = says_joined g words from from past empty rows made before sound join
says_near g words from past empty rows made before behind sound (inr (inr join)) = says_joined g words from past past rows empty made sound behind join

-- rows that were added are so
pub adds_sound : (g : Syntax) (words : List Word) (from past : ℕ) (S : Row → Type 0) (before after : List Row) → Adds S before after → AreSound g words from past before
    → ((made : Row) → S made → Says g words from past made.key made.code) → AreSound g words from past after
adds_sound g words from past S before after added sound also = λ made has. elim (added.within made has) [ inl old ↦ sound made old | inr new ↦ also made new ]

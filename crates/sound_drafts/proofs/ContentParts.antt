-- The parts of the content of a cell: they are read at the sorts of the cell's kind, and their form is one of a rule.
use Rattle.std.proofs.Common.{◌≡◌, inl, ℕ, Bool, true, false, cond, ◌==◌, List, [], ◌∷◌, ◌++◌, length, drop, Option, Some, None, refl, sym, ap, subst, ◌∙◌}
use Rattle.std.proofs.lemmas.Bool.{eq-eqb}
use Rattle.std.proofs.lemmas.List.{length-map}
use Rattle.std.specs.List.{AllByRecursion, flat_map}
use Rattle.grammar_terms.specs.Grammar.{Syntax}
use Rattle.grammar_terms.specs.declared.shape.Shape.{Shape}
use Rattle.grammar_terms.specs.declared.word.Word.{Word}
use Rattle.live_config.proofs.Members.{Has, has_left, has_right, has_any}
use Rattle.rule_terms.specs.declared.defs.Kind.{Kind}
use Rattle.rule_terms.specs.declared.defs.Kind.TheVariants.{Cells as CellsKind, Seq as SeqKind, Map as MapKind, List as ListKind, One as OneKind}
use Rattle.rule_terms.specs.declared.rule.Draft.{Draft}
use Rattle.rule_cells.specs.declared.form.Inside.{Content as ContentInside}
use Rattle.rule_contents.specs.declared.reading.Form.{Form}
use Rattle.rule_contents.specs.declared.reading.Form.TheVariants.{Sides, Made as MadeForm, Expression}
use Rattle.rule_contents.specs.Contents.{with_content}
use Rattle.rule_contents.specs.Readings.{whole_sort as whole_sort_of, IsContent}
use Rattle.rule_parts.specs.declared.leaves.Leaf.{Leaf}
use Rattle.rule_parts.specs.declared.parts.Part.{Part}
use Rattle.rule_parts.specs.declared.parts.Side.{Side as Stands}
use Rattle.rule_parts.specs.declared.parts.Side.TheVariants.{Both, Left, Right}
use Rattle.rule_parts.specs.declared.parts.What.{What}
use Rattle.rule_parts.specs.declared.parts.What.TheVariants.{Item, Tail, Entry, Rest, Made, Inner, Whole}
use Rattle.rule_parts.specs.declared.terms.Occurrence.{Occurrence}
use Rattle.rule_parts.specs.Parts.{form_parts}
use Rattle.rule_parts.specs.Productions.{productions_of, arguments_of}
use Rattle.rule_parts.specs.Sides.{stands, whole_sort, token_at, as_list}
use Rattle.rule_drafts.specs.declared.reading.Reading.{Reading}
use Rattle.rule_drafts.specs.Bodies.{body_of, written_rests, is_bad_form, nested_faults, what_nested, side_faults, stray_tails}
use Rattle.rule_drafts.specs.Cells.{kind_of, reading_at, parts_of, tag_of, first_token, operator_at, parts_at, content_faults, side_faults_at}
use Rattle.rule_drafts.specs.Drafts.{is_among, HasNone, variables, stray_fault}
use Rattle.rule_reader.specs.Contents.{cell_k, is_new}
use Rattle.rule_reader.specs.Places.{between}
use Rattle.cell_trees.specs.Trees.{Tree as Declaration, IsTree}
use Rattle.draft_laws.proofs.WrittenCells.{TextCell}
use Rattle.sound_drafts.proofs.TextCells.{text, faults_of}
use Rattle.sound_drafts.proofs.Dots.{cells, leaves, all_found}
use Rattle.sound_drafts.proofs.PartsRead.{IsNotNested, NoneNested, IsReadPart}
use Rattle.sound_drafts.proofs.ReadParts.{ReadAt, read_parts}
use Rattle.sound_drafts.proofs.ReadRules.{IsRead, words_of, content_read}

-- ---- no change in another

nested_what : (tokens : List Leaf) (first : ℕ) (what : What Shape) → ((token : ℕ) → Has (what_nested tokens first what) token → ⊥) → IsNotNested what
nested_what tokens first (Item shape) none = tt
nested_what tokens first (Tail at) none = tt
nested_what tokens first (Entry key value) none = tt
nested_what tokens first (Rest at) none = tt
nested_what tokens first (Made shape) none = tt
nested_what tokens first (Inner at) none = none (token_at tokens at) (inl refl)
nested_what tokens first Whole none = none first (inl refl)

none_nested : (tokens : List Leaf) (first : ℕ) (parts : List (Part Shape)) → ((token : ℕ) → Has (nested_faults tokens first parts) token → ⊥) → NoneNested parts
none_nested tokens first [] none = tt
none_nested tokens first (part ∷ parts) none = (
  nested_what tokens first part.what (λ token h. none token (has_left (what_nested tokens first part.what) (nested_faults tokens first parts) token h)),
  none_nested tokens first parts (λ token h. none token (has_right (what_nested tokens first part.what) (nested_faults tokens first parts) token h)),
)

-- ---- the forms of a content

on_right : (on : Stands) → is_new on ≡ true → on ≡ Right
on_right Both e = absurd (let f : false ≡ true = e in cc)
on_right Left e = absurd (let f : false ≡ true = e in cc)
on_right Right e = refl

new_whole : (b : Bool) (o : Option ℕ) (sort : ℕ) → cond b o None ≡ Some sort → (b ≡ true) × (o ≡ Some sort)
new_whole true o sort e = (refl, e)
new_whole false o sort e = absurd (let f : None ≡ Some sort = e in cc)

whole_is : (kind : Kind) (sort : ℕ) → whole_sort_of kind ≡ Some sort → sort ≡ whole_sort kind
whole_is CellsKind sort e = absurd (let f : None ≡ Some sort = e in cc)
whole_is SeqKind sort e = cc
whole_is MapKind sort e = cc
whole_is ListKind sort e = cc
whole_is (OneKind own) sort e = absurd (let f : None ≡ Some sort = e in cc)

module _ (g : Syntax) (kind : Kind) (words : List Word) where
  abbrev pub AreRead : List (Part Shape) → Type 0
  AreRead parts = AllByRecursion (IsReadPart kind (length g.prods) (ReadAt g kind words)) parts

  made_right : (on : Stands) (shape : Shape) → on ≡ Right → ReadAt g kind words (whole_sort kind) shape → AreRead (record { side = on; what = Made shape } ∷ [])
  made_right Both shape right read = absurd (cc)
  made_right Left shape right read = absurd (cc)
  made_right Right shape right read = ((read, λ here. absurd (let f : false ≡ true = here in cc)), tt)

  -- the parts of a content that is read as a form
  pub form_read : (on : Stands) (form : Form) (shape : Shape) → IsContent (with_content g kind) kind (is_new on) words form shape → NoneNested (form_parts kind (length g.prods) on form shape)
      → AreRead (form_parts kind (length g.prods) on form shape)
  form_read on Sides shape is none = (read_parts g kind words is.sort shape (record { place = None; from = 0; past = length words; child = is.only.0 }) on).all none
  form_read on MadeForm shape is none = (read_parts g kind words is.sort shape (record { place = None; from = 0; past = length words; child = is.only.0 }) on).all none
  form_read on Expression shape is none =
      let new = new_whole (is_new on) (whole_sort_of kind) is.sort is.sort_is in
      made_right on shape (on_right on new.0)
      (subst (λ (sort : ℕ). ReadAt g kind words sort shape) (whole_is kind is.sort new.1) (record { place = None; from = 0; past = length words; child = is.only.0 }))

-- ---- the contents of a draft

not_among : (tokens : List ℕ) → HasNone tokens → (token : ℕ) → Has tokens token → ⊥
not_among tokens none token h =
    let there : is_among tokens token ≡ true = has_any (λ other. other == token) tokens token h (eq-eqb token token refl) in
    absurd (let f : false ≡ true = sym (none token) ∙ there in cc)

bad_form : (b : Bool) (stray operator : List ℕ) (first : ℕ) → ((token : ℕ) → Has (stray ++ (cond b (first ∷ []) [] ++ operator)) token → ⊥) → b ≡ false
bad_form true stray operator first none = absurd (none first (has_right stray (first ∷ operator) first (inl refl)))
bad_form false stray operator first none = refl

module _ (d : Declaration) (g : Syntax) (draft : Draft) (tree : IsTree d) (read : IsRead d g draft) (one : TextCell) (first past : ℕ)
    (has : Has (cells d g draft tree read.made) one) (is : one.held.inside ≡ ContentInside first past) where
  -- the kind of the cell, the words of the content, and its parts
  abbrev pub its_kind : Kind
  its_kind = kind_of d.shapes one.held.cell

  abbrev pub its_words : List Word
  its_words = between (words_of d g draft read.made) first past

  abbrev pub its_leaves : List Leaf
  its_leaves = drop first (leaves d g draft tree read.made)

  abbrev pub its_parts : List (Part Shape)
  its_parts =
      parts_at (productions_of g) (leaves d g draft tree read.made) d.shapes read.made.reading.contents one.on (tag_of one.held.cell one.held.start one.held.left_dots one.held.right_dots) first

  -- nothing in it has no form of a rule
  no_fault : (token : ℕ)
      → Has (content_faults (productions_of g) (leaves d g draft tree read.made) d.shapes read.made.reading.contents read.made.vars one.on (tag_of one.held.cell one.held.start one.held.left_dots one.held.right_dots) first) token → ⊥
  no_fault token h =
      let own = (text d g draft tree read.made).1.faulty one has first past is token h in
      let faults : List Occurrence → List ℕ = λ vs. faults_of (productions_of g) (leaves d g draft tree read.made) d.shapes read.made.reading.contents vs read.made.tokens (cell_k d.shapes) read.made.reading.body in
      not_among _ read.made.are.formed token
      (has_right (flat_map stray_fault (all_found d g draft tree read.made)) (faults (variables (all_found d g draft tree read.made))) token
      (subst (λ vs. Has (faults vs) token) read.made.are.are own))

  abbrev faults_on : Bool → List ℕ
  faults_on left =
      side_faults_at (productions_of g) (leaves d g draft tree read.made) d.shapes read.made.reading.contents read.made.vars left one.on (tag_of one.held.cell one.held.start one.held.left_dots one.held.right_dots) first

  abbrev faults_nested : List ℕ
  faults_nested = nested_faults its_leaves (first_token (tag_of one.held.cell one.held.start one.held.left_dots one.held.right_dots) first) its_parts

  pub parts_nest : NoneNested its_parts
  parts_nest =
      none_nested its_leaves (first_token (tag_of one.held.cell one.held.start one.held.left_dots one.held.right_dots) first) its_parts
      (λ token h. no_fault token (has_left (faults_nested ++ faults_on true) (faults_on false) token (has_left faults_nested (faults_on true) token h)))

  -- its form is one of a rule on the left
  pub form_fits : stands true one.on ≡ true
      → is_bad_form read.made.vars (tag_of one.held.cell one.held.start one.held.left_dots one.held.right_dots) (written_rests true its_parts) its_kind
      (body_of (productions_of g) its_leaves read.made.vars (tag_of one.held.cell one.held.start one.held.left_dots one.held.right_dots) true its_parts its_kind) ≡ false
  form_fits on =
      let tag = tag_of one.held.cell one.held.start one.held.left_dots one.held.right_dots in
      let operator = operator_at (reading_at read.made.reading.contents first) in
      let faults = side_faults (productions_of g) its_leaves read.made.vars tag true its_parts its_kind (first_token tag first) operator in
      bad_form _ (stray_tails its_leaves true its_parts) (as_list operator) (first_token tag first)
      (λ token h. no_fault token (has_left (faults_nested ++ faults_on true) (faults_on false) token
      (has_right faults_nested (faults_on true) token (subst (λ b. Has (cond b faults []) token) (sym on) h))))

  -- ---- its reading

  size : length (productions_of g).arguments ≡ length g.prods
  size = length-map g.prods arguments_of

  abbrev found : Option Reading
  found = reading_at read.made.reading.contents first

  pub parts_are : its_parts ≡ form_parts its_kind (length g.prods) one.on (content_read d g draft tree read one first past has is).reading.form (content_read d g draft tree read one first past has is).reading.shape
  parts_are =
      let f = content_read d g draft tree read one first past has is in
      ap (parts_of its_kind (length (productions_of g).arguments) one.on) f.found ∙ ap (λ (n : ℕ). form_parts its_kind n one.on f.reading.form f.reading.shape) size

  pub parts_read : AreRead g its_kind its_words its_parts
  parts_read =
      let f = content_read d g draft tree read one first past has is in
      subst (AreRead g its_kind its_words) (sym parts_are) (form_read g its_kind its_words one.on f.reading.form f.reading.shape f.is.is (subst NoneNested parts_are parts_nest))

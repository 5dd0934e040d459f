-- In a sequence that is read an expression stands alone on its side.
use Rattle.std.proofs.Common.{◌≡◌, ◌⊎◌, inl, inr, ℕ, ◌+◌, Bool, true, false, cond, not, List, [], ◌∷◌, ◌++◌, length, append-nil, Some, None, option_map, refl, sym, ap, subst, ◌∙◌, arith}
use Rattle.std.specs.List.{list_all}
use Rattle.grammar_terms.specs.declared.shape.Shape.{Shape, Leaf}
use Rattle.grammar_terms.specs.declared.word.Word.{Word}
use Rattle.grammar_terms.specs.Grammar.{Syntax}
use Rattle.rule_terms.specs.declared.defs.Kind.TheVariants.{Seq as SeqKind}
use Rattle.rule_contents.specs.declared.reading.Form.{Form}
use Rattle.rule_contents.specs.declared.reading.Form.TheVariants.{Sides, Made as MadeForm, Expression}
use Rattle.rule_contents.specs.Contents.{with_content}
use Rattle.rule_contents.specs.Readings.{made_sort, whole_sort, IsContent}
use Rattle.rule_parts.specs.declared.leaves.Leaf.{Leaf as LeafToken}
use Rattle.rule_parts.specs.declared.parts.Side.{Side}
use Rattle.rule_parts.specs.declared.parts.Side.TheVariants.{Both, Left, Right}
use Rattle.rule_parts.specs.declared.parts.What.TheVariants.{Made, Whole}
use Rattle.rule_parts.specs.declared.parts.Part.{Part}
use Rattle.rule_parts.specs.Sides.{stands}
use Rattle.rule_parts.specs.Productions.{productions_of}
use Rattle.rule_parts.specs.Parts.{left_of, right_of, part, nested, parts_in, parts_by, form_parts}
use Rattle.rule_drafts.specs.Bodies.{nested_faults}
use Rattle.sound_sequences.proofs.Sequences.{is_made, HaveLoneMade}
use Rattle.sound_sequences.proofs.Whats.{whats}
use Rattle.sound_sequences.proofs.NoMade.{HaveNoMade, whats_other}
use Rattle.sound_sequences.proofs.LeftAlone.{whats-append, shape_left}
use Rattle.rule_parts.proofs.PartLayers.{parts-Leaf, parts-Node}
use Rattle.sound_sequences.proofs.Unmade.{HasSorts}
use Rattle.sound_sequences.proofs.SideReadings.{side_bare, IsMadeOf, made_side}

same_some : {X : Type 0} (x y : X) → Some x ≡ Some y → x ≡ y
same_some x y e = cc

module _ (g : Syntax) (has : HasSorts g) (words : List Word) (leaves : List LeafToken) (first : ℕ) where
  abbrev arguments : ℕ
  arguments = length (productions_of g).arguments

  made_is : (b : Bool) (sort : ℕ) → cond b None (option_map (λ s. made_sort (with_content g SeqKind)) (whole_sort SeqKind)) ≡ Some sort → sort ≡ length g.names + 3
  made_is true sort e = absurd (let f : None ≡ Some sort = e in cc)
  made_is false sort e = sym (same_some (length g.names + 3) sort e)

  -- a change of the whole content stands in no other one
  first_fault : (xs : List ℕ) → first ∷ xs ≡ [] → ⊥
  first_fault xs e = absurd (cc)

  -- the parts of a side that becomes an expression
  abbrev changed : Side → Shape → Shape → List (Part Shape)
  changed on before after = nested Whole on ++ parts_in SeqKind arguments (left_of on) before ++ part (right_of on) (Made after)

  changed_lone : (left : Bool) (on : Side) (before after : Shape) → ((side : Side) → HaveNoMade (parts_in SeqKind arguments side before))
      → nested_faults leaves first (changed on before after) ≡ []
      → HaveLoneMade (whats left (changed on before after))
  changed_lone true Both before after bare none =
      let xs = parts_in SeqKind arguments Left before in
      let is : whats true (xs ++ part Right (Made after)) ≡ whats true xs = whats-append true xs (part Right (Made after)) ∙ append-nil (whats true xs) in
      inl (ap (list_all (λ w. not (is_made w))) is ∙ whats_other true xs (bare Left))
  changed_lone false Both before after bare none =
      let xs = parts_in SeqKind arguments Left before in
      let is : whats false (xs ++ part Right (Made after)) ≡ Made after ∷ [] =
      whats-append false xs (part Right (Made after)) ∙ ap (λ ws. ws ++ Made after ∷ []) (shape_left SeqKind arguments before) in
      inr (after, is)
  changed_lone left Left before after bare none = absurd (first_fault _ none)
  changed_lone left Right before after bare none = absurd (first_fault _ none)

  made_lone : (left : Bool) (on : Side) (shape : Shape) → ((at : ℕ) × (shape ≡ Leaf at)) ⊎ IsMadeOf g has words shape
      → nested_faults leaves first (parts_in SeqKind arguments on shape) ≡ []
      → HaveLoneMade (whats left (parts_in SeqKind arguments on shape))
  made_lone left on shape (inl leaf) none =
      let parts : parts_in SeqKind arguments on shape ≡ [] = ap (parts_in SeqKind arguments on) leaf.1 ∙ parts-Leaf SeqKind arguments on leaf.0 in
      inl (ap (λ ps. list_all (λ w. not (is_made w)) (whats left ps)) parts)
  made_lone left on shape (inr made) none =
      let parts : parts_in SeqKind arguments on shape ≡ changed on made.before made.after =
      ap (parts_in SeqKind arguments on) made.is ∙ parts-Node SeqKind arguments on made.p (made.before ∷ made.arrow ∷ made.after ∷ [])
      ∙ ap (λ role. parts_by SeqKind arguments role on (made.before ∷ made.arrow ∷ made.after ∷ [])) made.role in
      subst (λ ps. HaveLoneMade (whats left ps)) (sym parts)
      (changed_lone left on made.before made.after made.bare (ap (nested_faults leaves first) (sym parts) ∙ none))

  expression_lone : (b : Bool) (shape : Shape) → HaveLoneMade (cond b (Made shape ∷ []) [] ++ [])
  expression_lone true shape = inr (shape, refl)
  expression_lone false shape = inl refl

  pub lone : (is_new left : Bool) (on : Side) (form : Form) (shape : Shape) → IsContent (with_content g SeqKind) SeqKind is_new words form shape
      → nested_faults leaves first (form_parts SeqKind arguments on form shape) ≡ [] → HaveLoneMade (whats left (form_parts SeqKind arguments on form shape))
  lone is_new left on Sides shape content none =
      let sort : length g.names + 2 ≡ content.sort = same_some (length g.names + 2) content.sort content.sort_is in
      inl (whats_other left (parts_in SeqKind arguments on shape)
      (side_bare g has words None content.sort 0 (length words) shape content.only.0 (record { high = omega (arith, sort); other = λ e. omega (arith, sort, e) }) on))
  lone is_new left on MadeForm shape content none =
      made_lone left on shape (made_side g has words None content.sort 0 (length words) shape content.only.0 (made_is is_new content.sort content.sort_is)) none
  lone is_new left on Expression shape content none = expression_lone (stands left on) shape

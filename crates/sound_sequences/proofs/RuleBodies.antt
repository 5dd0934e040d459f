-- The contents and the conditions of what is read of a rule: whole sequences and rests stand where they may.
use Rattle.std.proofs.Common.{◌≡◌, inl, inr, ℕ, Bool, true, false, cond, List, [], ◌∷◌, ◌++◌, drop, length, Option, Some, refl, sym, ap, subst, ◌∙◌}
use Rattle.std.specs.List.{list_all, AllByRecursion, flat_map}
use Rattle.grammar_terms.specs.declared.shape.Shape.{Shape}
use Rattle.grammar_terms.specs.declared.word.Word.{Word}
use Rattle.grammar_terms.specs.Grammar.{Syntax}
use Rattle.live_config.proofs.Members.{Has}
use Rattle.rule_terms.specs.declared.defs.Kind.{Kind}
use Rattle.rule_terms.specs.declared.defs.Kind.TheVariants.{Cells as CellsKind, Seq as SeqKind, Map as MapKind, List as ListKind, One as OneKind}
use Rattle.rule_terms.specs.declared.pattern.Body.{Body}
use Rattle.rule_terms.specs.declared.rule.Draft.{Draft}
use Rattle.rule_cells.specs.declared.form.Inside.{Content as ContentInside}
use Rattle.rule_contents.specs.Contents.{with_content}
use Rattle.rule_contents.specs.Readings.{IsContent}
use Rattle.rule_parts.specs.declared.leaves.Leaf.{Leaf as LeafToken}
use Rattle.rule_parts.specs.declared.parts.Part.{Part}
use Rattle.rule_parts.specs.declared.parts.Side.{Side as Stands}
use Rattle.rule_parts.specs.Productions.{productions_of}
use Rattle.rule_parts.specs.Sides.{stands}
use Rattle.rule_drafts.specs.declared.reading.Reading.{Reading}
use Rattle.rule_drafts.specs.Bodies.{body_of, stray_tails, is_bad_form, written_rests, side_faults, nested_faults}
use Rattle.rule_drafts.specs.Cells.{kind_of, reading_at, parts_of, first_token, operator_at, tag_of, parts_at, content_body, side_faults_at, content_faults}
use Rattle.rule_reader.specs.Contents.{is_new}
use Rattle.rule_reader.specs.Places.{between}
use Rattle.cell_trees.specs.Trees.{Tree as Declaration, IsTree}
use Rattle.sound_sequences.proofs.Fronts.{both_pass}
use Rattle.sound_sequences.proofs.Told.{AreSettled}
use Rattle.sound_sequences.proofs.Terms.{OperatorsTakeItems}
use Rattle.sound_sequences.proofs.Bodies.{IsSoundBody, HasLoneMade, body_sound}
use Rattle.sound_sequences.proofs.Unmade.{HasSorts}
use Rattle.sound_sequences.proofs.LoneMade.{lone}
use Rattle.sound_sequences.proofs.SingleValues.{single_other}
use Rattle.sound_sequences.proofs.TextEvents.{IsPartOf, part_all}
use Rattle.sound_sequences.proofs.TextOccurrences.{found_by as content_found}
use Rattle.sound_sequences.proofs.ReadContents.{HasReading}
use Rattle.sound_sequences.proofs.RuleVariables.{front_empty, back_empty, IsRead, all_words, leaves}

-- ---- lists

pub all_pass : {X : Type 0} (test : X → Bool) (xs : List X) → ((x : X) → Has xs x → test x ≡ true) → list_all test xs ≡ true
all_pass test [] each = refl
all_pass test (x ∷ xs) each = both_pass (test x) (list_all test xs) (each x (inl refl)) (all_pass test xs (λ y h. each y (inr h)))

-- where a function makes nothing it makes nothing of a part
empty_all : (xs : List ℕ) → xs ≡ [] → AllByRecursion (λ (n : ℕ). ⊥) xs
empty_all xs e = subst (AllByRecursion (λ (n : ℕ). ⊥)) (sym e) tt

all_empty : (xs : List ℕ) → AllByRecursion (λ (n : ℕ). ⊥) xs → xs ≡ []
all_empty [] all = refl
all_empty (x ∷ xs) all = absurd all.0

pub part_empty : {M : Type 0} (F : M → List ℕ) (xs ys : List M) → IsPartOf xs ys → flat_map F ys ≡ [] → flat_map F xs ≡ []
part_empty F xs ys p e = all_empty (flat_map F xs) (part_all (λ (n : ℕ). ⊥) F xs ys p (empty_all (flat_map F ys) e))

-- ---- no fault

not_bad : (b : Bool) (first : ℕ) (more : List ℕ) → cond b (first ∷ []) [] ++ more ≡ [] → b ≡ false
not_bad true first more e = absurd (let f : first ∷ more ≡ [] = e in cc)
not_bad false first more e = refl

on_that_side : (b : Bool) (xs : List ℕ) → b ≡ true → cond b xs [] ≡ [] → xs ≡ []
on_that_side true xs here e = e
on_that_side false xs here e = absurd (let f : false ≡ true = here in cc)

module _ (d : Declaration) (g : Syntax) (draft : Draft) (tree : IsTree d) (has : HasSorts g) (takes : OperatorsTakeItems (productions_of g)) (read : IsRead d g draft) (more : List ℕ) where
  abbrev pub tokens_leaves : List LeafToken
  tokens_leaves = leaves d g draft read

  abbrev pub readings : List Reading
  readings = read.reading.contents

  abbrev count : ℕ
  count = length (productions_of g).arguments

  abbrev pub IsSoundThere : Body → Type 0
  IsSoundThere body = IsSoundBody read.vars more body

  -- ---- a content

  kind_lone : (kind : Kind) (b left : Bool) (on : Stands) (first place : ℕ) (words : List Word) (reading : Reading)
      → IsContent (with_content g kind) kind b words reading.form reading.shape
      → nested_faults (drop first tokens_leaves) place (parts_of kind count on (Some reading)) ≡ []
      → HasLoneMade read.vars more (productions_of g) (drop first tokens_leaves) takes kind left (parts_of kind count on (Some reading))
  kind_lone CellsKind b left on first place words reading content none = tt
  kind_lone SeqKind b left on first place words reading content none = lone g has words (drop first tokens_leaves) place b left on reading.form reading.shape content none
  kind_lone MapKind b left on first place words reading content none = tt
  kind_lone ListKind b left on first place words reading content none = tt
  kind_lone (OneKind sort) b left on first place words reading content none = tt

  side_none : (left : Bool) (nested one other : List ℕ) → nested ++ one ++ other ≡ [] → cond left one other ≡ []
  side_none true nested one other e = back_empty nested one (front_empty (nested ++ one) other e)
  side_none false nested one other e = back_empty (nested ++ one) other e

  faults_on : (left : Bool) (f : Bool → List ℕ) → cond left (f true) (f false) ≡ f left
  faults_on true f = refl
  faults_on false f = refl

  module _ (on : Stands) (cell start first past : ℕ) (l r : Bool) where
    abbrev parts : List (Part Shape)
    parts = parts_at (productions_of g) tokens_leaves d.shapes readings on (tag_of cell start l r) first

    abbrev kind : Kind
    kind = kind_of d.shapes cell

    pub content_sound : (left : Bool) → HasReading g d.shapes (all_words d g draft read) readings on cell (ContentInside first past) → stands left on ≡ true
        → AreSettled read.vars (content_found (productions_of g) tokens_leaves d.shapes readings on cell start l r (ContentInside first past))
        → content_faults (productions_of g) tokens_leaves d.shapes readings read.vars on (tag_of cell start l r) first ≡ []
        → IsSoundThere (content_body (productions_of g) tokens_leaves d.shapes readings read.vars left on (tag_of cell start l r) first)
    content_sound left found here settled none =
        let tag = tag_of cell start l r in
        let F : Bool → List ℕ = (λ side. side_faults_at (productions_of g) tokens_leaves d.shapes readings read.vars side on tag first) in
        let nested : List ℕ = nested_faults (drop first tokens_leaves) (first_token tag first) parts in
        let mine : F left ≡ [] = sym (faults_on left F) ∙ side_none left nested (F true) (F false) none in
        let faults = on_that_side (stands left on)
        (side_faults (productions_of g) (drop first tokens_leaves) read.vars tag left parts kind (first_token tag first) (operator_at (reading_at readings first))) here mine in
        let tails : List ℕ = stray_tails (drop first tokens_leaves) left parts in
        let bad : Bool = is_bad_form read.vars tag (written_rests left parts) kind (body_of (productions_of g) (drop first tokens_leaves) read.vars tag left parts kind) in
        let lone_there : HasLoneMade read.vars more (productions_of g) (drop first tokens_leaves) takes kind left parts =
        subst (λ (o : Option Reading). HasLoneMade read.vars more (productions_of g) (drop first tokens_leaves) takes kind left (parts_of kind count on o)) (sym found.there)
        (kind_lone kind (is_new on) left on first (first_token tag first) (between (all_words d g draft read) first past) found.reading found.is.is
        (ap (λ (o : Option Reading). nested_faults (drop first tokens_leaves) (first_token tag first) (parts_of kind count on o)) (sym found.there)
        ∙ front_empty nested (F true) (front_empty (nested ++ F true) (F false) none))) in
        body_sound read.vars more (productions_of g) (drop first tokens_leaves) takes tag left parts kind (written_rests left parts) settled lone_there (single_other d tree cell)
        (front_empty tails _ faults) (not_bad bad (first_token tag first) _ (back_empty tails _ faults))

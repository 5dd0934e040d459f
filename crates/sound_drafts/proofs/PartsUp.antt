-- A variable on the left of a content's parts stands in what the parts are on the left.
use Rattle.std.proofs.Common.{◌≡◌, ◌⊎◌, inl, inr, ⊎_elim, ℕ, Bool, true, false, cond, ◌==◌, ◌||◌, List, [], ◌∷◌, ◌++◌, Option, Some, None, refl, sym, ap, subst, ◌∙◌}
use Rattle.std.proofs.lemmas.Bool.{or_cases}
use Rattle.std.specs.Prelude.{slice_get}
use Rattle.std.specs.List.{AllByRecursion, list_any}
use Rattle.k_terms.specs.Sorts.{sort_k, sort_kitem}
use Rattle.grammar_terms.specs.declared.shape.Shape.{Shape}
use Rattle.live_config.proofs.Members.{Has, has_either}
use Rattle.rule_terms.specs.declared.defs.Kind.{Kind}
use Rattle.rule_terms.specs.declared.defs.Kind.TheVariants.{Cells as CellsKind, Seq as SeqKind, Map as MapKind, List as ListKind, One as OneKind}
use Rattle.rule_terms.specs.Patterns.{mentions, is_rest}
use Rattle.rule_parts.specs.declared.argument_sorts.Productions.{Productions}
use Rattle.rule_parts.specs.declared.leaves.Leaf.{Leaf}
use Rattle.rule_parts.specs.declared.parts.Part.{Part}
use Rattle.rule_parts.specs.declared.parts.Side.{Side as Stands}
use Rattle.rule_parts.specs.declared.parts.Side.TheVariants.{Both, Left, Right}
use Rattle.rule_parts.specs.declared.parts.What.{What}
use Rattle.rule_parts.specs.declared.parts.What.TheVariants.{Item, Tail, Entry, Rest, Made, Inner, Whole}
use Rattle.rule_parts.specs.declared.terms.Occurrence.{Occurrence}
use Rattle.rule_parts.specs.Terms.{occurrences, pattern_of, variable_at}
use Rattle.rule_parts.specs.Sides.{is_left, stands, what_occurrences, as_list, variables_of, what_sequence, what_items, what_entries, what_rests, on_side, of_side}
use Rattle.sound_drafts.proofs.Contents.{in_entry, is_it}
use Rattle.sound_drafts.proofs.ListRests.{rests_in_lists}
use Rattle.sound_drafts.proofs.Occurred.{or_first, or_last, its_number, variable_up, term_mentions}
use Rattle.sound_drafts.proofs.Lefts.{IsOfPart}
use Rattle.sound_drafts.proofs.PartsRead.{IsNotMade, IsReadWhat, IsReadPart}

pub all_has : {X : Type 0} (P : X → Type 0) (xs : List X) (x : X) → AllByRecursion P xs → Has xs x → P x
all_has P [] x all h = absurd h
all_has P (y ∷ xs) x all (inl e) = subst P e all.0
all_has P (y ∷ xs) x all (inr h) = all_has P xs x all.1 h

any_more : {A : Type 0} (test : A → Bool) (xs ys : List A) → (list_any test xs ≡ true) ⊎ (list_any test ys ≡ true) → list_any test (xs ++ ys) ≡ true
any_more test [] ys (inl e) = absurd (let f : false ≡ true = e in cc)
any_more test [] ys (inr e) = e
any_more test (x ∷ xs) ys (inl e) =
    ⊎_elim (λ (here : test x ≡ true). or_first (test x) (list_any test (xs ++ ys)) here)
    (λ (later : list_any test xs ≡ true). or_last (test x) (list_any test (xs ++ ys)) (any_more test xs ys (inl later))) (or_cases (test x) (list_any test xs) e)
any_more test (x ∷ xs) ys (inr e) = or_last (test x) (list_any test (xs ++ ys)) (any_more test xs ys (inr e))

stands_left : (side : Stands) → is_left side ≡ true → stands true side ≡ true
stands_left Both e = refl
stands_left Left e = refl
stands_left Right e = e

-- what stands in a part on the left stands on the left
up : {A : Type 0} (test : A → Bool) (f : What Shape → List A) (parts : List (Part Shape)) (part : Part Shape) → Has parts part → is_left part.side ≡ true → list_any test (f part.what) ≡ true
    → list_any test (of_side true f parts) ≡ true
up test f [] part h left e = absurd h
up test f (one ∷ parts) part (inl same) left e =
    any_more test (on_side true f one) (of_side true f parts)
    (inl (subst (λ (it : Part Shape). list_any test (on_side true f it) ≡ true) (sym same) (ap (λ b. list_any test (cond b (f part.what) [])) (stands_left part.side left) ∙ e)))
up test f (one ∷ parts) part (inr h) left e = any_more test (on_side true f one) (of_side true f parts) (inr (up test f parts part h left e))

module _ (g : Productions) (leaves : List Leaf) (vars : List Occurrence) (count : ℕ) (ReadAt : ℕ → Shape → Type 0) (rested : (sort : ℕ) (shape : Shape) → ReadAt sort shape → rests_in_lists shape ≡ true) where
  term_up : (left : Bool) (sort : ℕ) (whole : Bool) (shape : Shape) (o : Occurrence) → ReadAt sort shape → Has (occurrences g leaves left sort whole shape) o
      → list_any (mentions (its_number vars o)) (pattern_of g leaves vars sort shape ∷ []) ≡ true
  term_up left sort whole shape o read h =
      or_first (mentions (its_number vars o) (pattern_of g leaves vars sort shape)) false (term_mentions g leaves vars left sort whole shape o (rested sort shape read) h)

  -- the variable of a leaf
  leaf_var : (found : Option ℕ) (x : ℕ) → is_rest x found ≡ true → list_any (mentions x) (variables_of found) ≡ true
  unfolding mentions
  leaf_var None x e = e
  leaf_var (Some y) x e = or_first (x == y) false e

  leaf_it : (found : Option ℕ) (x : ℕ) → is_rest x found ≡ true → list_any (is_it g leaves vars x) (as_list found) ≡ true
  leaf_it None x e = e
  leaf_it (Some y) x e = or_first (x == y) false e

  -- ---- what the parts of a kind are on the left

  module _ (parts : List (Part Shape)) (o : Occurrence) where
    abbrev x : ℕ
    x = its_number vars o

    abbrev pub StandsIn : Kind → Type 0
    StandsIn CellsKind = ⊥
    StandsIn SeqKind = list_any (mentions x) (of_side true (what_sequence g leaves vars) parts) ≡ true
    StandsIn MapKind = (list_any (in_entry g leaves vars x) (of_side true (what_entries g leaves vars) parts) ≡ true) ⊎ (list_any (is_it g leaves vars x) (of_side true (what_rests leaves vars) parts) ≡ true)
    StandsIn ListKind = (list_any (mentions x) (of_side true (what_items g leaves vars sort_kitem) parts) ≡ true) ⊎ (list_any (is_it g leaves vars x) (of_side true (what_rests leaves vars) parts) ≡ true)
    StandsIn (OneKind sort) = list_any (mentions x) (of_side true (what_items g leaves vars sort) parts) ≡ true

    no_test : {P : Type 0} → false ≡ true → P
    no_test e = absurd (cc)

    part_up : (k : Kind) (side : Stands) (what : What Shape) → Has parts (record { side = side; what = what }) → is_left side ≡ true → IsReadWhat k count ReadAt what → IsNotMade what
        → Has (what_occurrences g leaves k true what) o → StandsIn k
    part_up CellsKind side (Item shape) has left read free h = absurd (no_test read.0)
    part_up CellsKind side (Tail at) has left read free h = absurd (no_test read)
    part_up CellsKind side (Entry key value) has left read free h = absurd (no_test read.0)
    part_up CellsKind side (Rest at) has left read free h = absurd (no_test read)
    part_up SeqKind side (Item shape) has left read free h =
        up (mentions x) (what_sequence g leaves vars) parts _ has left (term_up true sort_kitem (sort_kitem == sort_k) shape o read.1 h)
    part_up SeqKind side (Tail at) has left read free h =
        up (mentions x) (what_sequence g leaves vars) parts _ has left (leaf_var (variable_at vars leaves at) x (variable_up vars (slice_get leaves at) true sort_k true o h))
    part_up SeqKind side (Entry key value) has left read free h = no_test read.0
    part_up SeqKind side (Rest at) has left read free h = no_test read
    part_up MapKind side (Item shape) has left read free h = no_test read.0
    part_up MapKind side (Tail at) has left read free h = no_test read
    part_up MapKind side (Entry key value) has left read free h =
        inl (up (in_entry g leaves vars x) (what_entries g leaves vars) parts _ has left (or_first (mentions x (pattern_of g leaves vars sort_kitem key) || mentions x (pattern_of g leaves vars sort_kitem value)) false
        (⊎_elim
        (λ (one : Has (occurrences g leaves true sort_kitem false key) o). or_first (mentions x (pattern_of g leaves vars sort_kitem key)) (mentions x (pattern_of g leaves vars sort_kitem value))
        (term_mentions g leaves vars true sort_kitem false key o (rested sort_kitem key read.1) one))
        (λ (other : Has (occurrences g leaves true sort_kitem false value) o). or_last (mentions x (pattern_of g leaves vars sort_kitem key)) (mentions x (pattern_of g leaves vars sort_kitem value))
        (term_mentions g leaves vars true sort_kitem false value o (rested sort_kitem value read.2) other))
        (has_either (occurrences g leaves true sort_kitem false key) (occurrences g leaves true sort_kitem false value) o h))))
    part_up MapKind side (Rest at) has left read free h =
        inr (up (is_it g leaves vars x) (what_rests leaves vars) parts _ has left (leaf_it (variable_at vars leaves at) x (variable_up vars (slice_get leaves at) true _ true o h)))
    part_up ListKind side (Item shape) has left read free h =
        inl (up (mentions x) (what_items g leaves vars sort_kitem) parts _ has left (term_up true sort_kitem (sort_kitem == sort_k) shape o read.1 h))
    part_up ListKind side (Tail at) has left read free h = no_test read
    part_up ListKind side (Entry key value) has left read free h = no_test read.0
    part_up ListKind side (Rest at) has left read free h =
        inr (up (is_it g leaves vars x) (what_rests leaves vars) parts _ has left (leaf_it (variable_at vars leaves at) x (variable_up vars (slice_get leaves at) true _ true o h)))
    part_up (OneKind sort) side (Item shape) has left read free h = up (mentions x) (what_items g leaves vars sort) parts _ has left (term_up true sort (sort == sort_k) shape o read.1 h)
    part_up (OneKind sort) side (Tail at) has left read free h = no_test read
    part_up (OneKind sort) side (Entry key value) has left read free h = no_test read.0
    part_up (OneKind sort) side (Rest at) has left read free h = no_test read
    part_up k side (Made shape) has left read free h = absurd free
    part_up k side (Inner at) has left read free h = absurd h
    part_up k side Whole has left read free h = absurd h

    pub stands_in : (k : Kind) → AllByRecursion (IsReadPart k count ReadAt) parts → IsOfPart g leaves k parts o → o.is_left ≡ true → StandsIn k
    stands_in k all of left =
        let on : is_left of.part.side ≡ true = sym of.left ∙ left in
        let part = all_has (IsReadPart k count ReadAt) parts of.part all of.has in
        part_up k of.part.side of.part.what of.has on part.0 (part.1 on) (subst (λ b. Has (what_occurrences g leaves k b of.part.what) o) on of.there)

-- What is told at one token has one sort: the occurrences of variables in the parts of a content.
use Rattle.std.proofs.Common.{◌≡◌, ◌==◌, ℕ, ◌+◌, ◌≤◌, Bool, true, false, List, [], ◌++◌, append-nil, refl, sym, ap, subst, ◌∙◌, arith}
use Rattle.std.proofs.lemmas.Grind.{flat_map-append}
use Rattle.std.specs.List.{AllByRecursion, flat_map}
use Rattle.k_terms.specs.Sorts.{sort_k, sort_kitem}
use Rattle.grammar_terms.specs.declared.shape.Shape.{Shape, Leaf as LeafShape, Node' as NodeS', Items' as ItemsS'}
use Rattle.rule_terms.specs.declared.defs.Kind.{Kind}
use Rattle.rule_parts.specs.declared.argument_sorts.Productions.{Productions}
use Rattle.rule_parts.specs.declared.leaves.Leaf.{Leaf}
use Rattle.rule_parts.specs.declared.parts.Side.{Side}
use Rattle.rule_parts.specs.declared.parts.Side.TheVariants.{Both, Left, Right}
use Rattle.rule_parts.specs.declared.parts.What.{What}
use Rattle.rule_parts.specs.declared.parts.What.TheVariants.{Item, Tail, Entry, Rest, Made}
use Rattle.rule_parts.specs.declared.parts.Part.{Part}
use Rattle.rule_parts.specs.declared.terms.Occurrence.{Occurrence}
use Rattle.rule_parts.specs.Terms.{occurrences}
use Rattle.rule_parts.specs.Sides.{is_left, item_sort, whole_sort, what_occurrences, part_occurrences}
use Rattle.rule_parts.specs.Parts.{left_of, right_of, part, nested, leaf_part}
use Rattle.sound_sequences.proofs.Spans.{Spans, spans_order}
use Rattle.sound_sequences.proofs.Terms.{left_of_all, right_of_all}
use Rattle.sound_sequences.proofs.Whats.{all_joined}
use Rattle.sound_sequences.proofs.Agreeing.{IsAt, Agree, no_variables, agree_joined, agree_wider, StandFrom, leaf_agrees, term_agrees}

module _ (g : Productions) (leaves : List Leaf) (base : ℕ) (stand : StandFrom base leaves) (kind : Kind) (count : ℕ) where
  -- the variables of parts
  abbrev pub found_in : List (Part Shape) → List Occurrence
  found_in parts = flat_map (part_occurrences g leaves kind) parts

  abbrev pub PartsAgree : ℕ → ℕ → List (Part Shape) → Type 0
  PartsAgree from past parts = Agree (base + from) (base + past) (λ left. found_in parts)

  pub none_agree : (from past : ℕ) → PartsAgree from past []
  none_agree from past = no_variables (base + from) (base + past)

  same_agree : (from past : ℕ) (one other : List Occurrence) → one ≡ other → Agree (base + from) (base + past) (λ left. one)
      → Agree (base + from) (base + past) (λ left. other)
  same_agree from past one other e a = subst (λ (found : List Occurrence). Agree (base + from) (base + past) (λ left. found)) e a

  pub two_agree : (from middle past : ℕ) (xs ys : List (Part Shape)) → from ≤ middle → middle ≤ past → PartsAgree from middle xs → PartsAgree middle past ys
      → PartsAgree from past (xs ++ ys)
  two_agree from middle past xs ys low high one other =
      same_agree from past (found_in xs ++ found_in ys) (found_in (xs ++ ys)) (sym (flat_map-append (part_occurrences g leaves kind) xs ys))
      (agree_joined (base + from) (base + middle) (base + past) (λ left. found_in xs) (λ left. found_in ys) (omega (arith, low)) (omega (arith, high)) one other)

  -- a change within another has no variables of its own
  abbrev pub IsBare : What Shape → Type 0
  IsBare what = (on : Bool) → what_occurrences g leaves kind on what ≡ []

  nested_bare : (what : What Shape) (side : Side) → IsBare what → found_in (nested what side) ≡ []
  nested_bare what Both bare = refl
  nested_bare what Left bare = append-nil (what_occurrences g leaves kind true what) ∙ bare true
  nested_bare what Right bare = append-nil (what_occurrences g leaves kind false what) ∙ bare false

  -- the two sides of a change
  pub change_agrees : (what : What Shape) (side : Side) (from one middle two past : ℕ) (xs ys : List (Part Shape)) → IsBare what → from ≤ one → middle ≤ two
      → one ≤ middle → two ≤ past
      → PartsAgree one middle xs → PartsAgree two past ys → PartsAgree from past (nested what side ++ xs ++ ys)
  change_agrees what side from one middle two past xs ys bare a b c d left right =
      same_agree from past (found_in (xs ++ ys)) (found_in (nested what side ++ xs ++ ys))
      (flat_map-append (part_occurrences g leaves kind) xs ys
      ∙ ap (λ (found : List Occurrence). (found ++ found_in xs) ++ found_in ys) (sym (nested_bare what side bare))
      ∙ ap (λ (found : List Occurrence). found ++ found_in ys) (sym (flat_map-append (part_occurrences g leaves kind) (nested what side) xs))
      ∙ sym (flat_map-append (part_occurrences g leaves kind) (nested what side ++ xs) ys))
      (two_agree from middle past xs ys (omega (arith, a, c)) (omega (arith, b, d))
      (agree_wider (base + from) (base + one) (base + middle) (base + middle) (λ left. found_in xs) (omega (arith, a)) (omega arith) left)
      (agree_wider (base + middle) (base + two) (base + past) (base + past) (λ left. found_in ys) (omega (arith, b)) (omega arith) right))

  -- ---- parts without sides in them

  one_agrees : (from past : ℕ) (side : Side) (what : What Shape) → Agree (base + from) (base + past) (λ left. what_occurrences g leaves kind left what)
      → PartsAgree from past (part side what)
  one_agrees from past side what a = record {
    sort_at = a.sort_at;
    each = λ left. all_joined (IsAt a.sort_at (base + from) (base + past)) (what_occurrences g leaves kind (is_left side) what) [] (a.each (is_left side)) tt;
  }

  pub item_agrees : (from past : ℕ) (side : Side) (shape : Shape) → Spans from past shape → PartsAgree from past (part side (Item shape))
  item_agrees from past side shape spans = one_agrees from past side (Item shape) (term_agrees g leaves base stand from past (item_sort kind) (item_sort kind == sort_k) shape spans)

  pub made_agrees : (from past : ℕ) (side : Side) (shape : Shape) → Spans from past shape → PartsAgree from past (part side (Made shape))
  made_agrees from past side shape spans = one_agrees from past side (Made shape) (term_agrees g leaves base stand from past (whole_sort kind) true shape spans)

  pub tail_agrees : (from past : ℕ) (side : Side) (shape : Shape) → Spans from past shape → PartsAgree from past (leaf_part Tail side shape)
  unfolding Spans
  tail_agrees from past side (LeafShape at) spans = one_agrees from past side (Tail at) (leaf_agrees g leaves base stand at from past sort_k true spans.0 spans.1)
  tail_agrees from past side (NodeS' p _ shapes) spans = none_agree from past
  tail_agrees from past side (ItemsS' p _ shapes rest) spans = none_agree from past

  pub rest_agrees : (from past : ℕ) (side : Side) (shape : Shape) → Spans from past shape → PartsAgree from past (leaf_part Rest side shape)
  unfolding Spans
  rest_agrees from past side (LeafShape at) spans = one_agrees from past side (Rest at) (leaf_agrees g leaves base stand at from past (whole_sort kind) true spans.0 spans.1)
  rest_agrees from past side (NodeS' p _ shapes) spans = none_agree from past
  rest_agrees from past side (ItemsS' p _ shapes rest) spans = none_agree from past

  -- ---- entries

  abbrev found_at : Shape → Bool → List Occurrence
  found_at shape left = occurrences g leaves left sort_kitem false shape

  pub entry_agrees : (from middle past : ℕ) (side : Side) (key value : Shape) → Spans from middle key → Spans middle past value
      → PartsAgree from past (part side (Entry key value))
  entry_agrees from middle past side key value spans also =
      let low = spans_order from middle key spans in
      let high = spans_order middle past value also in
      one_agrees from past side (Entry key value)
      (agree_joined (base + from) (base + middle) (base + past) (found_at key) (found_at value) (omega (arith, low)) (omega (arith, high))
      (term_agrees g leaves base stand from middle sort_kitem false key spans) (term_agrees g leaves base stand middle past sort_kitem false value also))

  -- a key is told twice where the value changes
  told_twice : (f : ℕ → ℕ) (from past : ℕ) (l r : Bool) (key before after : Shape)
      → ((left : Bool) → AllByRecursion (IsAt f from past) ((found_at key left ++ found_at before left) ++ found_at after left))
      → AllByRecursion (IsAt f from past) ((found_at key l ++ found_at before l) ++ ((found_at key r ++ found_at after r) ++ []))
  told_twice f from past l r key before after each =
      let P : Occurrence → Type 0 = IsAt f from past in
      let front : AllByRecursion P (found_at key r ++ found_at before r) = left_of_all P (found_at key r ++ found_at before r) (found_at after r) (each r) in
      all_joined P (found_at key l ++ found_at before l) ((found_at key r ++ found_at after r) ++ []) (left_of_all P (found_at key l ++ found_at before l) (found_at after l) (each l))
      (all_joined P (found_at key r ++ found_at after r) []
      (all_joined P (found_at key r) (found_at after r) (left_of_all P (found_at key r) (found_at before r) front) (right_of_all P (found_at key r ++ found_at before r) (found_at after r) (each r))) tt)

  pub changed_agrees : (what : What Shape) (from one two three four past : ℕ) (side : Side) (key before after : Shape) → IsBare what → Spans from one key
      → one ≤ two → Spans two three before → three ≤ four
      → Spans four past after → PartsAgree from past (nested what side ++ part (left_of side) (Entry key before) ++ part (right_of side) (Entry key after))
  changed_agrees what from one two three four past side key before after bare keys a befores b afters =
      let key_order = spans_order from one key keys in
      let before_order = spans_order two three before befores in
      let after_order = spans_order four past after afters in
      let all = agree_joined (base + from) (base + three) (base + past) (λ left. found_at key left ++ found_at before left) (found_at after)
      (omega (arith, key_order, a, before_order)) (omega (arith, b, after_order))
      (agree_joined (base + from) (base + one) (base + three) (found_at key) (found_at before) (omega (arith, key_order)) (omega (arith, a, before_order))
      (term_agrees g leaves base stand from one sort_kitem false key keys)
      (agree_wider (base + one) (base + two) (base + three) (base + three) (found_at before) (omega (arith, a)) (omega arith) (term_agrees g leaves base stand two three sort_kitem false before befores)))
      (agree_wider (base + three) (base + four) (base + past) (base + past) (found_at after) (omega (arith, b)) (omega arith) (term_agrees g leaves base stand four past sort_kitem false after afters)) in
      let l = is_left (left_of side) in
      let r = is_left (right_of side) in
      same_agree from past ((found_at key l ++ found_at before l) ++ ((found_at key r ++ found_at after r) ++ []))
      (found_in (nested what side ++ part (left_of side) (Entry key before) ++ part (right_of side) (Entry key after)))
      (ap (λ (found : List Occurrence). found ++ ((found_at key r ++ found_at after r) ++ [])) (sym (append-nil (found_at key l ++ found_at before l)))
      ∙ ap (λ (found : List Occurrence). (found ++ found_in (part (left_of side) (Entry key before))) ++ found_in (part (right_of side) (Entry key after))) (sym (nested_bare what side bare))
      ∙ ap (λ (found : List Occurrence). found ++ found_in (part (right_of side) (Entry key after)))
      (sym (flat_map-append (part_occurrences g leaves kind) (nested what side) (part (left_of side) (Entry key before))))
      ∙ sym (flat_map-append (part_occurrences g leaves kind) (nested what side ++ part (left_of side) (Entry key before)) (part (right_of side) (Entry key after))))
      (record { sort_at = all.sort_at; each = λ left. told_twice all.sort_at (base + from) (base + past) l r key before after all.each })

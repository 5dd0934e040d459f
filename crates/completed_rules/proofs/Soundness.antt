-- A completed rule is sound.
use Rattle.std.proofs.Common.{◌≡◌, inl, inr, ℕ, Bool, true, false, not, ◌&&◌, ◌||◌, List, [], ◌∷◌, ◌++◌, replicate, Some, None, refl, sym, ap, ◌∙◌, subst}
use Rattle.std.specs.Prelude.{Contains, slice_get}
use Rattle.std.specs.Option.{option_map, option_map_or}
use Rattle.std.specs.List.{list_all}
use Rattle.k_terms.specs.Sorts.{sort_bag}
use Rattle.rule_terms.specs.declared.defs.CellShape.{CellShape}
use Rattle.rule_terms.specs.declared.rule.Draft.{Draft}
use Rattle.rule_terms.specs.declared.rule.Rule.{Rule}
use Rattle.rule_terms.specs.InRange.{is_pattern_in_range, is_origin_in_range}
use Rattle.rule_terms.specs.Language.{Language}
use Rattle.rule_terms.specs.Numbers.{has_number, all_different}
use Rattle.rule_terms.specs.Sound.{all_patterns, condition_test, has_formed_values, has_no_operator, has_whole_sequences, has_rest_at_end, has_one_form, is_item, is_made, may_come_and_go, IsPlaced, HasSoundCells, HasSoundPatterns, HasNumbersInRange, IsSoundRule}
use Rattle.rule_terms.specs.Spots.{Spot, has_mark, new_spots}
use Rattle.rule_terms.proofs.Defined.{joins}
use Rattle.live_config.proofs.Members.{Has, Apart, lacks_number, contains-has, all_has}
use Rattle.live_config.proofs.SpotTree.{marks, outermost as outermost_of}
use Rattle.strictness.specs.SoundDrafts.{spots_of}
use Rattle.cell_trees.specs.Trees.{Tree as Declaration}
use Rattle.cell_trees.specs.Initials.{held_at}
use Rattle.cell_trees.specs.Defaults.{body_of}
use Rattle.cell_contents.specs.Soundness.{AreSoundContents}
use Rattle.completed_rules.specs.Laws.{IsCompletedSoundly}
use Rattle.completed_rules.proofs.Places.{Place, mark_at}
use Rattle.completed_rules.proofs.Sides.{of_written, of_added, of_filled}
use Rattle.completed_rules.proofs.Bodies.{patterns_with, end_with, made_with}
use Rattle.completed_rules.proofs.Held.{held_pass, held_end, range_contents, sequence_contents, item_contents, formed_contents}
use Rattle.completed_rules.proofs.Whole.{IsCase, side_of, root, total, cells_of, classified, marks_apart, written_at, added_at, HasParent, outermost, stands_in, parent_of_place}
use Rattle.completed_rules.proofs.Parenting.{stands}
use Rattle.completed_rules.proofs.Kinding.{kinded}
use Rattle.completed_rules.proofs.Comparing.{staying, new_closed, goes}
use Rattle.completed_rules.proofs.Passing.{Bodied, drafted, added, held, bodied, all_each, pass}
use Rattle.completed_rules.proofs.Variables.{sound_variables}

apart_different : (ns : List ℕ) → Apart ns → all_different ns ≡ true
apart_different [] apart = refl
apart_different (n ∷ ns) apart = joins (not (has_number ns n)) (all_different ns) (ap not (lacks_number ns n apart.0)) (apart_different ns apart.1)

module _ (d : Declaration) (language : Language) (draft : Draft) (rule : Rule) (c : IsCase d language.sorts draft rule) (same : language.cells ≡ d.shapes)
    (contents : AreSoundContents language.sorts d) where
  abbrev Side : Bool → List Spot
  Side left = cells_of d language.sorts draft rule c left

  one_shape : (one other : CellShape) (n : ℕ) → slice_get d.shapes n ≡ Some one → slice_get d.shapes n ≡ Some other → one ≡ other
  one_shape one other n e f = let g : Some one ≡ Some other = sym e ∙ f in cc

  placed : (left : Bool) (p : Spot) → Contains (Side left) p → IsPlaced language rule.vars (Side left) p
  placed left p there =
      let h = contains-has (Side left) p there in
      let k = kinded d language.sorts draft rule c contents left p h in
      let s = stands d language.sorts draft rule c left p h in
      let shapes = one_shape s.declared.shape k.shape p.cell s.declared.declared k.declared in
      record {
        shape = k.shape;
        declared = ap (λ cs. slice_get cs p.cell) same ∙ k.declared;
        parent = s.parent_is ∙ ap (option_map (λ (n : ℕ). Some n)) (sym s.declared.parent_is ∙ ap (λ (x : CellShape). x.parent) shapes);
        kind = k.kind;
        value = k.value;
      }

  -- ---- the root

  abbrev First : Bool → Spot
  First left = outermost_of (side_of rule left)

  of_root : (left : Bool) (z : Place) → z.above ≡ None → HasParent d language.sorts draft rule c z → root d language.sorts draft rule c ≡ z
  of_root left z e (outermost is) = is
  of_root left z e (stands_in y before after u i split is) =
      absurd (let f : Some (mark_at y) ≡ None = ap (λ (x : Place). x.above) is ∙ e in cc)

  root_mark : (left : Bool) → (First left).mark ≡ mark_at (root d language.sorts draft rule c)
  root_mark left =
      elim (classified d language.sorts draft rule c left (First left) (inl refl)) [
        | of_written z i w ↦
            written_at d language.sorts draft rule c left z (First left) w ∙ ap mark_at (sym (of_root left z (sym w.above_is) (parent_of_place d language.sorts draft rule c z i)))
        | of_added z i w ↦
            added_at d language.sorts draft rule c left z (First left) w ∙ ap mark_at (sym (of_root left z (sym w.above_is) (parent_of_place d language.sorts draft rule c z i)))
        | of_filled z i f ↦ elim f.default.above_is [
          | inl top ↦ absurd (let g : None ≡ Some f.mark = top.1 in cc)
          | inr deep ↦ absurd (let g : None ≡ Some _ = deep.1 in cc)
        ]
      ]

  goes_in : (left : Bool) (p : Spot) → Has (Side left) p → may_come_and_go language (Side (not left)) p ≡ true
  goes_in left p h =
      ap (λ cs. has_mark (Side (not left)) p.mark || option_map_or (λ (s : CellShape). s.many) (slice_get cs p.cell) false
      || option_map_or (λ above. not (has_mark (Side (not left)) above)) p.above false) same ∙ goes d language.sorts draft rule c left p h

  sound_cells : HasSoundCells language rule
  sound_cells = record {
    left_marks = apart_different (marks (Side true)) (marks_apart d language.sorts draft rule c true);
    right_marks = apart_different (marks (Side false)) (marks_apart d language.sorts draft rule c false);
    one_root = root_mark true ∙ sym (root_mark false);
    left_placed = placed true;
    right_placed = placed false;
    staying = λ p q h k e. staying d language.sorts draft rule c p q (contains-has (Side true) p h) (contains-has (Side false) q k) e;
    new_closed = λ q h. new_closed d language.sorts draft rule c q (contains-has (new_spots rule) q h);
    removed_alone = all_each (may_come_and_go language (Side false)) (Side true) (goes_in true);
    new_alone = all_each (may_come_and_go language (Side true)) (Side false) (goes_in false);
    few_left = c.completed.few.left;
    few_new = c.completed.few.new;
  }

  -- ---- patterns

  abbrev more : List ℕ
  more = replicate (total d language.sorts draft rule c) sort_bag

  vars_are : draft.vars ++ more ≡ rule.vars
  vars_are = sym c.completed.has.is.vars

  when_is : draft.when ≡ rule.when
  when_is = sym c.completed.has.is.when

  plain_left : (p : Spot) → Bodied d language.sorts draft rule c true p → (all_patterns has_no_operator p.body && not (is_made p.body)) ≡ true
  plain_left p (drafted s cells h m e) =
      (λ i. (ap (all_patterns has_no_operator) e ∙ patterns_with has_no_operator s.body cells) i && not ((ap is_made e ∙ made_with s.body cells) i))
      ∙ all_has (λ (q : Spot). all_patterns has_no_operator q.body && not (is_made q.body)) (spots_of draft.left) s c.sound.no_operator h
  plain_left p (added n cells less m e) = ap (λ b. all_patterns has_no_operator b && not (is_made b)) e
  plain_left p (held cells on e) = absurd (let f : true ≡ false = on in cc)

  sound_patterns : HasSoundPatterns rule
  sound_patterns = record {
    values = pass d language.sorts draft rule c (all_patterns has_formed_values) (patterns_with has_formed_values) (λ cells rest. refl)
        (held_pass has_formed_values d (formed_contents language.sorts d contents)) c.sound.values;
    condition_values = subst (λ when. list_all (condition_test has_formed_values) when ≡ true) when_is c.sound.condition_values;
    no_operator = all_each (λ (p : Spot). all_patterns has_no_operator p.body && not (is_made p.body)) (Side true) (λ p h. plain_left p (bodied d language.sorts draft rule c true p h));
    sequences = pass d language.sorts draft rule c (all_patterns (has_whole_sequences rule.vars)) (patterns_with (has_whole_sequences rule.vars)) (λ cells rest. refl)
        (held_pass (has_whole_sequences rule.vars) d (sequence_contents language.sorts d contents rule.vars))
        (subst (λ vars. list_all (λ (p : Spot). all_patterns (has_whole_sequences vars) p.body) (spots_of draft.left ++ spots_of draft.right) ≡ true) vars_are (c.sound.sequences more));
    condition_sequences = subst (λ when. list_all (condition_test (has_whole_sequences rule.vars)) when ≡ true) when_is
        (subst (λ vars. list_all (condition_test (has_whole_sequences vars)) draft.when ≡ true) vars_are (c.sound.condition_sequences more));
    forms = pass d language.sorts draft rule c (has_one_form rule.vars) (λ body cells i. end_with body cells i && patterns_with (is_item rule.vars) body cells i) (λ cells rest. refl)
        (λ n cells. joins (has_rest_at_end (body_of (held_at d n) cells)) (all_patterns (is_item rule.vars) (body_of (held_at d n) cells)) (held_end (held_at d n) cells)
        (held_pass (is_item rule.vars) d (item_contents language.sorts d contents rule.vars) n cells))
        (subst (λ vars. list_all (λ (p : Spot). has_one_form vars p.body) (spots_of draft.left ++ spots_of draft.right) ≡ true) vars_are (c.sound.forms more));
    condition_forms = subst (λ when. list_all (condition_test (is_item rule.vars)) when ≡ true) when_is
        (subst (λ vars. list_all (condition_test (is_item vars)) draft.when ≡ true) vars_are (c.sound.condition_forms more));
  }

  numbers_in_range : HasNumbersInRange language.sorts rule
  numbers_in_range = record {
    origin = subst (λ o. is_origin_in_range language.sorts o ≡ true) (sym c.completed.has.is.origin) c.sound.origin;
    patterns = pass d language.sorts draft rule c (all_patterns (is_pattern_in_range language.sorts)) (patterns_with (is_pattern_in_range language.sorts)) (λ cells rest. refl)
        (held_pass (is_pattern_in_range language.sorts) d (range_contents language.sorts d contents)) c.sound.numbers;
    conditions = subst (λ when. list_all (condition_test (is_pattern_in_range language.sorts)) when ≡ true) when_is c.sound.condition_numbers;
  }

  sound_rule : IsSoundRule language rule
  sound_rule = record { cells = sound_cells; variables = sound_variables d language.sorts draft rule c; patterns = sound_patterns; numbers = numbers_in_range }

pub completed_soundly : IsCompletedSoundly
completed_soundly d language draft rule tree same contents sound fits writes completed =
    sound_rule d language draft rule (record { tree = tree; sound = sound; fits = fits; writes = writes; completed = completed }) same contents

-- A rule that rewrites the front of one cell is sound where its parts are.
use Rattle.std.proofs.Common.{◌≡◌, ◌⊎◌, inl, inr, ℕ, ◌<◌, Bool, true, false, not, ◌||◌, List, [], ◌∷◌, ◌++◌, length, refl, sym, ap, subst, arith}
use Rattle.std.proofs.lemmas.Bool.{leb-true}
use Rattle.std.proofs.lemmas.List.Elements.{All-contains, All-from_recursion}
use Rattle.std.specs.Prelude.{Some, None, Contains}
use Rattle.std.specs.Option.{option_map}
use Rattle.std.specs.List.{list_all}
use Rattle.k_terms.specs.Sorts.{SortOrder}
use Rattle.rule_terms.specs.declared.pattern.Pattern.{Pattern}
use Rattle.rule_terms.specs.declared.pattern.Body.{Seq}
use Rattle.rule_terms.specs.declared.pattern.CellPat.{CellPat}
use Rattle.rule_terms.specs.declared.rule.Cond.{Cond}
use Rattle.rule_terms.specs.declared.rule.Origin.{Origin}
use Rattle.rule_terms.specs.declared.rule.Rule.{Rule}
use Rattle.rule_terms.specs.declared.rule.Draft.{Draft}
use Rattle.rule_terms.specs.Language.{Language}
use Rattle.rule_terms.specs.Spots.{Spot, spots, spots_in}
use Rattle.rule_terms.specs.InRange.{is_pattern_in_range, is_origin_in_range}
use Rattle.rule_terms.specs.Sound.{side_limit, is_body_of, has_formed_values, has_no_operator, has_whole_sequences, is_sequence_variable, is_item, condition_test, IsPlaced, IsSameCell, cells_rest, body_mentions, conditions_mention, HasSoundCells, HasSoundVariables, HasSoundPatterns, HasNumbersInRange, IsSoundRule}
use Rattle.rule_terms.proofs.Defined.{one_of}
use Rattle.strictness.specs.Laws.{IsRoot}
use Rattle.strictness.specs.SoundDrafts.{IsSoundDraft}

-- the cell of a side
abbrev pub cell_of : ℕ → ℕ → List Pattern → CellPat
cell_of cell rest parts = record { cell = cell; mark = 0; body = Seq parts (Some rest) }

abbrev pub one_cell_rule : Origin → ℕ → List ℕ → ℕ → List Pattern → List Pattern → List Cond → Rule
one_cell_rule origin cell vars rest left right when = record { origin = origin; vars = vars; left = cell_of cell rest left; right = cell_of cell rest right; when = when }

-- parts that may stand on a side
pub record ArePlain (vars : List ℕ) (parts : List Pattern) : Type 0 where
  pub values : list_all has_formed_values parts ≡ true
  pub no_operator : list_all has_no_operator parts ≡ true
  pub sequences : list_all (has_whole_sequences vars) parts ≡ true
  pub items : list_all (λ p. not (is_sequence_variable vars p)) parts ≡ true

-- conditions that may stand in a rule
pub record ArePlainConditions (vars : List ℕ) (when : List Cond) : Type 0 where
  pub values : list_all (condition_test has_formed_values) when ≡ true
  pub sequences : list_all (condition_test (has_whole_sequences vars)) when ≡ true
  pub forms : list_all (condition_test (is_item vars)) when ≡ true

-- numbers that may stand in a rule
pub record AreInRange (o : SortOrder) (origin : Origin) (left right : List Pattern) (when : List Cond) : Type 0 where
  pub of_origin : is_origin_in_range o origin ≡ true
  pub on_left : list_all (is_pattern_in_range o) left ≡ true
  pub on_right : list_all (is_pattern_in_range o) right ≡ true
  pub conditions : list_all (condition_test (is_pattern_in_range o)) when ≡ true

-- the variables of a rule: each stands on the left, and those that stand anywhere are declared
pub record AreBound (vars : List ℕ) (rest : ℕ) (left right : List Pattern) (when : List Cond) : Type 0 where
  pub bound : (x : ℕ) → x < length vars → body_mentions x (Seq left (Some rest)) ≡ true
  pub on_left : (x : ℕ) → body_mentions x (Seq left (Some rest)) ≡ true → x < length vars
  pub on_right : (x : ℕ) → body_mentions x (Seq right (Some rest)) ≡ true → x < length vars
  pub in_conditions : (x : ℕ) → conditions_mention x when ≡ true → x < length vars

either : (a b : Bool) → (a ≡ true) ⊎ (b ≡ true) → (a || b) ≡ true
either true b h = refl
either false b (inl e) = cc
either false b (inr e) = e

spot_of : ℕ → ℕ → List Pattern → Spot
spot_of cell rest parts = record { cell = cell; mark = 0; above = None; body = Seq parts (Some rest) }

only : {X : Type 0} (x y : X) → Contains (x ∷ []) y → x ≡ y
only x y has = All-contains (λ z. x ≡ z) (x ∷ []) y (All-from_recursion (λ z. x ≡ z) (x ∷ []) (refl, tt)) has

-- a property of the one cell of a side is one of each of its cells
each_spot : (P : Spot → Type 0) (cell rest : ℕ) (parts : List Pattern) → P (spot_of cell rest parts) → (q : Spot) → Contains (spots (cell_of cell rest parts)) q → P q
unfolding spots_in spot_of
each_spot P cell rest parts holds q has = subst P (only (spot_of cell rest parts) q has) holds

module _ (d : Language) (cell : ℕ) (root : IsRoot d cell) where
  placed : (vars : List ℕ) (rest : ℕ) (parts : List Pattern) → IsPlaced d vars (spots (cell_of cell rest parts)) (spot_of cell rest parts)
  unfolding spots_in spot_of
  placed vars rest parts = record {
    shape = root.shape;
    declared = root.declared;
    parent = ap (option_map Some) (sym root.alone);
    kind = ap (λ kind. is_body_of kind (Seq parts (Some rest))) root.kind;
    value = λ q sort is kind. cc;
  }

  sound_cells : (origin : Origin) (vars : List ℕ) (rest : ℕ) (left right : List Pattern) (when : List Cond) → HasSoundCells d (one_cell_rule origin cell vars rest left right when)
  unfolding spots_in spot_of
  sound_cells origin vars rest left right when = record {
    left_marks = refl;
    right_marks = refl;
    one_root = refl;
    left_placed = each_spot (IsPlaced d vars (spots (cell_of cell rest left))) cell rest left (placed vars rest left);
    right_placed = each_spot (IsPlaced d vars (spots (cell_of cell rest right))) cell rest right (placed vars rest right);
    staying = λ p q on_left on_right same.
        each_spot (λ p. IsSameCell p q) cell rest left
        (each_spot (IsSameCell (spot_of cell rest left)) cell rest right (record { cell = refl; above = refl; rest = refl }) q on_right) p on_left;
    new_closed = λ q new. absurd (omega (arith, new.1));
    removed_alone = refl;
    new_alone = refl;
    few_left = leb-true 1 side_limit refl;
    few_new = leb-true 0 side_limit refl;
  }

sound_variables : (origin : Origin) (cell : ℕ) (vars : List ℕ) (rest : ℕ) (left right : List Pattern) (when : List Cond) → AreBound vars rest left right when
    → HasSoundVariables (one_cell_rule origin cell vars rest left right when)
unfolding spots_in spot_of
sound_variables origin cell vars rest left right when are =
    let in_left = λ (x : ℕ). body_mentions x (Seq left (Some rest)) in
    let in_right = λ (x : ℕ). body_mentions x (Seq right (Some rest)) in
    record {
      bound = λ x within. either (in_left x) false (inl (are.bound x within));
      known = λ x met. elim (one_of (in_left x || (in_right x || false)) (conditions_mention x when) met) [
        | inl sides ↦ elim (one_of (in_left x) (in_right x || false) sides) [
          | inl here ↦ are.on_left x here
          | inr other ↦ elim (one_of (in_right x) false other) [ inl there ↦ are.on_right x there | inr none ↦ cc ]
        ]
        | inr condition ↦ are.in_conditions x condition
      ];
      rests = λ p x within is. absurd (each_spot (λ q. cells_rest q.body ≡ Some x → ⊥) cell rest left (λ e. cc) p within is);
    }

sound_patterns : (origin : Origin) (cell : ℕ) (vars : List ℕ) (rest : ℕ) (left right : List Pattern) (when : List Cond) → ArePlain vars left → ArePlain vars right
    → ArePlainConditions vars when → HasSoundPatterns (one_cell_rule origin cell vars rest left right when)
unfolding spots_in
sound_patterns origin cell vars rest left right when on_left on_right conditions = record {
  values = rw (on_left.values, on_right.values) refl;
  condition_values = conditions.values;
  no_operator = rw on_left.no_operator refl;
  sequences = rw (on_left.sequences, on_right.sequences) refl;
  condition_sequences = conditions.sequences;
  forms = rw (on_left.items, on_right.items) refl;
  condition_forms = conditions.forms;
}

sound_numbers : (o : SortOrder) (origin : Origin) (cell : ℕ) (vars : List ℕ) (rest : ℕ) (left right : List Pattern) (when : List Cond) → AreInRange o origin left right when
    → HasNumbersInRange o (one_cell_rule origin cell vars rest left right when)
unfolding spots_in
sound_numbers o origin cell vars rest left right when are = record {
  origin = are.of_origin;
  patterns = rw (are.on_left, are.on_right) refl;
  conditions = are.conditions;
}

-- the rule is sound
pub one_cell_sound : (d : Language) (origin : Origin) (cell : ℕ) (vars : List ℕ) (rest : ℕ) (left right : List Pattern) (when : List Cond) → IsRoot d cell
    → ArePlain vars left → ArePlain vars right → ArePlainConditions vars when → AreBound vars rest left right when
    → AreInRange d.sorts origin left right when → IsSoundRule d (one_cell_rule origin cell vars rest left right when)
one_cell_sound d origin cell vars rest left right when root on_left on_right conditions bound numbers = record {
  cells = sound_cells d cell root origin vars rest left right when;
  variables = sound_variables origin cell vars rest left right when bound;
  patterns = sound_patterns origin cell vars rest left right when on_left on_right conditions;
  numbers = sound_numbers d.sorts origin cell vars rest left right when numbers;
}

-- ---- the draft

abbrev pub one_cell_of : Origin → ℕ → List ℕ → ℕ → List Pattern → List Pattern → List Cond → Draft
one_cell_of origin cell vars rest left right when =
    record { origin = origin; vars = vars; left = cell_of cell rest left ∷ []; right = cell_of cell rest right ∷ []; when = when }

pub one_cell_draft : (o : SortOrder) (origin : Origin) (cell : ℕ) (vars : List ℕ) (rest : ℕ) (left right : List Pattern) (when : List Cond)
    → ((more : List ℕ) → ArePlain (vars ++ more) left) → ((more : List ℕ) → ArePlain (vars ++ more) right) → ((more : List ℕ) → ArePlainConditions (vars ++ more) when)
    → AreBound vars rest left right when → AreInRange o origin left right when → IsSoundDraft o (one_cell_of origin cell vars rest left right when)
unfolding spots_in spot_of
one_cell_draft o origin cell vars rest left right when on_left on_right conditions are numbers =
    let variables = sound_variables origin cell vars rest left right when are in
    record {
      left_marks = refl;
      right_marks = refl;
      staying = λ p q in_left in_right same.
          each_spot (λ p. (p.cell ≡ q.cell) × (cells_rest p.body ≡ cells_rest q.body)) cell rest left
          (each_spot (λ q. (cell ≡ q.cell) × (None ≡ cells_rest q.body)) cell rest right (refl, refl) q in_right) p in_left;
      bound = variables.bound;
      known = variables.known;
      values = rw ((on_left []).values, (on_right []).values) refl;
      condition_values = (conditions []).values;
      no_operator = rw (on_left []).no_operator refl;
      sequences = λ more. rw ((on_left more).sequences, (on_right more).sequences) refl;
      condition_sequences = λ more. (conditions more).sequences;
      forms = λ more. rw ((on_left more).items, (on_right more).items) refl;
      condition_forms = λ more. (conditions more).forms;
      origin = numbers.of_origin;
      numbers = rw (numbers.on_left, numbers.on_right) refl;
      condition_numbers = numbers.conditions;
    }

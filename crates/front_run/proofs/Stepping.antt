-- A rewriting at the front is a plain step, and a plain step of a rule at the front is such a rewriting.
use Rattle.std.proofs.Common.{filter, not, ◌≡◌, ℕ, zero, suc, ◌<◌, ◌≤◌, ◌+◌, ◌-◌, List, [], ◌∷◌, length, get_or, refl, sym, ap, ◌∙◌, subst, arith, false}
use mathlib.Core.Logic.{⊎_elim}
use Rattle.std.proofs.lemmas.Bool.Decides.{leb_tells, nat_tests}
use Rattle.std.specs.Prelude.{Option, Some, None, IsSomeAnd, slice_get, cond, ◌==◌}
use Rattle.std.specs.Option.{option_map}
use Rattle.std.proofs.lemmas.Option.{slice_get-get_or, slice_get_within}
use Rattle.k_terms.specs.declared.value.Value.{Value}
use Rattle.k_terms.specs.declared.value.Content.TheVariants.{Seq as SeqContent}
use Rattle.k_terms.specs.Sorts.{SortOrder}
use Rattle.rule_terms.specs.declared.plain.Plain.{Plain}
use Rattle.rule_terms.specs.declared.pattern.Pattern.{Pattern}
use Rattle.rule_terms.specs.declared.pattern.Body.{Seq as SeqBody}
use Rattle.rule_terms.specs.declared.pattern.CellPat.{CellPat}
use Rattle.rule_terms.specs.declared.rule.Rule.{Rule}
use Rattle.rule_terms.specs.Options.{joined}
use Rattle.rule_terms.specs.Substitution.{Subst, rest_of, as_sequence}
use Rattle.rule_terms.specs.Eval.{eval_all}
use Rattle.rule_terms.specs.Fill.{content_of, fill, fill_body, plain_cell}
use Rattle.rule_terms.specs.Language.{Language, rule_at}
use Rattle.rule_terms.specs.Rewriting.{Alike, IsFilled, Step, IsStuck}
use Rattle.rule_terms.specs.Open.{open_rules}
use Rattle.rule_terms.proofs.Alike.{filled}
use Rattle.live_config.specs.Configuration.{plain, tree}
use Rattle.live_config.specs.Firing.{Fires}
use Rattle.live_config.proofs.AlikeCells.{subst_alike_self}
use Rattle.live_config.proofs.Binding.{rule_contained}
use Rattle.rule_terms.specs.Spots.{Spot, spots, spots_in, has_mark, new_spots}
use Rattle.std.proofs.lemmas.List.{nil_from_length}
use Rattle.front_run.specs.Laws.{FrontStepsHaveSites}
use Rattle.front_run.proofs.Firing.{front_fires, front_site}
use Rattle.front_run.specs.Front.{one_cell, IsFront, Rewrites, NoneRewrites, IsFrontRule, AreFrontRules}

-- the one cell without its number
abbrev pub k_cell : List Value → Plain
k_cell values = plain_cell 0 (SeqContent values) []

pub one_cell_plain : (values : List Value) → k_cell values ≡ plain (one_cell values)
unfolding tree
one_cell_plain values = refl

abbrev side : List Pattern → Option ℕ → CellPat
side parts rest = record { cell = 0; mark = 0; body = SeqBody parts rest }

front_is : (p : CellPat) (parts : List Pattern) (rest : Option ℕ) → IsFront p parts rest → p ≡ side parts rest
front_is p parts rest front = λ i. record { cell = front.cell i; mark = front.mark i; body = front.body i }

side_filled : (parts : List Pattern) (rest : Option ℕ) (s : Subst) (values : List Value) → content_of (SeqBody parts rest) s ≡ Some (SeqContent values)
    → fill (side parts rest) s ≡ Some (k_cell values)
unfolding fill_body
side_filled parts rest s values is = ap (option_map (λ content. plain_cell 0 content [])) is

-- a side that has this content is the one cell with it
front_filled : (p : CellPat) (parts : List Pattern) (rest : Option ℕ) (s : Subst) (values : List Value) → IsFront p parts rest → content_of p.body s ≡ Some (SeqContent values)
    → IsFilled p s (plain (one_cell values))
front_filled p parts rest s values front is =
    subst (IsFilled p s) (one_cell_plain values)
    (subst (λ q. IsFilled q s (k_cell values)) (sym (front_is p parts rest front))
    (filled (side parts rest) s (k_cell values) (side_filled parts rest s values (ap (λ b. content_of b s) (sym front.body) ∙ is))))

-- a rewriting at the front is a step
pub front_step : (o : SortOrder) (r : Rule) (s : Subst) (values new : List Value) → Rewrites o r s values new → Step o (plain (one_cell values)) r s (plain (one_cell new))
front_step o r s values new rewrites = record {
  suits = rewrites.suits;
  before = front_filled r.left rewrites.left_parts rewrites.left_rest s values rewrites.left_front rewrites.left;
  after = front_filled r.right rewrites.right_parts rewrites.right_rest s new rewrites.right_front rewrites.right;
}

-- what a side is filled to is a cell with the content of its body
side_content : (parts : List Pattern) (rest : Option ℕ) (s : Subst) (u : Plain) → IsFilled (side parts rest) s u
    → (values : List Value) × (content_of (SeqBody parts rest) s ≡ Some (SeqContent values)) × Alike (k_cell values) u
unfolding fill_body
side_content parts rest s u is =
    elim (joined (eval_all parts s) (rest_of as_sequence rest s)) as (λ o. IsSomeAnd (option_map (λ content. plain_cell 0 content []) (option_map SeqContent o)) (λ t. Alike t u)
    → (values : List Value) × (option_map SeqContent o ≡ Some (SeqContent values)) × Alike (k_cell values) u) [
      | None ↦ λ h. absurd h
      | Some values ↦ λ h. (values, refl, h)
    ] is

alike_content : (values others : List Value) → Alike (k_cell values) (k_cell others) → SeqContent values ≡ SeqContent others
unfolding open_rules
alike_content values others alike = alike.1

-- a step of a rule at the front is a rewriting
pub step_rewrites : (o : SortOrder) (r : Rule) (s : Subst) (values : List Value) (u : Plain) (left right : List Pattern) (left_rest right_rest : Option ℕ)
    → IsFront r.left left left_rest → IsFront r.right right right_rest → Step o (plain (one_cell values)) r s u → (new : List Value) × Rewrites o r s values new × Alike (plain (one_cell new)) u
step_rewrites o r s values u left right left_rest right_rest left_front right_front step =
    let before = side_content left left_rest s (plain (one_cell values)) (subst (λ p. IsFilled p s (plain (one_cell values))) (front_is r.left left left_rest left_front) step.before) in
    let after = side_content right right_rest s u (subst (λ p. IsFilled p s u) (front_is r.right right right_rest right_front) step.after) in
    let same = alike_content before.0 values (subst (Alike (k_cell before.0)) (sym (one_cell_plain values)) before.2) in
    let rewrites : Rewrites o r s values after.0 = record {
      left_parts = left;
      right_parts = right;
      left_rest = left_rest;
      right_rest = right_rest;
      left_front = left_front;
      right_front = right_front;
      suits = step.suits;
      left = ap (λ b. content_of b s) left_front.body ∙ before.1 ∙ ap Some same;
      right = ap (λ b. content_of b s) right_front.body ∙ after.1;
    } in
    (after.0, rewrites, subst (λ t. Alike t u) (one_cell_plain after.0) after.2)

-- ---- where no rule rewrites

rule_after : (d : Language) (k : ℕ) → rule_at d (suc k) ≡ slice_get d.rules k
rule_after d k =
    let test : (suc k == 0) ≡ false = search (arith, nat_tests) in
    ap (λ b. cond b None (slice_get d.rules (suc k - 1))) test ∙ ap (slice_get d.rules) (omega arith)

rule_within : (d : Language) (r : Rule) (k : ℕ) → k < length d.rules → get_or d.rules k r ≡ r → rule_at d (suc k) ≡ Some r
rule_within d r k within is = rule_after d k ∙ slice_get-get_or d.rules k r within ∙ ap Some is

-- a rule at the front makes no cell
no_new_cell : (ps qs : List Pattern) (x y : Option ℕ) → length (filter (λ (k : Spot). not (has_mark (spots (side ps x)) k.mark)) (spots (side qs y))) ≡ 0
unfolding spots_in
no_new_cell ps qs x y = refl

no_births : (ps qs : List Pattern) (x y : Option ℕ) (r : Rule) (births : List ℕ) → r.left ≡ side ps x → r.right ≡ side qs y → length births ≡ length (new_spots r) → births ≡ []
no_births ps qs x y r births left right count =
    nil_from_length births
    (count ∙ (λ i. length (filter (λ (k : Spot). not (has_mark (spots (left i)) k.mark)) (spots (right i)))) ∙ no_new_cell ps qs x y)

-- each plain step from the one cell has a site, where all rules are at the front
pub front_steps_have_sites : FrontStepsHaveSites
front_steps_have_sites d values fronts r s u contains step =
    let front = fronts r contains in
    let parts = front.parts in
    let n = Some (length front.variables) in
    let rewrites = step_rewrites d.sorts r s values u (front.left ∷ []) (front.right ∷ []) n n parts.left_front parts.right_front step in
    let number = suc contains.0 in
    let fires = front_fires d number r s values rewrites.0 (rule_within d r contains.0 contains.1 contains.2) rewrites.1 in
    record {
      site = front_site number;
      bound = s;
      same = subst_alike_self s;
      binds = fires.binds;
      fires = λ births count different free.
          let none = no_births (front.left ∷ []) (front.right ∷ []) n n r births (front_is r.left (front.left ∷ []) n parts.left_front) (front_is r.right (front.right ∷ []) n parts.right_front) count in
          (one_cell rewrites.0, subst (λ bs. Fires d (one_cell values) (front_site number) bs r s (one_cell rewrites.0)) (sym none) fires, rewrites.2);
    }

pub stuck_of : (d : Language) (values : List Value) → ((number : ℕ) → NoneRewrites d values number) → AreFrontRules d → IsStuck d (plain (one_cell values))
stuck_of d values none fronts = λ r s u contains step.
    let front = fronts r contains in
    let rewrites = step_rewrites d.sorts r s values u (front.left ∷ []) (front.right ∷ []) (Some (length front.variables)) (Some (length front.variables)) front.parts.left_front front.parts.right_front step in
    let k = contains.0 in
    none (suc (suc k)) (suc k) r s rewrites.0 (omega arith) (rule_within d r k contains.1 contains.2) front rewrites.1

pub not_stuck : (d : Language) (r : Rule) (s : Subst) (number : ℕ) (values new : List Value) → rule_at d number ≡ Some r → Rewrites d.sorts r s values new → IsStuck d (plain (one_cell values)) → ⊥
not_stuck d r s number values new is rewrites stuck = stuck r s (plain (one_cell new)) (rule_contained d number r is) (front_step d.sorts r s values new rewrites)

-- ---- going through the rules

rule_past : (d : Language) (n m : ℕ) (r : Rule) → rule_at d n ≡ None → n ≤ m → 0 < n → rule_at d m ≡ Some r → ⊥
rule_past d zero m r none past some is = absurd (omega arith)
rule_past d (suc n) zero r none past some is = absurd (omega arith)
rule_past d (suc n) (suc m) r none past some is =
    let within : m < length d.rules = slice_get_within d.rules m r (sym (rule_after d m) ∙ is) in
    let there : slice_get d.rules n ≡ Some (get_or d.rules n r) = slice_get-get_or d.rules n r (omega arith) in
    let no : None ≡ Some (get_or d.rules n r) = sym none ∙ rule_after d n ∙ there in cc

-- where no rule has this number, no rule has it or a greater one
pub none_past : (d : Language) (values : List Value) (n m : ℕ) → (rule_at d n ≡ None) × (0 < n) → NoneRewrites d values n → NoneRewrites d values m
none_past d values n m none before = λ k r s new below is front.
    ⊎_elim
    (λ past. absurd (rule_past d n k r none.0 past.1 none.1 is))
    (λ less. before k r s new less.1 is front)
    (leb_tells n k)

pub none_more : (d : Language) (values : List Value) (n : ℕ) (r : Rule) → NoneRewrites d values n → rule_at d n ≡ Some r
    → (IsFrontRule d.sorts r → (s : Subst) (new : List Value) → Rewrites d.sorts r s values new → ⊥) → NoneRewrites d values (n + 1)
none_more d values n r before is none = λ k q s new below is_k front.
    ⊎_elim
    (λ past.
    let same : k ≡ n = omega (arith, below, past.1) in
    let same_rule : Some q ≡ Some r = sym is_k ∙ ap (rule_at d) same ∙ is in
    let same_one : q ≡ r = cc in
    subst (λ p. IsFrontRule d.sorts p → (s : Subst) (new : List Value) → Rewrites d.sorts p s values new → ⊥) (sym same_one) none front s new)
    (λ less. before k q s new less.1 is_k front)
    (leb_tells n k)

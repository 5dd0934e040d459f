-- What stands at each number after a firing.
use Rattle.std.proofs.Common.{inl, inr, ◌⊎◌, ◌≡◌, ℕ, Bool, true, false, not, ◌==◌, List, [], ◌∷◌, filter, Option, Some, None, cond, T, refl, sym, ap, subst, ◌∙◌}
use Rattle.std.specs.Prelude.{is_none}
use Rattle.std.specs.Option.{option_map, option_and_then}
use Rattle.std.specs.Ordering.{nat_cmp}
use Rattle.std.specs.FinMap.{find, put, is_sorted, nat_cmp-IsAntisymmetric}
use Rattle.std.specs.FinMap.Entries.{find-put, find-where_key, is_sorted-where_key}
use Rattle.std.proofs.lemmas.Cmp.{nat_cmp_total}
use Rattle.std.proofs.lemmas.Bool.{and_parts}
use Rattle.k_terms.specs.declared.value.Content.{Content}
use Rattle.rule_terms.specs.Substitution.{Subst}
use Rattle.rule_terms.specs.Fill.{content_of}
use Rattle.rule_terms.specs.Spots.{Spot, spots, new_spots, number_of}
use Rattle.live_config.specs.declared.cell.Cell.{Cell}
use Rattle.live_config.specs.Configuration.{Configuration, cell_at}
use Rattle.live_config.specs.Firing.{Fires, put_spots, goes, removed, right_number, is_free}
use Rattle.live_config.specs.Laws.{cell_of, StandsAfter, HasOwnNumbers}
use Rattle.live_config.proofs.Entries.{put-rises}
use Rattle.live_config.proofs.Members.{Has, has-contains, contains-has, has_map, all_has, Apart, different-apart}
use Rattle.live_config.proofs.Children.{same_key, other_key}
use Rattle.live_config.proofs.SpotTree.{marks, same_spot}
use Rattle.live_config.proofs.Numbering.{Once, number_once, number_within}
use Rattle.live_config.proofs.Binding.{Binding, tidy, sound_rule, left_number, left_once, matched_number}

-- ---- cells that are put one after another

module _ (number : ℕ → Option ℕ) (s : Subst) where
  -- the number and the content of a cell that is put
  pub record IsPut (p : Spot) : Type 0 where
    pub place : ℕ
    pub number_is : number p.mark ≡ Some place
    pub content : Content
    pub content_is : content_of p.body s ≡ Some content

  abbrev pub the_cell : Spot → Content → Cell
  the_cell p content = record { kind = p.cell; parent = option_map (λ m. record { 0 = m }) (option_and_then number p.above); content = content }

  abbrev with_spot : (p : Spot) → IsPut p → List (ℕ × Cell) → List (ℕ × Cell)
  with_spot p is cells = put nat_cmp is.place (the_cell p is.content) cells

  put_first : (p : Spot) (ps : List Spot) (cells after : List (ℕ × Cell)) → put_spots number s (p ∷ ps) cells ≡ Some after → (is : IsPut p) × (put_spots number s ps (with_spot p is cells) ≡ Some after)
  put_first p ps cells after e =
      elim (number p.mark) as (λ o. number p.mark ≡ o → option_and_then (λ n. option_and_then (λ content. put_spots number s ps (put nat_cmp n (the_cell p content) cells)) (content_of p.body s)) o ≡ Some after → (is : IsPut p) × (put_spots number s ps (with_spot p is cells) ≡ Some after)) [
        | None ↦ λ _ f. absurd (let g : None ≡ Some after = f in cc)
        | Some n ↦ λ numbered.
            elim (content_of p.body s) as (λ o. content_of p.body s ≡ o → option_and_then (λ content. put_spots number s ps (put nat_cmp n (the_cell p content) cells)) o ≡ Some after → (is : IsPut p) × (put_spots number s ps (with_spot p is cells) ≡ Some after)) [
              | None ↦ λ _ f. absurd (let g : None ≡ Some after = f in cc)
              | Some content ↦ λ filled f. (record { place = n; number_is = numbered; content = content; content_is = filled }, f)
            ] refl
      ] refl e

  all_put : (ps : List Spot) (cells after : List (ℕ × Cell)) → put_spots number s ps cells ≡ Some after → (p : Spot) → Has ps p → IsPut p
  all_put [] cells after e p h = absurd h
  all_put (q ∷ ps) cells after e p (inl s) = subst IsPut s (put_first q ps cells after e).0
  all_put (q ∷ ps) cells after e p (inr h) = let f = put_first q ps cells after e in all_put ps (with_spot q f.0 cells) after f.1 p h

  put_sorted : (ps : List Spot) (cells after : List (ℕ × Cell)) → put_spots number s ps cells ≡ Some after → is_sorted nat_cmp cells ≡ true → is_sorted nat_cmp after ≡ true
  put_sorted [] cells after e sorted = let same : cells ≡ after = (let f : Some cells ≡ Some after = e in cc) in subst (λ es. is_sorted nat_cmp es ≡ true) same sorted
  put_sorted (q ∷ ps) cells after e sorted =
      let f = put_first q ps cells after e in
      put_sorted ps (with_spot q f.0 cells) after f.1 (put-rises f.0.place (the_cell q f.0.content) cells sorted)

  put_other : (q n : ℕ) (cell : Cell) (cells : List (ℕ × Cell)) → (q ≡ n → ⊥) → find nat_cmp q (put nat_cmp n cell cells) ≡ find nat_cmp q cells
  put_other q n cell cells differ = find-put nat_cmp nat_cmp_total q n cell cells ∙ ap (λ b. cond b (Some cell) (find nat_cmp q cells)) (other_key q n differ)

  -- where no cell is put, what stood there stays
  found_other : (ps : List Spot) (cells after : List (ℕ × Cell)) → put_spots number s ps cells ≡ Some after → (n : ℕ) → ((p : Spot) → Has ps p → ¬ (number p.mark ≡ Some n)) → find nat_cmp n after ≡ find nat_cmp n cells
  found_other [] cells after e n none = ap (find nat_cmp n) (let f : Some after ≡ Some cells = sym e in cc)
  found_other (q ∷ ps) cells after e n none =
      let f = put_first q ps cells after e in
      found_other ps (with_spot q f.0 cells) after f.1 n (λ p h. none p (inr h))
      ∙ put_other n f.0.place (the_cell q f.0.content) cells (λ t. none q (inl refl) (f.0.number_is ∙ ap Some (sym t)))

  -- a cell that is put stands at its number
  found_put : Once number → (ps : List Spot) → Apart (marks ps) → (cells after : List (ℕ × Cell)) → put_spots number s ps cells ≡ Some after → (p : Spot) → Has ps p → (n : ℕ) → number p.mark ≡ Some n → find nat_cmp n after ≡ cell_of number s p
  found_put once [] apart cells after e p h n is = absurd h
  found_put once (q ∷ ps) apart cells after e p (inl t) n is =
      let f = put_first q ps cells after e in
      let here : number q.mark ≡ Some n = ap (λ (x : Spot). number x.mark) t ∙ is in
      let same : f.0.place ≡ n = let g : Some f.0.place ≡ Some n = sym f.0.number_is ∙ here in cc in
      found_other ps (with_spot q f.0 cells) after f.1 n (λ x h j. apart.0 (subst (Has (marks ps)) (once x.mark q.mark n j here) (has_map (λ (y : Spot). y.mark) ps x h)))
      ∙ find-put nat_cmp nat_cmp_total n f.0.place (the_cell q f.0.content) cells
      ∙ ap (λ b. cond b (Some (the_cell q f.0.content)) (find nat_cmp n cells)) (same_key n f.0.place (sym same))
      ∙ sym (ap (option_map (the_cell q)) f.0.content_is)
      ∙ ap (cell_of number s) t
  found_put once (q ∷ ps) apart cells after e p (inr h) n is =
      let f = put_first q ps cells after e in
      found_put once ps apart.1 (with_spot q f.0 cells) after f.1 p h n is

-- ---- cells that go

to_true : (b : Bool) → T b → b ≡ true
to_true true p = refl
to_true false p = absurd p

from_true : (b : Bool) → b ≡ true → T b
from_true b e = subst T (sym e) tt

module _ (test : ℕ → Bool) (cells : List (ℕ × Cell)) where
  kept_sorted : is_sorted nat_cmp cells ≡ true → is_sorted nat_cmp (filter (λ e. test e.0) cells) ≡ true
  kept_sorted sorted = to_true _ (is_sorted-where_key nat_cmp test cells (from_true _ sorted))

  kept_found : (n : ℕ) → find nat_cmp n (filter (λ e. test e.0) cells) ≡ cond (test n) (find nat_cmp n cells) None
  kept_found n = find-where_key nat_cmp test n (λ x tie. ap test (sym (nat_cmp-IsAntisymmetric n x tie))) cells

-- ---- a firing

-- a rule that binds and fires with these births
pub record Firing : Type 0 where
  pub b : Binding
  pub births : List ℕ
  pub after : Configuration
  pub fires : Fires b.d b.c b.site births b.r b.s after

-- the cells of the configuration after
made : (o : Option (List (ℕ × Cell))) (after : Configuration) → option_map (λ cells. record { cells = cells }) o ≡ Some after → o ≡ Some after.cells
made None after e = absurd (let f : None ≡ Some after = e in cc)
made (Some cells) after e = let f : Some (record { cells = cells }) ≡ Some after = e in ap Some (ap (λ (x : Configuration). x.cells) {x = record { cells = cells }} {y = after} cc)

module _ (f : Firing) where
  abbrev pub right : List Spot
  right = spots f.b.r.right

  abbrev pub number : ℕ → Option ℕ
  number = right_number f.b.r f.b.site.cells f.births

  abbrev pub gone : List ℕ
  gone = removed f.b.r f.b.site.cells

  abbrev pub goes_away : ℕ → Bool
  goes_away = goes f.b.c (removed f.b.r f.b.site.cells)

  pub right_apart : Apart (marks right)
  right_apart = different-apart (marks right) (sound_rule f.b).cells.right_marks

  -- a number is that of a left cell, or a birth
  pub right_cases : (mark n : ℕ) → number mark ≡ Some n → (left_number f.b mark ≡ Some n) ⊎ ((left_number f.b mark ≡ None) × (number_of (new_spots f.b.r) f.births mark ≡ Some n))
  right_cases mark n e =
      elim (left_number f.b mark) as (λ o. left_number f.b mark ≡ o → elim o [ Some k ↦ Some k | None ↦ number_of (new_spots f.b.r) f.births mark ] ≡ Some n → (o ≡ Some n) ⊎ ((o ≡ None) × (number_of (new_spots f.b.r) f.births mark ≡ Some n))) [
        | None ↦ λ _ g. inr (refl, g)
        | Some k ↦ λ _ g. inl g
      ] refl e

  pub left_is_right : (mark n : ℕ) → left_number f.b mark ≡ Some n → number mark ≡ Some n
  left_is_right mark n e = ap (λ o. elim o [ Some k ↦ Some k | None ↦ number_of (new_spots f.b.r) f.births mark ]) e

  -- no cell stands at a birth
  pub birth_free : (mark n : ℕ) → number_of (new_spots f.b.r) f.births mark ≡ Some n → cell_at f.b.c n ≡ None
  birth_free mark n e =
      let free = all_has (is_free f.b.c) f.births n f.fires.free (number_within (new_spots f.b.r) f.births mark n e) in
      empty (cell_at f.b.c n) (and_parts (not (n == 0)) (is_none (cell_at f.b.c n)) free).1
    where
      empty : (o : Option Cell) → is_none o ≡ true → o ≡ None
      empty None e = refl
      empty (Some cell) e = absurd (let g : false ≡ true = e in cc)

  not_both : (a b n : ℕ) → left_number f.b a ≡ Some n → number_of (new_spots f.b.r) f.births b ≡ Some n → ⊥
  not_both a b n e g =
      let m = matched_number f.b a n e in
      let h : Some m.matched.cell ≡ None = sym m.matched.there ∙ birth_free b n g in
      absurd cc

  pub right_once : Once number
  right_once a b n e g =
      elim (right_cases a n e) [
        | inl x ↦ elim (right_cases b n g) [ inl y ↦ left_once f.b a b n x y | inr y ↦ absurd (not_both a b n x y.1) ]
        | inr x ↦ elim (right_cases b n g) [
          | inl y ↦ absurd (not_both b a n y x.1)
          | inr y ↦ number_once (new_spots f.b.r) f.births (different-apart f.births f.fires.different) a b n x.1 y.1
        ]
      ]

  abbrev staying : List (ℕ × Cell)
  staying = filter (λ e. not (goes_away e.0)) f.b.c.cells

  puts : put_spots number f.b.s right staying ≡ Some f.after.cells
  puts = made (put_spots number f.b.s right staying) f.after f.fires.gives

  pub right_put : (p : Spot) → Has right p → IsPut number f.b.s p
  right_put p h = all_put number f.b.s right staying f.after.cells puts p h

  pub after_sorted : is_sorted nat_cmp f.after.cells ≡ true
  after_sorted = put_sorted number f.b.s right staying f.after.cells puts (kept_sorted (λ n. not (goes_away n)) f.b.c.cells (tidy f.b).rising)

  -- no right cell has this number
  abbrev pub NotRight : ℕ → Type 0
  NotRight n = (p : Spot) → Has right p → ¬ (number p.mark ≡ Some n)

  pub after_right : (p : Spot) → Has right p → (n : ℕ) → number p.mark ≡ Some n → cell_at f.after n ≡ cell_of number f.b.s p
  after_right p h n e = found_put number f.b.s right_once right right_apart staying f.after.cells puts p h n e

  after_other : (n : ℕ) → NotRight n → cell_at f.after n ≡ cond (not (goes_away n)) (cell_at f.b.c n) None
  after_other n none = found_other number f.b.s right staying f.after.cells puts n none ∙ kept_found (λ m. not (goes_away m)) f.b.c.cells n

  pub after_gone : (n : ℕ) → NotRight n → goes_away n ≡ true → cell_at f.after n ≡ None
  after_gone n none e = after_other n none ∙ ap (λ b. cond (not b) (cell_at f.b.c n) None) e

  pub after_kept : (n : ℕ) → NotRight n → goes_away n ≡ false → cell_at f.after n ≡ cell_at f.b.c n
  after_kept n none e = after_other n none ∙ ap (λ b. cond (not b) (cell_at f.b.c n) None) e

  pub stands_after : (n : ℕ) → StandsAfter f.b.c f.b.site f.births f.b.r f.b.s f.after n
  stands_after n = record {
    put = λ p h e. after_right p (contains-has right p h) n e;
    gone = λ none e. after_gone n (λ p h. none p (has-contains right p h)) e;
    kept = λ none e. after_kept n (λ p h. none p (has-contains right p h)) e;
  }

  pub own_numbers : HasOwnNumbers f.b.r number
  own_numbers = record {
    given = λ p h. let is = right_put p (contains-has right p h) in (is.place, is.number_is);
    own = λ p q n h k e g. same_spot right right_apart p q (contains-has right p h) (contains-has right q k) (right_once p.mark q.mark n e g);
  }

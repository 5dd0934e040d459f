-- There are as many numbers as one wants that are free for new cells: those above all that are in use.
use Rattle.std.proofs.Common.{arith, inl, inr, ◌≡◌, ℕ, zero, suc, ◌+◌, ◌≤◌, Bool, true, not, ◌==◌, List, [], ◌∷◌, length, None, refl, ap}
use Rattle.std.proofs.lemmas.Bool.{ne_eqb}
use Rattle.std.specs.Prelude.{is_none, IsTrue}
use Rattle.std.specs.List.{list_all}
use Rattle.std.specs.Ordering.{nat_cmp}
use Rattle.std.specs.FinMap.{find}
use Rattle.rule_terms.specs.Numbers.{all_different}
use Rattle.rule_terms.proofs.Defined.{joins}
use Rattle.live_config.specs.declared.cell.Cell.{Cell}
use Rattle.live_config.specs.Configuration.{Configuration, cell_at}
use Rattle.live_config.specs.Firing.{is_free}
use Rattle.live_config.proofs.Members.{Has, Apart}
use Rattle.live_config.proofs.Children.{other_key}
use Rattle.site_laws.proofs.Apartness.{apart-different}

-- ---- numbers one after another

abbrev pub numbers_from : ℕ → ℕ → List ℕ
numbers_from n zero = []
numbers_from n (suc k) = n ∷ numbers_from (suc n) k

length_from : (n k : ℕ) → length (numbers_from n k) ≡ k
length_from n zero = refl
length_from n (suc k) = ap suc (length_from (suc n) k)

at_least : (n k m : ℕ) → Has (numbers_from n k) m → n ≤ m
at_least n zero m h = absurd h
at_least n (suc k) m (inl e) = omega (arith, e)
at_least n (suc k) m (inr h) = let l : suc n ≤ m = at_least (suc n) k m h in omega (arith, l)

apart_from : (n k : ℕ) → Apart (numbers_from n k)
apart_from n zero = tt
apart_from n (suc k) = ((λ h. let l : suc n ≤ n = at_least (suc n) k n h in omega (arith, l)), apart_from (suc n) k)

-- ---- a number above all that are in use

abbrev above_all : List (ℕ × Cell) → ℕ
above_all [] = 1
above_all (e ∷ es) = suc (e.0 + above_all es)

some_number : (es : List (ℕ × Cell)) → 1 ≤ above_all es
some_number [] = omega arith
some_number (e ∷ es) = let l = some_number es in omega (arith, l)

none_above : (es : List (ℕ × Cell)) (n : ℕ) → above_all es ≤ n → find nat_cmp n es ≡ None
none_above [] n l = refl
none_above (e ∷ es) n l = rw (other_key n e.0 (λ same. omega (arith, l, same))) (none_above es n (omega (arith, l)))

free_above : (c : Configuration) (n : ℕ) → above_all c.cells ≤ n → is_free c n ≡ true
free_above c n l =
    let some = some_number c.cells in
    joins (not (n == 0)) (is_none (cell_at c n)) (ap not (ne_eqb n 0 (λ e. omega (arith, l, some, e)))) (ap is_none (none_above c.cells n l))

each_passes : (test : ℕ → Bool) (ns : List ℕ) → ((n : ℕ) → Has ns n → test n ≡ true) → list_all test ns ≡ true
each_passes test [] each = refl
each_passes test (n ∷ ns) each = joins (test n) (list_all test ns) (each n (inl refl)) (each_passes test ns (λ m h. each m (inr h)))

-- so many births, all different and free
pub record HasBirths (c : Configuration) (count : ℕ) : Type 0 where
  pub births : List ℕ
  pub count_is : length births ≡ count
  pub different : IsTrue (all_different births)
  pub free : IsTrue (list_all (is_free c) births)

pub has_births : (c : Configuration) (count : ℕ) → HasBirths c count
has_births c count =
    let n = above_all c.cells in
    record {
      births = numbers_from n count;
      count_is = length_from n count;
      different = apart-different (numbers_from n count) (apart_from n count);
      free = each_passes (is_free c) (numbers_from n count) (λ m h. free_above c m (at_least n count m h));
    }

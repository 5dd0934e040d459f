-- The least of numbers in joined lists.
use Rattle.std.proofs.Common.{◌≡◌, inl, inr, ℕ, ◌<◌, ◌≤◌, cond, List, [], ◌∷◌, ◌++◌, Option, Some, None, refl, sym, ap, ◌∙◌, arith}
use Rattle.std.specs.Prelude.{nat_le}
use Rattle.std.specs.List.{flat_map}
use Rattle.std.proofs.lemmas.Bool.{le-leb, lt-leb, cases_lt}
use Rattle.std.proofs.lemmas.List.{append-nil}
use Rattle.std.proofs.lemmas.Grind.{flat_map-append}
use Rattle.cell_completion.specs.declared.tree.Tree.{Tree, out-Tree}
use Rattle.cell_completion.specs.Trees.{as_marks, marks, lesser, least}
use Rattle.cell_completion.proofs.Unfolded.{marks_are}

low : (m n : ℕ) → m ≤ n → cond (nat_le m n) m n ≡ m
low m n l = ap (λ b. cond b m n) (le-leb m n l)

high : (m n : ℕ) → n < m → cond (nat_le m n) m n ≡ n
high m n l = ap (λ b. cond b m n) (lt-leb m n l)

three : (l m n : ℕ) → cond (nat_le (cond (nat_le l m) l m) n) (cond (nat_le l m) l m) n ≡ cond (nat_le l (cond (nat_le m n) m n)) l (cond (nat_le m n) m n)
three l m n =
    elim (cases_lt m l) [
      | inl a ↦ elim (cases_lt n m) [
        | inl b ↦ rw (high l m a, high m n b) (sym (high l n (omega (arith, a, b))))
        | inr b ↦ rw (high l m a, low m n b) (sym (high l m a))
      ]
      | inr a ↦ elim (cases_lt n m) [
        | inl b ↦ rw (low l m a, high m n b) refl
        | inr b ↦ rw (low l m a, low m n b) (low l n (omega (arith, a, b)) ∙ sym (low l m a))
      ]
    ]

pub lesser_joined : (a b c : Option ℕ) → lesser (lesser a b) c ≡ lesser a (lesser b c)
lesser_joined None b c = refl
lesser_joined (Some l) None c = refl
lesser_joined (Some l) (Some m) None = refl
lesser_joined (Some l) (Some m) (Some n) = ap (λ k. Some k) (three l m n)

lesser_none : (a : Option ℕ) → lesser a None ≡ a
lesser_none None = refl
lesser_none (Some m) = refl

pub least_joined : (ms ns : List ℕ) → least (ms ++ ns) ≡ lesser (least ms) (least ns)
least_joined [] ns = refl
least_joined (m ∷ ms) ns = ap (lesser (Some m)) (least_joined ms ns) ∙ sym (lesser_joined (Some m) (least ms) (least ns))

least_mark : (o : Option ℕ) → least (as_marks o) ≡ o
least_mark None = refl
least_mark (Some m) = refl

-- the least mark of a cell with some of those in it
abbrev pub least_with : Option ℕ → List Tree → Option ℕ
least_with mark ts = lesser mark (least (flat_map marks ts))

pub least_begins : (mark : Option ℕ) → mark ≡ least_with mark []
least_begins mark = sym (lesser_none mark)

pub least_goes_on : (mark : Option ℕ) (ts : List Tree) (t : Tree) → lesser (least_with mark ts) (least (marks t)) ≡ least_with mark (ts ++ t ∷ [])
least_goes_on mark ts t =
    lesser_joined mark (least (flat_map marks ts)) (least (marks t))
    ∙ ap (lesser mark) (sym (least_joined (flat_map marks ts) (marks t)) ∙ ap least (ap (λ ms. flat_map marks ts ++ ms) (sym (append-nil (marks t))) ∙ sym (flat_map-append marks ts (t ∷ []))))

pub least_is : (t : Tree) → least_with (out-Tree t).mark (out-Tree t).inside ≡ least (marks t)
least_is t =
    ap (λ o. lesser o (least (flat_map marks (out-Tree t).inside))) (sym (least_mark (out-Tree t).mark))
    ∙ sym (least_joined (as_marks (out-Tree t).mark) (flat_map marks (out-Tree t).inside)) ∙ ap least (sym (marks_are t))

-- Rows that are added to others.
use Rattle.std.proofs.Common.{ℕ, zero, suc, ◌+◌, ◌<◌, ◌≤◌, ◌≡◌, ◌⊎◌, inl, inr, List, [], ◌∷◌, ◌++◌, length, get_or, take, Bool, true, false, ◌||◌, true≢false, refl, sym, ◌∙◌, subst, arith}
use Rattle.std.proofs.lemmas.List.{take_more, take_all}
use Rattle.grammar_terms.specs.Cuts.{Has}
use Rattle.grammar_terms.specs.Grammar.{Syntax}
use Rattle.grammar_terms.proofs.Cutting.{has_left, has_right, has_either}
use Rattle.span_rows.specs.declared.row.Key.{Key}
use Rattle.span_rows.specs.declared.row.Row.{Row}
use Rattle.span_rows.specs.declared.sign.Sign.{Sign}
use Rattle.span_rows.specs.Rows.{row, HasTwoOf, Kept, Adds, Extends, Joins, Grows, IsMade, IsJoin}

pub has_at : {X : Type 0} (xs : List X) (i : ℕ) (d : X) → i < length xs → Has xs (get_or xs i d)
has_at [] i d within = absurd (omega arith)
has_at (x ∷ xs) zero d within = inl refl
has_at (x ∷ xs) (suc i) d within = inr (has_at xs i d (omega arith))

-- the item at a place stands in the list
pub has_item : {X : Type 0} (xs : List X) (i : ℕ) (x : X) → i < length xs → x ≡ get_or xs i x → Has xs x
has_item xs i x within is = subst (Has xs) (sym is) (has_at xs i x within)

-- the items up to a place, with the one there
pub has_more : {X : Type 0} (xs : List X) (i : ℕ) (d x : X) → i < length xs → d ≡ get_or xs i d → Has (take (i + 1) xs) x → Has (take i xs) x ⊎ (x ≡ d)
has_more xs i d x within is has =
    elim (has_either (take i xs) (get_or xs i d ∷ []) x (subst (λ ys. Has ys x) (take_more xs i d within) has)) [
      | inl before ↦ inl before
      | inr new ↦ elim new [ inl same ↦ inr (sym same ∙ sym is) | inr none ↦ absurd none ]
    ]

pub more_has : {X : Type 0} (xs : List X) (i : ℕ) (d x : X) → i < length xs → d ≡ get_or xs i d → Has (take i xs) x ⊎ (x ≡ d) → Has (take (i + 1) xs) x
more_has xs i d x within is some =
    subst (λ ys. Has ys x) (sym (take_more xs i d within)) (elim some [
      | inl before ↦ has_left (take i xs) (get_or xs i d ∷ []) x before
      | inr same ↦ has_right (take i xs) (get_or xs i d ∷ []) x (inl (sym is ∙ sym same))
    ])

pub has_row : (rows : List Row) (made : Row) (key : Key) → made.key ≡ key → Has rows made → Has rows (row key made.code)
has_row rows made key same has = subst (λ k. Has rows (row k made.code)) same has

pub two_of : (rows : List Row) (key : Key) (one other : List Sign) → Kept rows (row key one) → Kept rows (row key other) → (one ≡ other → ⊥) → HasTwoOf rows key
two_of rows key one other (inr two) _ differ = two
two_of rows key one other (inl has) (inr two) differ = two
two_of rows key one other (inl has) (inl also) differ = record { one = one; other = other; has_one = has; has_other = also; differ = differ }

-- what is kept of a key is kept of another that comes from it by a function that tells codes apart
pub kept_step : (rows later : List Row) (key next : Key) (f : List Sign → List Sign) → ((x y : List Sign) → f x ≡ f y → x ≡ y)
    → ((code : List Sign) → Has rows (row key code) → Kept later (row next (f code))) → (code : List Sign) → Kept rows (row key code) → Kept later (row next (f code))
kept_step rows later key next f apart each code (inl has) = each code has
kept_step rows later key next f apart each code (inr two) =
    inr (two_of later next (f two.one) (f two.other) (each two.one two.has_one) (each two.other two.has_other) (λ same. two.differ (apart two.one two.other same)))

pub kept_more : (before after : List Row) (made : Row) → ((x : Row) → Has before x → Kept after x) → Kept before made → Kept after made
kept_more before after made more kept = kept_step before after made.key made.key (λ code. code) (λ x y same. same) (λ code has. more (row made.key code) has) made.code kept

pub grown : (before after : List Row) (made : Row) → ((x : Row) → Has before x → Has after x) → Kept before made → Kept after made
grown before after made more kept = kept_more before after made (λ x has. inl (more x has)) kept

pub adds_none : (S : Row → Type 0) (rows : List Row) → ((x : Row) → S x → ⊥) → Adds S rows rows
adds_none S rows none = record {
  grows = λ x has. has;
  within = λ x has. inl has;
  covers = λ x is. absurd (none x is);
}

pub adds_both : (S T U : Row → Type 0) (one two three : List Row) → ((x : Row) → S x → U x) → ((x : Row) → T x → U x) → ((x : Row) → U x → S x ⊎ T x)
    → Adds S one two → Adds T two three → Adds U one three
adds_both S T U one two three into also from first second = record {
  grows = λ x has. second.grows x (first.grows x has);
  within = λ x has. elim (second.within x has) [
    | inl before ↦ elim (first.within x before) [ inl old ↦ inl old | inr made ↦ inr (into x made) ]
    | inr made ↦ inr (also x made)
  ];
  covers = λ x is. elim (from x is) [ inl s ↦ grown two three x second.grows (first.covers x s) | inr t ↦ second.covers x t ];
}

pub adds_as : (S U : Row → Type 0) (before after : List Row) → ((x : Row) → S x → U x) → ((x : Row) → U x → S x) → Adds S before after → Adds U before after
adds_as S U before after into from added = record {
  grows = added.grows;
  within = λ x has. elim (added.within x has) [ inl old ↦ inl old | inr made ↦ inr (into x made) ];
  covers = λ x is. added.covers x (from x is);
}

-- what one set has, and then what another has
pub adds_or : (S T : Row → Type 0) (one two three : List Row) → Adds S one two → Adds T two three → Adds (λ x. S x ⊎ T x) one three
adds_or S T one two three before now = adds_both S T (λ x. S x ⊎ T x) one two three (λ x is. inl is) (λ x is. inr is) (λ x is. is) before now

-- what was made apart was added
pub adds_through : (S : Row → Type 0) (made before after : List Row) → Adds S [] made → Adds (Has made) before after → Adds S before after
adds_through S made before after first second = record {
  grows = second.grows;
  within = λ x has. elim (second.within x has) [ inl old ↦ inl old | inr new ↦ elim (first.within x new) [ inl none ↦ absurd none | inr is ↦ inr is ] ];
  covers = λ x is. kept_more made after x second.covers (first.covers x is);
}

pub adds_one : (rows : List Row) (made : Row) → Adds (λ x. x ≡ made) rows (rows ++ made ∷ [])
adds_one rows made = record {
  grows = λ x has. has_left rows (made ∷ []) x has;
  within = λ x has. elim (has_either rows (made ∷ []) x has) [ inl old ↦ inl old | inr new ↦ elim new [ inl same ↦ inr (sym same) | inr none ↦ absurd none ] ];
  covers = λ x same. inl (has_right rows (made ∷ []) x (inl (sym same)));
}

pub adds_kept : (rows : List Row) (made : Row) → Kept rows made → Adds (λ x. x ≡ made) rows rows
adds_kept rows made kept = record {
  grows = λ x has. has;
  within = λ x has. inl has;
  covers = λ x same. subst (Kept rows) (sym same) kept;
}

-- what each of some rows makes was added, up to a place, and then what the one there makes
pub adds_at : (S : Row → Row → Type 0) (fronts : List Row) (i : ℕ) (front : Row) (one two three : List Row) → i < length fronts → front ≡ get_or fronts i front
    → Adds (IsMade S (take i fronts)) one two → Adds (S front) two three → Adds (IsMade S (take (i + 1) fronts)) one three
adds_at S fronts i front one two three within is before now =
    adds_both (IsMade S (take i fronts)) (S front) (IsMade S (take (i + 1) fronts)) one two three
    (λ x made. record { front = made.front; has_front = more_has fronts i front made.front within is (inl made.has_front); makes = made.makes })
    (λ x made. record { front = front; has_front = more_has fronts i front front within is (inr refl); makes = made })
    (λ x made. elim (has_more fronts i front made.front within is made.has_front) [
      | inl old ↦ inl (record { front = made.front; has_front = old; makes = made.makes })
      | inr same ↦ inr (subst (λ f. S f x) same made.makes)
    ])
    before now

pub adds_first : (S : Row → Row → Type 0) (fronts rows : List Row) → Adds (IsMade S (take 0 fronts)) rows rows
adds_first S fronts rows = adds_none (IsMade S (take 0 fronts)) rows (λ x made. made.has_front)

pub adds_done : (S : Row → Row → Type 0) (fronts : List Row) (i : ℕ) (before after : List Row) → length fronts ≤ i → Adds (IsMade S (take i fronts)) before after → Adds (IsMade S fronts) before after
adds_done S fronts i before after past added = subst (λ rows. Adds (IsMade S rows) before after) (take_all i fronts past) added

-- what some children make with a front as its next item, and then as a part of a sequence
pub adds_grown : (g : Syntax) (front : Row) (children one two three : List Row) → Adds (IsMade (Extends g front) children) one two → Adds (IsMade (Joins g front) children) two three
    → Adds (IsMade (Grows g front) children) one three
adds_grown g front children one two three before now =
    adds_both (IsMade (Extends g front) children) (IsMade (Joins g front) children) (IsMade (Grows g front) children) one two three
    (λ x made. record { front = made.front; has_front = made.has_front; makes = inl made.makes })
    (λ x made. record { front = made.front; has_front = made.has_front; makes = inr made.makes })
    (λ x made. elim made.makes [
      | inl extends ↦ inl (record { front = made.front; has_front = made.has_front; makes = extends })
      | inr joins ↦ inr (record { front = made.front; has_front = made.has_front; makes = joins })
    ])
    before now

-- each of some rows with each of others
pub adds_join : (g : Syntax) (fronts children before after : List Row) → Adds (IsMade (λ front. IsMade (Grows g front) children) fronts) before after
    → Adds (IsJoin g fronts children) before after
adds_join g fronts children before after added =
    adds_as (IsMade (λ front. IsMade (λ child. Grows g front child) children) fronts) (IsJoin g fronts children) before after
    (λ x made. record { front = made.front; child = made.makes.front; has_front = made.has_front; has_child = made.makes.has_front; grows = made.makes.makes })
    (λ x join. record { front = join.front; has_front = join.has_front; makes = record { front = join.child; has_front = join.has_child; makes = join.grows } })
    added

pub has_same : (rows : List Row) (one made : Row) → one.key ≡ made.key → one.code ≡ made.code → Has rows one → Has rows made
has_same rows one made key code has = subst (λ c. Has rows (row made.key c)) code (has_row rows one made.key key has)

-- one row more of those that are added
pub adds_next : (made : List Row) (x : Row) (one two three : List Row) → Adds (Has made) one two → Adds (λ y. y ≡ x) two three → Adds (Has (made ++ x ∷ [])) one three
adds_next made x one two three before now =
    adds_both (Has made) (λ y. y ≡ x) (Has (made ++ x ∷ [])) one two three
    (λ y has. has_left made (x ∷ []) y has)
    (λ y same. has_right made (x ∷ []) y (inl (sym same)))
    (λ y has. elim (has_either made (x ∷ []) y has) [ inl old ↦ inl old | inr new ↦ elim new [ inl same ↦ inr (sym same) | inr none ↦ absurd none ] ])
    before now

pub longer : (one two three : ℕ) (b now : Bool) → (b ≡ true → one < two) → (now ≡ true → two < three) → (b ≡ false → two ≡ one) → (now ≡ false → three ≡ two) → (b || now) ≡ true → one < three
longer one two three true true first second same also is = let p = first refl in let q = second refl in omega arith
longer one two three true false first second same also is = let p = first refl in let q = also refl in omega arith
longer one two three false true first second same also is = let p = same refl in let q = second refl in omega arith
longer one two three false false first second same also is = absurd (true≢false (sym is))

pub unchanged : (one two three : List Row) (b now : Bool) → (b ≡ false → two ≡ one) → (now ≡ false → three ≡ two) → (b || now) ≡ false → three ≡ one
unchanged one two three true now same also is = absurd (true≢false is)
unchanged one two three false now same also is = also is ∙ same refl

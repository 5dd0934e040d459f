-- Whether two cells are equal is decided by the derived test.
use Rattle.std.proofs.Common.{◌≡◌, ℕ, Bool, true, false, ◌&&◌, ◌==◌, ◌∙◌, List, Option, Some, None, refl, ap, sym}
use Rattle.std.specs.Prelude.{unwrap_or}
use Rattle.std.specs.Bool.{Decides}
use Rattle.std.specs.Option.{option_eq}
use Rattle.std.specs.Cmp.Lexicographic.{pointwise}
use Rattle.std.proofs.lemmas.Bool.Decides.{Decides-eqb}
use Rattle.std.proofs.lemmas.Slice.Eq.{slice_eq-Decides}
use Rattle.k_terms.specs.declared.value.Value.{Value}
use Rattle.k_terms.specs.declared.value.Content.{Content}
use Rattle.k_terms.specs.declared.value.Content.TheVariants.{Cells, Seq, Map, List as Listed, One}
use Rattle.k_terms.specs.contracts.value.ValuePartialEq.TheImpl as value
use Rattle.k_terms.specs.contracts.value.ContentPartialEq.TheImpl as content
use Rattle.k_terms.proofs.OrderLaws.{derived_eq-is, is_eq-value_cmp}
use Rattle.live_config.specs.declared.cell.CellNo.{CellNo}
use Rattle.live_config.specs.declared.cell.Cell.{Cell}
use Rattle.live_config.specs.contracts.cell.CellNoPartialEq.TheImpl as number
use Rattle.live_config.specs.contracts.cell.CellPartialEq.TheImpl as cell

-- two tests, the second where the first has passed
both_decide : (p q : Bool) {A B C : Type 0} → Decides p A → Decides q B → (A → B → C) → (C → A) → (C → B) → Decides (p && q) C
both_decide true q a b make first second = (λ t. make (a.0 refl) (b.0 t), λ c. b.1 (second c))
both_decide false q a b make first second = (λ t. absurd (let f : false ≡ true = t in cc), λ c. absurd (let f : false ≡ true = a.1 (first c) in cc))

value_eq : (v w : Value) → Decides (value.ghosts.eq v w) (v ≡ w)
value_eq v w = is_eq-value_cmp v w (value.ghosts.eq v w) (derived_eq-is v w)

entry_eq : (p q : Value × Value) → Decides (value.ghosts.eq p.0 q.0 && value.ghosts.eq p.1 q.1) (p ≡ q)
entry_eq p q = both_decide _ _ (value_eq p.0 q.0) (value_eq p.1 q.1) (λ e f i. (e i, f i)) (ap (λ r. r.0)) (ap (λ r. r.1))

-- a test of the parts of two contents of one kind
by_parts : {A : Type 0} (make : A → Content) (part : Content → A → A) (r : Bool) (x y : A) → ((z : A) → part (make z) x ≡ z) → Decides r (x ≡ y) → Decides r (make x ≡ make y)
by_parts make part r x y same d = (λ t. ap make (d.0 t), λ e. d.1 (sym (same x) ∙ ap (λ c. part c x) e ∙ same y))

pub content_eq : (a b : Content) → Decides (content.ghosts.eq a b) (a ≡ b)
content_eq Cells Cells = (λ t. refl, λ e. refl)
content_eq (Seq xs) (Seq ys) = by_parts Seq (λ c d. elim c [ Seq zs ↦ zs | _ ↦ d ]) _ xs ys (λ z. refl) (slice_eq-Decides value_eq xs ys _ refl)
content_eq (Map xs) (Map ys) = by_parts Map (λ c d. elim c [ Map zs ↦ zs | _ ↦ d ]) _ xs ys (λ z. refl) (slice_eq-Decides entry_eq xs ys _ refl)
content_eq (Listed xs) (Listed ys) = by_parts Listed (λ c d. elim c [ Listed zs ↦ zs | _ ↦ d ]) _ xs ys (λ z. refl) (slice_eq-Decides value_eq xs ys _ refl)
content_eq (One v) (One w) = by_parts One (λ c d. elim c [ One z ↦ z | _ ↦ d ]) _ v w (λ z. refl) (value_eq v w)
content_eq a b = (λ t. cc, λ e. cc)

parent_eq : (a b : Option CellNo) → Decides (option_eq number.ghosts.eq a b) (a ≡ b)
parent_eq None None = (λ t. refl, λ e. refl)
parent_eq None (Some m) = (λ t. cc, λ e. cc)
parent_eq (Some n) None = (λ t. cc, λ e. cc)
parent_eq (Some n) (Some m) =
    let same = Decides-eqb n.0 m.0 in
    (λ t. ap (λ k. Some (record { 0 = k })) (same.0 t), λ e. same.1 (ap (λ o. (unwrap_or o n).0) e))

pub cell_eq : (a b : Cell) → Decides (cell.ghosts.eq a b) (a ≡ b)
cell_eq a b =
    let rest : Decides (option_eq number.ghosts.eq a.parent b.parent && content.ghosts.eq a.content b.content) ((a.parent ≡ b.parent) × (a.content ≡ b.content)) =
    both_decide _ _ (parent_eq a.parent b.parent) (content_eq a.content b.content) (λ e f. (e, f)) (λ p. p.0) (λ p. p.1) in
    let second : a ≡ b → (a.parent ≡ b.parent) × (a.content ≡ b.content) = λ e. (ap (λ (c : Cell). c.parent) e, ap (λ (c : Cell). c.content) e) in
    both_decide _ _ (Decides-eqb a.kind b.kind) rest (λ e p i. record { kind = e i; parent = p.0 i; content = p.1 i }) (ap (λ c. c.kind)) second

pub entries_eq : (xs ys : List (ℕ × Cell)) (r : Bool) → r ≡ pointwise (λ p q. (p.0 == q.0) && cell.ghosts.eq p.1 q.1) xs ys → Decides r (xs ≡ ys)
entries_eq xs ys r = slice_eq-Decides (λ p q. both_decide _ _ (Decides-eqb p.0 q.0) (cell_eq p.1 q.1) (λ e f i. (e i, f i)) (ap (λ e. e.0)) (ap (λ e. e.1))) xs ys r

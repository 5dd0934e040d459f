-- What is told of several left cells, one after the other.
use Rattle.std.proofs.Common.{arith, ◌≡◌, ◌||◌, ◌+◌, ◌<◌, suc, ℕ, Bool, true, false, List, [], ◌∷◌, ◌++◌, length, refl, sym, ap, subst, ◌∙◌}
use Rattle.std.specs.Prelude.{Option, Some, None}
use Rattle.std.specs.List.{list_any}
use Rattle.k_terms.specs.declared.value.Value.{Value}
use Rattle.k_terms.specs.Sorts.{SortOrder}
use Rattle.rule_terms.specs.Eval.{eval, eval_all}
use Rattle.rule_terms.specs.Spots.{Spot, keys_in}
use Rattle.rule_terms.specs.Substitution.{Subst}
use Rattle.live_config.specs.declared.cell.Cell.{Cell}
use Rattle.live_config.specs.Configuration.{Configuration, cell_at}
use Rattle.leaf_match.specs.Bindings.{Partial, Tells, Reaches}
use Rattle.leaf_match.specs.Contents.{IsBodyAt, leaf_mentions}
use Rattle.leaf_match.proofs.Told.{told_alike, told_always, told_never, told_both}
use Rattle.rule_terms.proofs.Defined.{and_then_gives, map_gives, same_some}
use Rattle.rule_terms.specs.declared.pattern.Pattern.{Pattern}
use Rattle.std.specs.Option.{option_map}
use Rattle.std.proofs.lemmas.List.{length-append}
use Rattle.bag_map_match.specs.declared.spots.Spot.{Spot as Lent}
use Rattle.bag_map_match.specs.Lent.{listed}
use Rattle.bag_map_match.specs.Matching.{StandsFor, HoldsAt, AllHold}

values_length : (patterns : List Pattern) (s : Subst) (vs : List Value) → eval_all patterns s ≡ Some vs → length vs ≡ length patterns
values_length [] s vs e = ap length (sym (same_some [] vs e))
values_length (p ∷ patterns) s vs e =
    let first = and_then_gives (λ v. option_map (λ ws. v ∷ ws) (eval_all patterns s)) (eval p s) vs e in
    let rest = map_gives (λ ws. first.0 ∷ ws) (eval_all patterns s) vs first.2 in
    ap length (sym rest.2) ∙ ap suc (values_length patterns s rest.0 rest.1)

-- a list has one front of a length
parted_once : (xs ys more others : List Value) → xs ++ more ≡ ys ++ others → length xs ≡ length ys → (xs ≡ ys) × (more ≡ others)
parted_once [] [] more others e same = (refl, e)
parted_once [] (y ∷ ys) more others e same = absurd (let no : 0 ≡ suc (length ys) = same in omega (arith, no))
parted_once (x ∷ xs) [] more others e same = absurd (let no : suc (length xs) ≡ 0 = same in omega (arith, no))
parted_once (x ∷ xs) (y ∷ ys) more others e same =
    let heads = head_is x y (xs ++ more) (ys ++ others) e in
    let rest = parted_once xs ys more others heads.1 (let f : suc (length xs) ≡ suc (length ys) = same in omega (arith, f)) in
    ((λ i. heads.0 i ∷ rest.0 i), rest.1)
  where
    head_is : (v w : Value) (vs ws : List Value) → v ∷ vs ≡ w ∷ ws → (v ≡ w) × (vs ≡ ws)
    head_is v w vs ws f = let first : v ≡ w = cc in let last : vs ≡ ws = cc in (first, last)

module _ (o : SortOrder) (vars : List ℕ) (c : Configuration) (ps : List Spot) (ns : List ℕ) where
  -- a left cell at the cell that stands for it
  pub told_cell : (found : Bool) (before after : Partial) (p : Spot) (n : ℕ) (keys : List Value) (cell : Cell) → StandsFor c ps ns p n cell
      → Tells o vars found before after (IsBodyAt p.body cell.content keys) → Tells o vars found before after (HoldsAt c ps ns p n keys)
  told_cell found before after p n keys cell stands tells =
      told_alike o vars found before after (IsBodyAt p.body cell.content keys) (HoldsAt c ps ns p n keys)
      (λ s. ((λ body. (cell, stands, body)), (λ h. subst (λ (x : Cell). IsBodyAt p.body x.content keys s) (same_cell h.0 h.1.there) h.2)))
      tells
    where
      same_cell : (one : Cell) → cell_at c n ≡ Some one → one ≡ cell
      same_cell one there = let e : Some one ≡ Some cell = sym there ∙ stands.there in cc

  -- the keys of a cell are as many as its body has entries
  pub own_keys : (p : Spot) (n : ℕ) (keys : List Value) (s : Subst) → HoldsAt c ps ns p n keys s → length keys ≡ length (keys_in p.body)
  own_keys p n keys s h = values_length (keys_in p.body) s keys h.2.1

  -- no left cell is left
  pub told_none : (before : Partial) (keys : List Value) (qs : List Spot) (ms : List ℕ) → qs ≡ [] → ms ≡ [] → keys ≡ [] → Tells o vars true before before (AllHold c ps ns qs ms keys)
  told_none before keys qs ms no_cell no_number none =
      told_always o vars before (AllHold c ps ns qs ms keys)
      (λ s. subst (λ xs. AllHold c ps ns xs ms keys s) (sym no_cell) (subst (λ xs. AllHold c ps ns [] xs keys s) (sym no_number) none))

  -- a left cell, and those behind it
  module _ (p : Spot) (qs : List Spot) (n : ℕ) (ms : List ℕ) (keys own others : List Value) (parted : keys ≡ own ++ others) (fits : length own ≡ length (keys_in p.body)) where
    cons_is : (s : Subst) → (HoldsAt c ps ns p n own s × AllHold c ps ns qs ms others s → AllHold c ps ns (p ∷ qs) (n ∷ ms) keys s)
        × (AllHold c ps ns (p ∷ qs) (n ∷ ms) keys s → HoldsAt c ps ns p n own s × AllHold c ps ns qs ms others s)
    cons_is s = (
      (λ both. (own, others, parted, both.0, both.1)),
      (λ h. let same = parted_once own h.0 others h.1 (sym parted ∙ h.2) (fits ∙ sym (own_keys p n h.0 s h.3)) in
          (subst (λ ks. HoldsAt c ps ns p n ks s) (sym same.0) h.3, subst (λ ks. AllHold c ps ns qs ms ks s) (sym same.1) h.4)),
    )

    pub told_cons : (found : Bool) (before between after : Partial) → Tells o vars true before between (HoldsAt c ps ns p n own)
        → Tells o vars found between after (AllHold c ps ns qs ms others) → Tells o vars found before after (AllHold c ps ns (p ∷ qs) (n ∷ ms) keys)
    told_cons found before between after first rest =
        told_alike o vars found before after (λ s. HoldsAt c ps ns p n own s × AllHold c ps ns qs ms others s) (AllHold c ps ns (p ∷ qs) (n ∷ ms) keys) cons_is
        (told_both o vars found before between after (HoldsAt c ps ns p n own) (AllHold c ps ns qs ms others) first rest)

    pub told_no_cons : (before after later : Partial) → Tells o vars false before after (HoldsAt c ps ns p n own) → Tells o vars false before later (AllHold c ps ns (p ∷ qs) (n ∷ ms) keys)
    told_no_cons before after later first = λ s sorts agrees holds. first s sorts agrees ((cons_is s).1 holds).0

  -- the keys don't reach for a left cell
  pub told_few_keys : (before after : Partial) (p : Spot) (qs : List Spot) (n : ℕ) (ms : List ℕ) (keys : List Value) → length keys < length (keys_in p.body)
      → Tells o vars false before after (AllHold c ps ns (p ∷ qs) (n ∷ ms) keys)
  told_few_keys before after p qs n ms keys few =
      told_never o vars before after (AllHold c ps ns (p ∷ qs) (n ∷ ms) keys)
      (λ s h. let all : length keys ≡ length h.0 + length h.1 = ap length h.2 ∙ length-append h.0 h.1 in let own : length h.0 ≡ length (keys_in p.body) = own_keys p n h.0 s h.3 in
      omega (arith, few, all, own))

  -- no cell stands for a left cell
  pub told_no_cell : (before after : Partial) (p : Spot) (qs : List Spot) (n : ℕ) (ms : List ℕ) (keys : List Value) → ((cell : Cell) → StandsFor c ps ns p n cell → ⊥)
      → Tells o vars false before after (AllHold c ps ns (p ∷ qs) (n ∷ ms) keys)
  told_no_cell before after p qs n ms keys none = told_never o vars before after (AllHold c ps ns (p ∷ qs) (n ∷ ms) keys) (λ s h. none h.3.0 h.3.1)

  -- the same of lists that are equal
  pub told_moved : (found : Bool) (before after : Partial) (keys : List Value) (xs ys : List Lent) (ms others : List ℕ) → xs ≡ ys → ms ≡ others
      → Tells o vars found before after (AllHold c ps ns (listed ys) others keys) → Tells o vars found before after (AllHold c ps ns (listed xs) ms keys)
  told_moved found before after keys xs ys ms others same are tells =
      subst (λ us. Tells o vars found before after (AllHold c ps ns (listed us) ms keys)) (sym same)
      (subst (λ us. Tells o vars found before after (AllHold c ps ns (listed ys) us keys)) (sym are) tells)

-- Cells that pair off: an item put into both lists, one taken out of both, and two lists of pairs joined.
use Rattle.std.proofs.Common.{◌≡◌, List, [], ◌∷◌, ◌++◌, refl, sym, ap, subst, ◌∙◌}
use Rattle.std.proofs.lemmas.List.{append_assoc}
use Rattle.rule_terms.specs.declared.plain.Plain.{Plain}
use Rattle.rule_terms.specs.Rewriting.{Alike}
use Rattle.live_config.specs.Steps.{PairOff}

-- two parts of one list, with an item in between in each way of parting it
pub record IsBetween {X : Type 0} (xs : List X) (other x : X) (rest : List X) : Type 0 where
  pub before : List X
  pub after : List X
  pub front : List X
  pub back : List X
  pub is : xs ≡ before ++ x ∷ after
  pub others : before ++ after ≡ front ++ other ∷ back
  pub rest_is : front ++ back ≡ rest

-- an item of a list stands in the list with another item as well
pub between : {X : Type 0} (left right : List X) (other : X) (before : List X) (x : X) (after : List X) → left ++ right ≡ before ++ x ∷ after
    → IsBetween (left ++ other ∷ right) other x (before ++ after)
between [] right other before x after e =
    record { before = other ∷ before; after = after; front = []; back = before ++ after; is = ap (λ ys. other ∷ ys) e; others = refl; rest_is = refl }
between (y ∷ left) right other [] x after e =
    let g : y ∷ (left ++ right) ≡ x ∷ after = e in
    let same : y ≡ x = cc in
    let rest : left ++ right ≡ after = cc in
    record {
      before = [];
      after = left ++ other ∷ right;
      front = left;
      back = right;
      is = ap (λ z. z ∷ (left ++ other ∷ right)) same;
      others = refl;
      rest_is = rest;
    }
between (y ∷ left) right other (z ∷ before) x after e =
    let g : y ∷ (left ++ right) ≡ z ∷ (before ++ x ∷ after) = e in
    let same : y ≡ z = cc in
    let rest : left ++ right ≡ before ++ x ∷ after = cc in
    let b = between left right other before x after rest in
    record {
      before = y ∷ b.before;
      after = b.after;
      front = y ∷ b.front;
      back = b.back;
      is = ap (λ ys. y ∷ ys) b.is;
      others = ap (λ ys. y ∷ ys) b.others;
      rest_is = λ i. same i ∷ b.rest_is i;
    }

-- an item put into both lists
pub put_in : (before : List Plain) (u : Plain) (after : List Plain) (t : Plain) (ts : List Plain) → Alike u t → PairOff (before ++ after) ts
    → PairOff (before ++ u ∷ after) (t ∷ ts)
put_in [] u after t ts like pairs = ([], t, ts, refl, like, pairs)
put_in (x ∷ before) u after t ts like (front, y, back, is, same, pairs) =
    (t ∷ front, y, back, ap (λ ys. t ∷ ys) is, same, put_in before u after t (front ++ back) like pairs)

-- what an item of the first list pairs off with
pub record IsPaired (u : Plain) (others us : List Plain) : Type 0 where
  pub before : List Plain
  pub item : Plain
  pub after : List Plain
  pub is : us ≡ before ++ item ∷ after
  pub like : Alike u item
  pub pairs : PairOff others (before ++ after)

-- an item taken out of both lists
pub take_out : (before : List Plain) (u : Plain) (after us : List Plain) → PairOff (before ++ u ∷ after) us → IsPaired u (before ++ after) us
take_out [] u after us (front, y, back, is, same, pairs) = record { before = front; item = y; after = back; is = is; like = same; pairs = pairs }
take_out (x ∷ before) u after us (front, y, back, is, same, pairs) =
    let rest = take_out before u after (front ++ back) pairs in
    let b = between front back y rest.before rest.item rest.after rest.is in
    record {
      before = b.before;
      item = rest.item;
      after = b.after;
      is = is ∙ b.is;
      like = rest.like;
      pairs = (b.front, y, b.back, b.others, same, subst (PairOff (before ++ after)) (sym b.rest_is) rest.pairs);
    }

-- lists that pair off, joined
pub join_pairs : (ts us vs ws : List Plain) → PairOff ts us → PairOff vs ws → PairOff (ts ++ vs) (us ++ ws)
join_pairs [] us vs ws pairs others = subst (λ xs. PairOff vs (xs ++ ws)) (sym pairs) others
join_pairs (t ∷ ts) us vs ws (front, y, back, is, same, pairs) others = (
  front,
  y,
  back ++ ws,
  ap (λ xs. xs ++ ws) is ∙ append_assoc front (y ∷ back) ws,
  same,
  subst (PairOff (ts ++ vs)) (append_assoc front back ws) (join_pairs ts (front ++ back) vs ws pairs others),
)

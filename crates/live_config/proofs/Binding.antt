-- A rule that binds in a configuration that fits: its left side stands there, so it is filled to the plain configuration.
use Rattle.std.proofs.Common.{inl, inr, ◌≡◌, ℕ, suc, zero, true, false, not, ◌==◌, ◌-◌, List, [], ◌∷◌, map, filter, Option, Some, None, cond, Contains, refl, sym, ap, subst, ◌∙◌}
use Rattle.std.specs.Prelude.{slice_get}
use Rattle.std.proofs.lemmas.Bool.{eq-eqb}
use Rattle.std.specs.Option.{option_and_then}
use Rattle.k_terms.specs.declared.value.Content.{Content}
use Rattle.rule_terms.specs.declared.plain.Plain.{Plain}
use Rattle.rule_terms.specs.declared.rule.Rule.{Rule}
use Rattle.rule_terms.specs.Fill.{content_of}
use Rattle.rule_terms.specs.declared.defs.CellShape.{CellShape}
use Rattle.rule_terms.specs.declared.defs.Kind.{Kind}
use Rattle.rule_terms.specs.declared.defs.Kind.TheVariants.{Cells as CellsKind, Seq as SeqKind, Map as MapKind, List as ListKind, One as OneKind}
use Rattle.rule_terms.specs.declared.pattern.Body.{Body, Cells', Seq, Map, List as Listed, One, Made}
use Rattle.rule_terms.specs.Language.{Language, rule_at}
use Rattle.rule_terms.specs.Substitution.{Subst, cells_of}
use Rattle.rule_terms.specs.Rewriting.{IsFilled}
use Rattle.rule_terms.specs.Numbers.{has_number}
use Rattle.rule_terms.specs.Sound.{IsSound, IsSoundRule, IsPlaced, cells_rest, is_body_of, has_cells}
use Rattle.rule_terms.specs.Spots.{Spot, spots, child_marks, number_of}
use Rattle.live_config.specs.declared.cell.Cell.{Cell}
use Rattle.live_config.specs.declared.site.Site.{Site}
use Rattle.live_config.specs.Configuration.{Configuration, cell_at, below, level_limit, tree, plain, root_of}
use Rattle.rule_terms.specs.Kinds.{IsOfKind}
use Rattle.live_config.specs.Fits.{Fits}
use Rattle.live_config.specs.Firing.{Binds, IsMatched, AreMatched, HasFurther, further}
use Rattle.live_config.proofs.Members.{Has, has-contains, has_map, Apart, different-apart, rises-apart, Leaves, leaves_others}
use Rattle.live_config.proofs.Children.{IsChild, child_below, below_child, below_rises}
use Rattle.live_config.proofs.Levels.{IsTidy, parent_of}
use Rattle.live_config.proofs.SpotTree.{marks, outermost, spot_children, children_apart}
use Rattle.live_config.proofs.Standing.{numbered, StandsAt, Stands, side_filled, root_is, plain_is}
use Rattle.live_config.proofs.Numbering.{numbers_of-is, numbered_has, numbered_apart, Once, number_cases, number_later, number_once}

-- a rule that binds at a site of a configuration that fits a sound definition
pub record Binding : Type 0 where
  pub d : Language
  pub c : Configuration
  pub site : Site
  pub r : Rule
  pub s : Subst
  pub sound : IsSound d
  pub fits : Fits d c
  pub binds : Binds d c site r s

-- ---- the cells that are matched

module _ (c : Configuration) (ps : List Spot) (ns : List ℕ) (s : Subst) where
  -- the number beside a cell, at which it is matched
  record MatchedAt (qs : List Spot) (ms : List ℕ) (p : Spot) : Type 0 where
    number : ℕ
    is : number_of qs ms p.mark ≡ Some number
    matched : IsMatched c ps ns s p number

  matched_at : (qs : List Spot) (ms : List ℕ) → AreMatched c ps ns s qs ms → Apart (marks qs) → (p : Spot) → Has qs p → MatchedAt qs ms p
  matched_at [] ms are apart p h = absurd h
  matched_at (q ∷ qs) [] are apart p h = absurd are
  matched_at (q ∷ qs) (m ∷ ms) are apart p (inl e) =
      subst (MatchedAt (q ∷ qs) (m ∷ ms)) e (record { number = m; is = number_first q qs m ms; matched = are.0 })
    where
      number_first : (q : Spot) (qs : List Spot) (m : ℕ) (ms : List ℕ) → number_of (q ∷ qs) (m ∷ ms) q.mark ≡ Some m
      number_first q qs m ms = rw (eq-eqb q.mark q.mark refl) refl
  matched_at (q ∷ qs) (m ∷ ms) are apart p (inr h) =
      let rest = matched_at qs ms are.1 apart.1 p h in
      record {
        number = rest.number;
        is = number_later q qs m ms p.mark (λ e. apart.0 (subst (Has (marks qs)) (sym e) (has_map (λ (x : Spot). x.mark) qs p h))) ∙ rest.is;
        matched = rest.matched;
      }

  -- the cell with a mark that has a number, which is matched there
  record MatchedBy (qs : List Spot) (mark n : ℕ) : Type 0 where
    spot : Spot
    there : Has qs spot
    mark_is : spot.mark ≡ mark
    matched : IsMatched c ps ns s spot n

  matched_by : (qs : List Spot) (ms : List ℕ) → AreMatched c ps ns s qs ms → (mark n : ℕ) → number_of qs ms mark ≡ Some n → MatchedBy qs mark n
  matched_by [] ms are mark n e = absurd (let f : None ≡ Some n = e in cc)
  matched_by (q ∷ qs) [] are mark n e = absurd are
  matched_by (q ∷ qs) (m ∷ ms) are mark n e =
      elim (number_cases q qs m ms mark n e) [
        | inl s ↦ record { spot = q; there = inl refl; mark_is = s.0; matched = subst (IsMatched c ps ns _ q) s.1 are.0 }
        | inr f ↦ let rest = matched_by qs ms are.1 mark n f in record { spot = rest.spot; there = inr rest.there; mark_is = rest.mark_is; matched = rest.matched }
      ]

-- ---- a rule of a definition is one of its rules

rule_there : {X : Type 0} (xs : List X) (i : ℕ) (x : X) → slice_get xs i ≡ Some x → Has xs x
rule_there [] i x e = absurd (let f : None ≡ Some x = e in cc)
rule_there (y ∷ ys) zero x e = inl (let f : Some y ≡ Some x = e in cc)
rule_there (y ∷ ys) (suc i) x e = inr (rule_there ys i x e)

pub rule_contained : (d : Language) (number : ℕ) (r : Rule) → rule_at d number ≡ Some r → Contains d.rules r
rule_contained d number r e =
    elim (number == 0) as (λ b. cond b None (slice_get d.rules (number - 1)) ≡ Some r → Contains d.rules r) [
      | true ↦ λ f. absurd (let g : None ≡ Some r = f in cc)
      | false ↦ λ f. has-contains d.rules r (rule_there d.rules (number - 1) r f)
    ] e

-- ---- a body that is not of cells

abbrev pub IsCells : Body → Type 0
IsCells (Cells' _ _ _) = Unit {0}
IsCells _ = ⊥

-- where a cell contains cells, its body is one of cells
pub of_cells : (k : Kind) (body : Body) → is_body_of k body ≡ true → has_cells k ≡ true → IsCells body
of_cells CellsKind (Cells' _ _ _) e h = tt
of_cells CellsKind (Seq _ _) e h = absurd (let f : false ≡ true = e in cc)
of_cells CellsKind (Map _ _) e h = absurd (let f : false ≡ true = e in cc)
of_cells CellsKind (Listed _ _ _) e h = absurd (let f : false ≡ true = e in cc)
of_cells CellsKind (One _) e h = absurd (let f : false ≡ true = e in cc)
of_cells CellsKind (Made _) e h = absurd (let f : false ≡ true = e in cc)
of_cells SeqKind body e h = absurd (let f : false ≡ true = h in cc)
of_cells MapKind body e h = absurd (let f : false ≡ true = h in cc)
of_cells ListKind body e h = absurd (let f : false ≡ true = h in cc)
of_cells (OneKind _) body e h = absurd (let f : false ≡ true = h in cc)

pub no_members : (ns : List ℕ) → ((n : ℕ) → Has ns n → ⊥) → ns ≡ []
no_members [] none = refl
no_members (n ∷ ns) none = absurd (none n (inl refl))

-- a cell where a spot of a side stands has children only where its body is of cells
pub leaf_childless : (d : Language) (c : Configuration) → IsTidy d c → (vars : List ℕ) (ps : List Spot) (p : Spot) → IsPlaced d vars ps p → (n : ℕ) (m : ℕ) (child : IsChild c n m) → ((cell : Cell) → cell_at c n ≡ Some cell → cell.kind ≡ p.cell) → IsCells p.body
leaf_childless d c tidy vars ps p placed n m child kind =
    let up = parent_of d c tidy m child.cell n child.there child.parent in
    let is : up.above.kind ≡ p.cell = kind up.above up.there in
    let same : up.shape ≡ placed.shape = let e : Some up.shape ≡ Some placed.shape = sym up.declared ∙ ap (slice_get d.cells) is ∙ placed.declared in cc in
    of_cells placed.shape.kind p.body placed.kind (subst (λ (x : CellShape). has_cells x.kind ≡ true) same up.cells)

-- the rest of cells of a body stands for the further children; where the body is not of cells there are none
rest_further : (c : Configuration) (ps : List Spot) (ns : List ℕ) (s : Subst) (body : Body) (n : ℕ) → HasFurther c ps ns s body n → ((IsCells body → ⊥) → below c n ≡ []) → cells_of (cells_rest body) s ≡ Some (map (tree level_limit c) (further c ps ns body n))
rest_further c ps ns s (Cells' shape children rest) n others childless = others
rest_further c ps ns s (Seq parts rest) n others childless = ap (λ ks. Some (map (tree level_limit c) (filter (λ m. not (has_number [] m)) ks))) (sym (childless (λ h. h)))
rest_further c ps ns s (Map entries rest) n others childless = ap (λ ks. Some (map (tree level_limit c) (filter (λ m. not (has_number [] m)) ks))) (sym (childless (λ h. h)))
rest_further c ps ns s (Listed before rest after) n others childless = ap (λ ks. Some (map (tree level_limit c) (filter (λ m. not (has_number [] m)) ks))) (sym (childless (λ h. h)))
rest_further c ps ns s (One p) n others childless = ap (λ ks. Some (map (tree level_limit c) (filter (λ m. not (has_number [] m)) ks))) (sym (childless (λ h. h)))
rest_further c ps ns s (Made p) n others childless = ap (λ ks. Some (map (tree level_limit c) (filter (λ m. not (has_number [] m)) ks))) (sym (childless (λ h. h)))

-- ---- the left side

module _ (b : Binding) where
  pub tidy : IsTidy b.d b.c
  tidy = record { sound = b.sound; rising = b.fits.rising; lawful = b.fits.lawful }

  pub sound_rule : IsSoundRule b.d b.r
  sound_rule = b.sound.rules b.r (rule_contained b.d b.site.rule b.r b.binds.rule)

  abbrev pub left : List Spot
  left = spots b.r.left

  abbrev pub left_number : ℕ → Option ℕ
  left_number = number_of (spots b.r.left) b.site.cells

  pub left_apart : Apart (marks left)
  left_apart = different-apart (marks left) sound_rule.cells.left_marks

  pub left_once : Once left_number
  left_once = number_once left b.site.cells (different-apart b.site.cells b.binds.different)

  -- a left cell is matched at its number
  pub record IsMatchedSpot (p : Spot) : Type 0 where
    pub number : ℕ
    pub is : left_number p.mark ≡ Some number
    pub matched : IsMatched b.c left b.site.cells b.s p number

  pub matched_spot : (p : Spot) → Has left p → IsMatchedSpot p
  matched_spot p h =
      let m = matched_at b.c left b.site.cells b.s left b.site.cells b.binds.matched left_apart p h in
      record { number = m.number; is = m.is; matched = m.matched }

  -- a number of a mark is that at which its left cell is matched
  pub record IsMatchedNumber (mark n : ℕ) : Type 0 where
    pub spot : Spot
    pub there : Has left spot
    pub mark_is : spot.mark ≡ mark
    pub matched : IsMatched b.c left b.site.cells b.s spot n

  pub matched_number : (mark n : ℕ) → left_number mark ≡ Some n → IsMatchedNumber mark n
  matched_number mark n e =
      let m = matched_by b.c left b.site.cells b.s left b.site.cells b.binds.matched mark n e in
      record { spot = m.spot; there = m.there; mark_is = m.mark_is; matched = m.matched }

  -- a left cell that stands in another is its child
  pub left_child : (p : Spot) → Has left p → (n : ℕ) → left_number p.mark ≡ Some n → (mark m : ℕ) → Has (child_marks p.body) mark → left_number mark ≡ Some m → IsChild b.c n m
  left_child p h n e mark m child f =
      let u = spot_children b.r.left p h mark child in
      let q = matched_spot u.inner u.there in
      let same : q.number ≡ m = let g : Some q.number ≡ Some m = sym q.is ∙ ap left_number u.mark_is ∙ f in cc in
      subst (IsChild b.c n) same (record { cell = q.matched.cell; there = q.matched.there; parent = q.matched.parent ∙ ap (option_and_then left_number) u.above_is ∙ e })

  left_placed : (p : Spot) → Has left p → IsPlaced b.d b.r.vars left p
  left_placed p h = sound_rule.cells.left_placed p (has-contains left p h)

  childless : (p : Spot) → Has left p → (n : ℕ) → IsMatched b.c left b.site.cells b.s p n → (IsCells p.body → ⊥) → below b.c n ≡ []
  childless p h n matched leaf =
      no_members (below b.c n) (λ m g. leaf (leaf_childless b.d b.c tidy b.r.vars left p (left_placed p h) n m (below_child b.c b.fits.rising n m g)
      (λ cell there. let same : matched.cell ≡ cell = let e : Some matched.cell ≡ Some cell = sym matched.there ∙ there in cc in ap (λ (x : Cell). x.kind) (sym same) ∙ matched.kind)))

  -- the children of a left cell are those of its body and the further ones
  left_children : (p : Spot) → Has left p → (n : ℕ) → left_number p.mark ≡ Some n → Leaves (numbered left_number (child_marks p.body)) (below b.c n) (further b.c left b.site.cells p.body n)
  left_children p h n e =
      let ms = numbered left_number (child_marks p.body) in
      subst (λ ks. Leaves ms (below b.c n) (filter (λ m. not (has_number ks m)) (below b.c n))) (sym (numbers_of-is left b.site.cells (child_marks p.body)))
      (leaves_others ms (below b.c n) (numbered_apart left_number left_once (child_marks p.body) (children_apart b.r.left left_apart p h))
      (rises-apart (below b.c n) (below_rises b.c b.fits.rising n))
      (λ m g. let k = numbered_has left_number (child_marks p.body) m g in child_below b.c n m (left_child p h n e k.0 m k.1 k.2)))

  -- the rest of cells of a left cell stands for the further children
  pub left_rest : (p : Spot) → Has left p → (n : ℕ) → IsMatched b.c left b.site.cells b.s p n → cells_of (cells_rest p.body) b.s ≡ Some (map (tree level_limit b.c) (further b.c left b.site.cells p.body n))
  left_rest p h n matched = rest_further b.c left b.site.cells b.s p.body n matched.others (childless p h n matched)

  -- a left content is of its declared cell's kind, and a rest of cells stands for cells
  pub record IsLeftContent (p : Spot) : Type 0 where
    pub shape : CellShape
    pub declared : slice_get b.d.cells p.cell ≡ Some shape
    pub content : Content
    pub is : content_of p.body b.s ≡ Some content
    pub of_kind : IsOfKind b.d.sorts shape.kind content
    pub rest : List Plain
    pub further : cells_of (cells_rest p.body) b.s ≡ Some rest

  pub left_content : (p : Spot) → Has left p → IsLeftContent p
  left_content p h =
      let m = matched_spot p h in
      let law = b.fits.lawful m.number m.matched.cell m.matched.there in
      record {
        shape = law.shape;
        declared = ap (slice_get b.d.cells) (sym m.matched.kind) ∙ law.declared;
        content = m.matched.cell.content;
        is = m.matched.content;
        of_kind = law.content;
        rest = map (tree level_limit b.c) (further b.c left b.site.cells p.body m.number);
        further = left_rest p h m.number m.matched;
      }

  left_stands_at : (p : Spot) → Has left p → (n : ℕ) → left_number p.mark ≡ Some n → IsMatched b.c left b.site.cells b.s p n → StandsAt b.c left_number b.s p n
  left_stands_at p h n e matched = record {
    cell = matched.cell;
    there = matched.there;
    kind = matched.kind;
    content = matched.content;
    others = further b.c left b.site.cells p.body n;
    children = left_children p h n e;
    rest = left_rest p h n matched;
  }

  pub left_stands : (p : Spot) → Has left p → Stands b.c left_number b.s p
  left_stands p h = let m = matched_spot p h in (m.number, m.is, left_stands_at p h m.number m.is m.matched)

  -- the outermost left cell is at the root
  pub left_root : left_number b.r.left.mark ≡ Some b.fits.root
  left_root =
      let m = matched_spot (outermost b.r.left) (inl refl) in
      m.is ∙ ap Some (b.fits.one_root m.number m.matched.cell m.matched.there m.matched.parent)

  pub root_there : root_of b.c ≡ Some b.fits.root
  root_there = root_is b.d b.c tidy b.fits.root b.fits.root_cell b.fits.root_there b.fits.root_on_top b.fits.one_root

  -- the left side is the plain configuration under the substitution
  pub left_filled : IsFilled b.r.left b.s (plain b.c)
  left_filled =
      subst (IsFilled b.r.left b.s) (sym (plain_is b.c b.fits.root root_there))
      (side_filled b.d b.c tidy left_number b.s b.r.left left_stands b.fits.root left_root)

-- What is left to be read of a thing, from a place on.
use Rattle.std.proofs.Common.{◌≡◌, ℕ, ◌≤◌, List, [], ◌++◌, length, drop, refl, sym, ap, ◌∙◌, subst, arith, append_assoc}
use Rattle.production_reader.specs.Lexemes.{Lexeme, Sign, Reads, AreAlike}
use Rattle.production_reader.specs.Reading.{IsRead, StopsAt}
use Rattle.production_reader.proofs.Lexemes.{reads_join, reads_split, alike_less}

-- such a thing of the other kind is left, which is the whole `make z`
pub record Rest {X Z : Type 0} (B : Z → Type 0) (g : Z → List Sign) (make : Z → X) (at : List Lexeme) (y : X) (after : List Lexeme) : Type 0 where
  pub left : Z
  pub is : make left ≡ y
  pub allowed : B left
  pub reads : Reads (g left) at after

-- From one place a thing was begun up to another place. What is left of it is of another kind, and in each list that is
-- alike up to what was seen, each whole thing has such a thing left.
pub record Leads {X Z : Type 0} (A : X → Type 0) (f : X → List Sign) (B : Z → Type 0) (g : Z → List Sign) (make : Z → X) (Ends : List Lexeme → Type 0) (all : List Lexeme) (from at seen : ℕ) : Type 0 where
  pub order : from ≤ at
  pub within : at ≤ length all
  pub done : List Sign
  pub reads : Reads done (drop from all) (drop at all)
  pub allow : (z : Z) → B z → A (make z)
  pub same : (z : Z) → B z → f (make z) ≡ done ++ g z
  pub only : (other : List Lexeme) (y : X) (after : List Lexeme) → AreAlike seen other all → A y → Reads (f y) (drop from other) after → Ends after
      → Rest B g make (drop at other) y after

-- nothing is begun
pub leads_all : {X : Type 0} (A : X → Type 0) (f : X → List Sign) (Ends : List Lexeme → Type 0) (all : List Lexeme) (from : ℕ) → from ≤ length all
    → Leads A f A f (λ x. x) Ends all from from from
leads_all A f Ends all from within = record {
  order = omega arith;
  within = within;
  done = [];
  reads = refl;
  allow = λ z allowed. allowed;
  same = λ z allowed. refl;
  only = λ other y after alike allowed reads ends. record { left = y; is = refl; allowed = allowed; reads = reads };
}

module _ {X Z : Type 0} (A : X → Type 0) (f : X → List Sign) (B : Z → Type 0) (g : Z → List Sign) (make : Z → X) (Ends : List Lexeme → Type 0)
    (all : List Lexeme) (from at seen : ℕ) (leads : Leads A f B g make Ends all from at seen) where
  -- what is left is there
  pub leads_read : (z : Z) (to : ℕ) → seen ≤ to → IsRead B g Ends all at z to → IsRead A f Ends all from (make z) to
  leads_read z to before read = record {
    order = let a : from ≤ at = leads.order in let b : at ≤ to = read.order in omega arith;
    within = read.within;
    allowed = leads.allow z read.allowed;
    reads = subst (λ s. Reads s (drop from all) (drop to all)) (sym (leads.same z read.allowed)) (reads_join leads.done (g z) (drop from all) (drop at all) (drop to all) leads.reads read.reads);
    only = λ other y after alike allowed reads ends.
        let rest = leads.only other y after (alike_less seen to other all before alike) allowed reads ends in
        let one = read.only other rest.left after alike rest.allowed rest.reads ends in
        (sym rest.is ∙ ap make one.0, one.1);
  }

  -- what is left is not there
  pub leads_stops : (to : ℕ) → seen ≤ to → StopsAt B g Ends all at to → StopsAt A f Ends all from to
  leads_stops to before stop = record {
    order = let a : from ≤ at = leads.order in let b : at ≤ to = stop.order in omega arith;
    within = stop.within;
    none = λ other y after alike allowed reads ends.
        let rest = leads.only other y after (alike_less seen to other all before alike) allowed reads ends in
        stop.none other rest.left after alike rest.allowed rest.reads ends;
    begun = make stop.begun;
    allowed = leads.allow stop.begun stop.allowed;
    done = leads.done ++ stop.done;
    left = stop.left;
    parts = leads.same stop.begun stop.allowed ∙ ap (λ t. leads.done ++ t) stop.parts ∙ sym (append_assoc leads.done stop.done stop.left);
    reads = reads_join leads.done stop.done (drop from all) (drop at all) (drop to all) leads.reads stop.reads;
  }

  -- by what stands at a place, what is left is of one kind
  pub leads_choose : {W : Type 0} (C : W → Type 0) (h : W → List Sign) (put : W → Z) (saw : ℕ) → seen ≤ saw
      → ((w : W) → C w → B (put w) × (g (put w) ≡ h w))
      → ((other : List Lexeme) (z : Z) (after : List Lexeme) → AreAlike saw other all → B z → Reads (g z) (drop at other) after → Ends after → Rest C h put (drop at other) z after)
      → Leads A f C h (λ w. make (put w)) Ends all from at saw
  leads_choose C h put saw later give take = record {
    order = leads.order;
    within = leads.within;
    done = leads.done;
    reads = leads.reads;
    allow = λ w allowed. leads.allow (put w) (give w allowed).0;
    same = λ w allowed. leads.same (put w) (give w allowed).0 ∙ ap (λ t. leads.done ++ t) (give w allowed).1;
    only = λ other y after alike allowed reads ends.
        let rest = leads.only other y after (alike_less seen saw other all later alike) allowed reads ends in
        let more = take other rest.left after alike rest.allowed rest.reads ends in
        record { left = more.left; is = ap make more.is ∙ rest.is; allowed = more.allowed; reads = more.reads };
  }

  -- nothing is left
  pub leads_done : (z : Z) → B z → g z ≡ [] → seen ≤ at
      → ((other : List Lexeme) (w : Z) (after : List Lexeme) → AreAlike at other all → B w → Reads (g w) (drop at other) after → Ends after → (w ≡ z) × (after ≡ drop at other))
      → IsRead A f Ends all from (make z) at
  leads_done z allowed empty before unique = leads_read z at before (record {
    order = omega arith;
    within = leads.within;
    allowed = allowed;
    reads = subst (λ s. Reads s (drop at all) (drop at all)) (sym empty) refl;
    only = unique;
  })

  -- what is left is not there at once
  pub leads_none : (z : Z) → B z → seen ≤ at
      → ((other : List Lexeme) (w : Z) (after : List Lexeme) → AreAlike at other all → B w → Reads (g w) (drop at other) after → Ends after → ⊥)
      → StopsAt A f Ends all from at
  leads_none z allowed before none = leads_stops at before (record {
    order = omega arith;
    within = leads.within;
    none = none;
    begun = z;
    allowed = allowed;
    done = [];
    left = g z;
    parts = refl;
    reads = refl;
  })

-- a first thing is there, and what is left is a second one
module _ {X Y W : Type 0} (A : X → Type 0) (f : X → List Sign) (C : Y → Type 0) (h : Y → List Sign) (D : Y → W → Type 0) (k : W → List Sign) (make : Y × W → X) (Mid Ends : List Lexeme → Type 0)
    (all : List Lexeme) (from at seen : ℕ) where
  pub leads_over : (y : Y) (mid : ℕ) → Leads A f (λ p. C p.0 × D p.0 p.1) (λ p. h p.0 ++ k p.1) make Ends all from at seen → seen ≤ mid → IsRead C h Mid all at y mid
      → ((z : Y) (w : W) (before after : List Lexeme) → D z w → Reads (k w) before after → Ends after → Mid before)
      → Leads A f (D y) k (λ w. make (y, w)) Ends all from mid mid
  leads_over y mid leads later read fits = record {
    order = let a : from ≤ at = leads.order in let b : at ≤ mid = read.order in omega arith;
    within = read.within;
    done = leads.done ++ h y;
    reads = reads_join leads.done (h y) (drop from all) (drop at all) (drop mid all) leads.reads read.reads;
    allow = λ w allowed. leads.allow (y, w) (read.allowed, allowed);
    same = λ w allowed. leads.same (y, w) (read.allowed, allowed) ∙ sym (append_assoc leads.done (h y) (k w));
    only = λ other x after alike allowed reads ends.
        let rest = leads.only other x after (alike_less seen mid other all later alike) allowed reads ends in
        let s = reads_split (h rest.left.0) (k rest.left.1) (drop at other) after rest.reads in
        let one = read.only other rest.left.0 s.middle alike rest.allowed.0 s.one (fits rest.left.0 rest.left.1 s.middle after rest.allowed.1 s.other ends) in
        record {
          left = rest.left.1;
          is = ap (λ v. make (v, rest.left.1)) (sym one.0) ∙ rest.is;
          allowed = subst (λ v. D v rest.left.1) one.0 rest.allowed.1;
          reads = subst (λ t. Reads (k rest.left.1) t after) one.1 s.other;
        };
  }

  -- the first thing is not there
  pub leads_stops_first : (to : ℕ) → Leads A f (λ p. C p.0 × D p.0 p.1) (λ p. h p.0 ++ k p.1) make Ends all from at seen → seen ≤ to → StopsAt C h Mid all at to
      → ((z : Y) → C z → (w : W) × D z w)
      → ((z : Y) (w : W) (before after : List Lexeme) → D z w → Reads (k w) before after → Ends after → Mid before)
      → StopsAt A f Ends all from to
  leads_stops_first to leads later stop default fits =
      leads_stops A f (λ p. C p.0 × D p.0 p.1) (λ p. h p.0 ++ k p.1) make Ends all from at seen leads to later (record {
        order = stop.order;
        within = stop.within;
        none = λ other p after alike allowed reads ends.
            let s = reads_split (h p.0) (k p.1) (drop at other) after reads in
            stop.none other p.0 s.middle alike allowed.0 s.one (fits p.0 p.1 s.middle after allowed.1 s.other ends);
        begun = (stop.begun, (default stop.begun stop.allowed).0);
        allowed = (stop.allowed, (default stop.begun stop.allowed).1);
        done = stop.done;
        left = stop.left ++ k (default stop.begun stop.allowed).0;
        parts = ap (λ t. t ++ k (default stop.begun stop.allowed).0) stop.parts ∙ append_assoc stop.done stop.left (k (default stop.begun stop.allowed).0);
        reads = stop.reads;
      })

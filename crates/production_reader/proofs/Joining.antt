-- Things that are read one after another.
use Rattle.std.proofs.Common.{◌≡◌, ℕ, ◌≤◌, List, ◌++◌, drop, sym, ap, ◌∙◌, subst, arith, append_assoc}
use Rattle.production_reader.specs.Lexemes.{Lexeme, Sign, Reads}
use Rattle.production_reader.specs.Reading.{IsRead, StopsAt}
use Rattle.production_reader.proofs.Lexemes.{reads_join, reads_split, alike_less}

-- A first thing and then a second one, of which what is allowed may hang on the first. What follows the first is what the
-- second begins with.
abbrev pub Both : {X Y : Type 0} → (X → Type 0) → (X → Y → Type 0) → X × Y → Type 0
Both A B p = A p.0 × B p.0 p.1

abbrev pub both_signs : {X Y : Type 0} → (X → List Sign) → (Y → List Sign) → X × Y → List Sign
both_signs f g p = f p.0 ++ g p.1

-- what the second thing begins with may follow the first
abbrev pub Fits : {X Y : Type 0} → (X → Y → Type 0) → (Y → List Sign) → (List Lexeme → Type 0) → (List Lexeme → Type 0) → Type 0
Fits {X} {Y} B g Mid Ends = (x : X) (y : Y) (before after : List Lexeme) → B x y → Reads (g y) before after → Ends after → Mid before

module _ {X Y : Type 0} (A : X → Type 0) (B : X → Y → Type 0) (f : X → List Sign) (g : Y → List Sign) (Mid Ends : List Lexeme → Type 0)
    (fits : Fits B g Mid Ends) (all : List Lexeme) (from : ℕ) where
  pub read_both : (x : X) (y : Y) (mid to : ℕ) → IsRead A f Mid all from x mid → IsRead (B x) g Ends all mid y to
      → IsRead (Both A B) (both_signs f g) Ends all from (x, y) to
  read_both x y mid to first second = record {
    order = let a : from ≤ mid = first.order in let b : mid ≤ to = second.order in omega arith;
    within = second.within;
    allowed = (first.allowed, second.allowed);
    reads = reads_join (f x) (g y) (drop from all) (drop mid all) (drop to all) first.reads second.reads;
    only = λ other p after alike allowed read ends.
        let s = reads_split (f p.0) (g p.1) (drop from other) after read in
        let one = first.only other p.0 s.middle (alike_less mid to other all second.order alike) allowed.0 s.one
        (fits p.0 p.1 s.middle after allowed.1 s.other ends) in
        let two = second.only other p.1 after alike (subst (λ x. B x p.1) one.0 allowed.1) (subst (λ t. Reads (g p.1) t after) one.1 s.other) ends in
        (λ i. (one.0 i, two.0 i), two.1);
  }

  -- the first thing is not there
  pub stops_first : (at : ℕ) → StopsAt A f Mid all from at → ((x : X) (allowed : A x) → (y : Y) × B x y)
      → StopsAt (Both A B) (both_signs f g) Ends all from at
  stops_first at stop default = record {
    order = stop.order;
    within = stop.within;
    none = λ other p after alike allowed read ends.
        let s = reads_split (f p.0) (g p.1) (drop from other) after read in
        stop.none other p.0 s.middle alike allowed.0 s.one (fits p.0 p.1 s.middle after allowed.1 s.other ends);
    begun = (stop.begun, (default stop.begun stop.allowed).0);
    allowed = (stop.allowed, (default stop.begun stop.allowed).1);
    done = stop.done;
    left = stop.left ++ g (default stop.begun stop.allowed).0;
    parts = ap (λ t. t ++ g (default stop.begun stop.allowed).0) stop.parts ∙ append_assoc stop.done stop.left (g (default stop.begun stop.allowed).0);
    reads = stop.reads;
  }

  -- the first thing is there, and the second is not
  pub stops_second : (x : X) (mid at : ℕ) → IsRead A f Mid all from x mid → StopsAt (B x) g Ends all mid at → StopsAt (Both A B) (both_signs f g) Ends all from at
  stops_second x mid at first stop = record {
    order = let a : from ≤ mid = first.order in let b : mid ≤ at = stop.order in omega arith;
    within = stop.within;
    none = λ other p after alike allowed read ends.
        let s = reads_split (f p.0) (g p.1) (drop from other) after read in
        let one = first.only other p.0 s.middle (alike_less mid at other all stop.order alike) allowed.0 s.one
        (fits p.0 p.1 s.middle after allowed.1 s.other ends) in
        stop.none other p.1 after alike (subst (λ x. B x p.1) one.0 allowed.1) (subst (λ t. Reads (g p.1) t after) one.1 s.other) ends;
    begun = (x, stop.begun);
    allowed = (first.allowed, stop.allowed);
    done = f x ++ stop.done;
    left = stop.left;
    parts = ap (λ t. f x ++ t) stop.parts ∙ sym (append_assoc (f x) stop.done stop.left);
    reads = reads_join (f x) stop.done (drop from all) (drop mid all) (drop at all) first.reads stop.reads;
  }

-- The same thing told otherwise: each one of the other kind is one of this, with the same signs.
module _ {X Z : Type 0} (A : X → Type 0) (C : Z → Type 0) (f : X → List Sign) (h : Z → List Sign) (Ends : List Lexeme → Type 0)
    (make : X → Z) (allow : (x : X) → A x → C (make x)) (back : Z → X) (made : (z : Z) → C z → (make (back z) ≡ z) × A (back z))
    (same : (x : X) → h (make x) ≡ f x) (all : List Lexeme) (from : ℕ) where
  back_signs : (z : Z) → C z → h z ≡ f (back z)
  back_signs z allowed = ap h (sym (made z allowed).0) ∙ same (back z)

  pub read_as : (x : X) (to : ℕ) → IsRead A f Ends all from x to → IsRead C h Ends all from (make x) to
  read_as x to read = record {
    order = read.order;
    within = read.within;
    allowed = allow x read.allowed;
    reads = subst (λ s. Reads s (drop from all) (drop to all)) (sym (same x)) read.reads;
    only = λ other z after alike allowed reads ends.
        let one = read.only other (back z) after alike (made z allowed).1 (subst (λ s. Reads s (drop from other) after) (back_signs z allowed) reads) ends in
        (sym (made z allowed).0 ∙ ap make one.0, one.1);
  }

  pub stops_as : (at : ℕ) → StopsAt A f Ends all from at → StopsAt C h Ends all from at
  stops_as at stop = record {
    order = stop.order;
    within = stop.within;
    none = λ other z after alike allowed reads ends.
        stop.none other (back z) after alike (made z allowed).1 (subst (λ s. Reads s (drop from other) after) (back_signs z allowed) reads) ends;
    begun = make stop.begun;
    allowed = allow stop.begun stop.allowed;
    done = stop.done;
    left = stop.left;
    parts = same stop.begun ∙ stop.parts;
    reads = stop.reads;
  }
